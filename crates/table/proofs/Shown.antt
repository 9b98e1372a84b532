-- What a call shows of the table, and how a proof goes on from it. Assumes nothing.
use mathlib.Core.Path.{◌≡◌, refl, subst}
use mathlib.Core.List.{List}
use Prim.Native.Nat.{ℕ}
use native.Mathlib.Omega.{arith}
use lib.IntN.{ℤ}
use Rattle.std.specs.Prelude.{Result, Err}
use Rattle.std.specs.Result.{IsErrAnd}
use Rattle.std.proofs.lemmas.Result.{err_from_is_err_and}
use Rattle.definition.specs.Answer.{Answer, got, refused, ◌>>=◌}
use Rattle.definition.specs.Table.{Table, State}
use Rattle.encoding.specs.declared.refusals.Refusal.{Refusal}
use Rattle.table.specs.Ends.{Ends}
use Rattle.table.specs.Held.{state, moved_to, Encodes, Long, Room, Held, Left}
use Rattle.table.specs.Reply.{Reply, ok, bad, Shown, Shows, done, stop, Runs, Changes}
use Rattle.table.specs.declared.Cursor.{Cursor}
use Rattle.table.proofs.Branch.{via, halt}
use Rattle.table.proofs.Regions.{words_long, wides-long, signeds-long}

-- slices that hold a table are as long as they must be, and the counts keep the limits
module _ {t : Table} {c : Cursor} {w d : List ℕ} {v : List ℤ} (e : Encodes t c w d v) where
  pub long : Long w d v
  long = record {
    words = rw e.words.are (words_long t e.words.fits e.words.rest e.words.long);
    wides = rw e.wides.are (wides-long t e.wides.fits);
    signeds = rw e.signeds.are (signeds-long t e.signeds.fits);
  }

  pub room : Room c
  room = record {
    rows = rw e.counts.rows e.words.fits.rows;
    members = rw e.counts.members e.words.fits.members;
    values = rw e.counts.values e.words.fits.values;
    parameters = rw e.counts.parameters e.words.fits.parameters;
    declarations = rw e.counts.declarations e.words.fits.declarations;
  }

  pub left : Left w d v
  left = record { cursor = c; table = t; encodes = e }

  pub held : Held c w d v
  held = record { table = t; encodes = e; long = long; room = room }

  -- the cursor at another token
  pub at_other : (i : ℕ) → Encodes t (moved_to c i) w d v
  at_other i = record {
    counts = record { rows = e.counts.rows; members = e.counts.members; values = e.counts.values; parameters = e.counts.parameters; declarations = e.counts.declarations };
    words = e.words;
    index = e.index;
    marks = e.marks;
    wides = e.wides;
    signeds = e.signeds;
  }

pub room_at : {c m : Cursor} {i : ℕ} → m ≡ moved_to c i → Room c → Room m
room_at e h = rw e (record { rows = h.rows; members = h.members; values = h.values; parameters = h.parameters; declarations = h.declarations })

pub held_at : {c m : Cursor} {i : ℕ} {w d : List ℕ} {v : List ℤ} → m ≡ moved_to c i → Held c w d v → Held m w d v
held_at {i = i} e h = rw e (held (at_other h.encodes i))

-- answers
module _ {X B : Type 0} {pack : X → State → B} {w d : List ℕ} {v : List ℤ} where
  pub got! : {t : Table} {c : Cursor} {i : X} → Encodes t c w d v → Shows pack (got (pack i (state c t))) (ok c i) w d v
  got! h = record { ends = done _ _ _ refl refl h }

  -- the cursor after a step in the tokens
  pub got-at : {c m : Cursor} {k : ℕ} {i : X} {t : Table} → m ≡ moved_to c k → Encodes t c w d v → Shows pack (got (pack i (state (moved_to c k) t))) (ok m i) w d v
  got-at {k = k} e h = rw e (got! (at_other h k))

  -- a refusal, by whatever table the slices hold then
  pub no! : {t : Table} {c : Cursor} {r : Reply X} {n p : ℕ} → Encodes t c w d v → r ≡ bad n p → Shows pack (refused n p) r w d v
  no! h q = record { ends = stop _ _ refl q (left h) }

  pub no_left : {r : Reply X} {n p : ℕ} → Left w d v → r ≡ bad n p → Shows pack (refused n p) r w d v
  no_left l q = record { ends = stop _ _ refl q l }

-- what a call that was done says
pub record Went {X B : Type 0} (pack : X → State → B) (a : Answer B) (c : Cursor) (i : X) (w d : List ℕ) (v : List ℤ) : Type 0 where
  pub table : Table
  pub says : a ≡ got (pack i (state c table))
  pub holds : Encodes table c w d v

module _ {X B : Type 0} {pack : X → State → B} {a : Answer B} {r : Reply X} {w d : List ℕ} {v : List ℤ} where
  went' : {c : Cursor} {i : X} → Shown pack a r w d v → r ≡ ok c i → Went pack a c i w d v
  went' {c} {i} (done t c' i' p q e) h =
      let x : c' ≡ c = cc in
      let y : i' ≡ i = cc in
      record { table = t; says = rw (x, y) at p; holds = subst (λ (z : Cursor). Encodes t z w d v) x e }
  went' (stop n m p q l) h = let z : ◌≡◌ {A = ℕ} 0 1 = cc in absurd (omega arith)

  pub went : {c : Cursor} {i : X} → Shows pack a r w d v → r ≡ ok c i → Went pack a c i w d v
  went h q = went' h.ends q

  -- what a call that was refused says
  pub said : {n m : ℕ} → Shown pack a r w d v → r ≡ bad n m → a ≡ refused n m
  said (done t c' i' p q e) h = let z : ◌≡◌ {A = ℕ} 0 1 = cc in absurd (omega arith)
  said (stop n m p q l) h = cc

  pub leaves : {n m : ℕ} → Shown pack a r w d v → r ≡ bad n m → Left w d v
  leaves (done t c' i' p q e) h = let z : ◌≡◌ {A = ℕ} 0 1 = cc in absurd (omega arith)
  leaves (stop n m p q l) h = l

  -- a call that was done, with what it left: the rest is shown for whatever table that is
  pub call : {D : Type 0} {Q : Answer D → Type 0} {c : Cursor} {i : X} (k : B → Answer D)
      → Shows pack a r w d v → r ≡ ok c i → ((t : Table) → Encodes t c w d v → Ends Q (k (pack i (state c t)))) → Ends Q (a >>= k)
  call k h q f = let g = went h q in via k g.says (f g.table g.holds)

  -- a call that was refused, and its answer returned
  pub fail : {n p : ℕ} (k : B → Answer B) → Shows pack a r w d v → r ≡ bad n p → Shows pack (a >>= k) r w d v
  fail k h q = halt k (said h.ends q) (no_left (leaves h.ends q) q)

  -- the same, by an answer of another type
  pub refuse : {Y D : Type 0} {pack' : Y → State → D} {r' : Reply Y} {n p : ℕ} (k : B → Answer D)
      → Shows pack a r w d v → r ≡ bad n p → r' ≡ bad n p → Shows pack' (a >>= k) r' w d v
  refuse k h q z = halt k (said h.ends q) (no_left (leaves h.ends q) z)

-- at a `?`, whose clause says what was given
module _ {X B : Type 0} {pack : X → State → B} {a : Answer B} {w d : List ℕ} {v : List ℤ} where
  -- a call that was done: the rest is shown for whatever table it left
  pub next : {D : Type 0} {Q : Answer D → Type 0} {c : Cursor} {i : X} (k : B → Answer D)
      → Shows pack a (ok c i) w d v → ((t : Table) → Encodes t c w d v → Ends Q (k (pack i (state c t)))) → Ends Q (a >>= k)
  next k h f = call k h refl f

  -- a call that was refused, and so is the caller, by its own map g
  pub exit : {Y Z D : Type 0} {pack' : Y → State → D} {r : Result Z Refusal} {e : Refusal} {n p : ℕ} (g : Result Z Refusal → Reply Y) (k : B → Answer D)
      → Shows pack a (bad n p) w d v → IsErrAnd r (λ y. y ≡ e) → g (Err e) ≡ bad n p → Shows pack' (a >>= k) (g r) w d v
  exit {r = r} g k h q z = let x = err_from_is_err_and r q in rw (x.1, x.2) (refuse k h refl z)

-- a `?` on a test of a limit: the caller is refused by its own map g
pub passed : {X Z B : Type 0} {pack : X → State → B} {t : Table} {c : Cursor} {w d : List ℕ} {v : List ℤ} {r : Result Z Refusal} {e : Refusal} {n p : ℕ} (g : Result Z Refusal → Reply X)
    → Encodes t c w d v → IsErrAnd r (λ y. y ≡ e) → g (Err e) ≡ bad n p → Shows pack (refused n p) (g r) w d v
passed {r = r} g h q z = let x = err_from_is_err_and r q in rw (x.1, x.2) (no! h z)

pub held_next : {X B : Type 0} {pack : X → State → B} {f : State → Answer B} {c c' : Cursor} {i : X} {w d w' d' : List ℕ} {v v' : List ℤ}
    → Runs pack f c w d v (ok c' i) w' d' v' → Held c w d v → Held c' w' d' v'
held_next g h = held (went (g.run h.table h.encodes) refl).holds

-- a call after a step in the tokens
module _ {X B : Type 0} {pack : X → State → B} {f : State → Answer B} {w d w' d' : List ℕ} {v v' : List ℤ} {r : Reply X} where
  pub step-on : {c m : Cursor} {k : ℕ} {t : Table} → m ≡ moved_to c k → Runs pack f m w d v r w' d' v' → Encodes t c w d v → Shows pack (f (state (moved_to c k) t)) r w' d' v'
  step-on {k = k} {t} e g h = (rw e at g).run t (at_other h k)

  -- what the slices hold after a call
  pub held_on : {c c' : Cursor} {i : X} → Runs pack f c w d v r w' d' v' → Held c w d v → r ≡ ok c' i → Held c' w' d' v'
  held_on g h q = held (went (g.run h.table h.encodes) q).holds

-- and after a change
pub held_after : {f : Table → Table} {c : Cursor} {w d w' d' : List ℕ} {v v' : List ℤ} → Changes f c w d v w' d' v' → Held c w d v → Held c w' d' v'
held_after g h = held (g.run h.table h.encodes)
