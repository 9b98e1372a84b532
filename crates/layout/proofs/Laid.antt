-- The members of a body, laid out one after the other. Assumes nothing.
use mathlib.Core.Path.{◌≡◌, refl, sym, ap, ◌∙◌}
use mathlib.Core.Bool.{Bool, true, false, ◌&&◌}
use mathlib.Core.Option as maybe
use mathlib.Core.List.{List, [], ◌∷◌, ◌++◌, append_assoc}
use Prim.Native.Nat.{ℕ, zero, suc, ◌+◌, ◌-◌, ◌^◌, ◌<◌, ◌≤◌, max}
use native.Mathlib.Omega.{arith}
use lib.Dec.{eqb}
use lib.IntN.{ℤ}
use lib.ListN.{length, get_or, set, take, drop, length-append, take-append-drop, drop_of_length-le}
use lib.Seq.{length-take-le, set_at, get_or_at}
use borrow.Author.Tests.{eq-eqb, ne_eqb}
use Rattle.std.specs.Bool.{MatchBool}
use Rattle.std.specs.List.{AllWithin, HoldsAt, range_with_len}
use Rattle.std.proofs.lemmas.List.FromFn.{length-range_with_len, get_or-range_with_len}
use Rattle.definition.specs.Answer.{Answer, got, refused, ◌>>=◌}
use Rattle.definition.specs.Refusal.{layout_overflow, unknown_size}
use Rattle.definition.specs.Model.{Model}
use Rattle.definition.specs.Table.{Table, Member, row_at, mark_of, with_members}
use Rattle.definition.specs.Types.{resolve}
use Rattle.definition.specs.Size.{size_of}
use Rattle.definition.specs.Align.{or_one, align_of}
use Rattle.definition.specs.Layout.{Laid, empty_body, located, within, is_unsized, member_size, in_union, in_struct, is_last, placed, placed_all, record_size, layout}
use Rattle.lemmas.proofs.Lists.{drop-next}
use Rattle.table.specs.Held.{Encodes, no_member}
use Rattle.table.specs.Reply.{Reply, ok, bad}
use Rattle.table.specs.Store.{member_place_set, ChangesWides}
use Rattle.table.specs.declared.Cursor.{Cursor}
use Rattle.table.proofs.Shown.{left}
use Rattle.lemmas.proofs.Branch.{yes, nay, lt_yes, lt_no}
use Rattle.size_align.specs.declared.Size.{Size}
use Rattle.size_align.specs.declared.Size.TheVariants.{Known, Big, Unknown}
use Rattle.size_align.proofs.Told.{View, unknown, known, big}
use Rattle.std.specs.Option.{ok_or}
use Rattle.encoding.specs.declared.refusals.Reason.TheVariants as reasons
use Rattle.layout_arithmetic.specs.declared.Placed.{Placed}
use Rattle.std.specs.Prelude.{Option, Some, None, Result, Ok, Err, MatchResult, IsErrAnd}
use Rattle.encoding.specs.Refusals.{answer}
use Rattle.encoding.specs.declared.refusals.Refusal.{Refusal}
use Rattle.layout_arithmetic.specs.declared.SizeError.{SizeError}
use Rattle.layout_arithmetic.specs.Outcome.{reason_of, sized as record_sized, placed as member_placed}
use Rattle.layout.specs.Lays.{place, placed_from, sized, Lays, done, stop}

-- ---- a member's size

module _ (u : Bool) (at : ℕ) where
  pub known-size : {o : maybe.Option ℕ} {s : Size} {x : ℕ} → View o s → s ≡ Known x → got x ≡ member_size o u at
  unfolding member_size within
  known-size unknown e = let y : ◌≡◌ {A = ℕ} 0 1 = cc in absurd (omega arith)
  known-size {x = x} (known z p) e = let y : z ≡ x = cc in rw y (sym (lt_yes x (2 ^ 64) _ _ (omega arith)))
  known-size (big z p) e = let y : ◌≡◌ {A = ℕ} 0 1 = cc in absurd (omega arith)

  pub big-size : {o : maybe.Option ℕ} {s : Size} → View o s → s ≡ Big → refused layout_overflow at ≡ member_size o u at
  unfolding member_size within
  big-size unknown e = let y : ◌≡◌ {A = ℕ} 0 1 = cc in absurd (omega arith)
  big-size (known z p) e = let y : ◌≡◌ {A = ℕ} 0 1 = cc in absurd (omega arith)
  big-size (big z p) e = sym (lt_no z (2 ^ 64) _ _ p)

  pub no_size : {o : maybe.Option ℕ} {s : Size} → View o s → s ≡ Unknown → u ≡ false → refused unknown_size at ≡ member_size o u at
  unfolding member_size
  no_size unknown e q = rw q
  no_size (known z p) e q = let y : ◌≡◌ {A = ℕ} 0 1 = cc in absurd (omega arith)
  no_size (big z p) e q = let y : ◌≡◌ {A = ℕ} 0 1 = cc in absurd (omega arith)

  pub open_size : {o : maybe.Option ℕ} {s : Size} → View o s → s ≡ Unknown → u ≡ true → got 0 ≡ member_size o u at
  unfolding member_size
  open_size unknown e q = rw q
  open_size (known z p) e q = let y : ◌≡◌ {A = ℕ} 0 1 = cc in absurd (omega arith)
  open_size (big z p) e q = let y : ◌≡◌ {A = ℕ} 0 1 = cc in absurd (omega arith)

-- ---- entries

module _ (m : Model) (t : Table) (union : Bool) (mark : ℕ) where
  -- no entry from number i on carries the mark
  unmarked : (es : List Member) (i : ℕ) → ((k : ℕ) → i ≤ k → k < length es → (get_or es k no_member).row ≡ mark → ⊥) → is_last m t union mark (drop i es) ≡ true
  unfolding is_last
  unmarked [] zero h = refl
  unmarked [] (suc i) h = refl
  unmarked (e ∷ es) zero h = nay (eqb e.row mark) _ _ (ne_eqb _ mark (h 0 (omega arith) (omega arith))) ∙ unmarked es zero (λ k p q. h (suc k) (omega arith) (omega arith))
  unmarked (e ∷ es) (suc i) h = unmarked es i (λ k p q. h (suc k) (omega arith) (omega arith))

  -- one of the others does
  behind-first : (e : Member) (es : List Member) → is_last m t union mark es ≡ false → is_last m t union mark (e ∷ es) ≡ false
  unfolding is_last
  behind-first e es h = by (eqb e.row mark) refl
    where
      by : (b : Bool) → eqb e.row mark ≡ b → is_last m t union mark (e ∷ es) ≡ false
      by true f = yes (eqb e.row mark) _ _ f
      by false f = nay (eqb e.row mark) _ _ f ∙ h

  -- one of them does
  marked : (es : List Member) (i k : ℕ) → i ≤ k → k < length es → (get_or es k no_member).row ≡ mark → is_last m t union mark (drop i es) ≡ false
  unfolding is_last
  marked [] i k p q h = absurd (omega arith)
  marked (e ∷ es) zero zero p q h = yes (eqb e.row mark) _ _ (eq-eqb _ mark h)
  marked (e ∷ es) zero (suc k) p q h = behind-first e es (marked es zero k (omega arith) (omega arith) h)
  marked (e ∷ es) (suc i) zero p q h = absurd (omega arith)
  marked (e ∷ es) (suc i) (suc k) p q h = marked es i k (omega arith) (omega arith) h

  -- the entries from number i on, tested in turn
  module _ (es : List Member) (i : ℕ) {ns : List ℕ} (e : ns ≡ range_with_len i (length es - i)) where
    long : length ns ≡ length es - i
    long = ap length e ∙ length-range_with_len i (length es - i)

    number : (k : ℕ) → k < length es - i → get_or ns k 0 ≡ i + k
    number k p = ap (λ l. get_or l k 0) e ∙ get_or-range_with_len i (length es - i) k 0 p

    pub tested : (r : Bool)
        → MatchBool r (AllWithin (λ k. (get_or es k no_member).row ≡ mark → ⊥) ns 0 (length ns))
        ((k : ℕ) × (k < length ns) × HoldsAt (λ k. (get_or es k no_member).row ≡ mark) ns k)
        → r ≡ is_last m t union mark (drop i es)
    tested true n = sym (unmarked es i (λ k p q.
        let f : get_or ns (k - i) 0 ≡ k = number (k - i) (omega arith) ∙ omega arith in
        rw f at (n (k - i) 0 (omega arith) (omega (arith, long)))))
    tested false (k, p, h) = sym (marked es i (i + k) (omega arith) (omega (arith, long)) (rw (number k (omega (arith, long))) at (h 0)))

-- ---- the loop

-- the entries before, and those that were laid out
abbrev behind : List Member → List Member × Laid → Answer (Laid × List Member)
behind pre r = got (r.1, pre ++ r.0)

abbrev leading : Member → List Member × Laid → Answer (List Member × Laid)
leading e r = got (e ∷ r.0, r.1)

-- the whole is what the entries from i on give, after those before them
pub record Going (m : Model) (t : Table) (union : Bool) (mark : ℕ) (c : Cursor) (w d : List ℕ) (v : List ℤ) (i : ℕ) (l : Laid) (whole : Answer (Laid × List Member)) : Type 0 where
  pub pre : List Member
  pub long : i < length t.members → length pre ≡ i
  pub holds : Encodes (with_members t (pre ++ drop i t.members)) c w d v
  pub same : whole ≡ (placed_all m t union mark (drop i t.members) l >>= behind pre)

pub starts : {m : Model} {t : Table} {union : Bool} {c : Cursor} {w d : List ℕ} {v : List ℤ} (first : ℕ) {l : Laid} → l ≡ empty_body → Encodes t c w d v
    → Going m t union (mark_of first) c w d v first l (placed_from m t union first)
unfolding placed_from
starts {t = t} first e h = record {
  pre = take first t.members;
  long = λ p. length-take-le first t.members (omega arith);
  holds = rw (take-append-drop first t.members) h;
  same = rw e;
}

-- one entry, then the others, after those before: the same as one more before
joined : (e : Member) (pre : List Member) (r : Answer (List Member × Laid)) → ((r >>= leading e) >>= behind pre) ≡ (r >>= behind (pre ++ e ∷ []))
unfolding ◌>>=◌
joined e pre (got x) = ap (λ l. got (x.1, l)) (sym (append_assoc pre (e ∷ []) x.0))
joined e pre (refused n p) = refl

-- a member, and the others after it
abbrev onward : (Laid → Answer (List Member × Laid)) → Member × Laid → Answer (List Member × Laid)
onward f y = f y.1 >>= leading y.0

after-got : {q : Answer (Member × Laid)} {x : Member × Laid} (pre : List Member) (f : Laid → Answer (List Member × Laid)) → got x ≡ q
    → ((q >>= onward f) >>= behind pre) ≡ (f x.1 >>= behind (pre ++ x.0 ∷ []))
unfolding ◌>>=◌
after-got {x = x} pre f h = rw (← h) (joined x.0 pre (f x.1))

after-refused : {q : Answer (Member × Laid)} {n p : ℕ} (pre : List Member) (f : Laid → Answer (List Member × Laid)) → refused n p ≡ q
    → ((q >>= onward f) >>= behind pre) ≡ refused n p
unfolding ◌>>=◌
after-refused pre f h = rw (← h)

module _ {m : Model} {t : Table} {union : Bool} {mark : ℕ} {c : Cursor} {w d : List ℕ} {v : List ℤ} {i : ℕ} {l : Laid} {whole : Answer (Laid × List Member)} (g : Going m t union mark c w d v i l whole) where
  pub finished : length t.members ≤ i → Lays t c w d v whole (ok c l)
  unfolding placed_all ◌>>=◌
  finished p = done l (g.pre ++ []) (g.same ∙ rw (drop_of_length-le t.members p)) refl (rw (drop_of_length-le t.members p) at g.holds)

  module _ (p : i < length t.members) where
    -- entry i is as it was
    pub untouched : get_or (g.pre ++ drop i t.members) i no_member ≡ get_or t.members i no_member
    untouched = rw (drop-next t.members i no_member p) (get_or_at g.pre (get_or t.members i no_member) (drop (i + 1) t.members) no_member i (g.long p))

    longer : (x : Member) → i + 1 < length t.members → length (g.pre ++ x ∷ []) ≡ i + 1
    longer x q = let h = g.long p in rw length-append (omega arith)

    module _ {k : ℕ} (h : k ≡ (get_or t.members i no_member).row) where
      pub passes : (k ≡ mark → ⊥) → Going m t union mark c w d v (i + 1) l whole
      unfolding placed_all
      passes q = record {
        pre = g.pre ++ get_or t.members i no_member ∷ [];
        long = longer _;
        holds = rw (append_assoc g.pre (get_or t.members i no_member ∷ []) (drop (i + 1) t.members), ← drop-next t.members i no_member p) g.holds;
        same = g.same ∙ (ap (λ x. placed_all m t union mark x l >>= behind g.pre) (drop-next t.members i no_member p)
            ∙ (ap (λ x. x >>= behind g.pre) (nay (eqb (get_or t.members i no_member).row mark) _ _ (ne_eqb _ mark (λ z. q (h ∙ z)))) ∙ joined _ g.pre _));
      }

      module _ (q : k ≡ mark) {last : Bool} (z : last ≡ is_last m t union mark (drop (i + 1) t.members)) where
        now-placed : whole ≡ ((placed m t union last (get_or t.members i no_member) l >>= onward (λ x. placed_all m t union mark (drop (i + 1) t.members) x))
            >>= behind g.pre)
        unfolding placed_all
        now-placed = g.same ∙ (ap (λ x. placed_all m t union mark x l >>= behind g.pre) (drop-next t.members i no_member p)
            ∙ rw z (ap (λ x. x >>= behind g.pre) (yes (eqb (get_or t.members i no_member).row mark) _ _ (eq-eqb _ mark (sym h ∙ q)))))

        pub stopped : {n o : ℕ} → refused n o ≡ placed m t union last (get_or t.members i no_member) l → whole ≡ refused n o
        stopped y = now-placed ∙ after-refused g.pre (λ x. placed_all m t union mark (drop (i + 1) t.members) x) y

        pub puts : {o b : ℕ} {l' : Laid} {d' : List ℕ} → got (located (get_or t.members i no_member) o b, l') ≡ placed m t union last (get_or t.members i no_member) l
            → ChangesWides (member_place_set i o b) c d d' → Going m t union mark c w d' v (i + 1) l' whole
        puts {o} {b} y s = record {
          pre = g.pre ++ located (get_or t.members i no_member) o b ∷ [];
          long = longer _;
          holds = rw (sym (set_here o b)) ((s.with w v).run _ g.holds);
          same = now-placed ∙ after-got g.pre (λ x. placed_all m t union mark (drop (i + 1) t.members) x) y;
        }
          where
            set_here : (o b : ℕ) → set (g.pre ++ drop i t.members) i (located (get_or (g.pre ++ drop i t.members) i no_member) o b)
                ≡ (g.pre ++ located (get_or t.members i no_member) o b ∷ []) ++ drop (i + 1) t.members
            set_here o b = rw untouched (rw (drop-next t.members i no_member p) (set_at g.pre (get_or t.members i no_member) (drop (i + 1) t.members) (located (get_or t.members i no_member) o b) i (g.long p)
                ∙ sym (append_assoc g.pre (located (get_or t.members i no_member) o b ∷ []) (drop (i + 1) t.members))))

-- ---- the size

module _ (m : Model) (t : Table) (union : Bool) (first at : ℕ) where
  -- the size of what was laid out, with the entries
  abbrev with_size : Laid × List Member → Answer (ℕ × List Member)
  with_size x = record_size m t union at x.0 >>= λ s. got (s, x.1)

  abbrev with_size_of : List Member × Laid → Answer (ℕ × List Member)
  with_size_of x = record_size m t union at x.1 >>= λ s. got (s, take first t.members ++ x.0)

  sized-after : (r : Answer (List Member × Laid)) → (r >>= with_size_of) ≡ ((r >>= behind (take first t.members)) >>= with_size)
  unfolding ◌>>=◌
  sized-after (got x) = refl
  sized-after (refused n p) = refl

  laid_out : layout m t union first at ≡ (placed_from m t union first >>= with_size)
  unfolding layout placed_from
  laid_out = sized-after (placed_all m t union (mark_of first) (drop first t.members) empty_body)

  -- what the placing showed, and the size
  module _ {c : Cursor} {w d : List ℕ} {v : List ℤ} {r : Reply Laid} (h : Lays t c w d v (placed_from m t union first) r) where
    pub layout-refused : {n p : ℕ} → r ≡ bad n p → Lays t c w d v (layout m t union first at) (bad n p)
    unfolding ◌>>=◌
    layout-refused {n} {p} e = go h
      where
        go : Lays t c w d v (placed_from m t union first) r → Lays t c w d v (layout m t union first at) (bad n p)
        go (done x es a b k) = let z : ◌≡◌ {A = ℕ} 0 1 = cc in absurd (omega arith)
        go (stop n' p' a b l) = let u : n' ≡ n = cc in let x : p' ≡ p = cc in stop n p (laid_out ∙ ap (λ z. z >>= with_size) {y = refused n p} (a ∙ rw (u, x))) refl l

    pub layout-sized : {l : Laid} {s : ℕ} → r ≡ ok c l → record_size m t union at l ≡ got s → Lays t c w d v (layout m t union first at) (ok c s)
    unfolding ◌>>=◌
    layout-sized {l} {s} e q = go h
      where
        go : Lays t c w d v (placed_from m t union first) r → Lays t c w d v (layout m t union first at) (ok c s)
        go (done x es a b k) = let y : x ≡ l = cc in done s es (laid_out ∙ (ap (λ z. z >>= with_size) a ∙ rw (y, q))) refl k
        go (stop n p a b f) = let z : ◌≡◌ {A = ℕ} 0 1 = cc in absurd (omega arith)

    pub layout_too_large : {l : Laid} {n p : ℕ} → r ≡ ok c l → record_size m t union at l ≡ refused n p → Lays t c w d v (layout m t union first at) (bad n p)
    unfolding ◌>>=◌
    layout_too_large {l} {n} {p} e q = go h
      where
        go : Lays t c w d v (placed_from m t union first) r → Lays t c w d v (layout m t union first at) (bad n p)
        go (done x es a b k) = let y : x ≡ l = cc in stop n p (laid_out ∙ (ap (λ z. z >>= with_size) a ∙ rw (y, q))) refl (left k)
        go (stop n' p' a b f) = let z : ◌≡◌ {A = ℕ} 0 1 = cc in absurd (omega arith)

    -- with what was answered of the size
    pub layout-answered : {l : Laid} (s : Result ℕ Refusal) → r ≡ ok c l → answer s ≡ record_size m t union at l → Lays t c w d v (layout m t union first at) (sized c s)
    layout-answered (Ok n) e q = layout-sized e (sym q)
    layout-answered (Err x) e q = layout_too_large e (sym q)

-- a record's size, or its refusal at the tag
pub size-told : (o : Result ℕ SizeError) (at : ℕ) (r : Result ℕ Refusal) → MatchResult o (λ n. r ≡ Ok n) (λ e. IsErrAnd r (λ d. d ≡ record { reason = reason_of e; at = at })) → answer r ≡ record_sized o at
unfolding record_sized
size-told (Ok n) at r m = rw m
size-told (Err e) at (Ok n) m = absurd m
size-told (Err e) at (Err d) m = rw m

-- ---- a member

-- a member of a size and a type
abbrev sized_member : Model → Table → Bool → Member → Laid → ℕ → ℕ → Answer (Member × Laid)
sized_member m t union e l ty s = elim union [
  | true ↦ got (in_union e s (max (or_one (align_of m t ty)) 1) l)
  | false ↦ in_struct e.width e s (max (or_one (align_of m t ty)) 1) l
]

module _ (m : Model) (t : Table) (union last : Bool) (e : Member) (l : Laid) {ty : ℕ} (y : ty ≡ e.type) {b : Answer ℕ}
    (q : b ≡ member_size (size_of m t ty) (last && is_unsized (row_at t (resolve t ty))) e.offset) where
  sizes_as : {r : Answer ℕ} → b ≡ r → placed m t union last e l ≡ (r >>= sized_member m t union e l ty)
  unfolding placed
  sizes_as h = ap (λ z. member_size (size_of m t z) (last && is_unsized (row_at t (resolve t z))) e.offset >>= sized_member m t union e l z) (sym y) ∙ ap (λ z. z >>= sized_member m t union e l ty) (sym q ∙ h)

  pub member-refused : {n p : ℕ} → b ≡ refused n p → refused n p ≡ placed m t union last e l
  unfolding ◌>>=◌
  member-refused h = sym (sizes_as h)

  module _ {s a : ℕ} (h : b ≡ got s) (g : a ≡ or_one (align_of m t ty)) where
    pub in_union_lem : union ≡ true → {x : Member × Laid} → x ≡ in_union e s (max a 1) l → got x ≡ placed m t union last e l
    unfolding ◌>>=◌
    in_union_lem u z = sym (sizes_as h ∙ (yes union _ _ u ∙ ap (λ n. got (in_union e s (max n 1) l)) (sym g) ∙ ap got (sym z)))

    pub in_struct_lem : union ≡ false → {x : Answer (Member × Laid)} → x ≡ in_struct e.width e s (max a 1) l → x ≡ placed m t union last e l
    unfolding ◌>>=◌
    in_struct_lem u z = sym (sizes_as h ∙ (nay union _ _ u ∙ ap (λ n. in_struct e.width e s (max n 1) l) (sym g) ∙ sym z))

-- a member at its place, or the refusal at its place in the text
pub placed-told : (o : Option Placed) (r : Result Placed Refusal) (e : Member) {at : ℕ} → at ≡ e.offset → r ≡ ok_or o (record { reason = reasons.LayoutOverflow; at = at }) → place r e ≡ member_placed o e
unfolding member_placed
placed-told (Some p) r e h q = rw q
placed-told None r e h q = rw (q, h)
