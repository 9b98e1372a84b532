-- What the parser answered, at offsets of the text. Assumes nothing.
use mathlib.Core.Path.{◌≡◌, refl, sym, ap, subst, ◌∙◌}
use mathlib.Core.Bool.{true, false}
use mathlib.Core.List.{List}
use Prim.Native.Nat.{ℕ, suc, ◌-◌, ◌≤◌, ◌<◌}
use native.Mathlib.Omega.{arith}
use lib.Dec.{leb}
use lib.IntN.{ℤ}
use lib.ListN.{length, get_or}
use Rattle.std.specs.Prelude.{Result, Ok, Err, MatchResult, IsErrAnd}
use Rattle.encoding.specs.Refusals.{number_of, answer}
use Rattle.encoding.specs.declared.refusals.Refusal.{Refusal}
use Rattle.definition.specs.Answer.{Answer, got, refused, ◌>>=◌}
use Rattle.definition.specs.Limit.{max_names}
use Rattle.definition.specs.Refusal.{not_one_declaration}
use Rattle.definition.specs.Token.{Lexed, here}
use Rattle.definition.specs.Model.{Model}
use Rattle.definition.specs.Table.{Table, State, new_table}
use Rattle.definition.specs.Reader.{declaration, declarations_from, optional_semicolon, nothing_more, all_declarations, lone_declaration, in_text, translation_unit, one_declaration}
use Rattle.definition.specs.NameTable.{name_table}
use Rattle.definition.specs.Entry as meant
use Rattle.table.specs.Held.{state, Counts as Counted, Encodes, Long, Left as Remains}
use Rattle.table.specs.Reply.{Peek, Moves, ok, none, reply_alone}
use Rattle.table.specs.declared.Cursor.{Cursor}
use Rattle.lemmas.proofs.Branch.{eq_yes, eq_no, le_yes, le_no}
use Rattle.table.proofs.Shown.{long, room, left, went, said, leaves}
use Rattle.definition_laws.specs.Columns.{Columns}
use Rattle.name_table.specs.Names.{HeldWords, Writes}
use Rattle.erasing.specs.Erased.{Erased}
use Rattle.definition.specs.Lent.{zeroed}
use Rattle.entry_points.specs.Answers.{lexed, first_cursor, Parses, done, stop, counts_from, counts_of, Read, read_tokens}
use Rattle.entry_points.specs.Answers as answers
use Rattle.entry_points.specs.declared.Counts.{Counts}

-- ---- the offset of a token

module _ (ks ps ns : List ℕ) (end at k : ℕ) (p : Peek ks at k) where
  pub here_end : k ≡ 0 → end ≡ here (lexed ks ps ns end) at
  unfolding here
  here_end e = sym (eq_yes (get_or ks at 0) 0 end (get_or ps at 0) (sym p.is ∙ e))

  pub here-token : (k ≡ 0 → ⊥) → (i : ℕ) → Peek ps at i → i ≡ here (lexed ks ps ns end) at
  unfolding here
  here-token e i q = q.is ∙ sym (eq_no (get_or ks at 0) 0 end (get_or ps at 0) (λ z. e (p.is ∙ z)))

-- ---- the two readers

module _ (ks ps ns : List ℕ) (end : ℕ) (m : Model) where
  abbrev x : Lexed
  x = lexed ks ps ns end

  abbrev first : State
  first = state first_cursor new_table

  -- what an entry reads of the tokens
  abbrev pub from : meant.Entry → State → Answer State
  from meant.wholeHeader s = declarations_from x.tokens m (suc (length ks - 0)) s
  from meant.singleDeclaration s = declaration x.tokens m s >>= λ s₁. nothing_more x.tokens m (optional_semicolon x.tokens m s₁)

  parse_no : (entry : meant.Entry) (n i : ℕ) → from entry first ≡ refused n i → meant.parse entry x m ≡ refused n (here x i)
  unfolding meant.parse translation_unit all_declarations one_declaration lone_declaration in_text ◌>>=◌
  parse_no meant.wholeHeader n i e = rw e
  parse_no meant.singleDeclaration n i e = rw e

  one_bind : (s : State) → from meant.singleDeclaration first ≡ got s
      → meant.parse meant.singleDeclaration x m ≡ elim (leb (length s.table.declarations) 1) as (λ z. Answer Table) [ true ↦ got s.table | false ↦ refused not_one_declaration 0 ]
  unfolding meant.parse one_declaration lone_declaration in_text ◌>>=◌
  one_bind s e = rw e

  parse-got : (entry : meant.Entry) (s : State) → from entry first ≡ got s → (entry ≡ meant.singleDeclaration → length s.table.declarations ≤ 1) → meant.parse entry x m ≡ got s.table
  unfolding meant.parse translation_unit all_declarations in_text ◌>>=◌
  parse-got meant.wholeHeader s e p = rw e
  parse-got meant.singleDeclaration s e p = one_bind s e ∙ le_yes (length s.table.declarations) 1 _ _ (p refl)

  parse-many : (entry : meant.Entry) (s : State) → from entry first ≡ got s → entry ≡ meant.singleDeclaration → 1 < length s.table.declarations → meant.parse entry x m ≡ refused not_one_declaration 0
  parse-many meant.wholeHeader s e i p = absurd cc
  parse-many meant.singleDeclaration s e i p = one_bind s e ∙ le_no (length s.table.declarations) 1 _ _ p

  module _ {w d w' d' : List ℕ} {v v' : List ℤ} (e : Encodes new_table first_cursor w d v) (entry : meant.Entry) where
    -- the counts, once the tokens were read
    counted : (r₀ : Result Cursor Refusal) (c : Cursor) → got c ≡ in_text x (answer r₀) → Moves (from entry) first_cursor w d v (reply_alone r₀) w' d' v' → Moves (from entry) first_cursor w d v (ok c none) w' d' v'
    unfolding in_text
    counted (Ok c₀) c q g = let i : c₀ ≡ c = cc in rw i at g
    counted (Err y) c q g = let o : ◌≡◌ {A = ℕ} 0 1 = cc in absurd (omega arith)

    module _ (r₀ : Result Cursor Refusal) (g : Moves (from entry) first_cursor w d v (reply_alone r₀) w' d' v') where
      pub parsed : (c : Cursor) → got c ≡ in_text x (answer r₀) → (entry ≡ meant.singleDeclaration → c.declarations ≤ 1) → Parses (meant.parse entry x m) (got c) w' d' v'
      parsed c q p = let h = went ((counted r₀ c q g).run new_table e) refl in done h.table c (parse-got entry _ h.says (λ i. let l = p i in omega (arith, h.holds.counts.declarations))) refl h.holds

      pub one_too_many : (c : Cursor) → got c ≡ in_text x (answer r₀) → entry ≡ meant.singleDeclaration → 1 < c.declarations → Parses (meant.parse entry x m) (refused 24 0) w' d' v'
      one_too_many c q i p =
          let h = went ((counted r₀ c q g).run new_table e) refl in
          stop 24 0 (parse-many entry _ h.says i (omega (arith, h.holds.counts.declarations))) refl (left h.holds)

    pub unread : (r₀ : Result Cursor Refusal) (z : Refusal) → answer (Err z) ≡ in_text x (answer r₀) → Moves (from entry) first_cursor w d v (reply_alone r₀) w' d' v' → Parses (meant.parse entry x m) (answer (Err z)) w' d' v'
    unfolding in_text
    unread (Ok c) z q g = let o : ◌≡◌ {A = ℕ} 0 1 = cc in absurd (omega arith)
    unread (Err y) z q g = let f = (g.run new_table e).ends in stop (number_of y.reason) (here x y.at) (parse_no entry _ _ (said f refl)) q (leaves f refl)

-- ---- what was parsed, with its names

pub record Kept (a : Answer Table) (c : Cursor) (w d : List ℕ) (v : List ℤ) : Type 0 where
  pub table : Table
  pub says : a ≡ got table
  pub holds : Encodes table c w d v

module _ {a : Answer Table} {r : Answer Cursor} {w d : List ℕ} {v : List ℤ} where
  pub kept : {c : Cursor} → Parses a r w d v → r ≡ got c → Kept a c w d v
  kept {c} (done t c' p q e) h = let z : c' ≡ c = cc in record { table = t; says = p; holds = subst (λ (y : Cursor). Encodes t y w d v) z e }
  kept (stop n m p q l) h = let z : ◌≡◌ {A = ℕ} 0 1 = cc in absurd (omega arith)

  pub turned : {n p : ℕ} → Parses a r w d v → r ≡ refused n p → a ≡ refused n p
  turned (done t c' p q e) h = let z : ◌≡◌ {A = ℕ} 0 1 = cc in absurd (omega arith)
  turned (stop n m p q l) h = cc

  pub remains : {n p : ℕ} → Parses a r w d v → r ≡ refused n p → Remains w d v
  remains (done t c' p q e) h = let z : ◌≡◌ {A = ℕ} 0 1 = cc in absurd (omega arith)
  remains (stop n m p q l) h = l

  pub kept-words : {c : Cursor} → Parses a r w d v → r ≡ got c → HeldWords c w
  kept-words p q = let k = kept p q in record { table = k.table; counts = k.holds.counts; words = k.holds.words; marks = k.holds.marks; long = (long k.holds).words; room = room k.holds }

counts-are : (t : Table) (c : Cursor) (n : ℕ) (names : List ℕ) → Counted t c → n ≡ length names → counts_from c n ≡ counts_of (record { table = t; names = names })
counts-are t c n names o e = rw (o.rows, o.members, o.values, o.parameters, o.declarations, e)

few-names : {ks ps ns : List ℕ} → Columns ks ps ns → (end : ℕ) (t : Table) → length (name_table (lexed ks ps ns end) t) ≤ max_names
unfolding name_table
few-names c end t = c.few t

module _ (entry : meant.Entry) (end : ℕ) (m : Model) {ks ps ns w d : List ℕ} {v : List ℤ} {r : Answer Cursor} (c : Columns ks ps ns) (p : Parses (meant.parse entry (lexed ks ps ns end) m) r w d v) where
  abbrev named : Table → Answer meant.Accepted
  named t = got (record { table = t; names = name_table (lexed ks ps ns end) t })

  pub read_done : {w₀ d₀ w' : List ℕ} {v₀ : List ℤ} (e : Cursor) (n : ℕ) (y : Counts) → r ≡ got e → Writes ks ps ns e w n w' → y ≡ counts_from e n → Read (read_tokens entry (lexed ks ps ns end) m) w₀ d₀ v₀ (got y) w' d v
  unfolding read_tokens ◌>>=◌
  read_done e n y q f h =
      let k = kept p q in
      let t = k.table in
      let g = f.run (lexed ks ps ns end) t (record { kinds = refl; places = refl; numbers = refl }) k.holds.counts k.holds.words k.holds.marks in
      let i = k.holds.words.fits in
      answers.done (record { table = t; names = name_table (lexed ks ps ns end) t }) (ap (λ (b : Answer Table). b >>= named) k.says) (ap (λ (z : Counts). got z) (h ∙ counts-are t e n (name_table (lexed ks ps ns end) t) k.holds.counts g.count))
      (record {
        words = g.are;
        wides = k.holds.wides.are;
        signeds = k.holds.signeds.are;
        limits = record { rows = i.rows; members = i.members; values = i.values; parameters = i.parameters; declarations = i.declarations };
        few = few-names c end t;
      })

  pub read-refused : (n i : ℕ) → r ≡ refused n i → {w₀ d₀ w'' d'' : List ℕ} {v₀ v'' : List ℤ} → Long w₀ d₀ v₀ → Erased w d v w'' d'' v''
      → Read (read_tokens entry (lexed ks ps ns end) m) w₀ d₀ v₀ (refused n i) w'' d'' v''
  unfolding read_tokens ◌>>=◌ zeroed
  read-refused n i q l f =
      let z = f.run (remains p q) in
      answers.stop n i (ap (λ (b : Answer Table). b >>= named) (turned p q)) refl (rw (z.0, z.1.0, z.1.1, l.words, l.wides, l.signeds))
