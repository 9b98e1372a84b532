-- Demand 3: walks over the table of an accepted text.
use mathlib.Core.Path.{◌≡◌, refl, sym, ◌∙◌, ap}
use mathlib.Core.Bool.{Bool, true, false}
use mathlib.Core.List.{[]}
use mathlib.Core.Option.{Option, none, some, some-injective, none-ne-some}
use mathlib.Core.Logic.{inl}
use Prim.Native.Nat.{ℕ}
use native.Mathlib.Omega.{arith}
use lib.Dec.{T, leb}
use lib.ListN.{length}
use Rattle.definition.specs.Answer.{Answer, got, refused}
use Rattle.definition.specs.Refusal.{bad_call}
use Rattle.definition.specs.Text.{Bytes}
use Rattle.definition.specs.Token.{Lexed}
use Rattle.definition.specs.Model.{Model, model_of}
use Rattle.definition.specs.Table.{Table}
use Rattle.definition.specs.Reader.{translation_unit, one_declaration}
use Rattle.definition.specs.Cut.{tokenize}
use Rattle.definition.specs.Entry.{Entry, wholeHeader, singleDeclaration, Accepted, parse, read_with, read, accepted, told, outcome}
use Rattle.definition_laws.proofs.Inside.{outcome-inside, in_text_lem}
use Rattle.walks.specs.Walk.{LooksThrough, Walks}
use Rattle.walks.specs.Condition.{Orderly, none_too_wide, Meets, orderly}
use Rattle.definition_laws.specs.Every.{Every}
use Rattle.definition_laws.proofs.Every.{got!, no!, bool!, then! }
use Rattle.walks.proofs.WalkProof.{walks}
use Rattle.walks.proofs.LooksThrough.{inside_looks_through}
use Rattle.walks.proofs.GrowProof.{kept_grows, kept-sound}
use Rattle.walks.proofs.BodyProof.{tab, edge-adds, same_grows}
use Rattle.walks.proofs.TableProof.{Inv}
use Rattle.walks.proofs.ReadProof.{Named, all-ok, lone-ok}
use Rattle.walks.proofs.NameProof.{tokenize-named}
use Rattle.walks.proofs.TextRead.{all-t, lone-t}

-- walks do not depend on values, parameters and declarations
inv_walks : (m : Model) (t : Table) → Inv m [] t → T (orderly t.log) → Walks m t
inv_walks m t i h =
    let c = i.kept h in
    walks m t (kept-sound m t (kept_grows m (tab t.rows t.members) t c (same_grows (tab t.rows t.members) t refl) c.edge
    (edge-adds m (tab t.rows t.members) t c.edge (λ k e g. inl g))))

-- every table that the parser gives, of either entry, keeps it
parse-ok : (entry : Entry) (x : Lexed) (m : Model) → Named x.tokens → Every (λ t. Inv m [] t) (parse entry x m)
unfolding parse translation_unit one_declaration
parse-ok wholeHeader x m n = then! _ _ (in_text_lem x _ (all-ok x.tokens m n)) λ s h. got! h
parse-ok singleDeclaration x m n = then! _ _ (in_text_lem x _ (lone-ok x.tokens m n)) λ s h. bool! (leb (length s.table.declarations) 1) (got! h) no!

-- ---- from what the reader did

walks-of : (m : Model) (entry : Entry) (text : Bytes) → Every (λ a. T (orderly a.table.log) → Walks m a.table) (read_with m entry text)
unfolding read_with
walks-of m entry text = then! _ _ (tokenize-named text) λ x n. then! _ _ (parse-ok entry x m n) λ t i. got! (λ h. inv_walks m t i h)

-- ---- from the text

self! : {A : Type 0} (r : Answer A) → Every (λ a. r ≡ got a) r
self! r = record { of = λ a e. e }

-- what holds under a hypothesis
under! : {A H : Type 0} {P : A → Type 0} (r : Answer A) → (H → Every P r) → Every (λ a. H → P a) r
under! r f = record { of = λ a e h. (f h).of a e }

parse-orderly : (entry : Entry) (x : Lexed) (m : Model) → Orderly x.tokens → Every (λ t. T (none_too_wide t.log) → T (orderly t.log)) (parse entry x m)
unfolding parse translation_unit one_declaration
parse-orderly wholeHeader x m c = then! _ _ (in_text_lem x _ (all-t x.tokens m c)) λ s h. got! h.order
parse-orderly singleDeclaration x m c = then! _ _ (in_text_lem x _ (lone-t x.tokens m c)) λ s h. bool! (leb (length s.table.declarations) 1) (got! h.order) no!

-- a text that meets the conditions has an orderly log
orderly-of : (m : Model) (entry : Entry) (text : Bytes) → Every (λ a. Meets text a.table → T (orderly a.table.log)) (read_with m entry text)
unfolding read_with
orderly-of m entry text = then! _ _ (self! (tokenize text)) λ x e. then! _ _ (under! (parse entry x m) (λ c. parse-orderly entry x m c)) λ t h.
    got! (λ c. h (c.tags x e) c.fields)

-- ---- the theorem: for both entries, and for every model record

pub read_walks_stay_inside_and_apart_by_log : (m : Model) (entry : Entry) (text : Bytes) (a : Accepted) → read_with m entry text ≡ got a → T (orderly a.table.log) → Walks m a.table
read_walks_stay_inside_and_apart_by_log m entry text a e h = (walks-of m entry text).of a e h

pub read_walks_stay_inside_and_apart : (m : Model) (entry : Entry) (text : Bytes) (a : Accepted) → read_with m entry text ≡ got a → Meets text a.table → Walks m a.table
read_walks_stay_inside_and_apart m entry text a e c = read_walks_stay_inside_and_apart_by_log m entry text a e ((orderly-of m entry text).of a e c)

-- ---- and so of what a caller is told

told-got : (text : Bytes) (r : Answer Accepted) (a : Accepted) → told text r ≡ accepted a → r ≡ got a
unfolding told
told-got text (got b) a e = let q : b ≡ a = cc in ap (λ x. got x) q
told-got text (refused n at) a e = let z : ◌≡◌ {A = ℕ} 0 1 = cc in absurd (omega arith)

read-got : (model : ℕ) (lent : Bool) (entry : Entry) (text : Bytes) (m : Model) (a : Accepted) → model_of model ≡ some m → read model lent entry text ≡ got a → read_with m entry text ≡ got a
unfolding read
read-got model lent entry text m a q e = at (model_of model) q lent e
  where
    at : (o : Option Model) → o ≡ some m → (b : Bool)
        → ◌≡◌ {A = Answer Accepted} (elim o [ none ↦ refused bad_call 0 | some n ↦ elim b [ true ↦ read_with n entry text | false ↦ refused bad_call 0 ] ]) (got a) → read_with m entry text ≡ got a
    at none p b h = absurd (none-ne-some m p)
    at (some n) p true h = ap (λ x. read_with x entry text) (sym (some-injective n m p)) ∙ h
    at (some n) p false h = let z : ◌≡◌ {A = ℕ} 0 1 = cc in absurd (omega arith)

outcome-got : (model : ℕ) (lent : Bool) (entry : Entry) (text : Bytes) (m : Model) (a : Accepted) → outcome model lent entry text ≡ accepted a → model_of model ≡ some m
    → read_with m entry text ≡ got a
unfolding outcome
outcome-got model lent entry text m a e q = read-got model lent entry text m a q (told-got text (read model lent entry text) a e)

-- Demand 3: of every text that is accepted and meets the conditions, every walk ends inside its start type, and two walks that part at two members of
-- one struct or two indices of one array share no bit.
pub walks_stay_inside_and_apart : (model : ℕ) (lent : Bool) (entry : Entry) (text : Bytes) (m : Model) (a : Accepted) → outcome model lent entry text ≡ accepted a → model_of model ≡ some m
    → Meets text a.table → Walks m a.table
walks_stay_inside_and_apart model lent entry text m a e q c = read_walks_stay_inside_and_apart m entry text a (outcome-got model lent entry text m a e q) c

-- the same under the weaker conditions, on what the reader did
pub walks_stay_inside_and_apart_by_log : (model : ℕ) (lent : Bool) (entry : Entry) (text : Bytes) (m : Model) (a : Accepted) → outcome model lent entry text ≡ accepted a → model_of model ≡ some m
    → T (orderly a.table.log) → Walks m a.table
walks_stay_inside_and_apart_by_log model lent entry text m a e q h = read_walks_stay_inside_and_apart_by_log m entry text a (outcome-got model lent entry text m a e q) h

-- These walks look through all typedefs and qualifiers, of every text that is accepted.
pub walks_look_through_typedefs_and_qualifiers : (model : ℕ) (lent : Bool) (entry : Entry) (text : Bytes) (a : Accepted) → outcome model lent entry text ≡ accepted a → LooksThrough a.table
walks_look_through_typedefs_and_qualifiers model lent entry text a e = inside_looks_through a.table (outcome-inside model lent entry text a e)
