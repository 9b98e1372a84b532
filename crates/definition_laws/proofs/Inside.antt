-- Every accepted table is inside its limits, and names rows of its own only. Assumes nothing.
use mathlib.Core.Path.{◌≡◌, refl}
use mathlib.Core.Bool.{Bool, true, false}
use mathlib.Core.List.{[]}
use Prim.Native.Nat.{ℕ, suc, ◌<◌}
use native.Mathlib.Omega.{arith}
use lib.Dec.{leb}
use lib.ListN.{length}
use Rattle.definition.specs.Answer.{Answer, got, refused}
use Rattle.definition.specs.Text.{Bytes}
use Rattle.definition.specs.Kind.{end, semicolon}
use Rattle.definition.specs.Token.{Tokens, Lexed, left}
use Rattle.definition.specs.Model.{Model, model_of}
use Rattle.definition.specs.Row.{void}
use Rattle.definition.specs.Table.{Table, new_table, State, skip}
use Rattle.definition.specs.Grammar.{stands}
use Rattle.definition.specs.Reader.{start, in_text, all_declarations, translation_unit, optional_semicolon, nothing_more, lone_declaration, one_declaration}
use Rattle.definition.specs.Entry.{Entry, wholeHeader, singleDeclaration, Accepted, parse, read_with, read, accepted, told, outcome}
use Rattle.definition_laws.specs.Every.{Every}
use Rattle.definition_laws.specs.Inside.{Inside}
use Rattle.definition_laws.proofs.Every.{got!, no!, bool!, option!, then!, weaker!, any! }
use Rattle.definition_laws.proofs.Each.{nil, cons, each-get}
use Rattle.definition_laws.proofs.Sound.{Marks, Carries, row, mark, Sound}
use Rattle.definition_laws.proofs.SoundReader.{declaration-sound, declarations_from-sound}

-- no list is open
abbrev none_open : Marks
none_open = record { members = []; values = []; parameters = [] }

-- so every entry carries a row
carried : {n i r : ℕ} → Carries n [] i r → r < n
carried (row l) = l
carried (mark first h _ _) = elim h [ ]

no_less : 0 < 0 → ⊥
no_less p = omega arith

pub new-sound : Sound none_open new_table
new-sound = record {
  some-row = omega arith;
  few-rows = omega arith;
  few-members = omega arith;
  few-values = omega arith;
  few-parameters = omega arith;
  few-declarations = omega arith;
  rows = cons {e = void} (record { first = λ e. refl; lower = λ p. absurd (no_less p) }) nil;
  members = nil;
  values = nil;
  parameters = nil;
  declarations = nil;
}

sound-inside : (t : Table) → Sound none_open t → Inside t
sound-inside t h = record {
  limits = record { rows = h.few-rows; members = h.few-members; values = h.few-values; parameters = h.few-parameters; declarations = h.few-declarations };
  some_row = h.some-row;
  void_first = (each-get h.rows 0 void h.some-row).first refl;
  lower = λ i p l. (each-get h.rows i void l).lower p;
  member_row = λ i l. carried (each-get h.members i _ l).carries;
  value_row = λ i l. carried (each-get h.values i _ l).carries;
  parameter_row = λ i l. carried (each-get h.parameters i _ l).carries;
  member_type = λ i l. (each-get h.members i _ l).type;
  parameter_type = λ i l. (each-get h.parameters i _ l).type;
  declaration_type = λ i l. (each-get h.declarations i _ l).type;
}

-- ---- the two entries, on tokens

-- where a refusal is said to stand changes no table
pub in_text_lem : {A : Type 0} {P : A → Type 0} (x : Lexed) (r : Answer A) → Every P r → Every P (in_text x r)
unfolding in_text
in_text_lem x (got a) h = got! (h.of a refl)
in_text_lem x (refused n i) h = no!

module _ (ts : Tokens) (m : Model) where
  all_sound : Every (λ (s : State). Sound none_open s.table) (all_declarations ts m)
  unfolding all_declarations
  all_sound = weaker! (declarations_from-sound ts m none_open (suc (left ts 0)) (start ts m) new-sound) (λ s k. k.sound)

  optional_sound : (s : State) → Sound none_open s.table → Sound none_open (optional_semicolon ts m s).table
  unfolding optional_semicolon
  optional_sound s h = go (stands ts semicolon s)
    where
      go : (b : Bool) → Sound none_open (elim b as (λ z. State) [ true ↦ skip s | false ↦ s ]).table
      go true = h
      go false = h

  lone-sound : Every (λ (s : State). Sound none_open s.table) (lone_declaration ts m)
  unfolding lone_declaration nothing_more
  lone-sound = then! _ _ (declaration-sound ts m none_open (start ts m) new-sound) λ s k. bool! (stands ts end (optional_semicolon ts m s)) (got! (optional_sound s k.sound)) no!

module _ (x : Lexed) (m : Model) where
  pub unit_inside : Every Inside (translation_unit x m)
  unfolding translation_unit
  unit_inside = then! _ _ (in_text_lem x _ (all_sound x.tokens m)) λ s h. got! (sound-inside s.table h)

  pub declaration-inside : Every Inside (one_declaration x m)
  unfolding one_declaration
  declaration-inside = then! _ _ (in_text_lem x _ (lone-sound x.tokens m)) λ s h. bool! (leb (length s.table.declarations) 1) (got! (sound-inside s.table h)) no!

  pub parse-inside : (entry : Entry) → Every Inside (parse entry x m)
  unfolding parse
  parse-inside wholeHeader = unit_inside
  parse-inside singleDeclaration = declaration-inside

-- ---- on texts, for every model and both entries

pub read-inside : (model : ℕ) (lentEnough : Bool) (entry : Entry) (text : Bytes) → Every (λ (a : Accepted). Inside a.table) (read model lentEnough entry text)
unfolding read read_with
read-inside model lentEnough entry text = option! (model_of model)
    (λ m e. bool! lentEnough (then! _ _ any! λ ts k. then! _ _ (parse-inside ts m entry) λ t h. got! h) no!) no!

-- what is told of an accepted text
pub outcome-inside : (model : ℕ) (lentEnough : Bool) (entry : Entry) (text : Bytes) (a : Accepted) → outcome model lentEnough entry text ≡ accepted a → Inside a.table
unfolding outcome told
outcome-inside model lentEnough entry text a e = go (read model lentEnough entry text) (read-inside model lentEnough entry text) e
  where
    go : (r : Answer Accepted) → Every (λ (a : Accepted). Inside a.table) r → told text r ≡ accepted a → Inside a.table
    go (got b) h e = let z : b ≡ a = cc in h.of a (rw z)
    go (refused n at) h e = let z : ◌≡◌ {A = ℕ} 0 1 = cc in absurd (omega arith)
