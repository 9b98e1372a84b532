-- The columns of names in the lent slice are the names that the table's entries hold. Assumes nothing.
use mathlib.Core.Path.{◌≡◌, refl, ap, ◌∙◌}
use mathlib.Core.List.{List, map, map-append}
use Prim.Native.Nat.{ℕ, zero, suc, ◌+◌, ◌*◌, ◌≤◌, ◌<◌}
use native.Mathlib.Omega.{arith}
use lib.IntN.{ℤ}
use lib.ListN.{length, get_or, take, replicate, length-replicate}
use lib.Seq.{take-suc, take-length}
use Rattle.definition.specs.Limit.{max_names}
use Rattle.definition.specs.Row.{void, row_name}
use Rattle.definition.specs.Table.{Table, Member, Value, Parameter, Declaration}
use Rattle.definition.specs.NameTable.{held_names}
use Rattle.definition.specs.Lent.{words}
use Rattle.table.specs.Held.{no_member, no_value, no_parameter, no_declaration, InWords, Marked, Held}
use Rattle.table.specs.declared.Cursor.{Cursor}
use Rattle.table.proofs.Regions.{row_word, member-word, value-word, parameter-word, declaration-word}
use Rattle.definition.specs.Token.{Lexed}
use Rattle.definition.specs.NameTable.{names_among, name_table}
use Rattle.definition_laws.specs.Columns.{Columns}
use Rattle.erasing.specs.Erased.{IndexCleared}
use Rattle.name_table.specs.Names.{Plain, HeldWords, ColumnsOf, NamesIn, Writes}
use Rattle.name_table.specs.Striking.{column, PlacesBelow, Listed, Struck, Strikes, Filled, Fills, Ready, PlainWords, WritesPlain}
use Rattle.name_table.proofs.Crossing.{struck_on, found}
use Rattle.name_table.proofs.Filling.{plain_long}

-- a column of every entry's numbers
column-is : {A : Type 0} (f : A → ℕ) (d : A) (w : List ℕ) (start width : ℕ) (xs : List A) → ((i : ℕ) → i < length xs → get_or w (start + width * i) 0 ≡ f (get_or xs i d))
    → (n : ℕ) → n ≡ length xs → column w start width n ≡ map f xs
unfolding column
column-is {A} f d w start width xs h n e = rw e (go (length xs) (omega arith) ∙ ap (λ (l : List A). map f l) (take-length xs))
  where
    go : (i : ℕ) → i ≤ length xs → column w start width i ≡ map f (take i xs)
    go zero q = refl
    go (suc i) q = rw (take-suc xs i d (omega arith), map-append f, go i (omega arith), h i (omega arith))

pub all_struck : {c : Cursor} {w ns m m₁ m₂ m₃ m₄ m₅ : List ℕ}
    → Struck ns (column w 3 6 c.rows) m m₁ → Struck ns (column w 6146 4 c.members) m₁ m₂ → Struck ns (column w 22529 2 c.values) m₂ m₃
    → Struck ns (column w 30722 3 c.parameters) m₃ m₄ → Struck ns (column w 43010 3 c.declarations) m₄ m₅ → Strikes w c ns m m₅
unfolding held_names
all_struck {c} {w} a b e f g = record {
  run = λ t k h.
      let r : column w 3 6 c.rows ≡ map row_name t.rows
      = column-is row_name void w 3 6 t.rows (λ i l. rw h.are (row_word t h.fits h.rest i 3 (3 + 6 * i) (omega (arith, h.fits.rows)) (omega arith) (omega arith))) c.rows k.rows in
      let s : column w 6146 4 c.members ≡ map (λ (x : Member). x.name) t.members
      = column-is (λ (x : Member). x.name) no_member w 6146 4 t.members (λ i l. rw h.are (member-word t h.fits h.rest i 2 (6146 + 4 * i) (omega (arith, h.fits.members)) (omega arith) (omega arith))) c.members k.members in
      let u : column w 22529 2 c.values ≡ map (λ (x : Value). x.name) t.values
      = column-is (λ (x : Value). x.name) no_value w 22529 2 t.values (λ i l. rw h.are (value-word t h.fits h.rest i 1 (22529 + 2 * i) (omega (arith, h.fits.values)) (omega arith) (omega arith))) c.values k.values in
      let p : column w 30722 3 c.parameters ≡ map (λ (x : Parameter). x.name) t.parameters
      = column-is (λ (x : Parameter). x.name) no_parameter w 30722 3 t.parameters (λ i l. rw h.are (parameter-word t h.fits h.rest i 2 (30722 + 3 * i) (omega (arith, h.fits.parameters)) (omega arith) (omega arith))) c.parameters k.parameters in
      let d : column w 43010 3 c.declarations ≡ map (λ (x : Declaration). x.name) t.declarations
      = column-is (λ (x : Declaration). x.name) no_declaration w 43010 3 t.declarations (λ i l. rw h.are (declaration-word t h.fits h.rest i 2 (43010 + 3 * i) (omega (arith, h.fits.declarations)) (omega arith) (omega arith))) c.declarations k.declarations in
      struck_on (struck_on (struck_on (struck_on (rw r at a) (rw s at b)) (rw u at e)) (rw p at f)) (rw d at g);
}

pub plain_in : {t : Table} {w : List ℕ} → Plain t w → InWords t w
plain_in p = record { fits = p.fits; rest = replicate (2 * max_names) 0; long = length-replicate {A = ℕ} (2 * max_names) 0; are = p.are }

-- of a text with these columns
pub named : {x : Lexed} {ks ps ns w : List ℕ} {t : Table} {r : ℕ} → ColumnsOf x ks ps ns → Filled ks ps ns t r w → NamesIn x t r w
unfolding name_table
named {x} {ks} {ps} {ns} {t = t} k f =
    let e : names_among (held_names t) ks ps ns ≡ name_table x t
    = ap (λ (l : List ℕ). names_among (held_names t) l ps ns) k.kinds ∙ (ap (λ (l : List ℕ). names_among (held_names t) x.tokens.kinds l ns) k.places
    ∙ ap (λ (l : List ℕ). names_among (held_names t) x.tokens.kinds x.places l) k.numbers) in
    record { are = f.are ∙ ap (λ (l : List ℕ). words (record { table = t; names = l })) e; count = f.count ∙ ap (λ (l : List ℕ). length l) e }

-- listed, struck out, and written
module _ {ks ps ns m m' w : List ℕ} {c : Cursor} (k : Columns ks ps ns) (l : Listed ks ps ns m) (s : Strikes w c ns m m') where
  pub ready : PlacesBelow ps (length m') → PlainWords c w → Ready ks ps ns m' w
  ready b h = record { columns = k; below = b; table = h.table; words = h.words; found = found k l (s.run h.table h.counts (plain_in h.words)) }

  pub filled : {w' : List ℕ} {r : ℕ} → Fills ks ps ns m' w r w' → WritesPlain ks ps ns c w r w'
  filled f = record { run = λ x t o n h. named o (f.run t h (found k l (s.run t n (plain_in h)))) }

-- once the index is cleared
module _ {w w' : List ℕ} (k : IndexCleared w w') where
  plain : {t : Table} {cs : List ℕ} (h : InWords t w) → Marked cs h.rest → Plain t w'
  plain {t} {cs} h m = record { fits = h.fits; are = k.run t cs h m }

  pub plain_words : {c : Cursor} → HeldWords c w → PlainWords c w'
  plain_words h =
      let p = plain h.words h.marks in
      record { table = h.table; counts = h.counts; words = p; long = plain_long h.table p; room = h.room }

  pub writes : {c : Cursor} {ks ps ns w'' : List ℕ} {r : ℕ} → WritesPlain ks ps ns c w' r w'' → Writes ks ps ns c w r w''
  writes f = record { run = λ x t o n h m. f.run x t o n (plain h m) }

-- what the parser leaves
pub held-words : {c : Cursor} {w d : List ℕ} {v : List ℤ} → Held c w d v → HeldWords c w
held-words h = record { table = h.table; counts = h.encodes.counts; words = h.encodes.words; marks = h.encodes.marks; long = h.long.words; room = h.room }
