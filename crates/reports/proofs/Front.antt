-- Slices that an accepted text left: their front holds the table. Assumes nothing.
use mathlib.Core.Path.{◌≡◌, refl, sym, ap, subst, ◌∙◌}
use mathlib.Core.List.{List}
use Prim.Native.Nat.{ℕ, ◌-◌, ◌*◌, ◌≤◌}
use native.Mathlib.Omega.{arith}
use lib.IntN.{ℤ, pos}
use lib.ListN.{length, take, replicate, length-append}
use lib.Seq.{take_at}
use Rattle.definition.specs.Limit.{max_names}
use Rattle.definition.specs.Text.{Bytes}
use Rattle.definition.specs.Model.{Model}
use Rattle.definition.specs.Listing.{listing}
use Rattle.definition.specs.Table.{Table as MeantTable}
use Rattle.definition.specs.Entry as meant
use Rattle.definition.specs.Lent.{Lent, padded, flat, name_words, words, wides, signeds, left_in}
use Rattle.definition.specs.Region.{words_length, wides_length, signeds_length}
use Rattle.definition_laws.specs.Inside.{WithinLimits, Acceptable}
use Rattle.definition_laws.proofs.Left.{words-length, wides-length, signeds-length}
use Rattle.table.specs.Held.{reading_words, Fits, Stands, Room}
use Rattle.table.specs.declared.Cursor.{Cursor}
use Rattle.table.proofs.Flat.{length-padded, length-flat}
use Rattle.clearing.specs.Slices.{lent}
use Rattle.entry_points.specs.Answers.{counts_of}
use Rattle.entry_points.specs.declared.Counts.{Counts}
use Rattle.printing.specs.declared.Writer.{Writer}
use Rattle.lines.specs.Lines.{WritesAs}
use Rattle.reports.specs.Printed.{cursor_of, Table, Lists}

-- ---- numbers with zeros after them

module _ {E : Type 0} (z : E) (n : ℕ) (xs : List E) where
  padded-least : length xs ≤ length (padded z n xs)
  unfolding padded
  padded-least = omega (arith, length-append xs (replicate (n - length xs) z))

  padded-front : (k : ℕ) → length xs ≡ k → take k (padded z n xs) ≡ xs
  unfolding padded
  padded-front k e = take_at xs (replicate (n - length xs) z) k e

-- ---- the table with its names

abbrev name_numbers : meant.Accepted → List ℕ
name_numbers a = padded 0 (2 * max_names) (flat name_words a.names)

names-long : (a : meant.Accepted) → length a.names ≤ max_names → length (name_numbers a) ≡ 2 * max_names
names-long a p = length-padded 0 (2 * max_names) (flat name_words a.names) (rw (length-flat name_words 2 (λ x. refl) a.names) (omega arith))

-- the names stand where the index did
with-names : (a : meant.Accepted) → words a ≡ reading_words a.table (name_numbers a)
unfolding reading_words words
with-names a = refl

fits : (t : MeantTable) → WithinLimits t → Fits t
fits t h = record { rows = h.rows; members = h.members; values = h.values; parameters = h.parameters; declarations = h.declarations }

-- what the slices hold
module _ (l : Lent) (a : meant.Accepted) (k : Acceptable a) {w d : List ℕ} {v : List ℤ} (e : lent w d v ≡ left_in l (meant.accepted a)) where
  abbrev h : WithinLimits a.table
  h = k.inside.limits

  words_are : w ≡ padded 0 (length l.words) (words a)
  unfolding left_in
  words_are = ap (λ (z : Lent). z.words) e

  wides-are : d ≡ padded 0 (length l.wides) (wides a.table)
  unfolding left_in
  wides-are = ap (λ (z : Lent). z.wides) e

  signeds-are : v ≡ padded (pos 0) (length l.signeds) (signeds a.table)
  unfolding left_in
  signeds-are = ap (λ (z : Lent). z.signeds) e

  words_long : words_length ≤ length w
  words_long = rw words_are (omega (arith, padded-least 0 (length l.words) (words a), words-length a h k.names))

  wides-long : wides_length ≤ length d
  wides-long = rw wides-are (omega (arith, padded-least 0 (length l.wides) (wides a.table), wides-length a.table h))

  signeds-long : signeds_length ≤ length v
  signeds-long = rw signeds-are (omega (arith, padded-least (pos 0) (length l.signeds) (signeds a.table), signeds-length a.table h))

  -- the table stands in their front
  front-holds : Stands a.table (cursor_of (counts_of a)) (take words_length w) (take wides_length d) (take signeds_length v)
  front-holds = record {
    counts = record { rows = refl; members = refl; values = refl; parameters = refl; declarations = refl };
    words = record {
      fits = fits a.table h;
      rest = name_numbers a;
      long = names-long a k.names;
      are = rw words_are (padded-front 0 (length l.words) (words a) words_length (words-length a h k.names) ∙ with-names a);
    };
    wides = record { fits = fits a.table h; are = rw wides-are (padded-front 0 (length l.wides) (wides a.table) wides_length (wides-length a.table h)) };
    signeds = record { fits = fits a.table h; are = rw signeds-are (padded-front (pos 0) (length l.signeds) (signeds a.table) signeds_length (signeds-length a.table h)) };
  }

module _ {c : Counts} {w d : List ℕ} {v : List ℤ} (x : Table c w d v) where
  pub words-there : words_length ≤ length w
  words-there = words_long x.of x.all x.acceptable x.left

  pub wides-there : wides_length ≤ length d
  wides-there = wides-long x.of x.all x.acceptable x.left

  pub signeds-there : signeds_length ≤ length v
  signeds-there = signeds-long x.of x.all x.acceptable x.left

  pub room : Room (cursor_of c)
  room = let h = x.acceptable.inside.limits in subst (λ (y : Counts). Room (cursor_of y)) (sym x.counts) (record { rows = h.rows; members = h.members; values = h.values; parameters = h.parameters; declarations = h.declarations })

  pub holds : Stands x.all.table (cursor_of c) (take words_length w) (take wides_length d) (take signeds_length v)
  holds = subst (λ (y : Counts). Stands x.all.table (cursor_of y) (take words_length w) (take wides_length d) (take signeds_length v)) (sym x.counts)
      (front-holds x.of x.all x.acceptable x.left)

-- what is listed of their front
pub listed : {text : Bytes} {m : Model} {c : Counts} {w d : List ℕ} {v : List ℤ} {o o' : Writer} (k : Cursor) → k ≡ cursor_of c
    → WritesAs (λ (t : MeantTable). Stands t k (take words_length w) (take wides_length d) (take signeds_length v)) (λ (t : MeantTable). listing text m t) o o' → Lists text m c w d v o o'
listed {w = w} {d} {v} k p f = record {
  same = f.kept.same;
  of = λ x. f.of x.all.table (subst (λ (z : Cursor). Stands x.all.table z (take words_length w) (take wides_length d) (take signeds_length v)) (sym p) (holds x));
}
