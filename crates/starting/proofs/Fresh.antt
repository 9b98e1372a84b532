-- The first table: slices of zeros hold it. Assumes nothing.
use mathlib.Core.Path.{◌≡◌, refl, sym, ap, ◌∙◌}
use mathlib.Core.List.{List, [], ◌++◌, append_assoc}
use Prim.Native.Nat.{ℕ, zero, suc, ◌+◌, ◌-◌, ◌*◌, ◌≤◌, ◌<◌}
use native.Mathlib.Omega.{arith}
use lib.IntN.{ℤ, pos}
use lib.ListN.{length, get_or, replicate, length-replicate, get_or-replicate, replicate-append-replicate}
use Rattle.definition.specs.Limit.{max_rows, max_members, max_values, max_parameters, max_declarations, max_names}
use Rattle.definition.specs.Row.{void, kind_of, target_of, flags_of, row_name, span_of, extent_of}
use Rattle.definition.specs.Table.{new_table}
use Rattle.definition.specs.Lent.{padded, flat, table_words, wides, signeds}
use Rattle.definition.specs.Region.{words_length, wides_length, signeds_length}
use Rattle.table.specs.Held.{reading_words, marks_at, counts_of, Fits, BoundedAt, Encodes}
use Rattle.table.specs.declared.Cursor.{Cursor}

module _ {E : Type 0} (z : E) where
  all-zero : (n k : ℕ) → k ≤ n → padded z n (replicate k z) ≡ replicate n z
  unfolding padded
  all-zero n k p = rw length-replicate (replicate-append-replicate k (n - k) z ∙ (let e : k + (n - k) ≡ n = omega arith in ap (λ m. replicate m z) e))

  two : (a b : ℕ) → replicate a z ++ replicate b z ≡ replicate (a + b) z
  two a b = replicate-append-replicate a b z

  -- zeros after zeros, part by part
  and_more : (xs : List E) (a b : ℕ) → xs ≡ replicate b z → replicate a z ++ xs ≡ replicate (a + b) z
  and_more xs a b e = ap (λ l. replicate a z ++ l) e ∙ two a b

-- the parts of the first table, whatever their sizes
module _ (a b c d e f : ℕ) where
  abbrev sum : ℕ
  sum = a + (b + (c + (d + (e + f))))

  five : {ys : List ℕ} → ys ≡ replicate f 0 → replicate e 0 ++ ys ≡ replicate (e + f) 0
  five p = and_more 0 _ e f p

  six : (A B C D E F : List ℕ) → A ≡ replicate a 0 → B ≡ replicate b 0 → C ≡ replicate c 0 → D ≡ replicate d 0 → E ≡ replicate e 0 → F ≡ replicate f 0
      → (A ++ (B ++ (C ++ (D ++ E)))) ++ F ≡ replicate sum 0
  six A B C D E F p q r s u v =
      append_assoc A (B ++ (C ++ (D ++ E))) F
      ∙ (ap (λ l. l ++ ((B ++ (C ++ (D ++ E))) ++ F)) p
      ∙ and_more 0 ((B ++ (C ++ (D ++ E))) ++ F) a (b + (c + (d + (e + f)))) (append_assoc B (C ++ (D ++ E)) F
      ∙ (ap (λ l. l ++ ((C ++ (D ++ E)) ++ F)) q
      ∙ and_more 0 ((C ++ (D ++ E)) ++ F) b (c + (d + (e + f))) (append_assoc C (D ++ E) F
      ∙ (ap (λ l. l ++ ((D ++ E) ++ F)) r
      ∙ and_more 0 ((D ++ E) ++ F) c (d + (e + f)) (append_assoc D E F
      ∙ (ap (λ l. l ++ (E ++ F)) s
      ∙ and_more 0 (E ++ F) d (e + f) (ap (λ l. l ++ F) u ∙ and_more 0 F e f v))))))))

-- the cursor at the first token: row 0 is there
abbrev pub first_cursor : Cursor
first_cursor = record { at = 0; rows = 1; members = 0; values = 0; parameters = 0; declarations = 0 }

words-zero : (n : ℕ) → n ≡ words_length → reading_words new_table (replicate (2 * max_names) 0) ≡ replicate n 0
unfolding reading_words table_words flat kind_of target_of flags_of row_name span_of padded
words-zero n p = six (6 * max_rows) (4 * max_members) (2 * max_values) (3 * max_parameters) (3 * max_declarations) (2 * max_names) _ _ _ _ _ _
    (all-zero 0 (6 * max_rows) 6 (omega arith)) (all-zero 0 (4 * max_members) 0 (omega arith)) (all-zero 0 (2 * max_values) 0 (omega arith)) (all-zero 0 (3 * max_parameters) 0 (omega arith))
    (all-zero 0 (3 * max_declarations) 0 (omega arith)) refl
    ∙ (let e : words_length ≡ n = sym p in ap (λ m. replicate m 0) e)

wides-zero : (n : ℕ) → n ≡ wides_length → wides new_table ≡ replicate n 0
unfolding wides flat extent_of
wides-zero n p = ap (λ l. l ++ padded 0 (2 * max_members) []) (all-zero 0 max_rows 1 (omega arith)) ∙ (and_more 0 (padded 0 (2 * max_members) []) max_rows (2 * max_members) (all-zero 0 (2 * max_members) 0 (omega arith))
    ∙ (let e : wides_length ≡ n = sym p in ap (λ m. replicate m 0) e))

signeds-zero : (n : ℕ) → n ≡ signeds_length → signeds new_table ≡ replicate n (pos 0)
unfolding signeds flat
signeds-zero n p = all-zero (pos 0) max_values 0 (omega arith) ∙ (let e : 4096 ≡ n = sym p in ap (λ m. replicate m (pos 0)) e)

-- row 0 has no name
first-row : (i : ℕ) → i < length new_table.rows → BoundedAt (get_or new_table.rows i void) i (replicate (2 * max_names) 0)
unfolding row_name
first-row zero p = record { some = λ q. absurd (omega arith); first = λ q. absurd (omega arith) }
first-row (suc i) p = absurd (omega arith)

-- the first row is the only entry, and its number is 0
no_more : (k : ℕ) → get_or (counts_of first_cursor) k 0 ≤ get_or (replicate (2 * max_names) 0) (marks_at + k) 0 + 1
no_more zero = omega arith
no_more (suc zero) = omega arith
no_more (suc (suc zero)) = omega arith
no_more (suc (suc (suc zero))) = omega arith
no_more (suc (suc (suc (suc zero)))) = omega arith
no_more (suc (suc (suc (suc (suc k))))) = omega arith

-- slices of zeros, as long as the limits ask, hold the first table
pub fresh : (w d : List ℕ) (v : List ℤ) → length w ≡ words_length → length d ≡ wides_length → length v ≡ signeds_length
    → w ≡ replicate (length w) 0 → d ≡ replicate (length d) 0 → v ≡ replicate (length v) (pos 0) → Encodes new_table first_cursor w d v
fresh w d v p q r a b c =
    let f : Fits new_table = record { rows = omega arith; members = omega arith; values = omega arith; parameters = omega arith; declarations = omega arith } in
    record {
      counts = record { rows = refl; members = refl; values = refl; parameters = refl; declarations = refl };
      words = record { fits = f; rest = replicate (2 * max_names) 0; long = length-replicate {A = ℕ} (2 * max_names) 0; are = a ∙ sym (words-zero (length w) p) };
      index = record { rows = first-row; values = λ i p. absurd (omega arith) };
      marks = record { last = no_more; blank = λ j p q. get_or-replicate (2 * max_names) j 0 0 (omega arith) };
      wides = record { fits = f; are = b ∙ sym (wides-zero (length d) q) };
      signeds = record { fits = f; are = c ∙ sym (signeds-zero (length v) r) };
    }
