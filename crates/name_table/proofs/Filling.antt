-- The names written one after the other. Assumes nothing.
use mathlib.Core.Path.{◌≡◌, refl, sym, ap, ◌∙◌}
use mathlib.Core.Bool.{Bool, true, false, ◌&&◌, false≢true}
use mathlib.Core.List.{List, [], ◌∷◌, ◌++◌, append_assoc, append-nil}
use Prim.Native.Nat.{ℕ, ◌+◌, ◌*◌, ◌<◌}
use native.Mathlib.Omega.{arith}
use lib.ListN.{length, get_or, set, drop, replicate, length-append, length-replicate}
use lib.Seq.{drop-length}
use Rattle.definition.specs.Name.{offset_of, length_of}
use Rattle.definition.specs.Limit.{max_names}
use Rattle.definition.specs.Table.{Table}
use Rattle.definition.specs.NameTable.{held_names, is_held, names_among}
use Rattle.definition.specs.Lent.{padded, flat, name_words, table_words, words}
use Rattle.definition.specs.Region.{words_length, names_at}
use Rattle.lemmas.proofs.Lists.{drop-next}
use Rattle.table.specs.Held.{reading_words, Fits}
use Rattle.table.proofs.Regions.{table-long, words_long}
use Rattle.table.specs.Store.{stored}
use Rattle.table.proofs.Flat.{region-add}
use Rattle.definition_laws.specs.Columns.{Columns}
use Rattle.name_table.specs.Names.{is_first, Plain}
use Rattle.name_table.specs.Striking.{is_found, Found, Fills, Ready}

-- ---- one token more

module _ (n : ℕ) (rest : List ℕ) where
  abbrev pick : Bool → Bool → List ℕ
  pick a b = elim a [ true ↦ elim b [ true ↦ n ∷ rest | false ↦ rest ] | false ↦ rest ]

  picked : (a b z : Bool) → (a ≡ true → z ≡ b) → (a && z) ≡ true → pick a b ≡ n ∷ rest
  picked true b z h e = rw (sym (h refl) ∙ e)
  picked false b z h e = absurd (false≢true e)

  passed : (a b z : Bool) → (a ≡ true → z ≡ b) → (a && z) ≡ false → pick a b ≡ rest
  passed true b z h e = rw (sym (h refl) ∙ e)
  passed false b z h e = refl

module _ (held ks ps ns : List ℕ) (i : ℕ) (l : i < length ks) (c : Columns ks ps ns) where
  abbrev later : ℕ → List ℕ
  later j = names_among held (drop j ks) (drop j ps) (drop j ns)

  among-step : later i ≡ pick (get_or ns i 0) (later (i + 1)) (is_first ks ps ns i) (is_held (get_or ns i 0) held)
  unfolding names_among
  among-step = rw (drop-next ks i 0 l, drop-next ps i 0 (omega (arith, c.places)), drop-next ns i 0 (omega (arith, c.numbers)))

-- ---- the loop

pub record Going (ks ps ns : List ℕ) (t : Table) (i count : ℕ) (w : List ℕ) : Type 0 where
  pub done : List ℕ
  pub holds : w ≡ words (record { table = t; names = done })
  pub counted : count ≡ length done
  pub whole : names_among (held_names t) ks ps ns ≡ done ++ names_among (held_names t) (drop i ks) (drop i ps) (drop i ns)

-- a name more in its region
write-one : (t : Table) → Fits t → (done : List ℕ) (n b : ℕ) → b ≡ names_at + 2 * length done → length done < max_names
    → set (set (words (record { table = t; names = done })) b (offset_of n)) (b + 1) (length_of n) ≡ words (record { table = t; names = done ++ n ∷ [] })
unfolding words
write-one t f done n b e l =
    ap (λ (x : List ℕ). stored (table_words t ++ x) b (name_words n)) (sym (append-nil (padded 0 (2 * max_names) (flat name_words done))))
    ∙ (region-add name_words 2 (λ y. refl) 0 names_at (2 * max_names) (table_words t) [] (table-long t f) done n b e (omega arith)
    ∙ ap (λ (x : List ℕ). table_words t ++ x) (append-nil (padded 0 (2 * max_names) (flat name_words (done ++ n ∷ [])))))

-- no names yet
no_names : (t : Table) → reading_words t (replicate (2 * max_names) 0) ≡ words (record { table = t; names = [] })
unfolding reading_words words padded flat
no_names t = refl

-- of whatever table the slice held
pub record Written (ks ps ns m w₀ : List ℕ) (i count : ℕ) (w : List ℕ) : Type 0 where
  pub of : (t : Table) → Plain t w₀ → Found ks ps ns m (held_names t) → Going ks ps ns t i count w

pub write_start : (ks ps ns m w : List ℕ) → Written ks ps ns m w 0 0 w
write_start ks ps ns m w = record { of = λ t h f. record { done = []; holds = h.are ∙ no_names t; counted = refl; whole = refl } }

module _ {ks ps ns m w₀ w : List ℕ} {i count : ℕ} (c : Columns ks ps ns) (g : Written ks ps ns m w₀ i count w) where
  pub write_end : i ≡ length ks → Fills ks ps ns m w₀ count w
  unfolding names_among
  write_end e = record {
    run = λ t h f.
        let g = g.of t h f in
        let a : drop i ks ≡ [] = rw e (drop-length ks) in
        let b : names_among (held_names t) ks ps ns ≡ g.done = g.whole ∙ (ap (λ (x : List ℕ). g.done ++ names_among (held_names t) x (drop i ps) (drop i ns)) a ∙ append-nil g.done) in
        record { are = rw b g.holds; count = rw b g.counted };
  }

  module _ (l : i < length ks) where
    pub write_skip : is_found ks ps ns m i ≡ false → Written ks ps ns m w₀ (i + 1) count w
    write_skip e = record {
      of = λ t h f.
          let g = g.of t h f in
          record {
            done = g.done;
            holds = g.holds;
            counted = g.counted;
            whole = g.whole ∙ ap (λ (x : List ℕ). g.done ++ x) (among-step (held_names t) ks ps ns i l c ∙ passed _ _ (is_first ks ps ns i) _ _ (f.at i l) e);
          };
    }

    module _ (e : is_found ks ps ns m i ≡ true) where
      more : (t : Table) (f : Found ks ps ns m (held_names t)) (g : Going ks ps ns t i count w)
          → names_among (held_names t) ks ps ns ≡ g.done ++ get_or ns i 0 ∷ names_among (held_names t) (drop (i + 1) ks) (drop (i + 1) ps) (drop (i + 1) ns)
      more t f g = g.whole ∙ ap (λ (x : List ℕ). g.done ++ x) (among-step (held_names t) ks ps ns i l c ∙ picked _ _ (is_first ks ps ns i) _ _ (f.at i l) e)

      room : (t : Table) (f : Found ks ps ns m (held_names t)) (g : Going ks ps ns t i count w) → count < max_names
      room t f g = omega (arith, c.few t, g.counted, simp length-append at (ap length (more t f g)))

      pub write_room : Ready ks ps ns m w₀ → count < max_names
      write_room r = room r.table r.found (g.of r.table r.words r.found)

      pub write_take : Written ks ps ns m w₀ (i + 1) (count + 1) (set (set w (names_at + 2 * count) (offset_of (get_or ns i 0))) (names_at + 2 * count + 1) (length_of (get_or ns i 0)))
      write_take = record {
        of = λ t h f.
            let g = g.of t h f in
            let r = room t f g in
            record {
              done = g.done ++ get_or ns i 0 ∷ [];
              holds = rw g.holds (write-one t h.fits g.done (get_or ns i 0) (names_at + 2 * count) (omega (arith, g.counted)) (omega (arith, g.counted)));
              counted = rw length-append (omega (arith, g.counted));
              whole = more t f g ∙ sym (append_assoc g.done (get_or ns i 0 ∷ []) _);
            };
      }

pub plain_long : {w : List ℕ} (t : Table) → Plain t w → length w ≡ words_length
plain_long t h = rw h.are (words_long t h.fits (replicate (2 * max_names) 0) (length-replicate {A = ℕ} (2 * max_names) 0))
