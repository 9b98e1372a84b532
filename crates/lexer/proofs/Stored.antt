-- Laws of the search in a tree, and of a name stored after it. Assumes nothing.
use mathlib.Core.Path.{◌≡◌, refl, sym, ap, ◌∙◌}
use mathlib.Core.Bool.{Bool, true, false}
use mathlib.Core.List.{List}
use Prim.Native.Nat.{ℕ, ◌+◌, ◌-◌, ◌<◌}
use native.Mathlib.Omega.{arith}
use lib.ListN.{get_or, set, take}
use Rattle.definition.specs.Text.{Bytes}
use Rattle.definition.specs.Scan.{from}
use Rattle.definition.specs.Name.{name_of}
use Rattle.spellings.specs.Names.{spelled_by, is_name_of}
use Rattle.spellings.specs.Chain.{slot, Reach, Met, Missed}
use Rattle.spellings.proofs.Found.{name_was, name-is, spelled-new}
use Rattle.spellings.proofs.Kept.{chained-known, chained-new}
use Rattle.lexer.specs.Names.{Searches, found, fresh, Stores}

module _ (text : Bytes) (ks ps ns ls : List ℕ) (heads count at end : ℕ) (s : Searches text ks ps ns ls heads count at end) where
  abbrev word : Bytes
  word = take (end - at) (from text at)

  module _ (head : ℕ) (is : head ≡ slot word heads) where
    -- where the tree has no token of this spelling, no token has it
    none-met : ((j : ℕ) → Reach heads ls word 0 head j → is_name_of text word (get_or ks j 0) (get_or ns j 0) ≡ false) → (j : ℕ) → j < count → (t : Bool)
        → is_name_of text word (get_or ks j 0) (get_or ns j 0) ≡ t → is_name_of text word (get_or ks j 0) (get_or ns j 0) ≡ false
    none-met f j p false e = e
    none-met f j p true e =
        let b = name_was text word (get_or ks j 0) (get_or ns j 0) e in
        let u = s.chained.chain j p b.0 in
        let r : Reach heads ls word 0 (slot word heads) u.0 = rw (sym b.1) at u.1 in
        let y = f u.0 (rw is r) in
        let z = name-is text word (get_or ks u.0 0) (get_or ns u.0 0) u.3 (ap (λ (n : ℕ). spelled_by text n) u.2 ∙ sym b.1) in
        let x = sym z ∙ y in
        let w : ◌≡◌ {A = ℕ} 0 1 = cc in absurd (omega arith)

    module _ (kind n : ℕ) {ks' ps' ns' ls' : List ℕ} (a : ks' ≡ set ks count kind) (b : ps' ≡ set ps count at) (c : ns' ≡ set ns count n) where
      -- with the name of a token before
      pub stored-known : Met text word ks ns count n → ls' ≡ ls → Stores text ks ps ns heads count kind at end ks' ps' ns' ls'
      stored-known m d =
          let u = name_was text word (get_or ks m.token 0) (get_or ns m.token 0) m.spells in
          record {
            number = n;
            finds = found m.token m.before m.spells m.same;
            kinds = a;
            places = b;
            numbers = c;
            chained = rw (a, c, d) (chained-known text ks ns ls heads count kind n s.chained s.kinds s.numbers m.token m.before u.0 m.same);
          }

      -- with a new one
      pub stored-new : (i : ℕ) → Missed text word ks ns ls count heads head i → n ≡ name_of at (end - at) → ls' ≡ set ls i (count + 1) → Stores text ks ps ns heads count kind at end ks' ps' ns' ls'
      stored-new i m y d =
          let w = spelled-new text at end n s.on s.ends s.short y in
          let k = s.links in
          let l = m.within in
          record {
            number = n;
            finds = fresh (λ j p. none-met m.none j p (is_name_of text word (get_or ks j 0) (get_or ns j 0)) refl) y;
            kinds = a;
            places = b;
            numbers = c;
            chained = rw (a, c, d) (chained-new text ks ns ls heads count kind n s.chained s.kinds s.numbers i m.free m.within (omega (arith, l, k)) (λ t j h e. rw (w, ← is) (m.path t j h e)));
          }
