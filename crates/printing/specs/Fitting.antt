-- What a buffer holds after a write: a buffer that is long enough holds the bytes at their place and is else as it was, and the answer is the place after
-- them, whether the buffer was long enough or not.
use Rattle.std.specs.Prelude.{◌≡◌, [], ◌∷◌, ◌++◌, ℕ, suc, ◌+◌, ◌≤◌, ◌<◌, length, set, take, drop}
use Rattle.std.proofs.Common.{ap, ◌∙◌, arith, add-one, lt-ltb}
use Rattle.std.proofs.lemmas.List.Edits.{sets, sets-eq}
use Rattle.definition.specs.Text.{Bytes}
use Rattle.printing.specs.Written.{Buffer, buffer, most_counted, counted, write, Wrote}

one_more : (n : ℕ) → n < most_counted → counted n ≡ suc n
unfolding counted
one_more n h = rw (lt-ltb n most_counted h, counted) (add-one n)

stores : (bs out : Bytes) (n : ℕ) → n + length bs ≤ most_counted → write (buffer out n) bs ≡ buffer (sets out n bs) (n + length bs)
unfolding write
stores [] out n h = let e : n ≡ n + 0 = omega arith in ap (λ k. buffer out k) e
stores (b ∷ bs) out n h =
    let e : suc n + length bs ≡ n + suc (length bs) = omega arith in
    ap (λ k. write (buffer (set out n b) k) bs) (one_more n (omega arith)) ∙ (stores bs (set out n b) (suc n) (omega arith) ∙ ap (λ k. buffer (sets (set out n b) (suc n) bs) k) e)

module _ {bs out : Bytes} {n : ℕ} {out' : Bytes} {n' : ℕ} (p : Wrote bs out n out' n') where
  pub after : n + length bs ≤ most_counted → n' ≡ n + length bs
  after h = ap (λ (b : Buffer). b.at) (p.is ∙ stores bs out n h)

  pub holds : n + length bs ≤ length out → length out ≤ most_counted → out' ≡ take n out ++ bs ++ drop (n + length bs) out
  holds h k = ap (λ (b : Buffer). b.bytes) (p.is ∙ stores bs out n (omega arith)) ∙ sets-eq bs out n h
