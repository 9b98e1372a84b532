-- What a call of either entry leaves, for every text, every number of a model and every length of the lent slices. Assumes nothing.
-- That every text has exactly one outcome needs no theorem: `outcome` is a function.
use mathlib.Core.Path.{◌≡◌, refl}
use mathlib.Core.Bool.{Bool, true}
use Prim.Native.Nat.{ℕ}
use native.Mathlib.Omega.{arith}
use Rattle.definition.specs.Answer.{Answer, got, refused}
use Rattle.definition.specs.Text.{Bytes}
use Rattle.definition.specs.Model.{model_of}
use Rattle.definition.specs.Entry.{Entry, Accepted, read_with, read, Outcome, accepted, rejected, told, outcome}
use Rattle.definition.specs.Lent.{Lent, long_enough, left_in}
use Rattle.definition_laws.specs.Every.{Every}
use Rattle.definition_laws.specs.Inside.{Acceptable}
use Rattle.definition_laws.specs.Left.{AllZero, AsLong, Filled}
use Rattle.definition_laws.proofs.Every.{got!, no!, test!, option!, then! }
use Rattle.definition_laws.proofs.Spaced.{tokenize-few}
use Rattle.definition_laws.proofs.Inside.{parse-inside}
use Rattle.definition_laws.proofs.Left.{long-enough, refused-zero, refused-long, accepted-filled, accepted-long}

-- what is accepted, and where the slices are long enough only
record Granted (lentEnough : Bool) (a : Accepted) : Type 0 where
  enough : lentEnough ≡ true
  acceptable : Acceptable a

read_granted : (model : ℕ) (lentEnough : Bool) (entry : Entry) (text : Bytes) → Every (Granted lentEnough) (read model lentEnough entry text)
unfolding read read_with
read_granted model lentEnough entry text = option! (model_of model)
    (λ m e. test! lentEnough (λ q. then! _ _ (tokenize-few text) λ x k. then! _ _ (parse-inside x m entry) λ t h. got! (record { enough = q; acceptable = record { inside = h; names = k.few t } })) (λ q. no!)) no!

outcome_granted : (model : ℕ) (lentEnough : Bool) (entry : Entry) (text : Bytes) (a : Accepted) → outcome model lentEnough entry text ≡ accepted a → Granted lentEnough a
unfolding outcome told
outcome_granted model lentEnough entry text a e = go (read model lentEnough entry text) (read_granted model lentEnough entry text) e
  where
    go : (r : Answer Accepted) → Every (Granted lentEnough) r → told text r ≡ accepted a → Granted lentEnough a
    go (got b) h e = let z : b ≡ a = cc in h.of a (rw z)
    go (refused n at) h e = let z : ◌≡◌ {A = ℕ} 0 1 = cc in absurd (omega arith)

pub outcome-acceptable : (model : ℕ) (lentEnough : Bool) (entry : Entry) (text : Bytes) (a : Accepted) → outcome model lentEnough entry text ≡ accepted a → Acceptable a
outcome-acceptable model lentEnough entry text a e = (outcome_granted model lentEnough entry text a e).acceptable

module _ (l : Lent) (model : ℕ) (entry : Entry) (text : Bytes) where
  -- no slice changes its length
  pub lengths-kept : AsLong l (left_in l (outcome model (long_enough l) entry text))
  lengths-kept = go (outcome model (long_enough l) entry text) (outcome_granted model (long_enough l) entry text)
    where
      go : (o : Outcome) → ((a : Accepted) → o ≡ accepted a → Granted (long_enough l) a) → AsLong l (left_in l o)
      go (accepted a) h = let k = h a refl in accepted-long l a k.acceptable.inside.limits k.acceptable.names (long-enough l k.enough)
      go (rejected n at line column) h = refused-long l n at line column

  -- on acceptance the slices hold the table, and zeros after it
  pub accepted-table : (a : Accepted) → outcome model (long_enough l) entry text ≡ accepted a → Filled a (left_in l (outcome model (long_enough l) entry text))
  accepted-table a e = let k = outcome_granted model (long_enough l) entry text a e in rw e (accepted-filled l a k.acceptable.inside.limits k.acceptable.names)

  -- on refusal they hold zeros
  pub rejected-zero : (n at line column : ℕ) → outcome model (long_enough l) entry text ≡ rejected n at line column → AllZero (left_in l (outcome model (long_enough l) entry text))
  rejected-zero n at line column e = rw e (refused-zero l n at line column)
