-- What making fields missing leaves of a card whose checksum is not set yet.
use Rattle.std.specs.Prelude.{ℕ, ◌+◌, ◌*◌, ◌≤◌, ◌≡◌, cond, List, [], ◌∷◌, length}
use Rattle.format.specs.Bits.{total}
use Rattle.format.specs.Observation.{Observation}
use Rattle.format.specs.Report.{numbers_of, codes_of}
use Rattle.format.specs.Calls.{data_missing}
use Rattle.laws.proofs.Laid.{emptied}
use Rattle.card.specs.Answers.{Carded}

-- the buffer after has code 0 in the fields ks, and r is the sum of the codes that stood there
pub record Emptied (before after ks : List ℕ) (r : ℕ) : Type 0 where
  pub card : Carded before after (emptied (numbers_of before) ks)
  pub sum : r + total (codes_of after) ≡ total (codes_of before)
  pub small : r ≤ 65535 * length ks

-- TI, where its data are all missing
abbrev pub lost_tI : Observation → List ℕ
lost_tI s = cond (data_missing s (28 ∷ 29 ∷ 30 ∷ 31 ∷ [])) (27 ∷ []) []
