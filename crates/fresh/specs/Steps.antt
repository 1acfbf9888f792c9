-- What the parts of fresh know and leave.
use Rattle.std.specs.Prelude.{ℕ, ◌≤◌, cond, List, [], ◌∷◌, ◌++◌, Result, Ok, Err}
use Rattle.format.specs.Order.{Refusal}
use Rattle.format.specs.Field.{field_at, in_range, coded_of, BOX10, YEAR, MONTH, X, Y}
use Rattle.format.specs.Observation.{checksum}
use Rattle.format.specs.Calls.{over}
use Rattle.format.specs.Buffer.{zeros}
use Rattle.format.specs.declared.Coded.{Coded}
use Rattle.format.specs.declared.Scaled.{Scaled}
use Rattle.fresh.specs.declared.Codes.{Codes}

-- the coded number of a value of field k, or 9 where the value is out of range
unfoldable pub required_code : ℕ → Scaled → Result Coded Refusal
required_code k v = cond (in_range (field_at k) v) (Ok (coded_of (field_at k) v)) (Err (record { number = 9; place = k }))

-- each of five coded numbers fits its field
pub record FiveFit (c : Codes) : Type 0 where
  pub first : c.box10.0 ≤ (field_at BOX10).highest
  pub second : c.year.0 ≤ (field_at YEAR).highest
  pub third : c.month.0 ≤ (field_at MONTH).highest
  pub sixth : c.x.0 ≤ (field_at X).highest
  pub seventh : c.y.0 ≤ (field_at Y).highest

-- the coded fields of a card that has these five, all else missing
unfoldable pub five_codes : Codes → List ℕ
five_codes c = c.box10.0 ∷ c.year.0 ∷ c.month.0 ∷ 0 ∷ 0 ∷ c.x.0 ∷ c.y.0 ∷ zeros 39

-- all its numbers, with RPTIN 0 and no attachment
abbrev pub five_numbers : Codes → List ℕ
five_numbers c = 0 ∷ (five_codes c ++ (checksum (five_codes c) ∷ 0 ∷ []))

-- a buffer with its first 38 bytes cleared
unfoldable pub cleared : List ℕ → List ℕ
cleared b = over (zeros 38) b
