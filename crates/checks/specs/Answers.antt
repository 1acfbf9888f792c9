-- What checking the fields of a card answers.
use Rattle.std.specs.Prelude.{ℕ, List, Result, Ok, Err}
use Rattle.std.proofs.Math.Option.{Option, none, some}
use Rattle.format.specs.Order.{Refusal, first}
use Rattle.format.specs.Field.{table}
use Rattle.format.specs.Observation.{checksum}
use Rattle.format.specs.Report.{codes_of, field_checks}

-- the first refusal of a field, 2 or 3, or the checksum of the coded fields
abbrev pub checked_of : Option Refusal → ℕ → Result ℕ Refusal
checked_of (some r) n = Err r
checked_of none n = Ok n

unfoldable pub card_check : List ℕ → Result ℕ Refusal
card_check b = checked_of (first (field_checks 1 table (codes_of b))) (checksum (codes_of b))
