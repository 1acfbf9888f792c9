-- `card::Field::at` meets its contract: the rows agree with the table.
-- Assumes nothing.
use native.Mathlib.Omega.{arith}
use Rattle.card.proofs.Rows.{row_number}
use Rattle.card.proofs.Field.at.Goals as goal

pub invariant_of-result : goal.invariant_of-result
invariant_of-result c = record { low = omega arith; high = omega arith; row_of = row_number _ _ c.requires.0 c.requires.1 c.row.ensures }
