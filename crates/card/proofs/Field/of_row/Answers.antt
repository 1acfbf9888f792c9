-- `card::Field::of_row` meets its contract.
-- Assumes nothing.
use native.Mathlib.Omega.{arith}
use Rattle.card.proofs.Rows.{row_here}
use Rattle.card.proofs.Field.of_row.Goals as goal

pub invariant_of-result : goal.invariant_of-result
invariant_of-result c = record { low = omega arith; high = omega (arith, c.requires.place); row_of = row_here _ _ c.requires }
