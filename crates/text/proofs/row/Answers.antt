-- `text::row` meets its contract.
-- Assumes nothing.
use native.Mathlib.Omega.{arith}
use Rattle.text.proofs.Rows.{beyond_rows}
use Rattle.text.proofs.row.Goals as goal

pub returns-in_default : goal.returns-in_default
returns-in_default c = (beyond_rows _ (omega arith), omega arith)
