-- `text_reader::pairs` meets its contract.
-- Assumes nothing.
use native.Mathlib.Omega.{arith}
use Rattle.text_reader.proofs.PairRows.{beyond_pairs}
use Rattle.text_reader.proofs.pairs.Goals as goal

pub returns-in_default : goal.returns-in_default
returns-in_default c = beyond_pairs _ (omega arith)
