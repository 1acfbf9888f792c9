-- `read_values::show` meets its contract: the runs are all fields.
-- Assumes nothing.
use native.Mathlib.Omega.{arith}
use Rattle.card.proofs.Runs.{both_then}
use Rattle.read_values.proofs.Values.{read_all}
use Rattle.read_values.proofs.show.Goals as goal

pub returns : goal.returns
returns c =
    let r1 = both_then c.show_run-word.ensures c.show_run-word-2.ensures in
    let r2 = both_then r1 c.show_run-word-3.ensures in
    let r3 = both_then r2 c.show_run-word-4.ensures in
    read_all _ _ _ _ _ (omega (arith, c.show_run-word-4.array_long, r3.long)) (both_then r3 c.show_run.ensures)
