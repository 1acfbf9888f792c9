-- `write_values::Lent::refusals` meets its contract: the runs are all fields.
-- Assumes nothing.
use native.Mathlib.Nat.{zero-add}
use mathlib.Core.Path.{◌∙◌}
use Rattle.card.proofs.Runs.{sum_then}
use Rattle.write_values.proofs.Lent.refusals.Goals as goal

pub returns : goal.returns
returns c =
    let r1 = sum_then c.refuse_run-sum.ensures c.refuse_run-sum-2.ensures in
    let r2 = sum_then r1 c.refuse_run-sum-3.ensures in
    let r3 = sum_then r2 c.refuse_run-sum-4.ensures in
    (sum_then r3 c.refuse_run.ensures).total ∙ zero-add _
