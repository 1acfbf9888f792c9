-- `flags::steps` meets its contract.
-- Assumes nothing.
use Rattle.flags.proofs.Planes.{over_below}
use Rattle.flags.proofs.steps.Goals as goal

pub overflow_sub-result : goal.overflow_sub-result
overflow_sub-result c =
    over_below c.args.flags _ _ _ _ c.plane-a.ensures c.plane-b.ensures c.plane-c.ensures c.plane-d.ensures _ c.over_ten.ensures
