-- `flags::weigh` meets its contract.
-- Assumes nothing.
use Rattle.flags.proofs.Planes.{weighed}
use Rattle.flags.proofs.weigh.Goals as goal

pub returns : goal.returns
returns c = rw c.from.ensures (weighed _ _ c.steps.ensures)
