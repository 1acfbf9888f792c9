-- `report::same` meets its contract.
-- Assumes nothing.
use Rattle.laws.proofs.Results.{bytes_in}
use Rattle.report.proofs.Observations.{compared}
use Rattle.report.proofs.same.Goals as goal

pub returns : goal.returns
returns c = compared _ _ _ (bytes_in _ c.type_inv.a) (bytes_in _ c.type_inv.b) _ _ c.in_ok-first.ensures.0 c.in_ok-second.ensures.0 _ c.eq.ensures
