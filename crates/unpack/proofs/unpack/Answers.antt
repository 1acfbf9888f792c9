-- `unpack::unpack` meets its contract.
-- Assumes nothing.
use Rattle.laws.proofs.Results.{err_is}
use Rattle.report.proofs.Found.{inspect_found}
use Rattle.unpack.proofs.Outcomes.{unpack_refused}
use Rattle.unpack.proofs.unpack.Goals as goal

pub give-requires : goal.give-requires
give-requires c = (_, inspect_found _ _ _ _ c.inspect.ensures _ c.in_ok-report.was)

pub returns-in_err-report : goal.returns-in_err-report
returns-in_err-report c = rw (err_is _ _ c.from_residual.ensures.1) (unpack_refused _ _ _ _ _ c.in_err-report.ensures)

pub returns : goal.returns
returns c = c.give.ensures _ (inspect_found _ _ _ _ c.inspect.ensures _ c.in_ok-report.was).judged
