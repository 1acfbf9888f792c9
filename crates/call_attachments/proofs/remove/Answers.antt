-- `call_attachments::remove` meets its contract.
-- Assumes nothing.
use Rattle.format.specs.Calls.{edits, remove, outputs_of}
use Rattle.laws.proofs.Results.{err_is}
use Rattle.report.proofs.Found.{inspect_refused, inspect_found}
use Rattle.call_attachments.proofs.remove.Goals as goal

pub remove_found-requires : goal.remove_found-requires
remove_found-requires c = (_, inspect_found _ _ _ _ c.inspect.ensures _ c.in_ok-report.was)

pub returns-in_err-report : goal.returns-in_err-report
unfolding outputs_of
returns-in_err-report c =
    rw (err_is _ _ c.from_residual.ensures.1) (inspect_refused _ _ _ _ c.inspect.ensures _ (edits (remove c.args.id)) c.in_err-report.was)

pub returns : goal.returns
returns c = c.remove_found.ensures _ (inspect_found _ _ _ _ c.inspect.ensures _ c.in_ok-report.was).judged
