-- `call_puts::put` meets its contract.
-- Assumes nothing.
use Rattle.format.specs.Calls.{edits, put, outputs_of}
use Rattle.laws.proofs.Results.{err_is}
use Rattle.report.proofs.Found.{inspect_refused, inspect_found}
use Rattle.call_puts.proofs.put.Goals as goal

pub put_found-requires : goal.put_found-requires
put_found-requires c = inspect_found _ _ _ _ c.inspect.ensures _ c.in_ok-report.was

pub returns-in_err-report : goal.returns-in_err-report
unfolding outputs_of
returns-in_err-report c =
    rw (err_is _ _ c.from_residual.ensures.1) (inspect_refused _ _ _ _ c.inspect.ensures _ (edits (put c.args.id c.args.content.now)) c.in_err-report.was)
