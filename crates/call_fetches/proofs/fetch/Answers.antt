-- `call_fetches::fetch` meets its contract.
-- Assumes nothing.
use Rattle.format.specs.Calls.{fetches, fetch, outputs_of}
use Rattle.laws.proofs.Results.{err_is}
use Rattle.report.proofs.Found.{inspect_refused, inspect_found}
use Rattle.call_fetches.proofs.fetch.Goals as goal

pub fetch_found-requires : goal.fetch_found-requires
fetch_found-requires c = (_, inspect_found _ _ _ _ c.inspect.ensures _ c.in_ok-report.was)

pub returns-in_err-report : goal.returns-in_err-report
unfolding outputs_of
returns-in_err-report c =
    rw (err_is _ _ c.from_residual.ensures.1) (inspect_refused _ _ _ _ c.inspect.ensures _ (fetches (fetch c.args.id c.args.out.now)) c.in_err-report.was)

pub returns : goal.returns
returns c = c.fetch_found.ensures _ (inspect_found _ _ _ _ c.inspect.ensures _ c.in_ok-report.was).judged
