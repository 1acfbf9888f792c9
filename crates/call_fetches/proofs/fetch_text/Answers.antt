-- `call_fetches::fetch_text` meets its contract.
-- Assumes nothing.
use Prim.{tt}
use Rattle.format.specs.Calls.{fetches, fetch_text, outputs_of}
use Rattle.laws.proofs.Results.{bytes_in, err_is}
use Rattle.laws.proofs.TextCounts.{fetch_counts}
use Rattle.report.proofs.Found.{inspect_refused, inspect_found}
use Rattle.call_fetches.proofs.fetch_text.Goals as goal

pub fetch_text_found-requires : goal.fetch_text_found-requires
fetch_text_found-requires c = (_, inspect_found _ _ _ _ c.inspect.ensures _ c.in_ok-report.was)

pub returns-in_err-report : goal.returns-in_err-report
unfolding outputs_of
returns-in_err-report c =
    let call = fetches (fetch_text c.args.out.now c.args.origins.now) in
    rw (err_is _ _ c.from_residual.ensures.1) (inspect_refused _ _ _ _ c.inspect.ensures _ call c.in_err-report.was, tt)

pub returns : goal.returns
returns c =
    let done = c.fetch_text_found.ensures _ (inspect_found _ _ _ _ c.inspect.ensures _ c.in_ok-report.was).judged in
    (done, fetch_counts _ _ (bytes_in _ c.type_inv.buffer) _ _ _ _ c.fetch_text_found.result done)
