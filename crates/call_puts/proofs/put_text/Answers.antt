-- `call_puts::put_text` meets its contract.
-- Assumes nothing.
use Prim.{tt}
use borrow.Author.Rules.{rules}
use Rattle.format.specs.Bits.{Bytes}
use Rattle.format.specs.Calls.{edits, put_text, outputs_of}
use Rattle.laws.proofs.Costliest.{put_never_12}
use Rattle.laws.proofs.Results.{bytes_in, err_is}
use Rattle.laws.proofs.TextCounts.{put_counts}
use Rattle.report.proofs.Found.{inspect_refused, inspect_found}
use Rattle.call_puts.proofs.put_text.Goals as goal

pub put_text_found-requires : goal.put_text_found-requires
put_text_found-requires c = (_, inspect_found _ _ _ _ c.inspect.ensures _ c.in_ok-report.was)

pub returns-in_err-report : goal.returns-in_err-report
unfolding outputs_of
returns-in_err-report c =
    let done = inspect_refused _ _ _ _ c.inspect.ensures _ (edits (put_text c.args.text.now c.args.origins.now)) c.in_err-report.was in
    rw (err_is _ _ c.from_residual.ensures.1) (done, tt, put_never_12 _ _ _ _ done)

pub returns : goal.returns
returns c =
    let bytes : Bytes c.args.buffer.now = search (rules, bytes_in) in
    let done = c.put_text_found.ensures _ (inspect_found _ _ _ _ c.inspect.ensures _ c.in_ok-report.was).judged in
    (done, put_counts _ _ bytes _ _ _ _ c.put_text_found.result done, put_never_12 _ _ _ _ done)
