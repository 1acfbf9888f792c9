-- `call_indicators::clear` meets its contract.
-- Assumes nothing.
use mathlib.Core.Path.{refl}
use Rattle.format.specs.Bits.{Bytes}
use Rattle.format.specs.Calls.{edits, clear_with_indicators, outputs_of}
use Rattle.laws.proofs.Results.{err_is}
use Rattle.laws.proofs.Former.{clears_with, former_read}
use Rattle.laws.proofs.Clearing.{as_clears}
use Rattle.report.proofs.Found.{inspect_refused, inspect_found}
use borrow.Author.Rules.{rules}
use Rattle.call_indicators.proofs.clear.Goals as goal

pub returns-in_err-inspect : goal.returns-in_err-inspect
unfolding outputs_of
returns-in_err-inspect c =
    let refused = inspect_refused _ _ _ _ c.inspect.ensures _ (edits (clear_with_indicators c.args.number)) c.in_err-inspect.was in
    let before : Bytes c.args.buffer.now = search rules in
    rw (err_is _ _ c.from_residual.ensures.1) (refused, refl, as_clears _ _ before c.args.number _ _ refused)

pub clear_of-requires : goal.clear_of-requires
clear_of-requires c = (_, (inspect_found _ _ _ _ c.inspect.ensures _ c.in_ok-inspect.was).judged)

pub returns : goal.returns
returns c =
    let before : Bytes c.args.buffer.now = search rules in
    let done = c.clear_of.ensures _ (inspect_found _ _ _ _ c.inspect.ensures _ c.in_ok-inspect.was).judged in
    (done, former_read _ _ before clears_with _ _ done, as_clears _ _ before c.args.number _ _ done)
