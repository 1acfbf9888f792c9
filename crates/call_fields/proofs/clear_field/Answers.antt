-- `call_fields::clear_field` meets its contract.
-- Assumes nothing.
use mathlib.Core.Path.{refl}
use borrow.Author.Rules.{rules}
use Rattle.format.specs.Bits.{Bytes}
use Rattle.format.specs.Calls.{edits, clear_field, outputs_of}
use Rattle.laws.proofs.Results.{err_is}
use Rattle.laws.proofs.Former.{clears_field, former_read}
use Rattle.report.proofs.Found.{inspect_refused, inspect_found}
use Rattle.call_fields.proofs.clear_field.Goals as goal

pub returns-in_err-inspect : goal.returns-in_err-inspect
unfolding outputs_of
returns-in_err-inspect c =
    rw (err_is _ _ c.from_residual.ensures.1) (inspect_refused _ _ _ _ c.inspect.ensures _ (edits (clear_field c.args.number)) c.in_err-inspect.was, refl)

pub clear_field_of-requires : goal.clear_field_of-requires
clear_field_of-requires c = (_, (inspect_found _ _ _ _ c.inspect.ensures _ c.in_ok-inspect.was).judged)

pub returns : goal.returns
returns c =
    let before : Bytes c.args.buffer.now = search rules in
    let done = c.clear_field_of.ensures _ (inspect_found _ _ _ _ c.inspect.ensures _ c.in_ok-inspect.was).judged in
    (done, former_read _ _ before clears_field _ _ done)
