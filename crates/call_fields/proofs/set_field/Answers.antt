-- `call_fields::set_field` meets its contract.
-- Assumes nothing.
use mathlib.Core.Path.{refl}
use borrow.Author.Rules.{rules}
use Rattle.format.specs.Bits.{Bytes}
use Rattle.format.specs.Calls.{edits, set_field, outputs_of}
use Rattle.laws.proofs.Results.{err_is}
use Rattle.laws.proofs.Former.{sets_field, former_read}
use Rattle.report.proofs.Found.{inspect_refused, inspect_found}
use Rattle.call_fields.proofs.set_field.Goals as goal

pub returns-in_err-inspect : goal.returns-in_err-inspect
unfolding outputs_of
returns-in_err-inspect c =
    rw (err_is _ _ c.from_residual.ensures.1) (inspect_refused _ _ _ _ c.inspect.ensures _ (edits (set_field c.args.number c.args.value)) c.in_err-inspect.was, refl)

pub set_field_of-requires : goal.set_field_of-requires
set_field_of-requires c = (_, (inspect_found _ _ _ _ c.inspect.ensures _ c.in_ok-inspect.was).judged)

pub returns : goal.returns
returns c =
    let before : Bytes c.args.buffer.now = search rules in
    let done = c.set_field_of.ensures _ (inspect_found _ _ _ _ c.inspect.ensures _ c.in_ok-inspect.was).judged in
    (done, former_read _ _ before sets_field _ _ done)
