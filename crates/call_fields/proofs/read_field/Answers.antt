-- `call_fields::read_field` meets its contract.
-- Assumes nothing.
use Rattle.format.specs.Calls.{reads, read_field, outputs_of}
use Rattle.laws.proofs.Results.{err_is}
use Rattle.report.proofs.Found.{inspect_refused, inspect_found}
use Rattle.call_fields.proofs.read_field.Goals as goal

pub returns-in_err-inspect : goal.returns-in_err-inspect
unfolding outputs_of
returns-in_err-inspect c =
    rw (err_is _ _ c.from_residual.ensures.1) (inspect_refused _ _ _ _ c.inspect.ensures _ (reads (read_field c.args.number)) c.in_err-inspect.was)

pub field_of-requires : goal.field_of-requires
field_of-requires c = (_, (inspect_found _ _ _ _ c.inspect.ensures _ c.in_ok-inspect.was).judged)

pub returns : goal.returns
returns c = c.field_of.ensures _ (inspect_found _ _ _ _ c.inspect.ensures _ c.in_ok-inspect.was).judged
