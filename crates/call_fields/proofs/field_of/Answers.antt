-- `call_fields::field_of` meets its contract.
-- Assumes nothing.
use mathlib.Core.Path.{refl}
use Rattle.laws.proofs.Report.{passes}
use Rattle.laws.proofs.Results.{bytes_in}
use Rattle.format.specs.Calls.{reads, read_field, call_checks, outputs_of}
use Rattle.call_fields.proofs.Values.{no_field, field_read}
use Rattle.call_fields.proofs.field_of.Goals as goal

pub returns-in_err-field : goal.returns-in_err-field
unfolding call_checks outputs_of
returns-in_err-field c marks j =
    no_field _ _ _ _ c.from_residual.ensures.1 c.args.number c.in_err-field.ensures (bytes_in _ c.type_inv.buffer) j (reads (read_field c.args.number)) _ refl

pub code-code-requires : goal.code-code-requires
code-code-requires c = (passes _ _ _ c.requires.1).0.long

pub returns : goal.returns
returns c marks j =
    let f = c.in_ok-field.field in
    rw (← c.in_ok-field.ensures) (field_read _ _ (bytes_in _ c.type_inv.buffer) j _ f.low f.high _ c.code-code.ensures _ c.value_of.ensures)
