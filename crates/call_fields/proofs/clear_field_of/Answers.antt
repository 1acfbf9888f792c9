-- `call_fields::clear_field_of` meets its contract.
-- Assumes nothing.
use mathlib.Core.Path.{refl}
use Rattle.laws.proofs.Results.{bytes_in}
use Rattle.format.specs.Calls.{edits, clear_field, call_checks, outputs_of}
use Rattle.call_fields.proofs.Values.{no_field, field-required, field-cleared}
use native.Mathlib.Omega.{arith}
use Rattle.format.specs.Bits.{Bytes}
use borrow.Author.Rules.{rules}
use Rattle.call_fields.proofs.clear_field_of.Goals as goal

pub returns-in_err-field : goal.returns-in_err-field
unfolding call_checks outputs_of
returns-in_err-field c marks j =
    no_field _ _ _ _ c.from_residual.ensures.1 c.args.number c.in_err-field.ensures (bytes_in _ c.type_inv.buffer) j (edits (clear_field c.args.number)) _ refl

pub returns-then-is_required : goal.returns-then-is_required
unfolding call_checks
returns-then-is_required c marks j =
    let f = c.in_ok-field.field in
    rw (← c.in_ok-field.ensures)
    (field-required _ _ (bytes_in _ c.type_inv.buffer) j _ f.low f.high (clear_field f.number) refl _ c.is_required.ensures c.if-is_required.true)

pub replace-requires : goal.replace-requires
replace-requires c = (c.requires, omega arith)

pub returns : goal.returns
returns c marks j =
    let f = c.in_ok-field.field in
    let before : Bytes c.args.buffer.now = search rules in
    rw (← c.in_ok-field.ensures)
    (field-cleared _ _ before j _ f.low f.high _ c.replace.ensures.1 _ c.value_of.ensures _ (bytes_in _ c.type_inv.buffer) _ c.is_required.ensures
    c.if-is_required.false _ refl c.replace.ensures.0)
