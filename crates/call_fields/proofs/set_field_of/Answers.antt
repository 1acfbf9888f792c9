-- `call_fields::set_field_of` meets its contract.
-- Assumes nothing.
use mathlib.Core.Path.{refl}
use Rattle.laws.proofs.Results.{bytes_in}
use Rattle.format.specs.Calls.{edits, set_field, call_checks, outputs_of}
use Rattle.call_fields.proofs.Values.{no_field, none_found, code_found, field_outside, field-set}
use Rattle.card.proofs.Laid.{coding_code}
use Rattle.format.specs.Bits.{Bytes}
use borrow.Author.Rules.{rules}
use Rattle.call_fields.proofs.set_field_of.Goals as goal

pub returns-in_err-field : goal.returns-in_err-field
unfolding call_checks outputs_of
returns-in_err-field c marks j =
    no_field _ _ _ _ c.from_residual.ensures.1 c.args.number c.in_err-field.ensures (bytes_in _ c.type_inv.buffer) j (edits (set_field c.args.number c.args.value)) _ refl

pub returns-in_err-code : goal.returns-in_err-code
returns-in_err-code c marks j =
    let f = c.in_ok-field.field in
    let none = none_found _ _ _ c.coded.ensures _ _ c.in_err-code.ensures.value in
    rw (← c.in_ok-field.ensures) (field_outside _ _ (bytes_in _ c.type_inv.buffer) j _ f.low f.high _ _ _ c.from_residual-in_err-code.ensures.1 none.1 none.0)

pub replace-former-requires : goal.replace-former-requires
replace-former-requires c =
    let f = c.in_ok-field.field in
    (c.requires, (coding_code _ _ _ (code_found _ _ _ c.coded.ensures _ _ c.in_ok-code.ensures.value)).1)

pub returns : goal.returns
returns c marks j =
    let f = c.in_ok-field.field in
    let before : Bytes c.args.buffer.now = search rules in
    let code = code_found _ _ _ c.coded.ensures _ _ c.in_ok-code.ensures.value in
    rw (← c.in_ok-field.ensures)
    (field-set _ _ before j _ f.low f.high _ c.replace-former.ensures.1 _ c.value_of.ensures _ (bytes_in _ c.type_inv.buffer) _ _ code c.replace-former.ensures.0)
