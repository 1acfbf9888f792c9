-- `call_indicators::clear_of` meets its contract.
-- Assumes nothing.
use mathlib.Core.Path.{refl, sym, ◌∙◌}
use Rattle.format.specs.Bits.{Bytes}
use Rattle.format.specs.Report.{observation_of}
use Rattle.format.specs.Calls.{edits, clear_with_indicators, clears_of, made, gives, call_checks, outputs_of}
use Rattle.laws.proofs.Results.{bytes_in}
use Rattle.laws.proofs.Indicators.{cleared_attachments}
use Rattle.call_fields.proofs.Values.{no_field, card_cleared, field-required}
use borrow.Author.Rules.{rules}
use Rattle.call_indicators.proofs.clear_of.Goals as goal

pub returns-in_err-field : goal.returns-in_err-field
unfolding call_checks outputs_of
returns-in_err-field c marks j =
    no_field _ _ _ _ c.from_residual.ensures.1 c.args.number c.in_err-field.ensures (bytes_in _ c.type_inv.buffer) j (edits (clear_with_indicators c.args.number)) _ refl

pub returns-then-is_required : goal.returns-then-is_required
unfolding call_checks
returns-then-is_required c marks j =
    let f = c.in_ok-field.field in
    rw (← c.in_ok-field.ensures)
    (field-required _ _ (bytes_in _ c.type_inv.buffer) j _ f.low f.high (clear_with_indicators f.number) refl _ c.is_required.ensures c.if-is_required.true)

pub empty-requires : goal.empty-requires
empty-requires c = (c.requires, sym c.is_required.ensures ∙ c.if-is_required.false)

pub returns : goal.returns
unfolding call_checks gives made
returns c marks j =
    let f = c.in_ok-field.field in
    let s = observation_of c.args.buffer.now in
    let before : Bytes c.args.buffer.now = search rules in
    rw (← c.in_ok-field.ensures)
    (card_cleared _ _ before j _ f.low f.high _ c.empty.ensures.1 _ c.value_of.ensures _ (bytes_in _ c.type_inv.buffer) (clear_with_indicators f.number) refl refl
    (cleared_attachments s (clears_of s f.number)) _ c.is_required.ensures c.if-is_required.false c.empty.ensures.0)
