-- `read_values::show_field` meets its contract.
-- Assumes nothing.
use native.Mathlib.Omega.{arith}
use mathlib.Core.Path.{◌≡◌, ◌∙◌}
use mir.Syntax.{w64}
use mir.Val.{to_z, of_z}
use Rattle.read_values.proofs.Values.{bit_here, bit_small, read_one}
use borrow.Author.Rules.{rules}
use Rattle.read_values.proofs.show_field.Goals as goal

pub overflow_add-result : goal.overflow_add-result
overflow_add-result c =
    let place = c.requires.2.place in
    let e = bit_here c.args.buffer.now c.args.i _ _ place c.of_row-field.ensures c.code-code.ensures c.presence_bit.result c.presence_bit.ensures in
    record { fits = omega (arith, c.requires.1, e, bit_small c.args.buffer.now c.args.i place) }

pub returns : goal.returns
returns c =
    let held : to_z w64 (of_z w64 c.value_or_zero.result) ≡ c.value_or_zero.result = search rules in
    read_one c.args.buffer.now c.args.i _ _ c.requires.2.place c.of_row-field.ensures c.code-code.ensures c.args.values.now _ c.args.word
    c.presence_bit.result (held ∙ c.value_or_zero.ensures) c.presence_bit.ensures
