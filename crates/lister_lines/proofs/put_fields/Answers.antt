-- `lister_lines::put_fields` meets its contract.
-- Assumes nothing.
use Rattle.std.proofs.Common.{arith, ◌≡◌, ◌++◌, ℕ, ◌+◌, ◌-◌, ◌≤◌, length, length-append, refl, ap, sym, ◌∙◌, append-nil}
use Rattle.format.specs.Field.{field_at, entry_of}
use Rattle.format.specs.Lister.{field_line}
use Rattle.lister_lines.specs.Lines.{value_lines}
use Rattle.lister_lines.proofs.Puts.{puts_both}
use Rattle.lister_lines.proofs.Lines.{lines_at, lines_end}
use Rattle.lister_lines.proofs.put_fields.Goals as goal

pub put_field-requires : goal.put_field-requires
put_field-requires c =
    let k = c.loop-number.number in
    let low : 1 ≤ k = omega arith in
    let high : k ≤ 46 = omega arith in
    let code = rw c.at-field.ensures at c.code.ensures in
    let step = lines_at c.args.buffer.now k c.code.result low high code in
    let left = sym (ap (λ l. c.loop-number.lines ++ l) step) ∙ c.loop-number.invariant in
    rw c.at-field.ensures (omega (arith, c.requires.1, ap length left, length-append c.loop-number.lines (field_line k (entry_of (field_at k) c.code.result) ++ value_lines c.args.buffer.now k), length-append (field_line k (entry_of (field_at k) c.code.result)) (value_lines c.args.buffer.now k), length-append c.args.lines.now (value_lines c.args.buffer.now 0)))

pub loop-number-preserved : goal.loop-number-preserved
loop-number-preserved c =
    let k = c.loop-number.number in
    let low : 1 ≤ k = omega arith in
    let high : k ≤ 46 = omega arith in
    let next : k + 1 - 1 ≡ k = omega arith in
    let code = rw c.at-field.ensures at c.code.ensures in
    let step = lines_at c.args.buffer.now k c.code.result low high code in
    ap (λ (n : ℕ). c.put_field.new.lines ++ value_lines c.args.buffer.now n) next
    ∙ puts_both _ _ _ _ (value_lines c.args.buffer.now k) (rw c.at-field.ensures at c.put_field.ensures) refl
    ∙ ap (λ l. c.loop-number.lines ++ l) (sym step) ∙ c.loop-number.invariant

pub returns : goal.returns
returns c =
    let all = ap (λ l. c.loop-number.lines ++ l) (lines_end c.args.buffer.now (c.loop-number.number - 1) (omega arith)) in
    sym (append-nil c.loop-number.lines) ∙ sym all ∙ c.loop-number.invariant
