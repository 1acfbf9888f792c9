-- `text_display::step_at` meets its contract.
-- Assumes nothing.
use native.Mathlib.Omega.{arith}
use mathlib.Core.Path.{◌∙◌}
use Rattle.text_display.proofs.Displays.{step_space, step_none, step_given, step_inside}
use Rattle.text_display.proofs.step_at.Goals as goal

pub returns-then-spaces-gt0 : goal.returns-then-spaces-gt0
returns-then-spaces-gt0 c = step_space _ _ _ _ c.if-spaces-gt0.true

pub returns-in_err-code : goal.returns-in_err-code
returns-in_err-code c = c.from_residual.ensures ∙ step_none _ _ _ _ _ c.nearer.ensures c.if-spaces-gt0.false c.in_err-code.ensures

pub overflow_add-result : goal.overflow_add-result
overflow_add-result c =
    let args = c.args in
    omega (arith, (step_inside args.report.now args.at args.end _ args.spaces c.nearer.ensures _ c.in_ok-code.ensures).0)

pub overflow_sub-result-2 : goal.overflow_sub-result-2
overflow_sub-result-2 c =
    let args = c.args in
    omega (arith, (step_inside args.report.now args.at args.end _ args.spaces c.nearer.ensures _ c.in_ok-code.ensures).1)

pub returns : goal.returns
returns c = step_given _ _ _ _ _ c.nearer.ensures _ c.in_ok-code.ensures c.if-spaces-gt0.false
