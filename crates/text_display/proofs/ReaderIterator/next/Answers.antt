-- `text_display::ReaderIterator::next` meets its contract.
-- Assumes nothing.
use mathlib.Core.Path.{sym, subst}
use Rattle.std.specs.Prelude.{Option}
use Rattle.std.specs.Iterator.{YieldsFirst}
use Rattle.text_display.specs.declared.Step.{Step}
use Rattle.text_display.specs.Steps.{steps_left}
use Rattle.text_display.proofs.Readings.{left_none, left_some, left_fewer}
use Rattle.text_display.proofs.ReaderIterator.next.Goals as goal

pub returns-in_err-step-clause-steps : goal.returns-in_err-step-clause-steps
returns-in_err-step-clause-steps c =
    let reader = c.args.self.now in
    let none = left_none _ _ _ _ (sym c.in_err-step.ensures) in
    subst (λ (o : Option Step). YieldsFirst steps_left reader o reader) (sym c.from_residual.ensures) (none, none)

pub returns-clause-steps : goal.returns-clause-steps
returns-clause-steps c = left_some _ _ _ _ _ (sym c.in_ok-step.ensures)

pub returns-clause-goes : goal.returns-clause-goes
returns-clause-goes c =
    let fewer = left_fewer _ _ _ _ _ (sym c.in_ok-step.ensures) in
    record { on = λ _. (tt, tt, fewer); keeps = tt; rests = λ _. tt }
