-- `text_display::numbers` meets its contract.
-- Assumes nothing.
use mathlib.Core.Path.{sym, subst}
use Rattle.report.proofs.Found.{inspect_found}
use Rattle.report.proofs.Outcomes.{judge_refused}
use Rattle.text_display.specs.Steps.{Opens}
use Rattle.text_display.proofs.Displays.{opens_refused}
use Rattle.text_display.proofs.numbers.Goals as goal

pub numbers_found-requires : goal.numbers_found-requires
numbers_found-requires c = (_, inspect_found _ _ _ _ c.inspect.ensures _ c.in-Ok.is)

pub returns-in-Err : goal.returns-in-Err
returns-in-Err c =
    subst (Opens c.args.table.now c.args.buffer.now) (sym c.refused.ensures) (opens_refused _ _ _ (judge_refused _ _ 4 _ c.in-Err.ensures))

pub returns-in-Ok : goal.returns-in-Ok
returns-in-Ok c = c.numbers_found.ensures _ (inspect_found _ _ _ _ c.inspect.ensures _ c.in-Ok.is).judged
