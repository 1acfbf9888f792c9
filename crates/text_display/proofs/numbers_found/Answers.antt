-- `text_display::numbers_found` meets its contract.
-- Assumes nothing.
use native.Mathlib.Omega.{arith}
use mathlib.Core.Path.{sym, subst}
use Rattle.laws.proofs.Results.{bytes_in}
use Rattle.report.proofs.Found.{found_by, reach}
use Rattle.text_display.specs.Steps.{Opens}
use Rattle.text_display.proofs.Displays.{opens_missing, opens_found}
use Rattle.text_display.proofs.numbers_found.Goals as goal

pub returns-in_default : goal.returns-in_default
returns-in_default c marks a =
    subst (Opens marks c.args.buffer.now) (sym c.refused.ensures) (opens_missing _ (bytes_in _ c.type_inv.buffer) (found_by c.requires.1 a) c.in_default.is)

pub overflow_add-result : goal.overflow_add-result
overflow_add-result c = omega (arith, (reach _ (bytes_in _ c.type_inv.buffer) c.requires.1 _ c.in-Some.is).1)

pub overflow_add-result-2 : goal.overflow_add-result-2
overflow_add-result-2 c = omega (arith, (reach _ (bytes_in _ c.type_inv.buffer) c.requires.1 _ c.in-Some.is).1)

pub overflow_add-result-3 : goal.overflow_add-result-3
overflow_add-result-3 c = omega (arith, (reach _ (bytes_in _ c.type_inv.buffer) c.requires.1 _ c.in-Some.is).1)

pub returns : goal.returns
returns c marks a = opens_found _ (bytes_in _ c.type_inv.buffer) (found_by c.requires.1 a) _ c.in-Some.is
