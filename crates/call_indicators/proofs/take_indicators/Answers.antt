-- `call_indicators::take_indicators` meets its contract.
-- Assumes nothing.
use mathlib.Core.List.{[], ◌∷◌}
use lib.ListN.{length-append}
use native.Mathlib.Omega.{arith}
use Rattle.format.specs.Report.{observation_of}
use Rattle.call_indicators.specs.Emptied.{lost_tI}
use Rattle.call_indicators.proofs.Cards.{on_D, on_W, on_VB, on_H, on_S, on_others, on_none, emptied_none, emptied_more, emptied_all, ti_few}
use Rattle.call_indicators.proofs.take_indicators.Goals as goal

pub returns-in-18 : goal.returns-in-18
returns-in-18 c = emptied_all _ _ _ c.args.number _ (on_D _ c.args.number c.requires.1 c.in-18.is) (omega arith) c.take_out.ensures

pub returns-in-20 : goal.returns-in-20
returns-in-20 c = emptied_all _ _ _ c.args.number _ (on_W _ c.args.number c.requires.1 c.in-20.is) (omega arith) c.take_out-in-20.ensures

pub returns-in-22 : goal.returns-in-22
returns-in-22 c = emptied_all _ _ _ c.args.number _ (on_VB _ c.args.number c.requires.1 c.in-22.is) (omega arith) c.take_out-in-22.ensures

pub returns-in-37 : goal.returns-in-37
returns-in-37 c = emptied_all _ _ _ c.args.number _ (on_H _ c.args.number c.requires.1 c.in-37.is) (omega arith) c.take_out-in-37.ensures

pub overflow_add-result : goal.overflow_add-result
overflow_add-result c = omega (arith, c.take_temperature.ensures.small, c.take_out-in-31.ensures.small, ti_few (observation_of c.args.buffer.now))

pub returns-in-31 : goal.returns-in-31
returns-in-31 c =
    let s = observation_of c.args.buffer.now in
    emptied_all _ _ _ c.args.number _ (on_S _ c.args.number c.requires.1 c.in-31.is) (omega (arith, ti_few s, length-append (lost_tI s) (32 ∷ [])))
    (emptied_more _ _ _ _ (32 ∷ []) _ _ c.take_temperature.ensures c.take_out-in-31.ensures)

pub returns-in-28 : goal.returns-in-28
returns-in-28 c =
    emptied_all _ _ _ c.args.number _ (on_others _ c.args.number (omega arith) (omega arith)) (omega (arith, ti_few (observation_of c.args.buffer.now))) c.take_temperature-in-28.ensures

pub returns-in_default : goal.returns-in_default
returns-in_default c =
    emptied_all _ _ [] c.args.number 0 (on_none _ c.args.number (λ e. omega arith) (λ e. omega arith) (λ e. omega arith) (λ e. omega arith) (λ e. omega arith) (λ l h. omega arith)) (omega arith)
    (emptied_none _)

pub returns-in_default-2 : goal.returns-in_default-2
returns-in_default-2 c =
    emptied_all _ _ [] c.args.number 0 (on_none _ c.args.number (λ e. omega arith) (λ e. omega arith) (λ e. omega arith) (λ e. omega arith) (λ e. omega arith) (λ l h. omega arith)) (omega arith)
    (emptied_none _)
