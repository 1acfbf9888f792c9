-- `report::judge` meets its contract.
-- Assumes nothing.
use Rattle.laws.proofs.Results.{bytes_in, err_by_number}
use mathlib.Core.Path.{◌∙◌}
use Rattle.report.proofs.Outcomes.{front_refused, card_alone, judged_refused, judged_fine}
use Rattle.report.proofs.Observations.{sizes}
use Rattle.report.proofs.judge.Goals as goal

pub returns-in_err-front : goal.returns-in_err-front
returns-in_err-front c =
    let e = err_by_number _ _ c.from_residual.ensures.1 ∙ judged_refused _ _ 0 _ (front_refused _ _ _ c.in_err-front.field-0.0 c.in_err-front.ensures) in
    (e, sizes _ _ (bytes_in _ c.type_inv.buffer) _ e)

pub returns-then-buffer-eq0 : goal.returns-then-buffer-eq0
returns-then-buffer-eq0 c =
    let e = judged_fine _ _ 0 _ (card_alone _ _ _ c.in_ok-front.ensures (bytes_in _ c.type_inv.buffer) c.if-buffer-eq0.true) in
    (e, sizes _ _ (bytes_in _ c.type_inv.buffer) _ e)

pub returns-in_err-report : goal.returns-in_err-report
returns-in_err-report c =
    let e = err_by_number _ _ c.from_residual-in_err-report.ensures.1 ∙ judged_refused _ _ 0 _ c.in_err-report.ensures in
    (e, sizes _ _ (bytes_in _ c.type_inv.buffer) _ e)

pub returns : goal.returns
returns c =
    let e = judged_fine _ _ 0 _ c.in_ok-report.ensures in
    (e, sizes _ _ (bytes_in _ c.type_inv.buffer) _ e)
