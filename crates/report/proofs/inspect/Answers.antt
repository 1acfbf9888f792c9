-- `report::inspect` meets its contract.
-- Assumes nothing.
use Rattle.laws.proofs.Results.{bytes_in, err_by_number}
use mathlib.Core.Path.{◌∙◌}
use Rattle.report.proofs.Outcomes.{front_refused, card_alone}
use Rattle.report.proofs.inspect.Goals as goal

pub returns-in_err-front : goal.returns-in_err-front
returns-in_err-front c = err_by_number _ _ c.from_residual.ensures.1 ∙ front_refused _ _ _ c.in_err-front.field-0.0 c.in_err-front.ensures

pub returns-then-buffer-eq0 : goal.returns-then-buffer-eq0
returns-then-buffer-eq0 c = card_alone _ _ _ c.in_ok-front.ensures (bytes_in _ c.type_inv.buffer) c.if-buffer-eq0.true
