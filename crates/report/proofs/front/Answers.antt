-- `report::front` meets its contract.
-- Assumes nothing.
use Rattle.laws.proofs.Results.{err_is}
use mathlib.Core.Path.{sym, ◌∙◌}
use Rattle.report.proofs.Outcomes.{card_sum, card_refused, front_short, front_field, front_sum}
use Rattle.report.proofs.front.Goals as goal

pub returns-then-buffer-lt38 : goal.returns-then-buffer-lt38
returns-then-buffer-lt38 c = front_short _ c.if-buffer-lt38.true

pub returns-in_err-sum : goal.returns-in_err-sum
returns-in_err-sum c =
    rw (err_is _ _ c.from_residual.ensures.1) (front_field _ c.if-buffer-lt38.false c.in_err-sum.field-0.0 (card_refused _ _ c.in_err-sum.ensures))

pub returns-then-checksum-sum : goal.returns-then-checksum-sum
returns-then-checksum-sum c =
    let s = card_sum _ _ c.in_ok-sum.ensures in
    front_sum _ c.if-buffer-lt38.false s.0 (λ e. c.if-checksum-sum.true (c.checksum.ensures.0 ∙ e ∙ sym s.1))

pub returns : goal.returns
returns c =
    let s = card_sum _ _ c.in_ok-sum.ensures in
    record { long = c.if-buffer-lt38.false; fields = s.0; sum = sym c.checksum.ensures.0 ∙ c.if-checksum-sum.false ∙ s.1 }
