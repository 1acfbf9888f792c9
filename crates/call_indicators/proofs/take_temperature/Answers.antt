-- `call_indicators::take_temperature` meets its contract.
-- Assumes nothing.
use mathlib.Core.Path.{sym, subst, ◌∙◌}
use mathlib.Core.Bool.{Bool, cond}
use mathlib.Core.List.{[], ◌∷◌}
use Rattle.call_indicators.specs.Emptied.{Emptied}
use Rattle.call_indicators.proofs.Cards.{emptied_none}
use Rattle.call_indicators.proofs.take_temperature.Goals as goal

pub returns-then-temperatures_missing : goal.returns-then-temperatures_missing
returns-then-temperatures_missing c =
    subst (λ (t : Bool). Emptied c.args.buffer.now c.take_out.new.buffer (cond t (27 ∷ []) []) c.take_out.result)
    (sym (sym c.temperatures_missing.ensures ∙ c.if-temperatures_missing.true)) c.take_out.ensures

pub returns : goal.returns
returns c =
    subst (λ (t : Bool). Emptied c.args.buffer.now c.args.buffer.now (cond t (27 ∷ []) []) 0) (sym (sym c.temperatures_missing.ensures ∙ c.if-temperatures_missing.false)) (emptied_none _)
