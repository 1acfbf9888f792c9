-- `script::put_refusal` meets its contract.
-- Assumes nothing.
use Prim.Native.Nat.{ℕ, suc}
use mathlib.Core.Path.{sym, ap, ap₂, ◌∙◌}
use mathlib.Core.List.{List, ◌∷◌, ◌++◌}
use Rattle.format.specs.Calls.{over}
use Rattle.format.specs.Buffer.{zeros}
use Rattle.script.specs.Script.{bytes8}
use Rattle.script.proofs.Numbers.{length-bytes8, over-cleared}
use Rattle.script.proofs.Replay.{refusal_put}
use Rattle.script.proofs.put_refusal.Goals as goal

pub returns : goal.returns
returns c =
    let log = c.args.log.now in
    over-cleared log _ (0 ∷ c.number.result ∷ bytes8 c.place.result) _ 10 27 c.put_head.ensures
    (ap suc (ap suc (length-bytes8 _))) c.requires (c.fill.ensures.after (λ y e. e))
    ∙ ap₂ (λ (n p : ℕ). over ((0 ∷ n ∷ bytes8 p) ++ zeros 27) log) c.number.ensures c.place.ensures
    ∙ ap (λ (xs : List ℕ). over xs log) (sym (refusal_put _ _))
