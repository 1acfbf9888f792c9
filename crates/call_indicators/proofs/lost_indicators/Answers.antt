-- `call_indicators::lost_indicators` meets its contract.
-- Assumes nothing.
use Prim.Native.Nat.{ℕ}
use mathlib.Core.Path.{ap, ◌∙◌}
use mathlib.Core.Bool.{Bool, cond}
use mathlib.Core.List.{List, [], ◌∷◌, ◌++◌}
use native.Mathlib.Omega.{arith}
use Rattle.call_indicators.proofs.Lists.{six_listed}
use Rattle.call_indicators.proofs.lost_indicators.Goals as goal

-- an indicator's field behind others, where it is found
abbrev behind : ℕ → Bool → List ℕ → List ℕ
behind i t xs = xs ++ cond t (i ∷ []) []

pub returns : goal.returns
returns c = (
  c.and-6.ensures.0 ∙ ap (behind 36 c.without-5.result) (c.and-5.ensures.0 ∙ ap (behind 32 c.without-4.result) (c.and-4.ensures.0
      ∙ ap (behind 27 c.without_temperatures.result) (c.and-3.ensures.0 ∙ ap (behind 21 c.without-3.result) (c.and-2.ensures.0
      ∙ ap (behind 19 c.without-2.result) (c.and.ensures.0 ∙ ap (behind 17 c.without.result) c.none.ensures.0)))))
      ∙ six_listed _ _ _ _ _ _ _ c.without-5.ensures c.without-4.ensures c.without_temperatures.ensures c.without-3.ensures c.without-2.ensures c.without.ensures,
  omega arith,
)
