-- `fresh::clear_card` meets its contract.
-- Assumes nothing.
use mathlib.Core.Path.{ap, ◌∙◌}
use mathlib.Core.List.{◌++◌}
use lib.ListN.{drop, replicate}
use lib.Seq.{length-take-le}
use Rattle.fresh.specs.Steps.{cleared}
use Rattle.fresh.proofs.clear_card.Goals as goal

pub returns : goal.returns
unfolding cleared
returns c = ap (λ l. l ++ drop 38 c.args.out.now) (c.fill.ensures.after (λ y h. h) ∙ ap (λ n. replicate n 0) (length-take-le 38 c.args.out.now c.requires))
