-- `write_values::Lent::all_pass` meets its contract: none is refused where the sum is 0.
-- Assumes nothing.
use Prim.Native.Nat.{ℕ}
use mathlib.Core.Path.{ap, ◌∙◌}
use lib.Dec.{eqb}
use Rattle.write_values.specs.Lent.{refusal_at, fault_at}
use Rattle.write_values.proofs.Tests.{none_in, none_at}
use Rattle.write_values.proofs.Lent.all_pass.Goals as goal

pub returns : goal.returns
returns c =
    let values = c.args.self.values.now in
    let word = c.args.self.word in
    ap (λ (n : ℕ). eqb n 0) c.refusals.ensures ∙ none_in (refusal_at values word) (fault_at values word) 46 0 (none_at values word)
