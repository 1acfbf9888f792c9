-- `write_values::Lent::refuse_run` meets its contract: one field after the other.
-- Assumes nothing.
use Prim.Native.Nat.{ℕ}
use native.Mathlib.Omega.{arith}
use mathlib.Core.Path.{◌≡◌, subst}
use Rattle.card.specs.Runs.{Summed}
use Rattle.card.proofs.Rows.{row_in}
use Rattle.card.proofs.Runs.{sum_none, sum_then}
use Rattle.write_values.specs.Lent.{refusal_at}
use Rattle.write_values.proofs.Lent.refuse_run.Goals as goal

pub loop-j-init : goal.loop-j-init
loop-j-init g c = sum_none c.args.i c.args.sum

pub refuse-total-requires : goal.refuse-total-requires
refuse-total-requires g c = (
  omega (arith, c.requires.0, c.requires.1.places, c.loop-j.invariant.small),
  row_in c.args.i g.row.N c.loop-j.j c.args.rows c.requires.1 c.loop-j-test.true,
)

pub loop-j-preserved : goal.loop-j-preserved
loop-j-preserved g c = sum_then c.loop-j.invariant c.refuse-total.ensures

pub returns : goal.returns
returns g c =
    let e : c.loop-j.j ≡ g.row.N = omega arith in
    subst (λ (n : ℕ). Summed (refusal_at c.args.self.values.now c.args.self.word) 10 c.args.i n c.args.sum c.loop-j.total) e c.loop-j.invariant
