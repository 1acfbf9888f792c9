-- `read_values::show_run` meets its contract: one field after the other.
-- Assumes nothing.
use Prim.Native.Nat.{ℕ}
use native.Mathlib.Omega.{arith}
use mathlib.Core.Path.{◌≡◌, subst}
use Rattle.card.proofs.Rows.{row_in}
use Rattle.card.proofs.Runs.{both_none, both_then}
use Rattle.read_values.specs.Values.{ValuesRead}
use Rattle.read_values.proofs.show_run.Goals as goal

pub loop-j-init : goal.loop-j-init
loop-j-init g c = both_none c.args.i c.args.values.now c.args.word

pub show_field-sum-requires : goal.show_field-sum-requires
show_field-sum-requires g c = (
  c.requires.0,
  omega (arith, c.requires.1, c.requires.2.places, c.loop-j.invariant.sums.small),
  row_in c.args.i g.row.N c.loop-j.j c.args.rows c.requires.2 c.loop-j-test.true,
)

pub loop-j-preserved : goal.loop-j-preserved
loop-j-preserved g c = both_then c.loop-j.invariant c.show_field-sum.ensures

pub returns : goal.returns
returns g c =
    let e : c.loop-j.j ≡ g.row.N = omega arith in
    subst (λ (n : ℕ). ValuesRead c.args.buffer.now c.args.i n c.args.values.now c.loop-j.values c.args.word c.loop-j.sum) e c.loop-j.invariant
