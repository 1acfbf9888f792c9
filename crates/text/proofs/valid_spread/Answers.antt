-- `text::valid_spread` meets its contract.
-- Assumes nothing.
use native.Mathlib.Omega.{arith}
use Prim.Native.Nat.{ℕ}
use mathlib.Core.Path.{ap, ◌∙◌}
use lib.Dec.{eqb}
use Rattle.text.proofs.Rows.{valid_place}
use Rattle.text.proofs.Bodies.{left_none, left_nibble}
use Rattle.text.proofs.valid_spread.Goals as goal

pub loop-n-preserved : goal.loop-n-preserved
loop-n-preserved c = left_nibble _ _ _ c.args.nibbles.now c.loop-n.n-index c.loop-n.invariant (omega (arith, c.loop-n-test.true)) _ _ c.after-state.ensures (omega arith)

pub returns : goal.returns
returns c = ap (λ (p : ℕ). eqb p 4) (left_none _ _ _ _ c.loop-n.invariant (omega (arith, c.loop-n-test.false))) ∙ valid_place _
