-- `checks::walk`: what is left to check refuses what the whole does, and what was summed and the rest are the whole sum.
-- Assumes nothing.
use Prim.Native.Nat.{◌+◌, ◌-◌, ◌*◌, ◌≤◌}
use mathlib.Core.Path.{◌≡◌}
use Rattle.checks.proofs.Turns.{left, rest}
use Rattle.checks.proofs.walk.Given as goal

abbrev pub invariant-loop-number : goal.invariant-loop-number
invariant-loop-number l = (l.sum ≤ 65536 * l.number) × (l.sum + rest l.buffer (l.number - 1) ≡ rest l.buffer 0) × (left l.buffer (l.number - 1) ≡ left l.buffer 0)
