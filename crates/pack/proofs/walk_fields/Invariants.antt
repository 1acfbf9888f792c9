-- `pack::walk_fields` meets its contract. The invariant: what is still to check gives the answer.
-- Assumes nothing.
use Prim.Native.Nat.{◌-◌}
use mathlib.Core.Path.{◌≡◌}
use Rattle.pack.proofs.Checks.{left}
use Rattle.pack.proofs.walk_fields.Given as goal

abbrev pub invariant-loop-number : goal.invariant-loop-number
invariant-loop-number l = left l.lent.values.now l.lent.word (l.number - 1) ≡ left l.lent.values.now l.lent.word 0
