-- `script::copy`: the front that was copied.
-- Assumes nothing.
use mathlib.Core.Path.{◌≡◌}
use lib.ListN.{length}
use Rattle.script.proofs.Copies.{Copied}
use Rattle.script.proofs.copy.Given as goal

abbrev pub invariant-loop-i : goal.invariant-loop-i
invariant-loop-i l = Copied l.from l.to l.i × (length l.from ≡ length l.initial.to)
