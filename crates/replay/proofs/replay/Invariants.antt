-- `replay::replay` meets its contract.
-- Assumes nothing.
use Prim.Native.Nat.{◌-◌}
use mathlib.Core.Path.{◌≡◌}
use lib.ListN.{length}
use Rattle.format.specs.Bits.{Bytes}
use Rattle.script.proofs.Scripts.{Going}
use Rattle.replay.proofs.replay.Given as goal

abbrev pub invariant-loop-entry : goal.invariant-loop-entry
invariant-loop-entry l = Going l.table l.initial.buffer l.script l.initial.log l.buffer l.log l.all.calls l.all.taken l.all.written × (length l.buffer ≡ length l.initial.buffer) × Bytes l.initial.buffer

abbrev pub decreases-loop-entry : goal.decreases-loop-entry
decreases-loop-entry l = length l.script - l.all.taken
