-- `flags::gather` meets its contract.
-- Assumes nothing.
use Rattle.std.proofs.Common.{take, drop}
use Rattle.flags.proofs.Body.{Reading}
use Rattle.flags.proofs.gather.Given as goal

abbrev pub invariant-loop-nibble : goal.invariant-loop-nibble
invariant-loop-nibble l = Reading (take 16 (drop l.at l.s)) l.nibble-index l.w
