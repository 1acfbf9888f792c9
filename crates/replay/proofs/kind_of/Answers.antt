-- `replay::kind_of` meets its contract.
-- Assumes nothing.
use Prim.Native.Nat.{ℕ}
use mathlib.Core.List.{List}
use Rattle.script.proofs.Replay.{kinds-rest}
use Rattle.replay.proofs.kind_of.Goals as goal

pub returns-in_default : goal.returns-in_default
returns-in_default c = λ (s : List ℕ). kinds-rest s c.args.byte c.in_default.in_default-own.rest
