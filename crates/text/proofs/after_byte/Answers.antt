-- `text::after_byte` meets its contract.
-- Assumes nothing.
use Prim.Native.Nat.{ℕ, ◌/◌, ◌%◌, ◌^◌}
use native.Mathlib.Omega.{arith}
use mathlib.Core.Path.{ap}
use Rattle.text.proofs.Rows.{byte_held}
use Rattle.text.proofs.after_byte.Goals as goal

pub returns : goal.returns
returns c = byte_held _ _ _ (omega arith) c.requires (ap (λ (x : ℕ). x / 2 ^ (c.args.st % 64)) c.byte_row.ensures)
