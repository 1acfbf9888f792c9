-- `text::after` meets its contract.
-- Assumes nothing.
use Prim.Native.Nat.{ℕ, ◌*◌, ◌/◌, ◌%◌, ◌^◌}
use mathlib.Core.Path.{ap}
use Rattle.text.specs.Rows.{next_state}
use Rattle.text.proofs.after.Goals as goal

pub returns : goal.returns
unfolding next_state
returns c = ap (λ (x : ℕ). x * 4 / 2 ^ c.args.st / 4 % 16 * 4) c.row.ensures.0
