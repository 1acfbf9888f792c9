-- `card::checksum` meets its contract.
-- Assumes nothing.
use Prim.Native.Nat.{ℕ}
use native.Mathlib.Omega.{arith}
use mathlib.Core.Path.{◌∙◌}
use mathlib.Core.List.{List}
use Rattle.laws.proofs.Bits.{bit_field_lt}
use Rattle.card.proofs.Numbers.{checksum_at}
use Rattle.card.proofs.checksum.Goals as goal

pub returns : goal.returns
returns c =
    let s : List ℕ = c.args.s.now in
    (c.read.ensures.0 ∙ checksum_at s, omega (arith, bit_field_lt s 282 14))
