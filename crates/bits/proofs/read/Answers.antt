-- `bits::read` meets its contract: what the two bytes give is the field.
-- Assumes nothing.
use Prim.Native.Nat.{ℕ, ◌^◌, ◌≤◌}
use native.Mathlib.Omega.{arith}
use mathlib.Core.List.{List}
use lib.Pow.{pow_mono}
use borrow.Author.Rules.{rules}
use Rattle.laws.proofs.Bits.{bit_field_lt}
use Rattle.bits.proofs.Window.{field-pair}
use Rattle.bits.proofs.read.Goals as goal

pub returns : goal.returns
returns c =
    let a = c.args in
    let s : List ℕ = a.s.now in
    let w : ℕ = a.width in
    let m : 2 ^ w ≤ 2 ^ 16 = pow_mono {i = w} {j = 16} (omega arith) in
    let e = field-pair s a.at w (search rules) c.requires in
    (cc, omega (arith, bit_field_lt s a.at w, e))
