-- `card::row` meets its contract. `search rules` closes every arm with a number; of the last, `none_lt` tells which number is left.
-- Assumes nothing.
use Prim.Native.Nat.{ℕ}
use native.Mathlib.Omega.{arith}
use mathlib.Core.Path.{◌≡◌, sym, ap}
use lib.ListN.{get_or}
use Rattle.card.specs.Rows.{rows}
use Rattle.laws.proofs.Sequences.{none_lt}
use Rattle.card.proofs.row.Goals as goal

pub returns-in_default : goal.returns-in_default
returns-in_default c =
    let k : ℕ = c.args.k in
    let l = none_lt 45 k c.requires.0 c.in_default.in_default-own.rest in
    let e : k ≡ 46 = omega arith in
    sym (ap (λ (n : ℕ). get_or rows n 0) e)
