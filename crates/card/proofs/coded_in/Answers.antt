-- `card::coded_in` meets its contract: a value is judged as a whole number, then the base is subtracted.
-- Assumes nothing.
use Prim.Native.Nat.{ℕ, ◌/◌, ◌%◌}
use native.Mathlib.Omega.{arith}
use mathlib.Core.Path.{subst, sym}
use lib.IntN.{◌+ℤ◌}
use mir.Syntax.{w64}
use mir.Val.{SFits, to_z, of_z}
use Rattle.card.proofs.Scale.{end_fits, found_below, found_above, difference_fits, cast_fits, found_code}
use borrow.Author.Rules.{rules}
use Rattle.card.proofs.coded_in.Goals as goal
use Rattle.card.proofs.coded_in.Goals.{then-z-low-via-then-z-low, then-z-low-via-else-z-low+then-high-z}

pub overflow_add-high : goal.overflow_add-high
overflow_add-high c =
    subst (λ (n : ℕ). SFits w64 (to_z w64 (of_z w64 c.base-low.result) +ℤ to_z w64 n)) (sym c.highest_in.ensures)
    (end_fits c.args.row (c.args.row / 65536 % 4096) c.base-low.result (omega arith) c.base-low.ensures)

pub overflow_add-low : goal.overflow_add-low
overflow_add-low c = end_fits c.args.row 1 c.base-low.result (omega arith) c.base-low.ensures

pub returns-then-z-low : goal.returns-then-z-low
returns-then-z-low c =
    let a = c.args in
    elim c.then-z-low.branch [
      | then-z-low-via-then-z-low w ↦ found_below a.row a.value c.base-low.result c.highest_in.result c.base-low.ensures c.highest_in.ensures (search rules) w.if-z-low.true
      | then-z-low-via-else-z-low+then-high-z w ↦ found_above a.row a.value c.base-low.result c.highest_in.result c.base-low.ensures c.highest_in.ensures (search rules) w.if-high-z.true
    ]

pub overflow_sub-result : goal.overflow_sub-result
overflow_sub-result c =
    difference_fits c.args.row c.args.value _ _ c.base-low.ensures c.highest_in.ensures (search rules) c.if-z-low.false c.if-high-z.false

pub overflow_cast-result : goal.overflow_cast-result
overflow_cast-result c =
    cast_fits c.args.row c.args.value _ _ c.base-low.ensures c.highest_in.ensures (search rules) c.if-z-low.false c.if-high-z.false

pub returns : goal.returns
returns c =
    found_code c.args.row c.args.value _ _ c.base-low.ensures c.highest_in.ensures (search rules) c.if-z-low.false c.if-high-z.false
