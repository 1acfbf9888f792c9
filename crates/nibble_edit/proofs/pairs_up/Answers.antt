-- `nibble_edit::pairs_up` meets its contract.
-- Assumes nothing.
use Prim.Native.Nat.{ℕ, ◌*◌, ◌-◌}
use native.Mathlib.Omega.{arith}
use mathlib.Core.List.{List}
use mathlib.Core.Path.{◌∙◌}
use Rattle.format.specs.Nibbles.{nibbles}
use Rattle.laws.proofs.Nibbles.{length-nibbles}
use Rattle.nibble_edit.proofs.Paste.{up_then}
use Rattle.nibble_edit.proofs.Stores.{pair_at}
use Rattle.nibble_edit.proofs.pairs_up.Goals as goal

pub loop-k-preserved : goal.loop-k-preserved
loop-k-preserved c =
    let a = c.args in
    let w = c.loop-k in
    let n : List ℕ = nibbles w.s in
    let k : ℕ = w.k - 1 in
    up_then n _ a.from a.to (2 * k) 2 (2 * w.k) (omega arith) (omega arith) (omega (arith, length-nibbles w.s))
    (pair_at n _ a.from a.to k (omega arith) c.pair.ensures)
    ∙ w.invariant
