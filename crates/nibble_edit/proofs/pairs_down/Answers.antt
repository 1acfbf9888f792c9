-- `nibble_edit::pairs_down` meets its contract.
-- Assumes nothing.
use Prim.Native.Nat.{ℕ, ◌+◌, ◌*◌}
use native.Mathlib.Omega.{arith}
use mathlib.Core.List.{List}
use mathlib.Core.Path.{◌∙◌}
use Rattle.format.specs.Nibbles.{nibbles}
use Rattle.laws.proofs.Nibbles.{length-nibbles}
use Rattle.nibble_edit.proofs.Paste.{down_then}
use Rattle.nibble_edit.proofs.Stores.{pair_at}
use Rattle.nibble_edit.proofs.pairs_down.Goals as goal

pub loop-k-preserved : goal.loop-k-preserved
loop-k-preserved c =
    let a = c.args in
    let w = c.loop-k in
    let n₀ : List ℕ = nibbles a.s.now in
    let n : List ℕ = nibbles w.s in
    pair_at n _ a.from a.to w.k (omega arith) c.pair.ensures
    ∙ down_then n₀ n a.from a.to (2 * w.k) 2 (2 * (w.k + 1)) (omega arith) (omega arith) (omega (arith, length-nibbles a.s.now)) w.invariant
