-- `nibble_copy::fetch_bytes` meets its contract.
-- Assumes nothing.
use Prim.Native.Nat.{ℕ, ◌+◌, ◌*◌, ◌/◌}
use native.Mathlib.Omega.{arith}
use mathlib.Core.List.{List}
use mathlib.Core.Path.{◌≡◌, refl, ◌∙◌}
use lib.ListN.{length}
use Rattle.format.specs.Nibbles.{nibbles}
use Rattle.laws.proofs.Nibbles.{length-nibbles}
use Rattle.nibble_edit.proofs.Paste.{paste_two, laid_then}
use Rattle.nibble_edit.proofs.Stores.{high_at, low_at}
use Rattle.nibble_copy.proofs.fetch_bytes.Goals as goal

pub loop-k-preserved : goal.loop-k-preserved
loop-k-preserved c =
    let a = c.args in
    let n₀ : List ℕ = nibbles a.s.now in
    let long : length n₀ ≡ 2 * length a.s.now = length-nibbles a.s.now in
    let w = c.loop-k in
    let i : ℕ = a.at / 2 + w.k in
    let q : ℕ = a.at + 2 * w.k in
    paste_two w.out n₀ (a.j + 2 * w.k) q _ _ (omega arith) (omega arith) (high_at a.s.now i q (omega arith)) (low_at a.s.now i (q + 1) (omega arith))
    ∙ laid_then a.out.now w.out n₀ a.j a.at (2 * w.k) 2 (2 * (w.k + 1)) (a.j + 2 * w.k) q (omega arith) refl refl (omega arith) (omega arith) w.invariant
