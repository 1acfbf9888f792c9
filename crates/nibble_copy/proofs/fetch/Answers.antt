-- `nibble_copy::fetch` meets its contract.
-- Assumes nothing.
use Prim.Native.Nat.{ℕ, ◌+◌, ◌*◌, ◌-◌, ◌%◌}
use native.Mathlib.Nat.{zero-add}
use native.Mathlib.Omega.{arith}
use mathlib.Core.List.{List, ◌++◌}
use mathlib.Core.Path.{◌≡◌, refl, sym, ap, ◌∙◌}
use lib.ListN.{length, take, drop}
use Rattle.format.specs.Nibbles.{nibbles}
use Rattle.laws.proofs.Nibbles.{length-nibbles}
use Rattle.nibble_edit.proofs.Paste.{ends}
use Rattle.nibble_copy.proofs.fetch.Goals as goal

pub returns : goal.returns
returns c =
    let a = c.args in
    let n₀ : List ℕ = nibbles a.s.now in
    let long : length n₀ ≡ 2 * length a.s.now = length-nibbles a.s.now in
    let out₀ : List ℕ = a.out.now in
    let out₁ : List ℕ = c.fetch_bytes.new.out in
    let h : ℕ = a.at % 2 in
    let last : ℕ = a.count - 1 in
    ends out₀ out₁ n₀ 0 a.at a.at a.count h (a.at + h) last (a.at + last) c.packed_at.result c.packed_at-2.result
    (omega arith) (omega arith) (omega arith) (sym (zero-add h)) refl (sym (zero-add last)) refl
    c.packed_at.ensures.0 c.packed_at-2.ensures.0 c.fetch_bytes.ensures
    ∙ ap (λ (k : ℕ). take a.count (drop a.at n₀) ++ drop k out₀) (zero-add a.count)
