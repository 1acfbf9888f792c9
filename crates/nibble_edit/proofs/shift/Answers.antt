-- `nibble_edit::shift` meets its contract.
-- Assumes nothing.
use Prim.Native.Nat.{ℕ, ◌+◌, ◌*◌, ◌-◌, ◌%◌}
use native.Mathlib.Omega.{arith}
use mathlib.Core.List.{List}
use mathlib.Core.Path.{◌≡◌, refl, ap, ◌∙◌}
use lib.ListN.{length, set}
use borrow.Author.Rules.{rules}
use Rattle.format.specs.Nibbles.{nibbles}
use Rattle.laws.proofs.Nibbles.{length-nibbles}
use Rattle.nibble_edit.proofs.Paste.{ends}
use Rattle.nibble_edit.proofs.shift.Goals as goal

pub returns : goal.returns
returns c =
    let a = c.args in
    let x = c.packed_at-x in
    let y = c.packed_at-y in
    let moved = c.pairs in
    let n₀ : List ℕ = nibbles a.s.now in
    let long : length n₀ ≡ 2 * length a.s.now = length-nibbles a.s.now in
    let n₁ : List ℕ = nibbles moved.new.s in
    let h : ℕ = a.to % 2 in
    let last : ℕ = a.count - 1 in (
      c.put-2.ensures.0
          ∙ ap (λ (l : List ℕ). set l (a.to + last) y.result) c.put.ensures.0
          ∙ ends n₀ n₁ n₀ a.to a.from a.to a.count (a.to + h) (a.from + h) (a.to + last) (a.from + last) x.result y.result
          (omega arith) (omega arith) (omega arith) refl refl refl refl x.ensures.0 y.ensures.0 moved.ensures,
      search rules,
    )
