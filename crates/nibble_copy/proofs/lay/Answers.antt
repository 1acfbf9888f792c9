-- `nibble_copy::lay` meets its contract.
-- Assumes nothing.
use Prim.Native.Nat.{ℕ, ◌+◌, ◌*◌, ◌-◌, ◌%◌}
use native.Mathlib.Nat.{zero-add}
use native.Mathlib.Omega.{arith}
use mathlib.Core.List.{List}
use mathlib.Core.Path.{◌≡◌, refl, sym, ap, ◌∙◌}
use lib.ListN.{length, get_or, set}
use borrow.Author.Rules.{rules}
use Rattle.format.specs.Nibbles.{nibbles}
use Rattle.laws.proofs.Nibbles.{length-nibbles}
use Rattle.nibble_edit.proofs.Paste.{ends}
use Rattle.nibble_copy.proofs.lay.Goals as goal

pub returns : goal.returns
returns c =
    let lay-bytes = c.lay_bytes in
    let a = c.args in
    let n₀ : List ℕ = nibbles a.s.now in
    let long : length n₀ ≡ 2 * length a.s.now = length-nibbles a.s.now in
    let n₁ : List ℕ = nibbles lay-bytes.new.s in
    let x : List ℕ = a.ns.now in
    let h : ℕ = a.at % 2 in
    let last : ℕ = length x - 1 in (
      c.put-2.ensures.0
          ∙ ap (λ (l : List ℕ). set l (a.at + last) (get_or x last 0)) c.put.ensures.0
          ∙ ends n₀ n₁ x a.at 0 a.at (length x) (a.at + h) h (a.at + last) last (get_or x 0 0) (get_or x last 0)
          (omega arith) (omega arith) (omega arith) refl (sym (zero-add h)) refl (sym (zero-add last)) refl refl lay-bytes.ensures,
      search rules,
    )
