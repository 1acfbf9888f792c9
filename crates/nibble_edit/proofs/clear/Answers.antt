-- `nibble_edit::clear` meets its contract.
-- Assumes nothing.
use Prim.Native.Nat.{ℕ, ◌+◌, ◌*◌, ◌-◌, ◌/◌, ◌%◌}
use native.Mathlib.Nat.{zero-add}
use native.Mathlib.Omega.{arith}
use mathlib.Core.List.{List}
use mathlib.Core.Path.{◌≡◌, refl, sym, ap, ◌∙◌}
use lib.ListN.{length, set, replicate, length-replicate, get_or-replicate}
use borrow.Author.Rules.{rules}
use Rattle.format.specs.Nibbles.{nibbles}
use Rattle.laws.proofs.Nibbles.{length-nibbles}
use Rattle.nibble_edit.proofs.Paste.{paste_zeros, ends}
use Rattle.nibble_edit.proofs.clear.Goals as goal

pub returns : goal.returns
returns c =
    let clear-bytes = c.clear_bytes in
    let a = c.args in
    let n₀ : List ℕ = nibbles a.s.now in
    let long : length n₀ ≡ 2 * length a.s.now = length-nibbles a.s.now in
    let n₁ : List ℕ = nibbles clear-bytes.new.s in
    let zeros : List ℕ = replicate a.count 0 in
    let wide : length zeros ≡ a.count = length-replicate a.count 0 in
    let h : ℕ = a.at % 2 in
    let m : ℕ = 2 * ((a.count - h) / 2) in
    let last : ℕ = a.count - 1 in (
      c.put-2.ensures.0
          ∙ ap (λ (l : List ℕ). set l (a.at + last) 0) c.put.ensures.0
          ∙ ends n₀ n₁ zeros a.at 0 a.at a.count (a.at + h) h (a.at + last) last 0 0 (omega arith) (omega arith) (omega arith) refl (sym (zero-add h)) refl (sym (zero-add last))
          (sym (get_or-replicate a.count 0 0 0 (omega arith))) (sym (get_or-replicate a.count last 0 0 (omega arith)))
          (clear-bytes.ensures ∙ paste_zeros n₀ (a.at + h) h m a.count (omega arith)),
      search rules,
    )
