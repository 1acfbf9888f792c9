-- What a cursor reads of the last nibble.
-- Assumes nothing.
use Prim.Native.Nat.{ℕ, ◌≤◌}
use native.Mathlib.Omega.{arith}
use mathlib.Core.Path.{◌≡◌, refl, sym, ap, ◌∙◌}
use mathlib.Core.Bool.{Bool, true, false, cond}
use mathlib.Core.List.{List}
use lib.Dec.{ltb}
use lib.ListN.{length, get_or}
use borrow.Author.Tests.{ltb-false}
use Rattle.std.specs.Prelude.{Option, Some, None}
use Rattle.format.specs.Nibbles.{nibbles}
use Rattle.nibble.specs.View.{step_at}
use Rattle.nibble.specs.declared.Cursor.{Cursor}

abbrev value : Option (ℕ × Cursor) → ℕ
value None = 0
value (Some x) = x.0

step_value : (t : Bool) (v w : ℕ) (j k : Cursor) → cond {A = Option (ℕ × Cursor)} t (Some (v, j)) None ≡ Some (w, k) → w ≡ v
step_value true v w j k e = sym (ap value e)
step_value false v w j k e = let z : ◌≡◌ {A = ℕ} 0 1 = cc in absurd (omega arith)

step_end : (t : Bool) (v : ℕ) (j : Cursor) → cond {A = Option (ℕ × Cursor)} t (Some (v, j)) None ≡ None → t ≡ false
step_end true v j e = let z : ◌≡◌ {A = ℕ} 0 1 = cc in absurd (omega arith)
step_end false v j e = refl

module _ (b : List ℕ) (end : ℕ) (x : Option (ℕ × Cursor)) (is : x ≡ step_at b (record { at = end; packed = true })) where
  pub last_read : (v : ℕ) (k : Cursor) → x ≡ Some (v, k) → v ≡ get_or (nibbles b) end 0
  last_read v k e = step_value (ltb end (length (nibbles b))) _ v _ k (sym is ∙ e)

  pub last_missing : x ≡ None → length (nibbles b) ≤ end
  last_missing e = ltb-false end (length (nibbles b)) (step_end (ltb end (length (nibbles b))) _ _ (sym is ∙ e))
