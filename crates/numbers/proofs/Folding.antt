-- The folding of a number is its remainder by 255.
-- Assumes nothing.
use Prim.Native.Nat.{ℕ, zero, suc, ◌%◌, ◌≤◌, ◌<◌}
use native.Mathlib.Omega.{arith}
use mathlib.Core.Path.{◌≡◌, refl, ◌∙◌}
use mathlib.Core.Bool.{Bool, true, false, cond}
use lib.Dec.{eqb, ltb}
use borrow.Author.Tests.{ltb-true, ltb-false, eqb-true, eqb-false}
use Rattle.numbers.specs.Folding.{fold_once, fold_while, folding}

-- what folding brings n to: r is the same modulo 255, and at most 255
record Ends (n r : ℕ) : Type 0 where
  pub same : r % 255 ≡ n % 255
  pub most : r ≤ 255

fold_same : (n : ℕ) → fold_once n % 255 ≡ n % 255
unfolding fold_once
fold_same n = omega arith

fold_less : (n : ℕ) → 255 < n → fold_once n < n
unfolding fold_once
fold_less n h = omega arith

-- one turn, where the turns that are left fold what it gives
turn : (n more : ℕ) (b : Bool) → ltb 255 n ≡ b → (255 < n → Ends (fold_once n) more) → Ends n (cond b more n)
turn n more true e f =
    let g = f (ltb-true 255 n e) in
    record { same = g.same ∙ fold_same n; most = g.most }
turn n more false e f = record { same = refl; most = ltb-false 255 n e }

while_ends : (turns n : ℕ) → n ≤ turns → Ends n (fold_while turns n)
unfolding fold_while
while_ends zero n h = record { same = refl; most = omega arith }
while_ends (suc turns) n h =
    turn n (fold_while turns (fold_once n)) (ltb 255 n) refl
    (λ (over : 255 < n). while_ends turns (fold_once n) (omega (arith, fold_less n over)))

-- what 255 counts as
counted : (n r : ℕ) (b : Bool) → eqb r 255 ≡ b → Ends n r → cond b 0 r ≡ n % 255
counted n r true e f = let i = eqb-true r 255 e in omega (arith, f.same)
counted n r false e f = let i = eqb-false r 255 e in omega (arith, f.same, f.most, i)

pub folding_remainder : (n : ℕ) → folding n ≡ n % 255
unfolding folding
folding_remainder n = counted n (fold_while n n) (eqb (fold_while n n) 255) refl (while_ends n n (omega arith))
