-- Texts put one behind another where they have room.
-- Assumes nothing.
use Prim.Native.Nat.{ℕ, ◌+◌, ◌≤◌}
use native.Mathlib.Omega.{arith}
use mathlib.Core.Path.{◌≡◌, sym, ap, ◌∙◌}
use mathlib.Core.List.{List, [], ◌++◌, append_assoc}
use lib.ListN.{length, length-append}

-- the first of two has room where both have, and the second behind the first
module _ (b xs ys : List ℕ) (room : length b + length (xs ++ ys) ≤ 512) where
  pub room_front : length b + length xs ≤ 512
  room_front = omega (arith, room, length-append xs ys)

  pub room_behind : (m : List ℕ) → m ≡ b ++ xs → length m + length ys ≤ 512
  room_behind m e = omega (arith, room, ap length e, length-append b xs, length-append xs ys)

pub puts_both : (b m n xs ys : List ℕ) → m ≡ b ++ xs → n ≡ m ++ ys → n ≡ b ++ (xs ++ ys)
puts_both b m n xs ys e f = f ∙ ap (λ (l : List ℕ). l ++ ys) e ∙ append_assoc b xs ys

-- the first
pub puts_first : (b m xs ys : List ℕ) → b ≡ [] → m ≡ b ++ xs → ys ≡ xs → m ≡ ys
puts_first b m xs ys e f q = f ∙ ap (λ (l : List ℕ). l ++ xs) e ∙ sym q

pub room_first : (b xs : List ℕ) → b ≡ [] → length xs ≤ 512 → length b + length xs ≤ 512
room_first b xs e h = omega (arith, ap length e)
