-- A run of fields done in straight lines: a list that is set place after place, and a sum.
use Rattle.std.specs.Prelude.{ℕ, zero, suc, ◌+◌, ◌*◌, ◌≤◌, ◌≡◌, List, length, set}

-- n places of a list set, place o + i and on, to what f says of i and on
unfoldable pub set_run : {A : Type 0} → (ℕ → A) → ℕ → ℕ → ℕ → List A → List A
set_run f o i zero xs = xs
set_run f o i (suc n) xs = set_run f o (suc i) n (set xs (o + i) (f i))

-- the sum of n numbers, those of i and on
unfoldable pub sum_run : (ℕ → ℕ) → ℕ → ℕ → ℕ
sum_run g i zero = 0
sum_run g i (suc n) = g i + sum_run g (suc i) n

-- the sum of n fields from place i on, added to a sum; each number is at most most
pub record Summed (g : ℕ → ℕ) (most i n sum r : ℕ) : Type 0 where
  pub total : r ≡ sum + sum_run g i n
  pub small : r ≤ sum + n * most

-- a run of n fields from place i on: the list before and after, and the sum
pub record SetAndSummed {A : Type 0} (f : ℕ → A) (g : ℕ → ℕ) (o most i n : ℕ) (before after : List A) (sum r : ℕ) : Type 0 where
  pub list : after ≡ set_run f o i n before
  pub long : length after ≡ length before
  pub sums : Summed g most i n sum r
