-- Nibbles held in one number; the column of a flag's value, and what its mark says of it.
use Rattle.std.specs.Prelude.{ℕ, zero, suc, ◌-◌, ◌/◌, ◌%◌, Bool, true, cond, ◌&&◌, List, [], ◌∷◌, ◌++◌, eqb}
use Rattle.format.specs.Order.{between}

-- the n low nibbles of a number, the highest first
unfoldable pub nibbles_in : ℕ → ℕ → List ℕ
nibbles_in zero w = []
nibbles_in (suc n) w = nibbles_in n (w / 16) ++ (w % 16 ∷ [])

-- the column of a flag's value in its row of the table; the last for a number that is no value
unfoldable pub column_of : ℕ → ℕ
column_of v = cond (between 1 10 v) (v - 1) 9

-- a flag is missing, or has a value and the mark 1
unfoldable pub stands : ℕ → ℕ → Bool
stands v mark = cond (eqb v 0) true (between 1 10 v && eqb mark 1)
