-- FORMAT 2.4: the folding of a number.
use Rattle.std.specs.Prelude.{ℕ, zero, suc, ◌+◌, ◌/◌, ◌%◌, cond, eqb, ltb}

-- the low byte, plus what is left of the number when that byte is cut off
unfoldable pub fold_once : ℕ → ℕ
fold_once n = n % 256 + n / 256

-- n folded while it is over 255, at most so many times
unfoldable pub fold_while : ℕ → ℕ → ℕ
fold_while zero n = n
fold_while (suc turns) n = let more = fold_while turns (fold_once n) in cond (ltb 255 n) more n

-- 255 counts as 0. n turns are enough, since each makes a number over 255 smaller
unfoldable pub folding : ℕ → ℕ
folding n = let r = fold_while n n in cond (eqb r 255) 0 r
