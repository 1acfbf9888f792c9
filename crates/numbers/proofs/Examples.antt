-- Examples of the folding, FORMAT 2.4 and 12 and the ends of 64 bits, as one list that one computed fact checks.
-- Assumes nothing.
use Prim.Native.Nat.{ℕ, ◌+◌, ◌-◌, ◌^◌}
use mathlib.Core.List.{List, [], ◌∷◌, map}
use lib.Dec.{T}
use Rattle.format.proofs.Test.{Example, same, every}
use Rattle.numbers.specs.Folding.{fold_once, fold_while, folding}

turn : List ℕ → List ℕ → Example
turn ns want = record { got = map fold_once ns; want = want }

turns : ℕ → List ℕ → List ℕ → Example
turns n ts want = record { got = map (λ (t : ℕ). fold_while t n) ts; want = want }

folds : List ℕ → List ℕ → Example
folds ns want = record { got = map folding ns; want = want }

-- the highest number of 64 bits, a multiple of 255
top : ℕ
top = 2 ^ 64 - 1

examples : List Example
examples =
    turn (0 ∷ 255 ∷ 256 ∷ 510 ∷ 511 ∷ 65535 ∷ top ∷ []) (0 ∷ 255 ∷ 1 ∷ 255 ∷ 256 ∷ 510 ∷ 72057594037928190 ∷ [])
    ∷ turns 65535 (0 ∷ 1 ∷ 2 ∷ 3 ∷ []) (65535 ∷ 510 ∷ 255 ∷ 255 ∷ [])
    ∷ turns top (6 ∷ 7 ∷ 8 ∷ []) (65790 ∷ 510 ∷ 255 ∷ [])
    ∷ folds (0 ∷ 1 ∷ 253 ∷ 254 ∷ 255 ∷ 256 ∷ 257 ∷ []) (0 ∷ 1 ∷ 253 ∷ 254 ∷ 0 ∷ 1 ∷ 2 ∷ [])
    ∷ folds (509 ∷ 510 ∷ 511 ∷ 512 ∷ 765 ∷ 65280 ∷ 65535 ∷ 65536 ∷ []) (254 ∷ 0 ∷ 1 ∷ 2 ∷ 0 ∷ 0 ∷ 0 ∷ 1 ∷ [])
    -- the sums of FORMAT 12
    ∷ folds (1005 ∷ 2291 ∷ []) (240 ∷ 251 ∷ [])
    ∷ folds ((2 ^ 32) ∷ (2 ^ 63) ∷ (top - 510) ∷ (top - 255) ∷ (top - 1) ∷ top ∷ (top + 1) ∷ []) (1 ∷ 128 ∷ 0 ∷ 0 ∷ 254 ∷ 0 ∷ 1 ∷ [])
    ∷ []

hold : T (every examples)
unfolding turn turns folds top examples same every fold_once fold_while folding
hold = tt
