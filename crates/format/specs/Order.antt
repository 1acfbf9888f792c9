-- FORMAT 5.1: refusals, and the order in which they are judged.
use Rattle.std.specs.Prelude.{ℕ, Bool, true, cond, ◌&&◌, List, [], ◌∷◌, leb}
use Rattle.std.proofs.Math.Option.{Option, none, some}

-- a refusal: its number and its place
pub record Refusal : Type 0 where
  pub number : ℕ
  pub place : ℕ

-- a check: whether its refusal fits, which is that it applies, and that refusal
pub record Check : Type 0 where
  pub fits : Bool
  pub refusal : Refusal

abbrev pub check : Bool → ℕ → ℕ → Check
check fits number place = record { fits = fits; refusal = record { number = number; place = place } }

-- the first refusal that fits, in the order given
unfoldable pub first : List Check → Option Refusal
first [] = none
first (c ∷ more) = cond c.fits (some c.refusal) (first more)

-- low ≤ x ≤ high
abbrev pub between : ℕ → ℕ → ℕ → Bool
between low high x = leb low x && leb x high

-- marks, each 0 or 1
unfoldable pub all_marks : List ℕ → Bool
all_marks [] = true
all_marks (m ∷ ms) = leb m 1 && all_marks ms
