-- Laws of the order of refusals: the first that fits, over a check and over lists of checks.
-- Assumes nothing.
use Prim.Native.Nat.{ℕ, ◌≤◌, ◌<◌}
use native.Mathlib.Omega.{arith}
use mathlib.Core.Path.{◌≡◌, refl, sym, ap, ◌∙◌}
use mathlib.Core.Bool.{Bool, true, false, cond, not, and-false}
use mathlib.Core.List.{List, [], ◌∷◌, ◌++◌}
use mathlib.Core.Option.{Option, none, some}
use lib.Dec.{leb}
use borrow.Author.Tests.{le-leb, lt-leb, leb-true, not-false}
use Rattle.format.specs.Order.{Refusal, Check, first, between}
use Rattle.laws.proofs.Sequences.{and_true}

-- ---- a number within two ends

pub between_in : (low high x : ℕ) (t : Bool) → t ≡ between low high x → not t ≡ false → (low ≤ x) × (x ≤ high)
between_in low high x t e h =
    let a = and_true (leb low x) (leb x high) (sym e ∙ not-false t h) in
    (leb-true low x a.0, leb-true x high a.1)

-- the check of a number that is within them passes
pub number_passes : (low high x : ℕ) (t : Bool) → t ≡ between low high x → not t ≡ false → not (between low high x) ≡ false
number_passes low high x t e h = ap not (sym e) ∙ h

pub range_low : (low high x : ℕ) → x < low → not (between low high x) ≡ true
range_low low high x h = rw (lt-leb low x h)

pub range_high : (low high x : ℕ) → high < x → not (between low high x) ≡ true
range_high low high x h = rw (lt-leb x high h, and-false (leb low x))

pub range_fine : (low high x : ℕ) → low ≤ x → x ≤ high → between low high x ≡ true
range_fine low high x h k = rw (le-leb low x h, le-leb x high k)

-- ---- one check before others

module _ (c : Check) (more : List Check) where
  pub first_skip : c.fits ≡ false → first (c ∷ more) ≡ first more
  unfolding first
  first_skip e = rw e

  pub first_fits : c.fits ≡ true → first (c ∷ more) ≡ some c.refusal
  unfolding first
  first_fits e = rw e

  -- nothing is refused: neither by the check, nor by those behind it
  pub first_none : first (c ∷ more) ≡ none → (c.fits ≡ false) × (first more ≡ none)
  unfolding first
  first_none e = go c.fits e
    where
      go : (t : Bool) → cond t (some c.refusal) (first more) ≡ none → (t ≡ false) × (first more ≡ none)
      go true e = let z : ◌≡◌ {A = ℕ} 0 1 = cc in absurd (omega arith)
      go false e = (refl, e)

-- ---- checks, then others

-- the refusal, or else the other one
abbrev pub or_else : Option Refusal → Option Refusal → Option Refusal
or_else none s = s
or_else (some r) s = some r

first-append : (xs ys : List Check) → first (xs ++ ys) ≡ or_else (first xs) (first ys)
unfolding first
first-append [] ys = refl
first-append (x ∷ xs) ys = go x.fits (first-append xs ys)
  where
    go : (t : Bool) → first (xs ++ ys) ≡ or_else (first xs) (first ys)
        → cond t (some x.refusal) (first (xs ++ ys)) ≡ or_else (cond t (some x.refusal) (first xs)) (first ys)
    go true ih = refl
    go false ih = ih

module _ (xs ys : List Check) where
  pub first-append_some : (r : Refusal) → first xs ≡ some r → first (xs ++ ys) ≡ some r
  first-append_some r e = rw (first-append xs ys, e)

  pub first-append_skip : first xs ≡ none → first (xs ++ ys) ≡ first ys
  first-append_skip e = rw (first-append xs ys, e)

  pub first-append_none : first (xs ++ ys) ≡ none → (first xs ≡ none) × (first ys ≡ none)
  first-append_none e = go (first xs) (rw first-append at e)
    where
      go : (o : Option Refusal) → or_else o (first ys) ≡ none → (o ≡ none) × (first ys ≡ none)
      go none e = (refl, e)
      go (some r) e = let z : ◌≡◌ {A = ℕ} 0 1 = cc in absurd (omega arith)

-- ---- nothing is refused

pub first-nil : first [] ≡ none
unfolding first
first-nil = refl

pub no_check : (c : Check) (more : List Check) → c.fits ≡ false → first more ≡ none → first (c ∷ more) ≡ none
no_check c more e n = first_skip c more e ∙ n

pub no_checks : (xs ys : List Check) → first xs ≡ none → first ys ≡ none → first (xs ++ ys) ≡ none
no_checks xs ys e n = first-append_skip xs ys e ∙ n
