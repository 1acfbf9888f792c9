-- The refusal of one field that is given as a presence word and a value.
-- Assumes nothing.
use Rattle.std.specs.Prelude.{Option, Result, Ok, Err, is_err}
use Prim.Native.Nat.{ℕ, zero, suc, ◌+◌, ◌-◌, ◌≤◌, ◌<◌}
use native.Mathlib.Nat.{zero-add, suc-add}
use native.Mathlib.Omega.{arith}
use mathlib.Core.Path.{◌≡◌, refl, sym, ap, ◌∙◌}
use lib.Dec.{eqb}
use mathlib.Core.Bool.{Bool, true, false, cond, not, ◌&&◌, and-false}
use mathlib.Core.List.{List}
use lib.ListN.{get_or}
use lib.IntN.{ℤ, pos}
use mir.Syntax.{w64}
use mir.Val.{to_z, of_z}
use borrow.Author.Tests.{ne_eqb}
use Rattle.format.specs.Order as order
use Rattle.format.specs.Field.{field_at, required, scaled, in_range}
use Rattle.format.specs.Reply.{by_number}
use Rattle.format.specs.Whole.{bit_at}
use Rattle.format.specs.declared.Coded.{Coded}
use Rattle.format.specs.declared.Refusal.{Refusal}
use Rattle.laws.proofs.Sequences.{true_false}
use Rattle.card.specs.Answers.{coding_of}
use Rattle.card.specs.Runs.{sum_run}
use Rattle.card.proofs.Runs.{sum-zero}
use Rattle.write_values.specs.Lent.{by_tests, given_check, check_at, value_refusal, refusal_at, fault_at}

-- a value that is present and not refused is in range
pub fits_present : (b r : Bool) → b ≡ true → b && not r ≡ false → r ≡ true
fits_present b true e h = refl
fits_present b false e h = absurd (true_false (b && true) (rw e) h)

-- what the machine's value is coded to
pub coding_here : (k : ℕ) (v : ℤ) (g : Option Coded) → to_z w64 (of_z w64 v) ≡ v → g ≡ coding_of (field_at k) (scaled (to_z w64 (of_z w64 v)))
    → g ≡ coding_of (field_at k) (scaled v)
coding_here k v g held e = e ∙ ap (λ (z : ℤ). coding_of (field_at k) (scaled z)) held

-- the refusal of field k, by a word and a value
module _ (word k : ℕ) (v : ℤ) where
  pub refusal_missing : bit_at word k ≡ false → required k ≡ true → Err (record { number = 10; place = k }) ≡ given_check k word v
  unfolding given_check
  refusal_missing b q = rw (q, b)

  pub refusal_absent : bit_at word k ≡ false → required k ≡ false → Ok tt ≡ given_check k word v
  unfolding given_check
  refusal_absent b q = rw (q, b)

  pub refusal_outside : bit_at word k ≡ true → in_range (field_at k) (scaled v) ≡ false → Err (record { number = 9; place = k }) ≡ given_check k word v
  unfolding given_check
  refusal_outside b r = rw (b, r, and-false (required k))

  pub refusal_fine : bit_at word k ≡ true → in_range (field_at k) (scaled v) ≡ true → Ok tt ≡ given_check k word v
  unfolding given_check
  refusal_fine b r = rw (b, r, and-false (required k))

-- and of the field at its place
pub check_number : (values : List ℤ) (word k : ℕ) → 1 ≤ k → check_at values word (k - 1) ≡ given_check k word (get_or values (k - 1) (pos 0))
check_number values word k low = let q : k - 1 + 1 ≡ k = omega arith in rw q

-- its number, 0 where there is none
abbrev pub number_in : Result Unit order.Refusal → ℕ
number_in (Ok u) = 0
number_in (Err x) = x.number

number_is : (k word : ℕ) (v : ℤ) → number_in (given_check k word v) ≡ value_refusal k word v
unfolding given_check value_refusal
number_is k word v = go (required k && not (bit_at word k)) (bit_at word k && not (in_range (field_at k) (scaled v)))
  where
    go : (s t : Bool) → number_in (by_tests s t k) ≡ cond s 10 (cond t 9 0)
    go true t = refl
    go false true = refl
    go false false = refl

pub refusal_le : (values : List ℤ) (word i : ℕ) → refusal_at values word i ≤ 10
unfolding value_refusal
refusal_le values word i =
    go (required (i + 1) && not (bit_at word (i + 1))) (bit_at word (i + 1) && not (in_range (field_at (i + 1)) (scaled (get_or values i (pos 0)))))
  where
    go : (s t : Bool) → cond s 10 (cond t 9 0) ≤ 10
    go true t = omega arith
    go false true = omega arith
    go false false = omega arith

-- what the code adds for one field
pub number_added : (values : List ℤ) (word i : ℕ) (r : Result Unit Refusal) → by_number r ≡ check_at values word i
    → number_in (by_number r) ≡ refusal_at values word i
number_added values word i r e = ap number_in e ∙ number_is (i + 1) word (get_or values i (pos 0))

-- none is refused exactly where the sum of the numbers is 0
some_adds : (a : ℕ) → eqb (suc a) 0 ≡ false
some_adds a = ne_eqb (suc a) 0 (λ q. omega (arith, q))

none_adds : (a b c d : ℕ) → eqb a 0 ≡ eqb c 0 → eqb b 0 ≡ eqb d 0 → eqb (a + b) 0 ≡ eqb (c + d) 0
none_adds zero b zero d e f = rw (zero-add b, zero-add d) f
none_adds zero b (suc c) d e f = absurd (true_false (eqb 0 0) refl (e ∙ some_adds c))
none_adds (suc a) b zero d e f = absurd (true_false (eqb 0 0) refl (sym e ∙ some_adds a))
none_adds (suc a) b (suc c) d e f = rw (suc-add a b, suc-add c d) (some_adds (a + b) ∙ sym (some_adds (c + d)))

pub none_in : (g f : ℕ → ℕ) (n i : ℕ) → ((j : ℕ) → eqb (g j) 0 ≡ eqb (f j) 0) → eqb (sum_run g i n) 0 ≡ eqb (sum_run f i n) 0
unfolding sum_run
none_in g f zero i e = refl
none_in g f (suc n) i e = none_adds (g i) (sum_run g (suc i) n) (f i) (sum_run f (suc i) n) (e i) (none_in g f n (suc i) e)

pub none_at : (values : List ℤ) (word j : ℕ) → eqb (refusal_at values word j) 0 ≡ eqb (fault_at values word j) 0
unfolding given_check value_refusal
none_at values word j = go (required (j + 1) && not (bit_at word (j + 1))) (bit_at word (j + 1) && not (in_range (field_at (j + 1)) (scaled (get_or values j (pos 0)))))
  where
    go : (s t : Bool) → eqb (cond s 10 (cond t 9 0)) 0 ≡ eqb (cond (is_err (by_tests s t (j + 1))) 1 0) 0
    go true t = refl
    go false true = refl
    go false false = refl

-- where no field is refused, each passes
passes : (r : Result Unit order.Refusal) → ◌≡◌ {A = ℕ} (cond (is_err r) 1 0) 0 → Ok tt ≡ r
passes (Ok u) e = refl
passes (Err x) e = absurd (omega arith)

pub each_passes : (values : List ℤ) (word : ℕ) → sum_run (fault_at values word) 0 46 ≡ 0 → (i : ℕ) → i < 46 → Ok tt ≡ check_at values word i
each_passes values word e i h = passes _ (sum-zero (fault_at values word) 46 0 i e (omega arith) (omega arith))
