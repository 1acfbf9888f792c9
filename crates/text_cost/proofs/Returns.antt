-- Each return of the costliest text: the answer, and both outputs.
-- Assumes nothing.
use Prim.Native.Nat.{ℕ, zero, suc, ◌≤◌, ◌<◌}
use native.Mathlib.Omega.{arith}
use mathlib.Core.Path.{◌≡◌, refl, sym, ap, subst, ◌∙◌}
use mathlib.Core.Bool.{true, ◌||◌}
use mathlib.Core.List.{List, []}
use mathlib.Core.Option.{Option, none, some}
use lib.ListN.{length, replicate, length-replicate}
use lib.Seq.{sets}
use lib.Dec.{ltb}
use borrow.Author.Tests.{lt-ltb, le-ltb}
use Rattle.format.specs.Order.{Refusal, check}
use Rattle.format.specs.Bits.{Bytes}
use Rattle.format.specs.Calls.{Answer, done_by}
use Rattle.format.specs.Reply.{refusal}
use Rattle.format.specs.Costliest.{costliest_checks, costliest_refusal, Costly, WrittenBy, CostliestLeaves}
use Rattle.laws.proofs.Order.{first_fits, first_skip, first-nil, no_check}
use Rattle.laws.proofs.Stores.{stores_over}
use Rattle.laws.proofs.Costliest.{any_bytes, limits}

-- so many times one byte
same_bytes : (n b : ℕ) → b < 256 → Bytes (replicate n b)
same_bytes zero b h i = omega arith
same_bytes (suc n) b h zero = h
same_bytes (suc n) b h (suc i) = same_bytes n b h i

module _ (m : ℕ) (text origins : List ℕ) where
  abbrev Returns : Answer → List ℕ → List ℕ → Type 0
  Returns a o p = (a ≡ done_by (costliest_refusal m text origins)) × CostliestLeaves m text origins o p

  returns_by : (r : Option Refusal) (o p : List ℕ) → costliest_refusal m text origins ≡ r → WrittenBy r m text origins o p → Returns (done_by r) o p
  returns_by r o p e w =
      (ap done_by (sym e), record { written = subst (λ (x : Option Refusal). WrittenBy x m text origins o p) (sym e) w; limits = limits })

  pub too_many : 85 < m → Returns (refusal 9 0) text origins
  unfolding costliest_refusal costliest_checks
  too_many h = returns_by (some (record { number = 9; place = 0 })) text origins (first_fits (check (ltb 85 m) 9 0) _ (lt-ltb 85 m h)) (refl, refl)

  module _ (few : m ≤ 85) where
    too_short : ltb (length text) m || ltb (length origins) m ≡ true → Returns (refusal 13 0) text origins
    unfolding costliest_refusal costliest_checks
    too_short e =
        returns_by (some (record { number = 13; place = 0 })) text origins (first_skip (check (ltb 85 m) 9 0) _ (le-ltb 85 m few) ∙ first_fits _ [] e) (refl, refl)

    pub text_short : length text < m → Returns (refusal 13 0) text origins
    text_short h = too_short (rw (lt-ltb (length text) m h))

    module _ (room : m ≤ length text) where
      pub marks_short : length origins < m → Returns (refusal 13 0) text origins
      marks_short h = too_short (rw (le-ltb (length text) m room, lt-ltb (length origins) m h))

      -- any byte b will do
      pub chosen : m ≤ length origins → (b : ℕ) → b < 256 → (o p : List ℕ) → o ≡ sets text 0 (replicate m b) → p ≡ sets origins 0 (replicate m 1)
          → Returns (Answer.accepted []) o p
      unfolding costliest_refusal costliest_checks
      chosen h b small o p e f =
          let costly : Costly m (replicate m b) (replicate m 1) =
          subst (λ (n : ℕ). Costly n (replicate m b) (replicate n 1)) (length-replicate m b) (any_bytes (replicate m b) (same_bytes m b small)) in
          returns_by none o p
          (no_check (check (ltb 85 m) 9 0) _ (le-ltb 85 m few) (no_check _ [] (rw (le-ltb (length text) m room, le-ltb (length origins) m h)) first-nil))
          ((
            replicate m b,
            replicate m 1,
            costly,
            stores_over text o (replicate m b) (omega (arith, length-replicate m b)) e,
            stores_over origins p (replicate m 1) (omega (arith, length-replicate {A = ℕ} m 1)) f,
          ))
