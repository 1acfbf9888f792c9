-- Clear with indicators by cases (FORMAT 6.1): observations of which one cannot be what the call leaves of the other, since too much
-- or too little is cleared.
-- Assumes nothing.
use Prim.Native.Nat.{ℕ}
use native.Mathlib.Omega.{arith}
use mathlib.Core.Path.{◌≡◌, refl, sym, ap, ◌∙◌}
use mathlib.Core.Bool.{Bool, true, false, not, ◌&&◌, ◌||◌}
use mathlib.Core.List.{List, [], ◌∷◌}
use mathlib.Core.Option.{Option, none, some}
use lib.ListN.{replicate}
use lib.Dec.{eqb}
use lib.IntN.{pos, nat_abs}
use borrow.Author.Tests.{eqb-true}
use Rattle.format.specs.Field.{scaled, is_present}
use Rattle.format.specs.Nibbles.{among}
use Rattle.format.specs.Observation.{Observation, observation}
use Rattle.format.specs.Indicators.{indicators, basis_in, data_of}
use Rattle.format.specs.Calls.{value_at, with_value, data_missing}
use Rattle.format.specs.Finding.{Clears}
use Rattle.format.specs.declared.Scaled.{Scaled}
use Rattle.format.proofs.Test.{no}

-- each of data that are all missing is missing
pub data_missing_lem : (s : Observation) (ks : List ℕ) (x : ℕ) → data_missing s ks ≡ true → among x ks ≡ true → is_present (value_at s x) ≡ false
unfolding data_missing among
data_missing_lem s [] x m h = absurd (no (sym h))
data_missing_lem s (k ∷ ks) x m h = go (eqb x k) refl h (is_present (value_at s k)) refl m (λ a b. data_missing_lem s ks x a b)
  where
    go : (t : Bool) → eqb x k ≡ t → t || among x ks ≡ true → (u : Bool) → is_present (value_at s k) ≡ u → not u && data_missing s ks ≡ true
        → (data_missing s ks ≡ true → among x ks ≡ true → is_present (value_at s x) ≡ false) → is_present (value_at s x) ≡ false
    go t e a true p b next = absurd (no (sym b))
    go true e a false p b next = ap (λ (n : ℕ). is_present (value_at s n)) (eqb-true x k e) ∙ p
    go false e a false p b next = next b a

-- an observation that has the value n in each of these fields, and no other
abbrev holding : ℕ → List ℕ → Observation
holding n [] = observation 0 (replicate 46 none) []
holding n (k ∷ ks) = with_value (holding n ks) k (some (scaled (pos n)))

-- one field is present, and the other missing
differ : (e f : Option Scaled) → is_present e ≡ true → is_present f ≡ false → f ≡ e → ⊥
differ e f present missing same = no (sym present ∙ sym (ap is_present same) ∙ missing)

-- S cleared, and TI with it although A, WB or DPT stands
ti_beside_a : Clears 31 (holding 5 (27 ∷ 28 ∷ 31 ∷ [])) (holding 5 (28 ∷ [])) → ⊥
unfolding indicators basis_in data_of among
ti_beside_a c = differ _ _ refl refl (c.kept 27 (λ e. omega arith) (λ _. (28, refl, refl)))

ti_beside_wb : Clears 31 (holding 5 (27 ∷ 29 ∷ 31 ∷ [])) (holding 5 (29 ∷ [])) → ⊥
unfolding indicators basis_in data_of among
ti_beside_wb c = differ _ _ refl refl (c.kept 27 (λ e. omega arith) (λ _. (29, refl, refl)))

ti_beside_dpt : Clears 31 (holding 5 (27 ∷ 30 ∷ 31 ∷ [])) (holding 5 (30 ∷ [])) → ⊥
unfolding indicators basis_in data_of among
ti_beside_dpt c = differ _ _ refl refl (c.kept 27 (λ e. omega arith) (λ _. (30, refl, refl)))

-- D cleared, and with it WI, which had lost its data before; A cleared, and with it BI, which does not rest on it
wi_with_d : Clears 18 (holding 5 (18 ∷ 19 ∷ [])) (holding 5 []) → ⊥
unfolding indicators basis_in data_of among
wi_with_d c = differ _ _ refl refl (c.kept 19 (λ e. omega arith) (λ e. absurd (no (sym e))))

bi_with_a : Clears 28 (holding 5 (28 ∷ 32 ∷ [])) (holding 5 []) → ⊥
unfolding indicators basis_in data_of among
bi_with_a c = differ _ _ refl refl (c.kept 32 (λ e. omega arith) (λ e. absurd (no (sym e))))

-- a field that is no indicator: the first, the last; P with another value
first_field : Clears 18 (holding 5 (1 ∷ 18 ∷ [])) (holding 5 []) → ⊥
unfolding indicators basis_in data_of among
first_field c = differ _ _ refl refl (c.kept 1 (λ e. omega arith) (λ e. absurd (no (sym e))))

last_field : Clears 18 (holding 5 (18 ∷ 46 ∷ [])) (holding 5 []) → ⊥
unfolding indicators basis_in data_of among
last_field c = differ _ _ refl refl (c.kept 46 (λ e. omega arith) (λ e. absurd (no (sym e))))

other_value : Clears 18 (holding 5 (26 ∷ [])) (holding 6 (26 ∷ [])) → ⊥
unfolding indicators basis_in data_of among
other_value c = let e : ◌≡◌ {A = ℕ} 6 5 = ap number (c.kept 26 (λ e. omega arith) (λ e. absurd (no (sym e)))) in omega arith
  where
    number : Option Scaled → ℕ
    number none = 0
    number (some v) = nat_abs v.0

-- S left; S cleared, and TI or BI left without data
s_left : Clears 31 (holding 5 (31 ∷ [])) (holding 5 (31 ∷ [])) → ⊥
s_left c = differ _ none refl refl (sym c.named)

ti_left : Clears 31 (holding 5 (27 ∷ 31 ∷ [])) (holding 5 (27 ∷ [])) → ⊥
unfolding indicators basis_in data_of data_missing among
ti_left c = differ _ none refl refl (sym (c.taken 27 refl (λ p. no (sym p.2 ∙ data_missing_lem (holding 5 (27 ∷ [])) (data_of 27) p.0 refl p.1))))

bi_left : Clears 31 (holding 5 (31 ∷ 32 ∷ [])) (holding 5 (32 ∷ [])) → ⊥
unfolding indicators basis_in data_of data_missing among
bi_left c = differ _ none refl refl (sym (c.taken 32 refl (λ p. no (sym p.2 ∙ data_missing_lem (holding 5 (32 ∷ [])) (data_of 32) p.0 refl p.1))))
