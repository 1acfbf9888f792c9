-- Nibbles held in one number, and what is told of flags with one more behind them.
-- Assumes nothing.
use Prim.Native.Nat.{ℕ, zero, suc, ◌+◌, ◌*◌, ◌/◌, ◌%◌, ◌^◌, ◌<◌}
use native.Mathlib.Omega.{arith}
use native.Mathlib.Nat.{pow-suc, mul_assoc, mul_comm, div-div-eq-div-mul, div-add-mod'}
use mathlib.Core.Path.{◌≡◌, refl, sym, ap, ap₂, ◌∙◌}
use mathlib.Core.Bool.{Bool, true, false, ◌&&◌}
use mathlib.Core.List.{List, [], ◌∷◌, ◌++◌}
use lib.ListN.{length, length-append}
use Rattle.format.specs.Flags.{FlagTable, weight, total_weight, flag_fits, flags_fit}
use Rattle.laws.proofs.Sequences.{and_right, and_assoc}
use Rattle.flags.specs.Word.{nibbles_in}

pub and_false_right : (t : Bool) → t && false ≡ false
and_false_right true = refl
and_false_right false = refl

-- ---- nibbles in a number

pub in_length : (n w : ℕ) → length (nibbles_in n w) ≡ n
unfolding nibbles_in
in_length zero w = refl
in_length (suc n) w = omega (arith, length-append (nibbles_in n (w / 16)) (w % 16 ∷ []), in_length n (w / 16))

-- the lowest nibble is the last
pub in_last : (n w : ℕ) → nibbles_in (suc n) w ≡ nibbles_in n (w / 16) ++ (w % 16 ∷ [])
unfolding nibbles_in
in_last n w = refl

-- a nibble behind those of a number
pub in_more : (n w x : ℕ) → x < 16 → nibbles_in (suc n) (w * 16 + x) ≡ nibbles_in n w ++ (x ∷ [])
unfolding nibbles_in
in_more n w x h =
    let q : (w * 16 + x) / 16 ≡ w = omega arith in
    let r : (w * 16 + x) % 16 ≡ x = omega arith in
    ap₂ (λ (a b : ℕ). nibbles_in n a ++ (b ∷ [])) q r

-- the highest nibble is the first
pub in_first : (n w : ℕ) → nibbles_in (suc n) w ≡ (w / 16 ^ n % 16) ∷ nibbles_in n w
unfolding nibbles_in
in_first zero w = let e : w / 1 ≡ w = omega arith in ap (λ (x : ℕ). x % 16 ∷ []) (sym e)
in_first (suc n) w =
    let e : w / 16 / 16 ^ n ≡ w / 16 ^ suc n = div-div-eq-div-mul w 16 (16 ^ n) ∙ ap (λ (x : ℕ). w / x) (mul_comm 16 (16 ^ n) ∙ sym (pow-suc 16 n)) in
    ap (λ (l : List ℕ). l ++ (w % 16 ∷ [])) (in_first n (w / 16)) ∙ ap (λ (x : ℕ). (x % 16) ∷ (nibbles_in n (w / 16) ++ (w % 16 ∷ []))) e

-- what stands above the n nibbles is not looked at
in_low : (n x w : ℕ) → nibbles_in n (x * 16 ^ n + w) ≡ nibbles_in n w
unfolding nibbles_in
in_low zero x w = refl
in_low (suc n) x w =
    let p = pow-suc 16 n in
    let q : (x * 16 ^ suc n + w) / 16 ≡ x * 16 ^ n + w / 16 = ap (λ (k : ℕ). (x * k + w) / 16) p ∙ ap (λ (k : ℕ). (k + w) / 16) (sym (mul_assoc x (16 ^ n) 16)) ∙ omega arith in
    let r : (x * 16 ^ suc n + w) % 16 ≡ w % 16 = ap (λ (k : ℕ). (x * k + w) % 16) p ∙ ap (λ (k : ℕ). (k + w) % 16) (sym (mul_assoc x (16 ^ n) 16)) ∙ omega arith in
    ap₂ (λ (a b : ℕ). nibbles_in n a ++ (b ∷ [])) q r ∙ ap (λ (l : List ℕ). l ++ (w % 16 ∷ [])) (in_low n x (w / 16))

pub in_rest : (n w : ℕ) → nibbles_in n (w % 16 ^ n) ≡ nibbles_in n w
in_rest n w = sym (ap (nibbles_in n) (sym (div-add-mod' w (16 ^ n))) ∙ in_low n (w / 16 ^ n) (w % 16 ^ n))

-- ---- flags with one more behind them

pub weights_more : (vs : List ℕ) (v : ℕ) → total_weight (vs ++ (v ∷ [])) ≡ total_weight vs + weight v
unfolding total_weight
weights_more [] v = omega arith
weights_more (x ∷ vs) v = omega (arith, weights_more vs v)

pub fit_more : (marks : FlagTable) (j : ℕ) (vs : List ℕ) (v : ℕ) → flags_fit marks j (vs ++ (v ∷ [])) ≡ flags_fit marks j vs && flag_fits marks (j + length vs) v
unfolding flags_fit
fit_more marks j [] v = let e : j + 0 ≡ j = omega arith in and_right (flag_fits marks j v) ∙ ap (λ (k : ℕ). flag_fits marks k v) (sym e)
fit_more marks j (x ∷ vs) v =
    let e : suc j + length vs ≡ j + suc (length vs) = omega arith in
    ap (λ (t : Bool). flag_fits marks j x && t) (fit_more marks (suc j) vs v ∙ ap (λ (k : ℕ). flags_fit marks (suc j) vs && flag_fits marks k v) e)
    ∙ sym (and_assoc (flag_fits marks j x) (flags_fit marks (suc j) vs) (flag_fits marks (j + suc (length vs)) v))
