-- Laws of the presence word: its bits, its count of ones, and how word and values give the entries and come back from them.
-- Assumes nothing.
use Prim.Native.Nat.{ℕ, zero, suc, ◌+◌, ◌-◌, ◌*◌, ◌/◌, ◌%◌, ◌^◌, ◌≤◌, ◌<◌}
use native.Mathlib.Nat.{add_comm, add-mul, mul_assoc, mul_comm, pow-suc}
use native.Mathlib.Numerals.{one-add}
use native.Mathlib.Omega.{arith}
use mathlib.Core.Path.{◌≡◌, refl, sym, ap, ap₂, ◌∙◌}
use mathlib.Core.Bool.{false, cond}
use mathlib.Core.List.{List, [], ◌∷◌, map}
use mathlib.Core.Option.{Option, none, some}
use lib.ListN.{length, get_or}
use lib.Dec.{eqb}
use lib.IntN.{ℤ}
use lib.Pow.{pow-add, pow_pos, shl_lt, shl-shr, shr-shr, shr_le, mod-pow-add}
use lib.Count.{ones, ones_step, ones_cat}
use borrow.Author.Tests.{eq-eqb, ne_eqb, eqb-true, eqb-false, not-false}
use Rattle.format.specs.Field.{scaled, is_present}
use Rattle.format.specs.Observation.{Observation}
use Rattle.format.specs.Whole.{value_or_zero, presence_from, presence, count_present, bit_at, bit_outside, entries_given}
use Rattle.format.specs.declared.Scaled.{Scaled}
use Rattle.laws.proofs.Sequences.{or_false}

-- ---- the presence word

-- 1 where an entry is present
abbrev digit_of : Option Scaled → ℕ
digit_of e = cond (is_present e) 1 0

digit_le : (e : Option Scaled) → digit_of e ≤ 1
digit_le none = omega arith
digit_le (some v) = omega arith

digit_at : (e : Option Scaled) (q : ℕ) → cond (is_present e) q 0 ≡ digit_of e * q
digit_at none q = omega arith
digit_at (some v) q = omega arith

digit_test_lem : (e : Option Scaled) → eqb (digit_of e) 1 ≡ is_present e
digit_test_lem none = refl
digit_test_lem (some v) = refl

twice : (d p q : ℕ) → d * q + p * (q * 2) ≡ (d + p * 2) * q
twice d p q = rw (add-mul, mul_assoc p 2 q, mul_comm 2 q)

-- entries from field k on: the word of those from field 0 on, k places up
presence_up : (k : ℕ) (es : List (Option Scaled)) → presence_from k es ≡ presence_from 0 es * 2 ^ k
unfolding presence_from
presence_up k [] = omega arith
presence_up k (e ∷ es) =
    rw (presence_up (suc k) es, presence_up 1 es, digit_at e (2 ^ k), pow-suc 2 k) (twice (digit_of e) (presence_from 0 es) (2 ^ k))

presence-cons : (e : Option Scaled) (es : List (Option Scaled)) → presence_from 0 (e ∷ es) ≡ digit_of e + 2 * presence_from 0 es
unfolding presence_from
presence-cons e es = omega (arith, presence_up 1 es)

bit_zero : (es : List (Option Scaled)) (i : ℕ) → bit_at (presence_from 0 es) i ≡ is_present (get_or es i none)
unfolding presence_from
bit_zero [] i = ne_eqb (0 / 2 ^ i % 2) 1 (λ e. omega (arith, shr_le 0 i))
bit_zero (e ∷ es) zero =
    let h = digit_le e in
    let d : presence_from 0 (e ∷ es) / 2 ^ 0 % 2 ≡ digit_of e = omega (arith, presence-cons e es) in
    ap (λ (n : ℕ). eqb n 1) d ∙ digit_test_lem e
bit_zero (e ∷ es) (suc i) =
    let h = digit_le e in
    let p : presence_from 0 (e ∷ es) / 2 ^ 1 ≡ presence_from 0 es = omega (arith, presence-cons e es) in
    let q : presence_from 0 (e ∷ es) / 2 ^ suc i ≡ presence_from 0 es / 2 ^ i =
    ap (λ (n : ℕ). presence_from 0 (e ∷ es) / 2 ^ n) (sym (one-add i)) ∙ sym (shr-shr (presence_from 0 (e ∷ es)) 1 i) ∙ ap (λ (n : ℕ). n / 2 ^ i) p in
    ap (λ (n : ℕ). eqb (n % 2) 1) q ∙ bit_zero es i

-- the bit of each entry says whether it is present
pub presence_bit_lem : (k : ℕ) (es : List (Option Scaled)) (i : ℕ) → bit_at (presence_from k es) (k + i) ≡ is_present (get_or es i none)
presence_bit_lem k es i =
    let n = presence_from 0 es in
    let q : presence_from k es / 2 ^ (k + i) ≡ n / 2 ^ i =
    rw (presence_up k es) (sym (shr-shr (n * 2 ^ k) k i) ∙ ap (λ (m : ℕ). m / 2 ^ i) (shl-shr n k)) in
    ap (λ (m : ℕ). eqb (m % 2) 1) q ∙ bit_zero es i

even_below : (n m j : ℕ) → n * 2 ^ (suc m + j) / 2 ^ j % 2 ≡ 0
even_below n m j =
    let q : n * 2 ^ (suc m + j) / 2 ^ j ≡ n * 2 ^ m * 2 = rw (pow-add 2 (suc m) j, ← mul_assoc n (2 ^ suc m) (2 ^ j), shl-shr, pow-suc, mul_assoc) in
    omega arith

-- below the first entry's bit none is set
presence_below : (k : ℕ) (es : List (Option Scaled)) (j : ℕ) → j < k → bit_at (presence_from k es) j ≡ false
presence_below k es j h =
    let e : k ≡ suc (k - suc j) + j = omega arith in
    let q : presence_from k es / 2 ^ j % 2 ≡ 0 =
    ap (λ (n : ℕ). n / 2 ^ j % 2) (presence_up k es ∙ ap (λ (n : ℕ). presence_from 0 es * 2 ^ n) e) ∙ even_below (presence_from 0 es) (k - suc j) j in
    ap (λ (n : ℕ). eqb n 1) q

lt_zero : (es : List (Option Scaled)) → presence_from 0 es < 2 ^ length es
unfolding presence_from
lt_zero [] = omega arith
lt_zero (e ∷ es) = omega (arith, digit_le e, presence_up 1 es, lt_zero es, pow-suc 2 (length es))

-- nor any above the last entry's
pub presence_lt : (k : ℕ) (es : List (Option Scaled)) → presence_from k es < 2 ^ (k + length es)
presence_lt k es = rw (presence_up, add_comm) (shl_lt (length es) k (lt_zero es))

-- the word of an observation has no bit outside 1 to 46
pub presence_inside : (s : Observation) → length s.values ≡ 46 → bit_outside (presence s) ≡ false
presence_inside s l =
    let h : presence s < 2 ^ 47 = rw l at (presence_lt 1 s.values) in
    rw (presence_below 1 s.values 0 (omega arith), eq-eqb (presence s / 2 ^ 47) 0 (omega arith))

-- ---- the word and the entries

-- the bits of the word from k on say which entries are present
abbrev pub Agrees : ℕ → ℕ → List (Option Scaled) → Type 0
Agrees k word es = (i : ℕ) → bit_at word (k + i) ≡ is_present (get_or es i none)

pub agrees_first : (k word : ℕ) (e : Option Scaled) (es : List (Option Scaled)) → Agrees k word (e ∷ es) → bit_at word k ≡ is_present e
agrees_first k word e es h = let z : k ≡ k + 0 = omega arith in ap (bit_at word) z ∙ h 0

pub agrees_rest : (k word : ℕ) (e : Option Scaled) (es : List (Option Scaled)) → Agrees k word (e ∷ es) → Agrees (suc k) word es
agrees_rest k word e es h i = let z : suc k + i ≡ k + suc i = omega arith in ap (bit_at word) z ∙ h (suc i)

entry-given : (e : Option Scaled) → cond (is_present e) (some (scaled (value_or_zero e))) none ≡ e
entry-given none = refl
entry-given (some v) = refl

-- the entries come back from their values and a word that agrees with them
pub given_back : (k word : ℕ) (es : List (Option Scaled)) → Agrees k word es → entries_given k word (map value_or_zero es) ≡ es
unfolding entries_given
given_back k word [] h = refl
given_back k word (e ∷ es) h =
    rw (agrees_first k word e es h, given_back (suc k) word es (agrees_rest k word e es h)) (ap (λ (x : Option Scaled). x ∷ es) (entry-given e))

bit_given : (d q : ℕ) (x : Scaled) → d < 2 → cond (is_present (cond (eqb d 1) (some x) none)) q 0 ≡ d * q
bit_given zero q x h = omega arith
bit_given (suc zero) q x h = omega arith
bit_given (suc (suc d)) q x h = absurd (omega arith)

-- the bits from k on are those of the entries
word-from : (k word : ℕ) (vs : List ℤ) → presence_from k (entries_given k word vs) + word % 2 ^ k ≡ word % 2 ^ (k + length vs)
unfolding presence_from entries_given
word-from k word [] = let z : k + 0 ≡ k = omega arith in rw z (omega arith)
word-from k word (v ∷ vs) =
    let d = word / 2 ^ k % 2 in
    let z : k + suc (length vs) ≡ suc k + length vs = omega arith in
    let low : word % 2 ^ suc k ≡ d * 2 ^ k + word % 2 ^ k = rw one-add at (mod-pow-add word 1 k) in
    rw (z, bit_given d (2 ^ k) (scaled v) (omega arith)) (omega (arith, word-from (suc k) word vs))

-- and a word of bits 1 to 46 comes back from the entries that it gives
pub word_back : (word : ℕ) (vs : List ℤ) → length vs ≡ 46 → bit_outside word ≡ false → presence_from 1 (entries_given 1 word vs) ≡ word
word_back word vs l o =
    let p = or_false (bit_at word 0) _ o in
    let low = eqb-false (word / 2 ^ 0 % 2) 1 p.0 in
    let high = eqb-true (word / 2 ^ 47) 0 (not-false _ p.1) in
    let e : presence_from 1 (entries_given 1 word vs) + word % 2 ^ 1 ≡ word % 2 ^ 47 = rw l at (word-from 1 word vs) in
    omega arith

-- ---- how many fields are present

ones-zero : ones 0 ≡ 0
unfolding ones
ones-zero = refl

ones_count : (es : List (Option Scaled)) → ones (presence_from 0 es) ≡ count_present es
unfolding presence_from count_present
ones_count [] = ones-zero
ones_count (e ∷ es) =
    let n = presence_from 0 (e ∷ es) in
    let h = digit_le e in
    let low : n % 2 ≡ digit_of e = omega (arith, presence-cons e es) in
    let high : n / 2 ≡ presence_from 0 es = omega (arith, presence-cons e es) in
    ones_step n ∙ ap₂ (λ (x y : ℕ). x + ones y) low high ∙ ap (λ (x : ℕ). digit_of e + x) (ones_count es)

-- as many as the word has ones, as the machine counts them
pub count_ones : (k : ℕ) (es : List (Option Scaled)) → ones (presence_from k es) ≡ count_present es
count_ones k es =
    let n = presence_from 0 es in
    let z : presence_from k es ≡ n * 2 ^ k + 0 = omega (arith, presence_up k es) in
    ap ones z ∙ ones_cat k n 0 (pow_pos k) ∙ ap₂ (λ (x y : ℕ). x + y) (ones_count es) ones-zero ∙ (omega arith)
