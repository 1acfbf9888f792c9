-- All fields of a word at once: what a mask keeps, and what carries say of each field.
-- Assumes nothing.
use Prim.Native.Nat.{ℕ, zero, suc, ◌+◌, ◌-◌, ◌*◌, ◌/◌, ◌%◌, ◌^◌, ◌≤◌, ◌<◌}
use native.Mathlib.Nat.{mod-lt}
use native.Mathlib.Omega.{arith}
use native.Mathlib.Decide.{ℕ_discrete}
use mathlib.Core.Path.{◌≡◌, refl, sym, ap, ap₂, subst, ◌∙◌}
use mathlib.Core.Bool.{Bool, true, false, cond, ◌&&◌}
use mathlib.Core.List.{List, [], ◌∷◌}
use lib.Dec.{T, leb, ltb, leb→le, ltb→lt}
use lib.Pow.{pow_pos, pow-add, shr_lt, split, high, low}
use lib.Bits.{bit_and, bit_or, bit_xor, and_block, and_mask, and_zero_r, and_le_l, and_le_r, or_add_and, xor_add_and}
use Rattle.format.proofs.Test.{left, right}
use Rattle.laws.proofs.Sequences.{true_false, cond_case}
use Rattle.checks.specs.Parts.{Part, picked, laid, ones, gap, carry, tested}

-- ---- numbers

-- nothing is left of two numbers that are or-ed to 0, and numbers that differ in no bit are the same
pub or_zero : (a b : ℕ) → bit_or a b ≡ 0 → (a ≡ 0) × (b ≡ 0)
or_zero a b e = let s = or_add_and a b in (omega (arith, and_le_r a b), omega (arith, and_le_l a b))

pub xor_zero : (a b : ℕ) → bit_xor a b ≡ 0 → a ≡ b
xor_zero a b e = let s = xor_add_and a b in omega (arith, and_le_l a b, and_le_r a b)

zero_of : (a b : ℕ) → 0 < b → a * b ≡ 0 → a ≡ 0
zero_of zero b h e = refl
zero_of (suc a) b h e = absurd (omega arith)

-- a mask works above bit p and below it apart
and_two : (x m l p : ℕ) → l < 2 ^ p → bit_and x (m * 2 ^ p + l) ≡ bit_and (x / 2 ^ p) m * 2 ^ p + bit_and x l
and_two x m l p h =
    let r : x % 2 ^ p < 2 ^ p = mod-lt x (pow_pos p) in
    let parts : (k : ℕ) → bit_and x (k * 2 ^ p + l) ≡ bit_and (x / 2 ^ p) k * 2 ^ p + bit_and (x % 2 ^ p) l =
    λ k. ap (λ (n : ℕ). bit_and n (k * 2 ^ p + l)) (sym (split x p)) ∙ and_block p (x / 2 ^ p) k (x % 2 ^ p) l r h in
    let z : 0 * 2 ^ p + l ≡ l = omega arith in
    let lows : bit_and x l ≡ bit_and (x % 2 ^ p) l =
    ap (bit_and x) (sym z) ∙ parts 0 ∙ ap (λ (n : ℕ). n * 2 ^ p + bit_and (x % 2 ^ p) l) (and_zero_r (x / 2 ^ p)) ∙ omega arith in
    parts m ∙ ap (λ (n : ℕ). bit_and (x / 2 ^ p) m * 2 ^ p + n) (sym lows)

-- a number of w + 1 bits in which bit w is not set
bit_clear : (n w : ℕ) → n < 2 ^ w + 2 ^ w → bit_and n (2 ^ w) ≡ 0 → n < 2 ^ w
bit_clear n w h e =
    let d : 2 ^ (1 + w) ≡ 2 * 2 ^ w = pow-add 2 1 w in
    let q : n / 2 ^ w < 2 = shr_lt 1 w (omega arith) in
    let one : 1 * 2 ^ w + 0 ≡ 2 ^ w = omega arith in
    let b : bit_and n (2 ^ w) ≡ n / 2 ^ w % 2 * 2 ^ w =
    ap (bit_and n) (sym one) ∙ and_two n 1 0 w (pow_pos w) ∙ ap₂ (λ (i j : ℕ). i * 2 ^ w + j) (and_mask (n / 2 ^ w) 1) (and_zero_r n) ∙ omega arith in
    go (n / 2 ^ w) q (split n w) (sym b ∙ e)
  where
    go : (k : ℕ) → k < 2 → k * 2 ^ w + n % 2 ^ w ≡ n → k % 2 * 2 ^ w ≡ 0 → n < 2 ^ w
    go zero l s z = omega (arith, mod-lt n (pow_pos w))
    go (suc zero) l s z = absurd (omega (arith, pow_pos w))
    go (suc (suc k)) l s z = absurd (omega arith)

-- ---- a word and its parts

-- the number of a part in the word x
unfoldable pub shown : ℕ → Part → ℕ
shown x p = x / 2 ^ p.below % 2 ^ p.bits

pub shown_lt : (x : ℕ) (p : Part) → shown x p < 2 ^ p.bits
unfolding shown
shown_lt x p = mod-lt _ (pow_pos p.bits)

-- each part of a list
abbrev pub Each : (Part → Type 0) → List Part → Type 0
Each P [] = Unit {0}
Each P (p ∷ ps) = P p × Each P ps

-- parts from high to low, none over another
unfoldable pub lower : List Part → Bool
lower [] = true
lower (p ∷ ps) = ltb (laid ones ps) (2 ^ p.below) && lower ps

-- with a bit between for the carry
unfoldable pub apart : List Part → Bool
apart [] = true
apart (p ∷ ps) =
    ltb (laid ones ps + laid gap ps) (2 ^ p.below)
    && (ltb (laid carry ps) (2 ^ p.below) && (leb (p.most + 1) (2 ^ p.bits) && apart ps))

laid_cons : (f : Part → ℕ) (p : Part) (ps : List Part) → laid f (p ∷ ps) ≡ f p * 2 ^ p.below + laid f ps
unfolding laid
laid_cons f p ps = refl

-- what a mask of all ones keeps
pub kept_cons : (x : ℕ) (p : Part) (ps : List Part) → laid ones ps < 2 ^ p.below
    → bit_and x (laid ones (p ∷ ps)) ≡ shown x p * 2 ^ p.below + bit_and x (laid ones ps)
unfolding laid shown
kept_cons x p ps h =
    and_two x (2 ^ p.bits - 1) (laid ones ps) p.below h
    ∙ ap (λ (n : ℕ). n * 2 ^ p.below + bit_and x (laid ones ps)) (and_mask (x / 2 ^ p.below) p.bits)

module _ (x : ℕ) (p : Part) (ps : List Part) (t : T (apart (p ∷ ps))) where
  room : laid ones ps + laid gap ps < 2 ^ p.below
  unfolding apart
  room = ltb→lt _ _ (left (ltb (laid ones ps + laid gap ps) (2 ^ p.below)) _ t)

  t₁ : T (ltb (laid carry ps) (2 ^ p.below) && (leb (p.most + 1) (2 ^ p.bits) && apart ps))
  unfolding apart
  t₁ = right (ltb (laid ones ps + laid gap ps) (2 ^ p.below)) _ t

  over : laid carry ps < 2 ^ p.below
  over = ltb→lt _ _ (left (ltb (laid carry ps) (2 ^ p.below)) _ t₁)

  t₂ : T (leb (p.most + 1) (2 ^ p.bits) && apart ps)
  t₂ = right (ltb (laid carry ps) (2 ^ p.below)) _ t₁

  most_lt : p.most + 1 ≤ 2 ^ p.bits
  most_lt = leb→le _ _ (left (leb (p.most + 1) (2 ^ p.bits)) _ t₂)

  apart_tail : T (apart ps)
  apart_tail = right (leb (p.most + 1) (2 ^ p.bits)) _ t₂

  -- the carry of a part, and those of the parts below it
  carried : ℕ
  carried = bit_and (shown x p + gap p) (2 ^ p.bits)

  tested-cons : tested x (p ∷ ps) ≡ carried * 2 ^ p.below + tested x ps
  unfolding tested carried laid
  tested-cons =
      let k : bit_and x (laid ones (p ∷ ps)) ≡ shown x p * 2 ^ p.below + bit_and x (laid ones ps) = kept_cons x p ps (omega (arith, room)) in
      let low : bit_and x (laid ones ps) + laid gap ps < 2 ^ p.below = omega (arith, room, and_le_r x (laid ones ps)) in
      let sum : shown x p * 2 ^ p.below + bit_and x (laid ones ps) + (gap p * 2 ^ p.below + laid gap ps)
      ≡ (shown x p + gap p) * 2 ^ p.below + (bit_and x (laid ones ps) + laid gap ps) =
      omega arith in
      ap (λ (n : ℕ). bit_and (n + (gap p * 2 ^ p.below + laid gap ps)) (2 ^ p.bits * 2 ^ p.below + laid carry ps)) k
      ∙ ap (λ (n : ℕ). bit_and n (2 ^ p.bits * 2 ^ p.below + laid carry ps)) sum
      ∙ and_block p.below (shown x p + gap p) (2 ^ p.bits) (bit_and x (laid ones ps) + laid gap ps) (laid carry ps) low over

  tested_lt : tested x ps < 2 ^ p.below
  unfolding tested
  tested_lt = omega (arith, over, and_le_r (bit_and x (laid ones ps) + laid gap ps) (laid carry ps))

  carried_clear : carried ≡ 0 → shown x p ≤ p.most
  unfolding carried
  carried_clear e =
      let l : shown x p + gap p < 2 ^ p.bits = bit_clear (shown x p + gap p) p.bits (omega (arith, shown_lt x p, most_lt)) e in
      omega (arith, most_lt)

  carried_set : carried ≡ 2 ^ p.bits → p.most < shown x p
  unfolding carried
  carried_set e = omega (arith, most_lt, and_le_l (shown x p + gap p) (2 ^ p.bits))

-- no carry: no part is above its most
pub none_above : (x : ℕ) (ps : List Part) → T (apart ps) → tested x ps ≡ 0 → Each (λ p. shown x p ≤ p.most) ps
none_above x [] t e = tt
none_above x (p ∷ ps) t e =
    let c = tested-cons x p ps t in
    let f : carried x p ps t * 2 ^ p.below ≡ 0 = omega arith in
    let z : carried x p ps t ≡ 0 = zero_of (carried x p ps t) (2 ^ p.below) (pow_pos p.below) f in
    (carried_clear x p ps t z, none_above x ps (apart_tail x p ps t) (omega arith))

-- every carry: each part is above its most
pub all_above : (x : ℕ) (ps : List Part) → T (apart ps) → tested x ps ≡ laid carry ps → Each (λ p. p.most < shown x p) ps
all_above x [] t e = tt
all_above x (p ∷ ps) t e =
    let s : carried x p ps t * 2 ^ p.below + tested x ps ≡ 2 ^ p.bits * 2 ^ p.below + laid carry ps = sym (tested-cons x p ps t) ∙ e ∙ laid_cons carry p ps in
    let hi : carried x p ps t ≡ 2 ^ p.bits =
    sym (high (carried x p ps t) p.below (tested_lt x p ps t)) ∙ ap (λ (n : ℕ). n / 2 ^ p.below) s ∙ high (2 ^ p.bits) p.below (over x p ps t) in
    let lo : tested x ps ≡ laid carry ps =
    sym (low (carried x p ps t) p.below (tested_lt x p ps t)) ∙ ap (λ (n : ℕ). n % 2 ^ p.below) s ∙ low (2 ^ p.bits) p.below (over x p ps t) in
    (carried_set x p ps t hi, all_above x ps (apart_tail x p ps t) lo)

-- nothing is tested where nothing is picked
pub tested_none : (x : ℕ) → tested x [] ≡ laid carry []
unfolding tested laid
tested_none x = and_zero_r (bit_and x 0 + 0)

-- ---- the parts that were picked

module _ (P : Part → Type 0) (keep : ℕ → Bool) (part : ℕ → Part) where
  pub picked_at : (n k j : ℕ) → k ≤ j → j < k + n → keep j ≡ true → Each P (picked keep part k n) → P (part j)
  unfolding picked
  picked_at zero k j l h e ps = absurd (omega arith)
  picked_at (suc n) k j l h e ps =
      go (keep k) refl (ℕ_discrete k j) ps (λ m. picked_at n (suc k) j m (omega arith) e)
    where
      go : (t : Bool) → keep k ≡ t → Dec (k ≡ j) → Each P (cond t (part k ∷ picked keep part (suc k) n) (picked keep part (suc k) n))
          → (suc k ≤ j → Each P (picked keep part (suc k) n) → P (part j)) → P (part j)
      go true q (yes i) ps more = subst (λ (m : ℕ). P (part m)) i ps.0
      go true q (no i) ps more = more (omega arith) ps.1
      go false q (yes i) ps more = absurd (true_false (keep j) e (ap keep (sym i) ∙ q))
      go false q (no i) ps more = more (omega arith) ps

  pub picked_each : (n k : ℕ) → ((j : ℕ) → keep j ≡ true → P (part j)) → Each P (picked keep part k n)
  unfolding picked
  picked_each zero k f = tt
  picked_each (suc n) k f =
      cond_case (Each P) (keep k) (part k ∷ picked keep part (suc k) n) (picked keep part (suc k) n)
      (λ q. (f k q, picked_each n (suc k) f)) (λ q. picked_each n (suc k) f)

-- ---- a test of n numbers from k on

unfoldable pub every : (ℕ → Bool) → ℕ → ℕ → Bool
every t k zero = true
every t k (suc n) = t k && every t (suc k) n

pub every_at : (t : ℕ → Bool) (n k j : ℕ) → T (every t k n) → k ≤ j → j < k + n → T (t j)
unfolding every
every_at t zero k j e l h = absurd (omega arith)
every_at t (suc n) k j e l h = go (ℕ_discrete k j) (λ m. every_at t n (suc k) j (right (t k) (every t (suc k) n) e) m (omega arith))
  where
    go : Dec (k ≡ j) → (suc k ≤ j → T (t j)) → T (t j)
    go (yes i) more = subst (λ (m : ℕ). T (t m)) i (left (t k) (every t (suc k) n) e)
    go (no i) more = more (omega arith)
