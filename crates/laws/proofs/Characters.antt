-- The codes of the characters, over all bytes and all pairs of nibbles, by computed tests.
-- Assumes nothing.
use Prim.Native.Nat.{ℕ, zero, suc, ◌+◌, ◌*◌, ◌/◌, ◌%◌, ◌≤◌, ◌<◌}
use native.Mathlib.Omega.{arith}
use mathlib.Core.Path.{◌≡◌, refl, sym, ap, ap₂, ◌∙◌}
use mathlib.Core.Bool.{Bool, true, false, cond, not, ◌&&◌, ◌||◌}
use native.Mathlib.Nat.{add-zero, zero-add}
use mathlib.Core.List.{map}
use lib.ListN.{length, get_or, length-map}
use lib.Arith.{digits_div, digits_mod}
use lib.Dec.{ltb, leb, eqb}
use borrow.Author.Tests.{ltb-true, ltb-false, eqb-true, eqb-false, leb-true, le-ltb, ne_eqb, not-true}
use Rattle.format.specs.Order.{between}
use Rattle.format.specs.ShipText.{char_code, short, pair_byte, code_nibbles, up_from, entry, char_table}
use Rattle.laws.proofs.Sequences.{and_true, cond_case, test_case}

-- a test passes at each number below n
unfoldable pub all_below : ℕ → (ℕ → Bool) → Bool
all_below zero f = true
all_below (suc n) f = f n && all_below n f

pub at_below : (n : ℕ) (f : ℕ → Bool) (k : ℕ) → all_below n f ≡ true → k < n → f k ≡ true
unfolding all_below
at_below zero f k e h = absurd (omega arith)
at_below (suc n) f k e h =
    let two = and_true (f n) (all_below n f) e in
    test_case (eqb k n) (λ q. ap f (eqb-true k n q) ∙ two.0)
    (λ q. let i : k ≡ n → ⊥ = eqb-false k n q in at_below n f k two.1 (omega arith))

-- ---- the table

pub up_from-length : (n a : ℕ) → length (up_from a n) ≡ n
unfolding up_from
up_from-length zero a = refl
up_from-length (suc n) a = ap suc (up_from-length n (suc a))

from_at : (f : ℕ → ℕ) (n a i : ℕ) → i < n → get_or (map f (up_from a n)) i 0 ≡ f (a + i)
unfolding up_from
from_at f zero a i h = absurd (omega arith)
from_at f (suc n) a zero h = ap f (sym (add-zero a))
from_at f (suc n) a (suc i) h = let e : suc a + i ≡ a + suc i = omega arith in from_at f n (suc a) i (omega arith) ∙ ap f e

pub char_table-length : length char_table ≡ 256
unfolding char_table
char_table-length = length-map (up_from 0 256) entry ∙ up_from-length 256 0

-- the rule at each byte
pub char_table-entry : (b : ℕ) → b < 256 → get_or char_table b 0 ≡ entry b
unfolding char_table
char_table-entry b h = from_at entry 256 0 b h ∙ ap entry (zero-add b)

-- ---- bytes

abbrev as_pair : ℕ → Bool
as_pair b = between 192 239 (char_code b) && (eqb (pair_byte (char_code b / 16) (char_code b % 16)) b && not (eqb b 0))

-- a byte with a short code is a space, a digit, or a pair that stands for it; any other is 15 and the byte
abbrev byte_test : ℕ → Bool
byte_test b = cond (short b) (eqb b 32 || cond (ltb (char_code b) 10) (eqb (48 + char_code b) b) (as_pair b)) (eqb (char_code b) (3840 + b))

all_bytes : all_below 256 byte_test ≡ true
unfolding all_below char_code short pair_byte
all_bytes = refl

-- a byte with a short code that is no space
pub data Coded (b : ℕ) : Type 0 where
  a_digit : char_code b < 10 → 48 + char_code b ≡ b → Coded b
  a_pair : 192 ≤ char_code b → char_code b ≤ 239 → pair_byte (char_code b / 16) (char_code b % 16) ≡ b → (b ≡ 0 → ⊥) → Coded b

pub coded : (b : ℕ) → b < 256 → short b ≡ true → eqb b 32 ≡ false → Coded b
coded b h e q =
    test_case (ltb (char_code b) 10) (λ d. a_digit (ltb-true (char_code b) 10 d) (eqb-true (48 + char_code b) b (rw (e, q, d) at (at_below 256 byte_test b all_bytes h))))
    (λ d.
    let p = and_true (between 192 239 (char_code b)) _ (rw (e, q, d) at (at_below 256 byte_test b all_bytes h)) in
    let w = and_true (leb 192 (char_code b)) (leb (char_code b) 239) p.0 in
    let f = and_true (eqb (pair_byte (char_code b / 16) (char_code b % 16)) b) (not (eqb b 0)) p.1 in
    a_pair (leb-true 192 (char_code b) w.0) (leb-true (char_code b) 239 w.1) (eqb-true _ b f.0) (eqb-false b 0 (not-true (eqb b 0) f.1)))

-- a byte without a short code
pub escape_code : (b : ℕ) → b < 256 → short b ≡ false → char_code b ≡ 3840 + b
escape_code b h e = eqb-true (char_code b) (3840 + b) (rw e at (at_below 256 byte_test b all_bytes h))

-- no code has over three nibbles
pub code_bound : (b : ℕ) → b < 256 → char_code b < 4096
unfolding short
code_bound b h = test_case (short b) (λ e. omega (arith, ltb-true (char_code b) 256 e)) (λ e. omega (arith, escape_code b h e))

-- an entry's two parts
pub entry_parts : (b : ℕ) → b < 256 → (entry b / 4096 ≡ length (code_nibbles (char_code b))) × (entry b % 4096 ≡ char_code b)
unfolding entry
entry_parts b h = (digits_div _ (code_bound b h), digits_mod _ (code_bound b h))

abbrev digit_test : ℕ → Bool
digit_test n = eqb (char_code (48 + n)) n

all_digits : all_below 10 digit_test ≡ true
unfolding all_below char_code
all_digits = refl

pub digit-code : (n : ℕ) → n < 10 → char_code (48 + n) ≡ n
digit-code n h = eqb-true (char_code (48 + n)) n (at_below 10 digit_test n all_digits h)

-- ---- pairs

-- a pair that stands for a byte is that byte's code, and the byte is no space
abbrev pair_test : ℕ → ℕ → Bool
pair_test z n =
    eqb (pair_byte z n) 0
    || (between 12 14 z && (eqb (char_code (pair_byte z n)) (z * 16 + n) && (ltb (pair_byte z n) 256 && not (eqb (pair_byte z n) 32))))

abbrev pair_test_at : ℕ → Bool
pair_test_at v = pair_test (v / 16) (v % 16)

all_pairs : all_below 256 pair_test_at ≡ true
unfolding all_below char_code pair_byte
all_pairs = refl

pub record Paired (z n : ℕ) : Type 0 where
  pub code : char_code (pair_byte z n) ≡ z * 16 + n
  pub least : 12 ≤ z
  pub most : z ≤ 14
  pub nibble : n < 16
  pub byte : pair_byte z n < 256
  pub ink : eqb (pair_byte z n) 32 ≡ false

-- none has a number over 15
pub no_column : (z n : ℕ) → 16 ≤ z → pair_byte z n ≡ 0
unfolding pair_byte
no_column z n h = rw (ne_eqb z 12 (λ e. omega arith), ne_eqb z 13 (λ e. omega arith), ne_eqb z 14 (λ e. omega arith))

pub no_row : (z n : ℕ) → 16 ≤ n → pair_byte z n ≡ 0
unfolding pair_byte
no_row z n h =
    rw (ne_eqb n 0 (λ e. omega arith), ne_eqb n 1 (λ e. omega arith), ne_eqb n 10 (λ e. omega arith), ne_eqb n 11 (λ e. omega arith), le-ltb n 10 (omega arith))
    (same (eqb z 12) (same (eqb z 13) (same (eqb z 14) refl)))
  where
    same : (t : Bool) {m : ℕ} → m ≡ 0 → cond t 0 m ≡ 0
    same t {m} e = cond_case (λ (k : ℕ). k ≡ 0) t 0 m (λ _. refl) (λ _. e)

-- a pair that is not undefined
pub paired : (z n : ℕ) → eqb (pair_byte z n) 0 ≡ false → Paired z n
paired z n q =
    test_case (ltb z 16)
    (λ a. test_case (ltb n 16) (λ b. within (ltb-true z 16 a) (ltb-true n 16 b)) (λ b. undefined (no_row z n (ltb-false n 16 b))))
    (λ a. undefined (no_column z n (ltb-false z 16 a)))
  where
    undefined : pair_byte z n ≡ 0 → Paired z n
    undefined e = absurd (eqb-false (pair_byte z n) 0 q e)

    within : z < 16 → n < 16 → Paired z n
    within h k =
        let d : (z * 16 + n) / 16 ≡ z = omega arith in
        let m : (z * 16 + n) % 16 ≡ n = omega arith in
        let r : pair_test z n ≡ true = ap₂ pair_test (sym d) (sym m) ∙ at_below 256 pair_test_at (z * 16 + n) all_pairs (omega arith) in
        let p = and_true (between 12 14 z) _ (rw q at r) in
        let w = and_true (leb 12 z) (leb z 14) p.0 in
        let c = and_true (eqb (char_code (pair_byte z n)) (z * 16 + n)) _ p.1 in
        let f = and_true (ltb (pair_byte z n) 256) (not (eqb (pair_byte z n) 32)) c.1 in
        record {
          code = eqb-true _ _ c.0;
          least = leb-true 12 z w.0;
          most = leb-true z 14 w.1;
          nibble = k;
          byte = ltb-true _ 256 f.0;
          ink = not-true _ f.1;
        }
