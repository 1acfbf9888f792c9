-- Laws of nibbles, bytes and the padding nibble.
-- Assumes nothing.
use Prim.Native.Nat.{ℕ, zero, suc, ◌+◌, ◌*◌, ◌/◌, ◌%◌, ◌≤◌, ◌<◌}
use native.Mathlib.Nat.{mod-lt, zero-lt-suc}
use native.Mathlib.Omega.{arith}
use mathlib.Core.Path.{◌≡◌, refl, sym, ap, ap₂, ◌∙◌}
use mathlib.Core.Bool.{Bool, true, false, cond}
use mathlib.Core.List.{List, [], ◌∷◌, ◌++◌, append_assoc, append-nil}
use lib.ListN.{length, take, drop, get_or, replicate, length-append, take-append-drop}
use lib.Seq.{length-take-le}
use lib.Dec.{eqb}
use borrow.Author.Tests.{eqb-false}
use Rattle.format.specs.Bits.{bits, bits_of, read_fields, write_fields, Bytes}
use Rattle.format.specs.Nibbles.{Nibbles, nibbles, bytes, odd, padded}
use Rattle.laws.proofs.Sequences.{true_false}
use Rattle.laws.proofs.Bits.{uniform, append_below, bits-add, bits-mod, take_below, uniform_append, uniform_back}

-- ---- the nibbles of bytes

pub length-nibbles : (b : List ℕ) → length (nibbles b) ≡ 2 * length b
unfolding nibbles
length-nibbles [] = refl
length-nibbles (x ∷ b) = omega (arith, length-nibbles b)

pub nibbles-append : (b c : List ℕ) → nibbles (b ++ c) ≡ nibbles b ++ nibbles c
unfolding nibbles
nibbles-append [] c = refl
nibbles-append (x ∷ b) c = rw (nibbles-append b c)

two_suc : (i : ℕ) → 2 * suc i ≡ suc (suc (2 * i))
two_suc i = omega arith

pub nibbles-take : (n : ℕ) (b : List ℕ) → nibbles (take n b) ≡ take (2 * n) (nibbles b)
unfolding nibbles
nibbles-take zero b = refl
nibbles-take (suc n) [] = rw two_suc
nibbles-take (suc n) (x ∷ b) = rw (two_suc, nibbles-take n b)

pub nibbles-drop : (n : ℕ) (b : List ℕ) → nibbles (drop n b) ≡ drop (2 * n) (nibbles b)
unfolding nibbles
nibbles-drop zero b = refl
nibbles-drop (suc n) [] = rw two_suc
nibbles-drop (suc n) (x ∷ b) = rw two_suc (nibbles-drop n b)

-- the high half of byte i stands at an even place, the low half behind it
pub get_d_high : (b : List ℕ) (i : ℕ) → get_or (nibbles b) (2 * i) 0 ≡ get_or b i 0 / 16
unfolding nibbles
get_d_high [] i = refl
get_d_high (x ∷ b) zero = refl
get_d_high (x ∷ b) (suc i) = rw two_suc (get_d_high b i)

pub get_d_low : (b : List ℕ) (i : ℕ) → get_or (nibbles b) (suc (2 * i)) 0 ≡ get_or b i 0 % 16
unfolding nibbles
get_d_low [] i = refl
get_d_low (x ∷ b) zero = refl
get_d_low (x ∷ b) (suc i) = rw two_suc (get_d_low b i)

-- the nibble at any place
pub get_d_even : (b : List ℕ) (i : ℕ) → i % 2 ≡ 0 → get_or (nibbles b) i 0 ≡ get_or b (i / 2) 0 / 16
get_d_even b i e = let p : i ≡ 2 * (i / 2) = omega arith in ap (λ (k : ℕ). get_or (nibbles b) k 0) p ∙ get_d_high b (i / 2)

pub get_d_odd : (b : List ℕ) (i : ℕ) → (i % 2 ≡ 0 → ⊥) → get_or (nibbles b) i 0 ≡ get_or b (i / 2) 0 % 16
get_d_odd b i e = let p : i ≡ suc (2 * (i / 2)) = omega arith in ap (λ (k : ℕ). get_or (nibbles b) k 0) p ∙ get_d_low b (i / 2)

pub nibbles_lt : (b : List ℕ) → Bytes b → Nibbles (nibbles b)
unfolding nibbles
nibbles_lt [] h k = omega arith
nibbles_lt (x ∷ b) h zero = omega (arith, h 0)
nibbles_lt (x ∷ b) h (suc zero) = omega arith
nibbles_lt (x ∷ b) h (suc (suc k)) = nibbles_lt b (λ i. h (suc i)) k

-- ---- the bytes of nibbles

pub bytes_lt : (ns : List ℕ) → Nibbles ns → Bytes (bytes ns)
unfolding bytes
bytes_lt [] h k = omega arith
bytes_lt (a ∷ []) h zero = omega (arith, h 0)
bytes_lt (a ∷ []) h (suc k) = omega arith
bytes_lt (a ∷ c ∷ ns) h zero = omega (arith, h 0, h 1)
bytes_lt (a ∷ c ∷ ns) h (suc k) = bytes_lt ns (λ i. h (suc (suc i))) k

-- back and forth: no bound on the bytes is needed
bytes-nibbles : (b : List ℕ) → bytes (nibbles b) ≡ b
unfolding nibbles bytes
bytes-nibbles [] = refl
bytes-nibbles (x ∷ b) = ap₂ ◌∷◌ (omega arith) (bytes-nibbles b)

pub nibbles_inj : (b c : List ℕ) → nibbles b ≡ nibbles c → b ≡ c
nibbles_inj b c e = sym (bytes-nibbles b) ∙ ap bytes e ∙ bytes-nibbles c

odd_two : (n : ℕ) → odd (suc (suc n)) ≡ odd n
odd_two n = let e : suc (suc n) % 2 ≡ n % 2 = omega arith in ap (λ (k : ℕ). eqb k 1) e

-- and forth and back, for an even number of nibbles
pub nibbles-bytes : (ns : List ℕ) → Nibbles ns → odd (length ns) ≡ false → nibbles (bytes ns) ≡ ns
unfolding nibbles bytes
nibbles-bytes [] h e = refl
nibbles-bytes (a ∷ []) h e = absurd (true_false true refl e)
nibbles-bytes (a ∷ c ∷ ns) h e =
    let ha : a < 16 = h 0 in
    let hc : c < 16 = h 1 in
    let ea : (a * 16 + c) / 16 ≡ a = omega arith in
    let ec : (a * 16 + c) % 16 ≡ c = omega arith in
    cc (ea, ec, nibbles-bytes ns (λ i. h (suc (suc i))) (sym (odd_two (length ns)) ∙ e))

-- ---- the padding nibble

-- how many bytes nibbles take
half : (ns : List ℕ) → length (bytes ns) ≡ (length ns + 1) / 2
unfolding bytes
half [] = refl
half (a ∷ []) = refl
half (a ∷ c ∷ ns) = omega (arith, half ns)

pub length-bytes : (ns : List ℕ) → odd (length ns) ≡ false → 2 * length (bytes ns) ≡ length ns
length-bytes ns e = omega (arith, half ns, eqb-false (length ns % 2) 1 e)

pub padded_is : (ns : List ℕ) → padded ns ≡ ns ++ cond (odd (length ns)) (0 ∷ []) []
unfolding padded
padded_is ns = choice (odd (length ns))
  where
    choice : (t : Bool) → cond t (ns ++ (0 ∷ [])) ns ≡ ns ++ cond t (0 ∷ []) []
    choice true = refl
    choice false = sym (append-nil ns)

length-padded : (ns : List ℕ) → length (padded ns) ≡ length ns + length ns % 2
length-padded ns = rw (padded_is, length-append) (ap (λ (n : ℕ). length ns + n) (one (length ns % 2) (mod-lt _ (zero-lt-suc 1))))
  where
    one : (r : ℕ) → r < 2 → length (cond {A = List ℕ} (eqb r 1) (0 ∷ []) []) ≡ r
    one zero h = refl
    one (suc zero) h = refl
    one (suc (suc r)) h = absurd (omega arith)

pub padded-even : (ns : List ℕ) → odd (length (padded ns)) ≡ false
padded-even ns =
    let e : (length ns + length ns % 2) % 2 ≡ 0 = omega arith in
    rw length-padded (ap (λ (k : ℕ). eqb k 1) e)

pub length-bytes-padded : (ns : List ℕ) → length (bytes (padded ns)) ≡ (length ns + 1) / 2
length-bytes-padded ns = omega (arith, half (padded ns), length-padded ns)

pub padded_lt : (ns : List ℕ) → Nibbles ns → Nibbles (padded ns)
padded_lt ns h = rw padded_is (append_below 16 ns _ h (zeros (odd (length ns))))
  where
    zeros : (t : Bool) → Nibbles (cond t (0 ∷ []) [])
    zeros true zero = omega arith
    zeros true (suc i) = omega arith
    zeros false i = omega arith

-- the nibbles of packed nibbles, with other bytes behind
pub nibbles_packed : (ns r : List ℕ) → Nibbles ns → nibbles (bytes (padded ns) ++ r) ≡ ns ++ (cond (odd (length ns)) (0 ∷ []) [] ++ nibbles r)
nibbles_packed ns r h =
    rw (nibbles-append, nibbles-bytes (padded ns) (padded_lt ns h) (padded-even ns), padded_is) (append_assoc ns _ (nibbles r))

-- ---- nibbles are fields of four bits

byte_bits : (x : ℕ) → bits 8 x ≡ bits 4 (x / 16) ++ bits 4 (x % 16)
byte_bits x = bits-add 4 4 x ∙ ap (λ (l : List Bool). bits 4 (x / 16) ++ l) (bits-mod 4 x (x % 16) (omega arith))

-- the bits of bytes are those of their nibbles
pub bits_of_nibbles : (b : List ℕ) → bits_of b ≡ uniform 4 (nibbles b)
unfolding bits_of nibbles write_fields
bits_of_nibbles [] = refl
bits_of_nibbles (x ∷ b) = rw (bits_of_nibbles b, byte_bits x) (append_assoc (bits 4 (x / 16)) (bits 4 (x % 16)) _)

-- the first m nibbles of bytes, read as fields
pub read_fields-nibbles : (m : ℕ) (b : List ℕ) → Bytes b → m ≤ 2 * length b → read_fields (replicate m 4) (bits_of b) ≡ take m (nibbles b)
read_fields-nibbles m b h within =
    let x : List ℕ = take m (nibbles b) in
    let y : List ℕ = drop m (nibbles b) in
    ap (read_fields (replicate m 4)) (bits_of_nibbles b ∙ ap (uniform 4) (sym (take-append-drop m (nibbles b))) ∙ uniform_append 4 x y)
    ∙ uniform_back 4 m x (uniform 4 y) (length-take-le m (nibbles b) (rw length-nibbles within)) (take_below 16 m (nibbles b) (nibbles_lt b h))
