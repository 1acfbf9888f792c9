-- Numbers in 8 bytes, read and written byte by byte; and bytes copied.
-- Assumes nothing.
use Prim.Native.Nat.{ℕ, zero, suc, ◌+◌, ◌-◌, ◌*◌, ◌/◌, ◌%◌, ◌^◌, ◌≤◌, ◌<◌}
use native.Mathlib.Nat.{add-mul, mul_assoc}
use native.Mathlib.Omega.{arith}
use mathlib.Core.Path.{◌≡◌, refl, ap, ◌∙◌}
use mathlib.Core.List.{List, [], ◌∷◌, ◌++◌, append_assoc, append-nil}
use lib.ListN.{length, get_or, take, drop, length-append, length-drop, length-replicate, drop_of_length-le}
use lib.Seq.{get_or-drop, drop_at, length-take-le, take_all, drop-drop, take_at, take-append_seam}
use lib.Pow.{pow-add, mod-pow-add}
use lib.IntN.{ℤ, pos, negsuc}
use lib.Signed.{mag}
use borrow.Author.Tests.{lt-ltb, le-ltb}
use Rattle.format.specs.Calls.{over}
use Rattle.format.specs.Buffer.{zeros}
use Rattle.script.specs.Script.{number_from, number_of, bytes_of, bytes8, number_at, bytes_at}
use Rattle.numbers.specs.Words.{signed, unsigned}
use Rattle.std.specs.Int.{w64, from_be_bytes, to_be_bytes}

-- ---- of a number

pub length_bytes_of : (w n : ℕ) → length (bytes_of w n) ≡ w
unfolding bytes_of
length_bytes_of zero n = refl
length_bytes_of (suc w) n = ap suc (length_bytes_of w n)

pub length-bytes8 : (n : ℕ) → length (bytes8 n) ≡ 8
unfolding bytes8
length-bytes8 n = length_bytes_of 8 n

-- the w low bytes of n behind those of a
number-bytes : (w a n : ℕ) → number_from a (bytes_of w n) ≡ a * 2 ^ (8 * w) + n % 2 ^ (8 * w)
unfolding number_from bytes_of
number-bytes zero a n = omega arith
number-bytes (suc w) a n =
    let e : 8 * suc w ≡ 8 + 8 * w = omega arith in
    rw (e, mod-pow-add n 8 (8 * w), pow-add 2 8 (8 * w), number-bytes w (a * 256 + n / 2 ^ (8 * w) % 256) n, add-mul, mul_assoc)
    (omega arith)

pub number-bytes8 : (n : ℕ) → n < 2 ^ 64 → number_of (bytes8 n) ≡ n
unfolding number_of bytes8
number-bytes8 n h = number-bytes 8 0 n ∙ omega arith

pub signed-unsigned : (z : ℤ) → mag z < 2 ^ 63 → signed (unsigned z) ≡ z
unfolding signed unsigned
signed-unsigned (pos n) h = rw (lt-ltb n (2 ^ 63) h)
signed-unsigned (negsuc n) h =
    let e : 2 ^ 64 - suc (2 ^ 64 - suc n) ≡ n = omega arith in
    rw (le-ltb (2 ^ 64 - suc n) (2 ^ 63) (omega arith)) (ap negsuc e)

pub unsigned_lt : (z : ℤ) → mag z < 2 ^ 63 → unsigned z < 2 ^ 64
unfolding unsigned
unsigned_lt (pos n) h = omega arith
unsigned_lt (negsuc n) h = omega arith

-- ---- read

-- the first eight bytes
eight : (l : List ℕ) → 8 ≤ length l
    → from_be_bytes w64 (get_or l 0 0 ∷ get_or l 1 0 ∷ get_or l 2 0 ∷ get_or l 3 0 ∷ get_or l 4 0 ∷ get_or l 5 0 ∷ get_or l 6 0 ∷ get_or l 7 0 ∷ []) ≡ number_of (take 8 l)
unfolding number_of number_from
eight [] h = absurd (omega arith)
eight (a ∷ []) h = absurd (omega arith)
eight (a ∷ b ∷ []) h = absurd (omega arith)
eight (a ∷ b ∷ c ∷ []) h = absurd (omega arith)
eight (a ∷ b ∷ c ∷ d ∷ []) h = absurd (omega arith)
eight (a ∷ b ∷ c ∷ d ∷ e ∷ []) h = absurd (omega arith)
eight (a ∷ b ∷ c ∷ d ∷ e ∷ f ∷ []) h = absurd (omega arith)
eight (a ∷ b ∷ c ∷ d ∷ e ∷ f ∷ g ∷ []) h = absurd (omega arith)
eight (a ∷ b ∷ c ∷ d ∷ e ∷ f ∷ g ∷ k ∷ l) h = omega arith

-- and those from place i on
pub read_number : (s : List ℕ) (i : ℕ) → i + 8 ≤ length s
    → from_be_bytes w64 (get_or s i 0 ∷ get_or s (i + 1) 0 ∷ get_or s (i + 2) 0 ∷ get_or s (i + 3) 0 ∷ get_or s (i + 4) 0 ∷ get_or s (i + 5) 0 ∷ get_or s (i + 6) 0 ∷ get_or s (i + 7) 0 ∷ []) ≡ number_at s i
read_number s i h =
    let at : (j : ℕ) → get_or (drop i s) j 0 ≡ get_or s (i + j) 0 = λ j. get_or-drop i s j 0 in
    let here : get_or (drop i s) 0 0 ≡ get_or s i 0 = at 0 ∙ ap (λ (j : ℕ). get_or s j 0) (omega arith) in
    rw (← here, ← at 1, ← at 2, ← at 3, ← at 4, ← at 5, ← at 6, ← at 7) (eight (drop i s) (omega (arith, length-drop i s)))

-- ---- written

pub be_bytes8 : (n : ℕ) → to_be_bytes w64 n ≡ bytes8 n
unfolding bytes8 bytes_of
be_bytes8 n = let e : n / 1 ≡ n = omega arith in rw e

-- ---- one behind the other

-- bytes written over a front, and then others over the w bytes behind it
pub over-part : (o xs ys : List ℕ) (m w : ℕ) → length xs ≡ m → length ys ≡ w
    → take m (over xs o) ++ (ys ++ drop w (drop m (over xs o))) ≡ over (xs ++ ys) o
over-part o xs ys m w lx ly =
    let r = drop (length xs) o in
    let e : length ys + length xs ≡ length (xs ++ ys) = simp length-append (omega arith) in
    rw (take_at xs r m lx, drop_at xs r m lx, ← ly, drop-drop (length ys) (length xs) o, length-append xs ys, append_assoc xs ys _)

-- over a part that goes to the end
pub over-behind : (o o₁ xs ys zs : List ℕ) (m : ℕ) → o₁ ≡ over xs o → length xs ≡ m → zs ≡ over ys (take (length o₁ - m) (drop m o₁))
    → take m o₁ ++ (zs ++ drop (length o₁ - m) (drop m o₁)) ≡ over (xs ++ ys) o
over-behind o o₁ xs ys zs m is lx e =
    let l = length-drop m o₁ in
    let all : take (length o₁ - m) (drop m o₁) ≡ drop m o₁ = take_all (length o₁ - m) (drop m o₁) (omega (arith, l)) in
    let none : drop (length o₁ - m) (drop m o₁) ≡ [] = drop_of_length-le (drop m o₁) {i = length o₁ - m} (omega (arith, l)) in
    let put : zs ++ drop (length o₁ - m) (drop m o₁) ≡ ys ++ drop (length ys) (drop m o₁) =
    ap (λ (l : List ℕ). zs ++ l) none ∙ append-nil zs ∙ e ∙ ap (over ys) all in
    ap (λ (l : List ℕ). take m o₁ ++ l) put ∙ rw is (over-part o xs ys m (length ys) lx refl)

-- over w bytes behind it, which are made 0
pub over-cleared : (o o₁ xs zs : List ℕ) (m w : ℕ) → o₁ ≡ over xs o → length xs ≡ m → m + w ≤ length o → zs ≡ zeros (length (take w (drop m o₁)))
    → take m o₁ ++ (zs ++ drop w (drop m o₁)) ≡ over (xs ++ zeros w) o
over-cleared o o₁ xs zs m w is lx h e =
    let l : length (take w (drop m o₁)) ≡ w = length-take-le w (drop m o₁) (rw is (simp (length-drop, length-append) (omega arith))) in
    rw (e, l, is) (over-part o xs (zeros w) m w lx (length-replicate w 0))

-- ---- reading what was written

module _ (p : List ℕ) (i : ℕ) (h : length p ≡ i) where
  pub number_at_lem : (n : ℕ) (more : List ℕ) → n < 2 ^ 64 → number_at (p ++ (bytes8 n ++ more)) i ≡ n
  number_at_lem n more f = rw (drop_at p (bytes8 n ++ more) i h, take_at (bytes8 n) more 8 (length-bytes8 n)) (number-bytes8 n f)

  pub bytes_at_lem : (s more : List ℕ) → length s < 2 ^ 64 → bytes_at (p ++ (bytes8 (length s) ++ (s ++ more))) i ≡ s
  bytes_at_lem s more f =
      rw (
        number_at_lem (length s) (s ++ more) f,
        ← drop-drop 8 i (p ++ (bytes8 (length s) ++ (s ++ more))),
        drop_at p (bytes8 (length s) ++ (s ++ more)) i h,
        drop_at (bytes8 (length s)) (s ++ more) 8 (length-bytes8 (length s)),
      )
      (take-append_seam s more)
