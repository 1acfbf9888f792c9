-- What a byte stored does to the nibbles.
-- Assumes nothing.
use Prim.Native.Nat.{ℕ, zero, suc, ◌+◌, ◌*◌, ◌/◌, ◌%◌, ◌<◌}
use native.Mathlib.Omega.{arith}
use native.Mathlib.Numerals.{add-one}
use mathlib.Core.Path.{◌≡◌, refl, sym, ap, ap₂, ◌∙◌}
use mathlib.Core.List.{List, [], ◌∷◌, ◌++◌}
use lib.ListN.{length, get_or, take, drop, set, replicate}
use lib.Seq.{paste, set-get_or, get_or-set_other}
use Rattle.format.specs.Nibbles.{nibbles}
use Rattle.laws.proofs.Nibbles.{length-nibbles, nibbles-append, nibbles-take, nibbles-drop, get_d_high, get_d_low}
use Rattle.nibble_edit.proofs.Paste.{paste_two, laid_then}

two_suc : (i : ℕ) → 2 * suc i ≡ suc (suc (2 * i))
two_suc i = omega arith

-- a byte stored is two nibbles stored
nibbles-set : (b : List ℕ) (i v : ℕ) → nibbles (set b i v) ≡ set (set (nibbles b) (2 * i) (v / 16)) (suc (2 * i)) (v % 16)
unfolding nibbles
nibbles-set [] i v = refl
nibbles-set (x ∷ b) zero v = refl
nibbles-set (x ∷ b) (suc i) v = rw two_suc (ap (λ (l : List ℕ). x / 16 ∷ x % 16 ∷ l) (nibbles-set b i v))

-- that is, two nibbles of a source laid
byte_laid : (b src : List ℕ) (i v p : ℕ) → i < length b → p + 1 < length src → v / 16 ≡ get_or src p 0 → v % 16 ≡ get_or src (p + 1) 0
    → nibbles (set b i v) ≡ paste (nibbles b) (2 * i) (drop p src) 2
byte_laid b src i v p fits long high low =
    nibbles-set b i v
    ∙ ap (λ (k : ℕ). set (set (nibbles b) (2 * i) (v / 16)) k (v % 16)) (sym (add-one (2 * i)))
    ∙ paste_two (nibbles b) src (2 * i) p (v / 16) (v % 16) (omega (arith, length-nibbles b)) long high low

-- a turn of a loop that lays a source, two nibbles a byte: b₀ has become b, and byte k of the run is next
pub byte_turn : (b₀ b src : List ℕ) (at j k v : ℕ) → at % 2 ≡ 0 → length b ≡ length b₀ → at / 2 + k < length b₀ → j + 2 * k + 1 < length src
    → v / 16 ≡ get_or src (j + 2 * k) 0 → v % 16 ≡ get_or src (j + 2 * k + 1) 0 → nibbles b ≡ paste (nibbles b₀) at (drop j src) (2 * k)
    → nibbles (set b (at / 2 + k) v) ≡ paste (nibbles b₀) at (drop j src) (2 * (k + 1))
byte_turn b₀ b src at j k v even same fits long high low given =
    byte_laid b src (at / 2 + k) v (j + 2 * k) (omega arith) long high low
    ∙ laid_then (nibbles b₀) (nibbles b) src at j (2 * k) 2 (2 * (k + 1)) (2 * (at / 2 + k)) (j + 2 * k)
    (omega arith) (omega arith) refl (omega (arith, length-nibbles b₀)) (omega arith) given

-- a run of bytes replaced is a run of twice as many nibbles replaced
nibbles-paste : (b : List ℕ) (i : ℕ) (x : List ℕ) (n : ℕ) → nibbles (paste b i x n) ≡ paste (nibbles b) (2 * i) (nibbles x) (2 * n)
nibbles-paste b i x n =
    let e : 2 * (i + n) ≡ 2 * i + 2 * n = omega arith in
    simp (nibbles-append, nibbles-take, nibbles-drop) (ap (λ (k : ℕ). take (2 * i) (nibbles b) ++ take (2 * n) (nibbles x) ++ drop k (nibbles b)) e)

nibbles-zeros : (n : ℕ) → nibbles (replicate n 0) ≡ replicate (2 * n) 0
unfolding nibbles
nibbles-zeros zero = refl
nibbles-zeros (suc n) = rw (two_suc n, nibbles-zeros n)

pub bytes_cleared : (b : List ℕ) (i at n : ℕ) → 2 * i ≡ at → nibbles (paste b i (replicate n 0) n) ≡ paste (nibbles b) at (replicate (2 * n) 0) (2 * n)
bytes_cleared b i at n e = nibbles-paste b i (replicate n 0) n ∙ rw (e, nibbles-zeros n)

-- a byte of which one half is new is one nibble stored
module _ (b : List ℕ) (at v : ℕ) (small : v < 16) where
  abbrev n : List ℕ
  n = nibbles b

  abbrev i : ℕ
  i = at / 2

  abbrev x : ℕ
  x = get_or b i 0

  pub high_put : at % 2 ≡ 0 → nibbles (set b (at / 2) (v * 16 + get_or b (at / 2) 0 % 16)) ≡ set (nibbles b) at v
  high_put even =
      let ev : (v * 16 + x % 16) / 16 ≡ v = omega arith in
      let ew : (v * 16 + x % 16) % 16 ≡ get_or (set n (2 * i) v) (suc (2 * i)) 0 =
      (let w : (v * 16 + x % 16) % 16 ≡ x % 16 = omega arith in
      w ∙ sym (get_or-set_other n (2 * i) (suc (2 * i)) v 0 (λ e. omega arith) ∙ get_d_low b i)) in
      let place : 2 * i ≡ at = omega arith in
      nibbles-set b i (v * 16 + x % 16)
      ∙ ap₂ (λ (h l : ℕ). set (set n (2 * i) h) (suc (2 * i)) l) ev ew
      ∙ set-get_or (set n (2 * i) v) (suc (2 * i)) 0
      ∙ ap (λ (k : ℕ). set n k v) place

  pub low_put : (at % 2 ≡ 0 → ⊥) → nibbles (set b (at / 2) (get_or b (at / 2) 0 / 16 * 16 + v)) ≡ set (nibbles b) at v
  low_put odd =
      let ev : (x / 16 * 16 + v) / 16 ≡ get_or n (2 * i) 0 = (let w : (x / 16 * 16 + v) / 16 ≡ x / 16 = omega arith in w ∙ sym (get_d_high b i)) in
      let ew : (x / 16 * 16 + v) % 16 ≡ v = omega arith in
      let place : suc (2 * i) ≡ at = omega arith in
      nibbles-set b i (x / 16 * 16 + v)
      ∙ ap₂ (λ (h l : ℕ). set (set n (2 * i) h) (suc (2 * i)) l) ev ew
      ∙ ap (λ (l : List ℕ). set l (suc (2 * i)) v) (set-get_or n (2 * i) 0)
      ∙ ap (λ (k : ℕ). set n k v) place

-- ---- bytes made of the buffer's own nibbles

-- the halves of byte i, by their place
pub high_at : (b : List ℕ) (i p : ℕ) → p ≡ 2 * i → get_or b i 0 / 16 ≡ get_or (nibbles b) p 0
high_at b i p e = sym (ap (λ (k : ℕ). get_or (nibbles b) k 0) e ∙ get_d_high b i)

pub low_at : (b : List ℕ) (i p : ℕ) → p ≡ suc (2 * i) → get_or b i 0 % 16 ≡ get_or (nibbles b) p 0
low_at b i p e = sym (ap (λ (k : ℕ). get_or (nibbles b) k 0) e ∙ get_d_low b i)

-- byte t made byte f, or the low half of f and the high half of the byte behind it: the two nibbles at p moved
module _ (b : List ℕ) (f t p : ℕ) (fits : t < length b) where
  pub byte_moved : f < length b → p ≡ 2 * f → nibbles (set b t (get_or b f 0)) ≡ paste (nibbles b) (2 * t) (drop p (nibbles b)) 2
  byte_moved long e =
      byte_laid b (nibbles b) t (get_or b f 0) p fits (omega (arith, length-nibbles b)) (high_at b f p e) (low_at b f (p + 1) (omega arith))

  pub halves_moved : f + 1 < length b → p ≡ 2 * f + 1 → get_or b (f + 1) 0 < 256
      → nibbles (set b t (get_or b f 0 % 16 * 16 + get_or b (f + 1) 0 / 16)) ≡ paste (nibbles b) (2 * t) (drop p (nibbles b)) 2
  halves_moved long e small =
      let x : ℕ = get_or b f 0 in
      let y : ℕ = get_or b (f + 1) 0 in
      let h : (x % 16 * 16 + y / 16) / 16 ≡ x % 16 = omega arith in
      let l : (x % 16 * 16 + y / 16) % 16 ≡ y / 16 = omega arith in
      byte_laid b (nibbles b) t (x % 16 * 16 + y / 16) p fits (omega (arith, length-nibbles b))
      (h ∙ low_at b f p (omega arith))
      (l ∙ high_at b (f + 1) (p + 1) (omega arith))

-- two nibbles moved, at places that are counted in bytes from the start of a run
pub pair_at : (b e : List ℕ) (from to k : ℕ) → to % 2 ≡ 0
    → e ≡ paste b (2 * (to / 2 + k)) (drop (2 * (from / 2 + k) + from % 2) b) 2 → e ≡ paste b (to + 2 * k) (drop (from + 2 * k) b) 2
pair_at b e from to k even q =
    let t : 2 * (to / 2 + k) ≡ to + 2 * k = omega arith in
    let f : 2 * (from / 2 + k) + from % 2 ≡ from + 2 * k = omega arith in
    q ∙ ap₂ (λ (m n : ℕ). paste b m (drop n b) 2) t f
