-- The card's numbers in its bytes: where each stands, and what a write leaves.
-- Assumes nothing.
use Prim.Native.Nat.{ℕ, zero, suc, ◌+◌, ◌-◌, ◌*◌, ◌/◌, ◌%◌, ◌^◌, ◌≤◌, ◌<◌}
use native.Mathlib.Omega.{arith}
use mathlib.Core.Path.{◌≡◌, refl, sym, ap, subst, ◌∙◌}
use mathlib.Core.Bool.{Bool}
use mathlib.Core.List.{List, [], ◌∷◌, ◌++◌}
use lib.ListN.{length, take, drop, get_or, set, replicate, length-drop, length-set, take-append-drop}
use lib.Seq.{drop_at, get_or-take, get_or-drop, length-take-le}
use Rattle.format.specs.Bits.{bits, bits_of, bit_field, splice, total, offset, read_fields, Below, Bytes}
use Rattle.format.specs.Nibbles.{nibbles}
use Rattle.format.specs.Field.{Field, table, field_at}
use Rattle.format.specs.Observation.{widths}
use Rattle.format.specs.Report.{numbers_of, rptin_of, codes_of, checksum_of, count_of, tail_of}
use Rattle.laws.proofs.Bits.{drop_below, bit_field_at, length_bits_of, uniform, uniform_append, uniform_back, total-replicate, length-write_fields, read_fields-splice, behind-splice}
use Rattle.laws.proofs.Nibbles.{length-nibbles, nibbles_lt, bits_of_nibbles}
use Rattle.laws.proofs.Card.{total-widths, length-widths, numbers_length}
use Rattle.laws.proofs.Fields.{no_field, field_at_lem, table_fits, width_at}
use Rattle.bits.specs.Window.{patched}
use Rattle.bits.proofs.Window.{field_byte, splice_byte}
use Rattle.card.specs.Answers.{Carded}

-- ---- reading

-- number k stands at its offset
pub number_at_lem : (b : List ℕ) (k : ℕ) → k < 49 → bit_field b (offset widths k) (get_or widths k 0) ≡ get_or (numbers_of b) k 0
number_at_lem b k h = bit_field_at widths b k (rw length-widths h)

-- field k's coded number is number k
pub code_at : (b : List ℕ) (k : ℕ) → 1 ≤ k → k ≤ 46 → get_or (codes_of b) (k - 1) 0 ≡ get_or (numbers_of b) k 0
code_at b k l h =
    let e : 1 + (k - 1) ≡ k = omega arith in
    get_or-take 46 (drop 1 (numbers_of b)) (k - 1) 0 (omega arith) ∙ get_or-drop 1 (numbers_of b) (k - 1) 0
    ∙ ap (λ (n : ℕ). get_or (numbers_of b) n 0) e

pub codes-length : (b : List ℕ) → length (codes_of b) ≡ 46
codes-length b = length-take-le 46 (drop 1 (numbers_of b)) (simp (length-drop, numbers_length) (omega arith))

pub code_there : (b : List ℕ) (k : ℕ) → 1 ≤ k → k ≤ 46 → bit_field b (offset widths k) (get_or widths k 0) ≡ get_or (codes_of b) (k - 1) 0
code_there b k l h = number_at_lem b k (omega arith) ∙ sym (code_at b k l h)

-- the numbers that are no fields
module _ (b : List ℕ) where
  pub rptin_at : bit_field b 0 16 ≡ rptin_of b
  unfolding total widths table
  rptin_at = number_at_lem b 0 (omega arith)

  pub checksum_at : bit_field b 282 14 ≡ checksum_of b
  unfolding total widths table
  checksum_at = number_at_lem b 47 (omega arith)

  -- the count is the high half of byte 37
  pub count_at : Bytes b → 38 ≤ length b → get_or b 37 0 / 16 ≡ count_of b
  unfolding total widths table
  count_at bs h = sym (sym (number_at_lem b 48 (omega arith)) ∙ field_byte b 37 0 4 4 (omega arith) refl ∙ omega (arith, bs 37))

-- ---- writing

-- the bits behind the card are those of the nibbles behind it
tail-bits : (b : List ℕ) → 38 ≤ length b → drop 300 (bits_of b) ≡ uniform 4 (tail_of b)
tail-bits b h =
    let ns : List ℕ = nibbles b in
    let l : length (take 75 ns) ≡ 75 = length-take-le 75 ns (rw length-nibbles (omega arith)) in
    let m : length (uniform 4 (take 75 ns)) ≡ 300 = length-write_fields (replicate (length (take 75 ns)) 4) (take 75 ns) ∙ total-replicate 4 (length (take 75 ns)) ∙ ap (λ (n : ℕ). 4 * n) l in
    ap (drop 300) (bits_of_nibbles b ∙ ap (uniform 4) (sym (take-append-drop 75 ns)) ∙ uniform_append 4 (take 75 ns) (drop 75 ns))
    ∙ drop_at (uniform 4 (take 75 ns)) (uniform 4 (drop 75 ns)) 300 m

tail_same : (s t : List ℕ) → Bytes s → Bytes t → 38 ≤ length s → length t ≡ length s → drop 300 (bits_of t) ≡ drop 300 (bits_of s) → tail_of t ≡ tail_of s
tail_same s t bs bt h l e =
    let n : ℕ = length (tail_of s) in
    let m : length (tail_of t) ≡ n = rw (length-drop, length-nibbles, l, ← length-nibbles s, ← length-drop 75 (nibbles s)) refl in
    let u : uniform 4 (tail_of t) ≡ uniform 4 (tail_of s) = sym (tail-bits t (omega arith)) ∙ e ∙ tail-bits s h in
    sym (uniform_back 4 n (tail_of t) [] m (drop_below 16 75 (nibbles t) (nibbles_lt t bt)))
    ∙ ap (λ (x : List Bool). read_fields (replicate n 4) (x ++ [])) u
    ∙ uniform_back 4 n (tail_of s) [] refl (drop_below 16 75 (nibbles s) (nibbles_lt s bs))

-- a coded number up to the highest has room in its field
pub code_lt : (k v : ℕ) → 1 ≤ k → k ≤ 46 → v ≤ (field_at k).highest → v < 2 ^ get_or widths k 0
code_lt k v l h hv =
    let e : get_or widths k 0 ≡ (get_or table (k - 1) no_field).bits = width_at k l h ∙ ap (λ (f : Field). f.bits) (field_at_lem k) in
    rw e (omega (arith, table_fits (k - 1), ap (λ (f : Field). f.highest) (field_at_lem k)))

-- a write to the bits of number k sets it
carded : (s t : List ℕ) (k v : ℕ) → Bytes s → Bytes t → 38 ≤ length s → k < 49 → v < 2 ^ get_or widths k 0
    → bits_of t ≡ splice (bits_of s) (offset widths k) (bits (get_or widths k 0) v) → length t ≡ length s
    → Carded s t (set (numbers_of s) k v)
carded s t k v bs bt h hk hv written l =
    let hw : k < length widths = rw length-widths hk in
    let room : total widths ≤ length (bits_of s) = rw (total-widths, length_bits_of) (omega arith) in
    let behind : drop (total widths) (bits_of t) ≡ drop (total widths) (bits_of s) = ap (drop (total widths)) written ∙ behind-splice widths (bits_of s) k v hw room in
    record {
      card = ap (read_fields widths) written ∙ read_fields-splice widths (bits_of s) k v hw room hv;
      behind = tail_same s t bs bt h l (rw total-widths at behind);
      long = l;
    }

pub carded_field : (s t : List ℕ) (k v : ℕ) → Bytes s → Bytes t → 38 ≤ length s → 1 ≤ k → k ≤ 46 → v ≤ (field_at k).highest
    → bits_of t ≡ splice (bits_of s) (offset widths k) (bits (get_or widths k 0) v) → length t ≡ length s
    → Carded s t (set (numbers_of s) k v)
carded_field s t k v bs bt h lo hi hv = carded s t k v bs bt h (omega arith) (code_lt k v lo hi hv)

module _ (s t : List ℕ) (v : ℕ) (bs : Bytes s) (bt : Bytes t) (h : 38 ≤ length s) (l : length t ≡ length s) where
  pub carded_rptin : v < 65536 → bits_of t ≡ splice (bits_of s) 0 (bits 16 v) → Carded s t (set (numbers_of s) 0 v)
  unfolding total widths table
  carded_rptin hv written = carded s t 0 v bs bt h (omega arith) hv written l

  pub carded_checksum : v < 16384 → bits_of t ≡ splice (bits_of s) 282 (bits 14 v) → Carded s t (set (numbers_of s) 47 v)
  unfolding total widths table
  carded_checksum hv written = carded s t 47 v bs bt h (omega arith) hv written l

-- a byte written over a byte
set_below : (n : ℕ) (s : List ℕ) (i v : ℕ) → v < n → Below n s → Below n (set s i v)
set_below n [] i v hv h k = h k
set_below n (x ∷ s) zero v hv h zero = hv
set_below n (x ∷ s) zero v hv h (suc k) = h (suc k)
set_below n (x ∷ s) (suc i) v hv h zero = h 0
set_below n (x ∷ s) (suc i) v hv h (suc k) = set_below n s i v hv (λ j. h (suc j)) k

pub carded_count : (s : List ℕ) (v x : ℕ) → Bytes s → 38 ≤ length s → v < 16 → x ≡ get_or s 37 0
    → Carded s (set s 37 (v * 16 + x % 16)) (set (numbers_of s) 48 v)
unfolding total widths table patched
carded_count s v x bs h hv e =
    let p : ℕ = patched (get_or s 37 0) 4 4 v in
    let q : v * 16 + x % 16 ≡ p = omega (arith, bs 37) in
    let b : p < 256 = omega (arith, bs 37) in
    subst (λ (y : ℕ). Carded s (set s 37 y) (set (numbers_of s) 48 v)) (sym q)
    (carded s (set s 37 p) 48 v bs (set_below 256 s 37 p b bs) h (omega arith) hv (splice_byte s 37 0 4 4 (omega arith) refl v hv) (length-set s 37 p))
