-- The card's numbers, bits and nibbles, and the bytes of a report: there and back.
-- Assumes nothing.
use Prim.Native.Nat.{ℕ, ◌+◌, ◌*◌, ◌≤◌}
use native.Mathlib.Omega.{arith}
use mathlib.Core.Path.{◌≡◌, refl, sym, ap, ◌∙◌}
use mathlib.Core.Bool.{cond}
use mathlib.Core.List.{List, [], ◌∷◌, ◌++◌, append_assoc}
use lib.ListN.{length, take, drop, replicate, length-append, take-append-drop}
use lib.Seq.{drop_at, length-take-le}
use Rattle.format.specs.Bits.{bits_of, total, read_fields, write_fields, Bytes}
use Rattle.format.specs.Nibbles.{nibbles, bytes, odd, padded, Nibbles}
use Rattle.format.specs.Field.{table}
use Rattle.format.specs.Observation.{widths}
use Rattle.format.specs.Report.{numbers_of, tail_of}
use Rattle.laws.proofs.Bits.{Fit, append_below, length_bits_of, length-read_fields, length-write_fields, read_fields-append, read_fields_lt, read_fields-write_fields}
use Rattle.laws.proofs.Bits.{total-replicate, uniform, uniform_append, uniform_length, uniform_lt, uniform_read, write_fields-read_fields}
use Rattle.laws.proofs.Nibbles.{bits_of_nibbles, length-nibbles, nibbles_packed, read_fields-nibbles}

-- ---- fields of any widths that make m whole nibbles

-- the nibbles of the fields
abbrev front : List ℕ → ℕ → List ℕ → List ℕ
front ws m vs = read_fields (replicate m 4) (write_fields ws vs)

module _ (ws : List ℕ) (m : ℕ) where
  -- a report's nibbles: the fields', those behind them, the padding nibble, and the nibbles of the bytes beyond
  laid : (vs ns r : List ℕ) → Nibbles ns
      → nibbles (bytes (padded (front ws m vs ++ ns)) ++ r) ≡ front ws m vs ++ (ns ++ (cond (odd (m + length ns)) (0 ∷ []) [] ++ nibbles r))
  laid vs ns r h =
      nibbles_packed (front ws m vs ++ ns) r (append_below 16 (front ws m vs) ns (uniform_lt 4 m _) h)
      ∙ rw (length-append, uniform_length 4 m (write_fields ws vs)) (append_assoc (front ws m vs) ns _)

  -- what stands behind the fields is read
  behind_back : (vs ns r : List ℕ) → Nibbles ns
      → drop m (nibbles (bytes (padded (front ws m vs ++ ns)) ++ r)) ≡ ns ++ (cond (odd (m + length ns)) (0 ∷ []) [] ++ nibbles r)
  behind_back vs ns r h = rw (laid vs ns r h) (drop_at (front ws m vs) _ m (uniform_length 4 m (write_fields ws vs)))

  -- and so are the fields
  fields_back : total ws ≡ 4 * m → (vs ns r : List ℕ) → length vs ≡ length ws → Fit ws vs → Nibbles ns
      → read_fields ws (bits_of (bytes (padded (front ws m vs ++ ns)) ++ r)) ≡ vs
  fields_back whole vs ns r l f h =
      rw (bits_of_nibbles, laid vs ns r h, uniform_append, uniform_read 4 m (write_fields ws vs) (length-write_fields ws vs ∙ whole))
      (read_fields-write_fields ws vs _ l f)

  -- the nibbles of bytes are those of the fields that they show, and the rest
  front_back : total ws ≡ 4 * m → (b : List ℕ) → Bytes b → m ≤ 2 * length b → nibbles b ≡ front ws m (read_fields ws (bits_of b)) ++ drop m (nibbles b)
  front_back whole b h within =
      let vs : List ℕ = read_fields ws (bits_of b) in
      let l : total ws ≤ length (bits_of b) = rw (length_bits_of, whole) (omega arith) in
      let t : total (replicate m 4) ≤ length (write_fields ws vs) = rw (length-write_fields, whole, total-replicate) (omega arith) in
      let e : front ws m vs ≡ take m (nibbles b) =
      sym (read_fields-append (replicate m 4) (write_fields ws vs) (drop (total ws) (bits_of b)) t)
      ∙ ap (read_fields (replicate m 4)) (write_fields-read_fields ws (bits_of b) l)
      ∙ read_fields-nibbles m b h within in
      rw e (sym (take-append-drop m (nibbles b)))

-- ---- the card

pub total-widths : total widths ≡ 300
unfolding total widths table
total-widths = refl

pub length-widths : length widths ≡ 49
unfolding widths table
length-widths = refl

pub card_length : (vs : List ℕ) → length (read_fields (replicate 75 4) (write_fields widths vs)) ≡ 75
card_length vs = uniform_length 4 75 (write_fields widths vs)

pub card_lt : (vs : List ℕ) → Nibbles (read_fields (replicate 75 4) (write_fields widths vs))
card_lt vs = uniform_lt 4 75 (write_fields widths vs)

pub numbers_length : (b : List ℕ) → length (numbers_of b) ≡ 49
numbers_length b = length-read_fields widths (bits_of b) ∙ length-widths

pub numbers_fit : (b : List ℕ) → Fit widths (numbers_of b)
numbers_fit b = read_fields_lt widths (bits_of b)

-- the numbers that a report was packed of are read
pub card_back : (vs ns r : List ℕ) → length vs ≡ 49 → Fit widths vs → Nibbles ns
    → numbers_of (bytes (padded (read_fields (replicate 75 4) (write_fields widths vs) ++ ns)) ++ r) ≡ vs
card_back vs ns r l = fields_back widths 75 total-widths vs ns r (l ∙ sym length-widths)

-- and so are the nibbles behind the card
pub tail_back : (vs ns r : List ℕ) → Nibbles ns
    → tail_of (bytes (padded (read_fields (replicate 75 4) (write_fields widths vs) ++ ns)) ++ r) ≡ ns ++ (cond (odd (75 + length ns)) (0 ∷ []) [] ++ nibbles r)
tail_back = behind_back widths 75

-- the nibbles of a buffer are the card of its numbers and what stands behind the card
pub card_front : (b : List ℕ) → Bytes b → 38 ≤ length b
    → nibbles b ≡ read_fields (replicate 75 4) (write_fields widths (numbers_of b)) ++ tail_of b
card_front b h l = front_back widths 75 total-widths b h (omega arith)

-- the numbers of a card are in its first 75 nibbles
pub front_numbers : (b : List ℕ) → 38 ≤ length b → numbers_of b ≡ read_fields widths (uniform 4 (take 75 (nibbles b)))
front_numbers b long =
    let l : length (take 75 (nibbles b)) ≡ 75 = length-take-le 75 (nibbles b) (omega (arith, length-nibbles b)) in
    let m : length (uniform 4 (take 75 (nibbles b))) ≡ 4 * length (take 75 (nibbles b)) =
    length-write_fields (replicate (length (take 75 (nibbles b))) 4) (take 75 (nibbles b)) ∙ total-replicate 4 (length (take 75 (nibbles b))) in
    ap (read_fields widths)
    (bits_of_nibbles b ∙ ap (uniform 4) (sym (take-append-drop 75 (nibbles b))) ∙ uniform_append 4 (take 75 (nibbles b)) (drop 75 (nibbles b)))
    ∙ read_fields-append widths (uniform 4 (take 75 (nibbles b))) (uniform 4 (drop 75 (nibbles b))) (omega (arith, total-widths))
