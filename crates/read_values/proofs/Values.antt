-- The values that a card shows: one field, and all of them with the presence word.
-- Assumes nothing.
use Prim.Native.Nat.{ℕ, suc, ◌+◌, ◌-◌, ◌^◌, ◌≤◌, ◌<◌}
use native.Mathlib.Nat.{zero-add}
use native.Mathlib.Numerals.{add-one}
use native.Mathlib.Omega.{arith}
use mathlib.Core.Path.{◌≡◌, sym, ap, ap₂, ◌∙◌}
use mathlib.Core.Bool.{Bool, true, false, cond}
use mathlib.Core.List.{List, ◌++◌, map, append-nil}
use mathlib.Core.Option.{Option, none}
use lib.ListN.{length, get_or, drop, set, length-map, drop_of_length-le, get_or-map}
use lib.Pow.{pow_mono}
use lib.Seq.{drop-cons, take_all}
use lib.IntN.{ℤ, pos}
use Rattle.format.specs.Field.{field_at, entry_of, is_present}
use Rattle.format.specs.Report.{codes_of}
use Rattle.format.specs.Calls.{over}
use Rattle.format.specs.Whole.{value_or_zero, presence_from}
use Rattle.format.specs.declared.Coded.{Coded}
use Rattle.format.specs.declared.Scaled.{Scaled}
use Rattle.card.specs.Answers.{entries_of}
use Rattle.card.proofs.Entries.{entries-length, entry_is}
use Rattle.card.proofs.Runs.{sum_left, set_all, both_one}
use Rattle.read_values.specs.Values.{value_or_zero_at, bit_of, ValuesRead}

-- ---- one field

bit_le : (t : Bool) (k : ℕ) → k ≤ 46 → cond t (2 ^ k) 0 ≤ 70368744177664
bit_le true k h = pow_mono {i = k} {j = 46} h
bit_le false k h = omega arith

pub bit_small : (b : List ℕ) (i : ℕ) → i < 46 → bit_of b i ≤ 70368744177664
bit_small b i h = bit_le (is_present (get_or (entries_of b) i none)) (suc i) h

-- that of number k
module _ (b : List ℕ) (i k : ℕ) (c : Coded) (h : i < 46) (at : k ≡ i + 1) (e : c.0 ≡ get_or (codes_of b) (k - 1) 0) where
  entry_here : get_or (entries_of b) i none ≡ entry_of (field_at k) c
  entry_here =
      let q : k - 1 ≡ i = omega arith in
      entry_is b i c h (e ∙ ap (λ (n : ℕ). get_or (codes_of b) n 0) q) ∙ ap (λ (n : ℕ). entry_of (field_at n) c) (sym at)

  pub bit_here : (bit : ℕ) → bit ≡ cond (is_present (entry_of (field_at k) c)) (2 ^ k) 0 → bit ≡ bit_of b i
  bit_here bit q = q ∙ ap₂ (λ (x : Option Scaled) (n : ℕ). cond (is_present x) (2 ^ n) 0) (sym entry_here) (at ∙ add-one i)

  value_here : (v : ℤ) → v ≡ value_or_zero (entry_of (field_at k) c) → v ≡ value_or_zero_at b i
  value_here v q = q ∙ ap value_or_zero (sym entry_here) ∙ sym (get_or-map value_or_zero (entries_of b) i none)

  pub read_one : (x : List ℤ) (v : ℤ) (word bit : ℕ) → v ≡ value_or_zero (entry_of (field_at k) c)
      → bit ≡ cond (is_present (entry_of (field_at k) c)) (2 ^ k) 0 → ValuesRead b i 1 x (set x i v) word (word + bit)
  read_one x v word bit q p =
      both_one {f = value_or_zero_at b} {g = bit_of b} {o = 0} {most = 70368744177664} i x (set x i v) word (word + bit)
      (ap₂ (λ (j : ℕ) (z : ℤ). set x j z) (sym (zero-add i)) (value_here v q)) (ap (λ (n : ℕ). word + n) (bit_here bit p)) (bit_small b i h)

-- ---- all fields

-- what is left of the presence word from place i on
abbrev bits_left : List (Option Scaled) → ℕ → ℕ
bits_left es i = presence_from (suc i) (drop i es)

bits-step : (es : List (Option Scaled)) (i : ℕ) → i < length es
    → bits_left es i ≡ cond (is_present (get_or es i none)) (2 ^ suc i) 0 + bits_left es (suc i)
unfolding presence_from
bits-step es i h = ap (presence_from (suc i)) (drop-cons es i none h)

bits_end : (es : List (Option Scaled)) (i : ℕ) → length es ≡ i → bits_left es i ≡ 0
unfolding presence_from
bits_end es i e = ap (presence_from (suc i)) (drop_of_length-le es {i = i} (omega arith))

values_length : (b : List ℕ) → length (map value_or_zero (entries_of b)) ≡ 46
values_length b = length-map (entries_of b) value_or_zero ∙ entries-length b

-- the values shown stand in front of what stood behind the first 46
pub read_all : (b : List ℕ) (x front y : List ℤ) (r : ℕ) → length front ≡ 46 → ValuesRead b 0 46 front y 0 r
    → (y ++ drop 46 x ≡ over (map value_or_zero (entries_of b)) x) × (r ≡ presence_from 1 (entries_of b))
read_all b x front y r h s =
    let vs : List ℤ = map value_or_zero (entries_of b) in
    let n : length vs ≡ 46 = values_length b in
    let left = sum_left (bit_of b) (bits_left (entries_of b)) 46 0 (λ j l. bits-step (entries_of b) j (rw entries-length (omega arith))) in
    let whole : y ≡ vs =
    s.list ∙ set_all vs front (pos 0) 0 46 (omega arith) (omega arith)
    ∙ ap₂ (λ (l m : List ℤ). l ++ m) (take_all 46 vs (omega arith)) (drop_of_length-le front {i = 46} (omega arith)) ∙ append-nil vs in (
      ap₂ (λ (l : List ℤ) (k : ℕ). l ++ drop k x) whole (sym n),
      omega (arith, s.sums.total, left, bits_end (entries_of b) 46 (entries-length b)),
    )
