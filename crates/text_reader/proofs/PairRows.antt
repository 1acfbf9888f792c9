-- The table of the pairs against the definition, computed.
-- Assumes nothing.
use Prim.Native.Nat.{ℕ, zero, suc, ◌+◌, ◌-◌, ◌*◌, ◌/◌, ◌%◌, ◌^◌, ◌≤◌}
use native.Mathlib.Omega.{arith}
use native.Mathlib.Nat.{zero-div}
use mathlib.Core.Path.{◌≡◌, refl, sym, ap, ◌∙◌}
use mathlib.Core.Bool.{true, cond}
use mathlib.Core.List.{List, [], ◌∷◌}
use lib.ListN.{length, get_or}
use lib.Dec.{ltb, eqb}
use borrow.Author.Tests.{eqb-true, ne_eqb, ltb-true, ltb-false}
use Rattle.std.specs.Prelude.{Some, None}
use Rattle.format.specs.ShipText.{pair_byte}
use Rattle.laws.proofs.Sequences.{test_case}
use Rattle.laws.proofs.Characters.{all_below, at_below, no_row}
use Rattle.text_reader.specs.Pairs.{pair_rows}

beyond : (xs : List ℕ) (n : ℕ) → length xs ≤ n → get_or xs n 0 ≡ 0
beyond [] n h = refl
beyond (x ∷ xs) zero h = absurd (omega arith)
beyond (x ∷ xs) (suc n) h = beyond xs n (omega arith)

abbrev in_row : ℕ → ℕ → ℕ
in_row j n = get_or pair_rows n 0 / 2 ^ (j * 8) % 256

all_pair-rows : all_below 3 (λ j. all_below 16 (λ n. eqb (in_row j n) (pair_byte (j + 12) n))) ≡ true
unfolding all_below pair_byte
all_pair-rows = refl

pub pair_row : (z n : ℕ) → 12 ≤ z → z ≤ 14 → get_or pair_rows n 0 / 2 ^ ((z - 12) * 8) % 256 ≡ pair_byte z n
pair_row z n h k =
    let j : (z - 12) + 12 ≡ z = omega arith in
    let low = at_below 3 (λ j. all_below 16 (λ n. eqb (in_row j n) (pair_byte (j + 12) n))) (z - 12) all_pair-rows (omega arith) in
    test_case (ltb n 16)
    (λ e. eqb-true _ _ (at_below 16 (λ n. eqb (in_row (z - 12) n) (pair_byte ((z - 12) + 12) n)) n low (ltb-true n 16 e)) ∙ ap (λ (x : ℕ). pair_byte x n) j)
    (λ e.
    let o : 16 ≤ n = ltb-false n 16 e in
    let m : 12 ≤ n = omega arith in
    rw (beyond pair_rows n m, zero-div (2 ^ ((z - 12) * 8))) (sym (no_row z n o)))

-- the byte b that the table gives is the pair's, or the pair is undefined
module _ (z n r : ℕ) (h : 12 ≤ z) (k : z ≤ 14) (e : r ≡ get_or pair_rows n 0) where
  pair_is : pair_byte z n ≡ r / 2 ^ ((z - 12) * 8) % 256
  pair_is = sym (ap (λ (x : ℕ). x / 2 ^ ((z - 12) * 8) % 256) e ∙ pair_row z n h k)

  pub pair_none : r / 2 ^ ((z - 12) * 8) % 256 ≡ 0 → None ≡ cond (eqb (pair_byte z n) 0) None (Some (pair_byte z n))
  pair_none f = rw (pair_is, f)

  pub pair_some : (r / 2 ^ ((z - 12) * 8) % 256 ≡ 0 → ⊥) → Some (r / 2 ^ ((z - 12) * 8) % 256) ≡ cond (eqb (pair_byte z n) 0) None (Some (pair_byte z n))
  pair_some f = rw (pair_is, ne_eqb _ 0 f)

-- ---- the last arm of a match on a nibble

pub beyond_pairs : (n : ℕ) → 12 ≤ n → 0 ≡ get_or pair_rows n 0
beyond_pairs n h = sym (beyond pair_rows n h)
