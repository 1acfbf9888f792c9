-- The rows against the field table, computed over all fields.
-- Assumes nothing.
use Prim.Native.Nat.{ℕ, zero, suc, ◌+◌, ◌/◌, ◌%◌, ◌≤◌, ◌<◌}
use native.Mathlib.Omega.{arith}
use native.Mathlib.Decide.{ℕ_discrete}
use mathlib.Core.Path.{◌≡◌, sym, ap, subst, ◌∙◌}
use mathlib.Core.Bool.{Bool, true, ◌&&◌}
use mathlib.Core.List.{List}
use lib.ListN.{get_or, drop}
use lib.Seq.{get_or-take, get_or-drop}
use lib.Dec.{T, leb, eqb, eqb→eq, leb→le}
use lib.IntN.{ℤ, pos, negsuc}
use Rattle.format.specs.Bits.{total, offset}
use Rattle.format.specs.Field.{table, field_at}
use Rattle.format.specs.Observation.{widths}
use Rattle.format.proofs.Test.{left, right}
use Rattle.format.proofs.Table.{eq_z}
use Rattle.laws.proofs.Fields.{width_at}
use Rattle.card.specs.Rows.{rows, base_of, field_in, Row, RowAt, RowRun}

eq_z_eq : (a b : ℤ) → T (eq_z a b) → a ≡ b
unfolding eq_z
eq_z_eq (pos a) (pos b) t = ap pos (eqb→eq a b t)
eq_z_eq (pos a) (negsuc b) t = absurd t
eq_z_eq (negsuc a) (pos b) t = absurd t
eq_z_eq (negsuc a) (negsuc b) t = ap negsuc (eqb→eq a b t)

-- ---- the tests of `Row`, of a row r, and of all fields up to n

is_row : ℕ → ℕ → Bool
is_row k r =
    eqb (r / 4294967296) (offset widths k)
    && (eqb (r / 268435456 % 16) (get_or widths k 0)
    && (eqb (r / 65536 % 4096) (field_at k).highest
    && (eq_z (base_of r) (field_at k).base
    && (leb (offset widths k / 8 + 2) 38 && leb (offset widths k % 8 + get_or widths k 0) 16))))

are_rows : ℕ → Bool
are_rows zero = true
are_rows (suc n) = is_row (suc n) (get_or rows (suc n) 0) && are_rows n

all_rows : T (are_rows 46)
unfolding are_rows is_row total widths table field_at base_of eq_z
all_rows = tt

is_row_lem : (n k : ℕ) → T (are_rows n) → 1 ≤ k → k ≤ n → T (is_row k (get_or rows k 0))
unfolding are_rows
is_row_lem zero k t l h = absurd (omega arith)
is_row_lem (suc n) k t l h =
    go (ℕ_discrete k (suc n)) (is_row_lem n k (right (is_row (suc n) (get_or rows (suc n) 0)) (are_rows n) t) l)
  where
    go : Dec (k ≡ suc n) → (k ≤ n → T (is_row k (get_or rows k 0))) → T (is_row k (get_or rows k 0))
    go (yes e) m = subst (λ (j : ℕ). T (is_row j (get_or rows j 0))) (sym e) (left (is_row (suc n) (get_or rows (suc n) 0)) (are_rows n) t)
    go (no e) m = m (omega arith)

tested : (k r : ℕ) → T (is_row k r) → Row k r
unfolding is_row
tested k r t =
    let t₁ = right (eqb (r / 4294967296) (offset widths k)) _ t in
    let t₂ = right (eqb (r / 268435456 % 16) (get_or widths k 0)) _ t₁ in
    let t₃ = right (eqb (r / 65536 % 4096) (field_at k).highest) _ t₂ in
    let t₄ = right (eq_z (base_of r) (field_at k).base) _ t₃ in
    record {
      place = eqb→eq _ _ (left (eqb (r / 4294967296) (offset widths k)) _ t);
      bits = eqb→eq _ _ (left (eqb (r / 268435456 % 16) (get_or widths k 0)) _ t₁);
      highest = eqb→eq _ _ (left (eqb (r / 65536 % 4096) (field_at k).highest) _ t₂);
      base = eq_z_eq _ _ (left (eq_z (base_of r) (field_at k).base) _ t₃);
      room = leb→le _ _ (left (leb (offset widths k / 8 + 2) 38) _ t₄);
      within = leb→le _ _ (right (leb (offset widths k / 8 + 2) 38) _ t₄);
    }

row_is : (k : ℕ) → 1 ≤ k → k ≤ 46 → Row k (get_or rows k 0)
row_is k l h = tested k (get_or rows k 0) (is_row_lem 46 k all_rows l h)

pub row_number : (k r : ℕ) → 1 ≤ k → k ≤ 46 → r ≡ get_or rows k 0 → Row k r
row_number k r l h e = subst (λ (x : ℕ). Row k x) (sym e) (row_is k l h)

-- the field that a row is of
pub field_row : (k r : ℕ) → Row k r → 1 ≤ k → k ≤ 46 → field_in r ≡ field_at k
field_row k r w l h =
    let b : r / 268435456 % 16 ≡ (field_at k).bits = w.bits ∙ width_at k l h in
    λ i. record { highest = w.highest i; base = w.base i; bits = b i }

-- the row of the field at place i
pub row_here : (i r : ℕ) → RowAt i r → Row (i + 1) r
row_here i r w = row_number (i + 1) r (omega arith) (omega (arith, w.place)) w.row

-- each row of a run
pub row_in : (i n j : ℕ) (rs : List ℕ) → RowRun i n rs → j < n → RowAt (i + j) (get_or rs j 0)
row_in i n j rs w h =
    let e : i + 1 + j ≡ i + j + 1 = omega arith in
    record {
      place = omega (arith, w.places);
      row =
          ap (λ (l : List ℕ). get_or l j 0) w.listed ∙ get_or-take n (drop (i + 1) rows) j 0 h ∙ get_or-drop (i + 1) rows j 0
          ∙ ap (λ (k : ℕ). get_or rows k 0) e;
    }
