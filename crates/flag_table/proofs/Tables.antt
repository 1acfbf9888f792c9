-- Tables of permitted flags: the marks of a lent one, what refuses it, and the one in which every mark is yes.
-- Assumes nothing.
use Prim.Native.Nat.{ℕ, zero, suc, ◌+◌, ◌-◌, ◌*◌, ◌/◌, ◌<◌}
use native.Mathlib.Omega.{arith}
use mathlib.Core.Path.{◌≡◌, refl, sym, ap, ◌∙◌}
use mathlib.Core.Bool.{Bool, true, false, cond, not, ◌&&◌, ◌||◌}
use mathlib.Core.List.{List, [], ◌∷◌}
use mathlib.Core.Option.{Option, none, some}
use lib.ListN.{length, get_or, take, drop, replicate, get_or-replicate}
use lib.Seq.{drop-drop, get_or-drop, get_or-take}
use lib.Bits.{bit_or, or_add_and, or_lt, and_le_l, and_le_r}
use lib.Dec.{eqb, leb}
use borrow.Author.Tests.{le-leb, lt-leb, leb-true, leb-false}
use Rattle.std.specs.List.{fold}
use Rattle.std.specs.Simd.{first_chunks}
use Rattle.std.proofs.lemmas.List.Recursion.{and_is, or_is}
use Rattle.format.specs.Order.{Refusal, check, first, between, all_marks}
use Rattle.format.specs.Flags.{FlagTable, mark_of, all_yes}
use Rattle.format.specs.Calls.{accepted, refused, done_by}
use Rattle.format.specs.Loading.{rows, table_of, some_yes, every_row, load_checks, load_answer, in_force_by, in_force}
use Rattle.laws.proofs.Sequences.{and_true, and_right, and_assoc, test_case}
use Rattle.laws.proofs.Order.{first_fits, first_skip, first-nil}
use Rattle.flag_table.specs.Claims.{AnyValue, RowByRow}

-- ---- where a mark stands

rows_at : (n i : ℕ) (lent : List ℕ) → i < n → get_or (rows n lent) i [] ≡ take 10 (drop (10 * i) lent)
unfolding rows
rows_at zero i lent h = absurd (omega arith)
rows_at (suc n) zero lent h = refl
rows_at (suc n) (suc i) lent h =
    let e : 10 + 10 * i ≡ 10 * suc i = omega arith in
    rows_at n i (drop 10 lent) (omega arith) ∙ ap (take 10) (drop-drop (10 * i) 10 lent ∙ ap (λ (k : ℕ). drop k lent) e)

pub row_by_row : (lent : List ℕ) → RowByRow lent
row_by_row lent j v f r =
    let p = and_true (leb 1 j) (leb j 14) f in
    let q = and_true (leb 1 v) (leb v 10) r in
    let hj = leb-true j 14 p.1 in
    let lj = leb-true 1 j p.0 in
    let hv = leb-true v 10 q.1 in
    let lv = leb-true 1 v q.0 in
    ap (λ (row : List ℕ). get_or row (v - 1) 0) (rows_at 14 (j - 1) lent (omega arith))
    ∙ get_or-take 10 (drop (10 * (j - 1)) lent) (v - 1) 0 (omega arith) ∙ get_or-drop (10 * (j - 1)) lent (v - 1) 0

-- the rows are the chunks of ten
chunks_are : (n : ℕ) (lent : List ℕ) → first_chunks 10 n lent ≡ rows n lent
unfolding rows
chunks_are zero lent = refl
chunks_are (suc n) lent = ap (λ (t : FlagTable). take 10 lent ∷ t) (chunks_are n (drop 10 lent))

pub table_is : (table : FlagTable) (lent : List ℕ) → length lent ≡ 140 → table ≡ first_chunks 10 (length lent / 10) lent → table ≡ table_of lent
table_is table lent l e =
    let n : length lent / 10 ≡ 14 = omega arith in
    e ∙ ap (λ (k : ℕ). first_chunks 10 k lent) n ∙ chunks_are 14 lent

-- ---- the marks of a lent table

join_one : (n m : ℕ) → leb (bit_or n m) 1 ≡ leb n 1 && leb m 1
join_one n m =
    let sum = or_add_and n m in
    let low = and_le_l n m in
    let high = and_le_r n m in
    test_case (leb n 1)
    (λ t.
    test_case (leb m 1)
    (λ u.
    let a = leb-true n 1 t in
    let b = leb-true m 1 u in
    rw (t, u) (le-leb (bit_or n m) 1 (let q = or_lt 1 n m (omega arith) (omega arith) in omega arith)))
    (λ u. let b = leb-false m 1 u in rw (t, u) (lt-leb (bit_or n m) 1 (omega arith))))
    (λ t. let a = leb-false n 1 t in rw t (lt-leb (bit_or n m) 1 (omega arith)))

-- the bits of all joined to n
pub joined : (n : ℕ) (l : List ℕ) → leb (fold bit_or n l) 1 ≡ leb n 1 && all_marks l
unfolding all_marks
joined n [] = sym (and_right (leb n 1))
joined n (m ∷ l) = joined (bit_or n m) l ∙ ap (λ (b : Bool). b && all_marks l) (join_one n m) ∙ and_assoc (leb n 1) (leb m 1) (all_marks l)

-- r is whether each row has a yes
pub each_row : (table : FlagTable) (r : Bool) → (r ≡ true → (i : ℕ) → i < length table → some_yes (get_or table i []) ≡ true)
    → (r ≡ false → (i : ℕ) × (i < length table) × (some_yes (get_or table i []) ≡ false)) → r ≡ every_row table
unfolding every_row
each_row table r all one = and_is every_row some_yes refl (λ _ _. refl) table [] r all one

-- r is whether a row has a yes
pub any_yes : (row : List ℕ) (r : Bool) → (r ≡ true → (i : ℕ) × (i < length row) × (eqb (get_or row i 0) 1 ≡ true))
    → (r ≡ false → (i : ℕ) → i < length row → eqb (get_or row i 0) 1 ≡ false) → r ≡ some_yes row
unfolding some_yes
any_yes row r one all = or_is some_yes (λ (m : ℕ). eqb m 1) refl (λ _ _. refl) row 0 r one all

-- ---- loading

abbrev loadable : List ℕ → Bool
loadable lent = eqb (length lent) 140 && (all_marks lent && every_row (table_of lent))

first_is : (lent : List ℕ) → first (load_checks lent) ≡ cond (loadable lent) none (some (record { number = 16; place = 0 }))
unfolding load_checks
first_is lent = go (eqb (length lent) 140) (all_marks lent) (every_row (table_of lent))
  where
    go : (a b d : Bool) → first (check (not a || (not b || not d)) 16 0 ∷ []) ≡ cond (a && (b && d)) none (some (record { number = 16; place = 0 }))
    go true true true = first_skip _ _ refl ∙ first-nil
    go true true false = first_fits _ _ refl
    go true false d = first_fits _ _ refl
    go false b d = first_fits _ _ refl

pub answer_is : (lent : List ℕ) → load_answer lent ≡ cond (loadable lent) (accepted []) (refused (record { number = 16; place = 0 }))
unfolding load_answer
answer_is lent = ap done_by (first_is lent) ∙ go (loadable lent)
  where
    go : (t : Bool) → done_by (cond t none (some (record { number = 16; place = 0 }))) ≡ cond t (accepted []) (refused (record { number = 16; place = 0 }))
    go true = refl
    go false = refl

pub force_is : (former : FlagTable) (lent : List ℕ) → in_force former lent ≡ cond (loadable lent) (table_of lent) former
unfolding in_force
force_is former lent = ap (λ (o : Option Refusal). in_force_by o former lent) (first_is lent) ∙ go (loadable lent)
  where
    go : (t : Bool) → in_force_by (cond t none (some (record { number = 16; place = 0 }))) former lent ≡ cond t (table_of lent) former
    go true = refl
    go false = refl

-- ---- every value

pub any_value : AnyValue all_yes
unfolding all_yes
any_value j v f =
    test_case (between 1 10 v)
    (λ r.
    let p = leb-true j 14 (and_true (leb 1 j) (leb j 14) f).1 in
    let q = leb-true v 10 (and_true (leb 1 v) (leb v 10) r).1 in
    let low = leb-true 1 j (and_true (leb 1 j) (leb j 14) f).0 in
    let least = leb-true 1 v (and_true (leb 1 v) (leb v 10) r).0 in
    let m : mark_of all_yes j v ≡ 1 =
    ap (λ (row : List ℕ). get_or row (v - 1) 0) (get_or-replicate 14 (j - 1) (replicate 10 1) [] (omega arith)) ∙ get_or-replicate 10 (v - 1) 1 0 (omega arith) in
    rw (r, m))
    (λ r. rw r)
