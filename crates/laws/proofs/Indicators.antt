-- Indicators and their data: which fields clear with indicators clears, and what that leaves of the values; what is found.
-- Assumes nothing.
use Prim.{Unit, tt}
use Prim.Native.Nat.{ℕ, zero, suc, ◌-◌, ◌≤◌}
use native.Mathlib.Omega.{arith}
use mathlib.Core.Path.{◌≡◌, refl, sym, ap, ap₂, subst, ◌∙◌}
use mathlib.Core.Bool.{Bool, true, false, cond, not, ◌&&◌, ◌||◌, and-false, or-true}
use mathlib.Core.List.{List, [], ◌∷◌, ◌++◌, map}
use mathlib.Core.Option.{Option, none, some}
use lib.ListN.{length, get_or, set}
use lib.Seq.{get_or-set_other}
use lib.Dec.{ltb, eqb}
use borrow.Author.Tests.{ltb-true, lt-ltb, eqb-true, eqb-false, eq-eqb, ne_eqb, not-true}
use Rattle.format.specs.Order.{first, between}
use Rattle.format.specs.Field.{required, is_present}
use Rattle.format.specs.Nibbles.{among}
use Rattle.format.specs.Observation.{Observation}
use Rattle.format.specs.Indicators.{Indicator, indicators, fields_where, basis_in, data_of, rests_on, resting_on}
use Rattle.format.specs.Calls.{stands, value_at, with_value, data_missing, lost_on, clears_of, clear_each, clear_checks}
use Rattle.format.specs.Finding.{lost_indicators, found, ascending_from, SomePresent, Clears}
use Rattle.format.specs.declared.Scaled.{Scaled}
use Rattle.format.proofs.Clearing.{data_missing_lem}
use Rattle.laws.proofs.Sequences.{and_true, or_false, true_false, cond_case, test_case}
use Rattle.laws.proofs.Order.{between_in, first_none}

-- ---- rows of indicators

-- a claim of each number, and of each indicator
abbrev pub AllOf : (ℕ → Type 0) → List ℕ → Type 0
AllOf P [] = Unit {0}
AllOf P (k ∷ ks) = P k × AllOf P ks

abbrev Every : (Indicator → Type 0) → List Indicator → Type 0
Every P [] = Unit {0}
Every P (i ∷ more) = P i × Every P more

each : (P Q : Indicator → Type 0) (rows : List Indicator) → ((i : Indicator) → P i → Q i) → Every P rows → Every Q rows
each P Q [] f a = tt
each P Q (i ∷ more) f a = (f i a.0, each P Q more f a.1)

each_two : (P Q R : Indicator → Type 0) (rows : List Indicator) → ((i : Indicator) → P i → Q i → R i) → Every P rows → Every Q rows → Every R rows
each_two P Q R [] f a b = tt
each_two P Q R (i ∷ more) f a b = (f i a.0 b.0, each_two P Q R more f a.1 b.1)

all_fields : (P : ℕ → Type 0) (test : Indicator → Bool) (rows : List Indicator) → Every (λ (i : Indicator). P i.field) rows → AllOf P (fields_where test rows)
unfolding fields_where
all_fields P test [] a = tt
all_fields P test (i ∷ more) a =
    cond_case (λ (xs : List ℕ). AllOf P (xs ++ fields_where test more)) (test i) (i.field ∷ []) []
    (λ _. (a.0, all_fields P test more a.1))
    (λ _. all_fields P test more a.1)

-- ---- what is among the fields of indicators that pass a test

-- the field of an indicator, beside others of which it may be one
among_fields : (x : ℕ) (test : Indicator → Bool) (i : Indicator) (more : List Indicator)
    → among x (fields_where test (i ∷ more)) ≡ (test i && eqb x i.field) || among x (fields_where test more)
unfolding fields_where among
among_fields x test i more = go (test i)
  where
    go : (t : Bool) → among x (cond t (i.field ∷ []) [] ++ fields_where test more) ≡ (t && eqb x i.field) || among x (fields_where test more)
    go true = refl
    go false = refl

-- all fields of rows are above low
fields_above : (x low : ℕ) (test : Indicator → Bool) (rows : List Indicator) → ascending_from low (map (λ (i : Indicator). i.field) rows) ≡ true → x ≤ low → among x (fields_where test rows) ≡ false
unfolding ascending_from fields_where among
fields_above x low test [] a h = refl
fields_above x low test (i ∷ more) a h =
    let s = and_true (ltb low i.field) (ascending_from i.field (map (λ (j : Indicator). j.field) more)) a in
    let above = ltb-true low i.field s.0 in
    rw (among_fields x test i more, ne_eqb x i.field (λ e. omega arith), and-false (test i), fields_above x i.field test more s.1 (omega arith))

-- where one test excludes another, a field of those that pass the one is not of those that pass the other
excluded : (x low : ℕ) (f g : Indicator → Bool) (rows : List Indicator) → ascending_from low (map (λ (i : Indicator). i.field) rows) ≡ true
    → Every (λ (i : Indicator). f i ≡ true → g i ≡ false) rows → among x (fields_where f rows) ≡ true → among x (fields_where g rows) ≡ false
unfolding ascending_from fields_where among
excluded x low f g [] a ex h = refl
excluded x low f g (i ∷ more) a ex h =
    let s = and_true (ltb low i.field) (ascending_from i.field (map (λ (j : Indicator). j.field) more)) a in
    among_fields x g i more
    ∙ go (eqb x i.field) refl (f i) refl s.1 (λ k. excluded x i.field f g more s.1 ex.1 k) (sym (among_fields x f i more) ∙ h)
  where
    go : (t : Bool) → eqb x i.field ≡ t → (u : Bool) → f i ≡ u → ascending_from i.field (map (λ (j : Indicator). j.field) more) ≡ true
        → (among x (fields_where f more) ≡ true → among x (fields_where g more) ≡ false) → (u && t) || among x (fields_where f more) ≡ true → (g i && t) || among x (fields_where g more) ≡ false
    go true e true q b next k =
        let same = eqb-true x i.field e in
        rw (ex.0 q, fields_above x i.field g more b (omega arith))
    go true e false q b next k =
        let same = eqb-true x i.field e in
        absurd (true_false _ k (fields_above x i.field f more b (omega arith)))
    go false e u q b next k = rw (and-false (g i)) (next (rw (and-false u) at k))

-- an indicator that passes a test is among those that do
passing : (test : Indicator → Bool) (rows : List Indicator) → Every (λ (i : Indicator). test i ≡ true → among i.field (fields_where test rows) ≡ true) rows
passing test [] = tt
passing test (i ∷ more) = (
  λ e. among_fields i.field test i more ∙ here e,
  each (λ (j : Indicator). test j ≡ true → among j.field (fields_where test more) ≡ true) (λ (j : Indicator). test j ≡ true → among j.field (fields_where test (i ∷ more)) ≡ true) more
      (λ j h e. among_fields j.field test i more ∙ ap (λ (t : Bool). (test i && eqb j.field i.field) || t) (h e) ∙ or-true (test i && eqb j.field i.field))
      (passing test more),
)
  where
    here : test i ≡ true → (test i && eqb i.field i.field) || among i.field (fields_where test more) ≡ true
    here e = rw (e, eq-eqb i.field i.field refl)

-- ---- the row of an indicator

-- what is among those that pass a test of field and data passes it with its own data
row_passes : (f : ℕ → List ℕ → Bool) (x low : ℕ) (rows : List Indicator) → ascending_from low (map (λ (i : Indicator). i.field) rows) ≡ true
    → among x (fields_where (λ (i : Indicator). f i.field i.basis) rows) ≡ true → f x (basis_in rows x) ≡ true
unfolding ascending_from fields_where among basis_in
row_passes f x low [] a h = absurd (true_false false h refl)
row_passes f x low (i ∷ more) a h =
    let s = and_true (ltb low i.field) (ascending_from i.field (map (λ (j : Indicator). j.field) more)) a in
    go (eqb x i.field) refl s.1 (λ k. row_passes f x i.field more s.1 k) (sym (among_fields x (λ (j : Indicator). f j.field j.basis) i more) ∙ h)
  where
    go : (t : Bool) → eqb x i.field ≡ t → ascending_from i.field (map (λ (j : Indicator). j.field) more) ≡ true
        → (among x (fields_where (λ (j : Indicator). f j.field j.basis) more) ≡ true → f x (basis_in more x) ≡ true)
        → (f i.field i.basis && t) || among x (fields_where (λ (j : Indicator). f j.field j.basis) more) ≡ true
        → f x (cond t i.basis (basis_in more x)) ≡ true
    go true e b next k =
        let same = eqb-true x i.field e in
        let none-behind = fields_above x i.field (λ (j : Indicator). f j.field j.basis) more b (omega arith) in
        ap (λ (n : ℕ). f n i.basis) same
        ∙ test_case {P = f i.field i.basis ≡ true} (f i.field i.basis) (λ q. q) (λ q. absurd (true_false _ k (rw (q, none-behind))))
    go false e b next k = next (rw (and-false (f i.field i.basis)) at k)

-- and a field that has data is among them, if it passes with these
passes_row : (f : ℕ → List ℕ → Bool) (x k : ℕ) (rows : List Indicator) → among k (basis_in rows x) ≡ true → f x (basis_in rows x) ≡ true
    → among x (fields_where (λ (i : Indicator). f i.field i.basis) rows) ≡ true
unfolding fields_where among basis_in
passes_row f x k [] m h = absurd (true_false false m refl)
passes_row f x k (i ∷ more) m h =
    among_fields x (λ (j : Indicator). f j.field j.basis) i more ∙ go (eqb x i.field) refl m h (λ a b. passes_row f x k more a b)
  where
    go : (t : Bool) → eqb x i.field ≡ t → among k (cond t i.basis (basis_in more x)) ≡ true → f x (cond t i.basis (basis_in more x)) ≡ true
        → (among k (basis_in more x) ≡ true → f x (basis_in more x) ≡ true → among x (fields_where (λ (j : Indicator). f j.field j.basis) more) ≡ true)
        → (f i.field i.basis && t) || among x (fields_where (λ (j : Indicator). f j.field j.basis) more) ≡ true
    go true e a b next = rw (sym (ap (λ (n : ℕ). f n i.basis) (eqb-true x i.field e)) ∙ b)
    go false e a b next = rw (and-false (f i.field i.basis)) (next a b)

-- ---- a field that may be cleared

pub record Free (k : ℕ) : Type 0 where
  pub low : 1 ≤ k
  pub high : k ≤ 46
  pub optional : required k ≡ false

free : (k : ℕ) → between 1 46 k && not (required k) ≡ true → Free k
free k e =
    let a = and_true (between 1 46 k) (not (required k)) e in
    let b = between_in 1 46 k (between 1 46 k) refl (ap not a.0) in
    record { low = b.0; high = b.1; optional = not-true (required k) a.1 }

-- it is not the first, so that another field has another place among the values
free_apart : (k x : ℕ) → Free k → eqb x k ≡ false → x - 1 ≡ k - 1 → ⊥
unfolding required
free_apart k x f e same =
    let ne = eqb-false x k e in
    let not_first = eqb-false k 1 (or_false _ _ f.optional).0 in
    let low = f.low in
    omega (arith, ne, not_first)

-- ---- the values after clears

pub none_set : (vs : List (Option Scaled)) (p : ℕ) → get_or (set vs p none) p none ≡ none
none_set [] p = refl
none_set (v ∷ vs) zero = refl
none_set (v ∷ vs) (suc p) = none_set vs p

none_kept : (vs : List (Option Scaled)) (p q : ℕ) → get_or vs q none ≡ none → get_or (set vs p none) q none ≡ none
none_kept [] p q h = refl
none_kept (v ∷ vs) zero zero h = refl
none_kept (v ∷ vs) zero (suc q) h = h
none_kept (v ∷ vs) (suc p) zero h = h
none_kept (v ∷ vs) (suc p) (suc q) h = none_kept vs p q h

stays_missing : (s : Observation) (ks : List ℕ) (x : ℕ) → value_at s x ≡ none → value_at (clear_each s ks) x ≡ none
unfolding clear_each
stays_missing s [] x h = h
stays_missing s (k ∷ ks) x h = stays_missing (with_value s k none) ks x (none_kept s.values (k - 1) (x - 1) h)

-- what is cleared is missing
pub cleared_missing : (s : Observation) (ks : List ℕ) (x : ℕ) → among x ks ≡ true → value_at (clear_each s ks) x ≡ none
unfolding clear_each among
cleared_missing s [] x h = absurd (true_false false h refl)
cleared_missing s (k ∷ ks) x h = go (eqb x k) refl h (λ a. cleared_missing (with_value s k none) ks x a)
  where
    go : (t : Bool) → eqb x k ≡ t → t || among x ks ≡ true → (among x ks ≡ true → value_at (clear_each (with_value s k none) ks) x ≡ none)
        → value_at (clear_each (with_value s k none) ks) x ≡ none
    go true e a next =
        let same = eqb-true x k e in
        stays_missing (with_value s k none) ks x (ap (λ (n : ℕ). get_or (set s.values (k - 1) none) (n - 1) none) same ∙ none_set s.values (k - 1))
    go false e a next = next a

-- what is not cleared is as it was
cleared_other : (s : Observation) (ks : List ℕ) (x : ℕ) → AllOf Free ks → among x ks ≡ false → value_at (clear_each s ks) x ≡ value_at s x
unfolding clear_each among
cleared_other s [] x fs h = refl
cleared_other s (k ∷ ks) x fs h =
    let o = or_false (eqb x k) (among x ks) h in
    cleared_other (with_value s k none) ks x fs.1 o.1 ∙ get_or-set_other s.values (k - 1) (x - 1) none none (free_apart k x fs.0 o.0)

pub cleared_attachments : (s : Observation) (ks : List ℕ) → (clear_each s ks).attachments ≡ s.attachments
unfolding clear_each
cleared_attachments s [] = refl
cleared_attachments s (k ∷ ks) = cleared_attachments (with_value s k none) ks

-- data of which none is cleared are missing as before
data_kept : (s : Observation) (ks rs : List ℕ) → AllOf Free ks → AllOf (λ (r : ℕ). among r ks ≡ false) rs → data_missing (clear_each s ks) rs ≡ data_missing s rs
unfolding data_missing
data_kept s ks [] fs a = refl
data_kept s ks (r ∷ rs) fs a =
    ap₂ (λ (e : Option Scaled) (t : Bool). not (is_present e) && t) (cleared_other s ks r fs a.0) (data_kept s ks rs fs a.1)

absent : (e : Option Scaled) → is_present e ≡ false → e ≡ none
absent none h = refl
absent (some v) h = absurd (true_false true refl h)

-- ---- the table

fields : List ℕ
fields = map (λ (i : Indicator). i.field) indicators

-- a field that is no indicator
abbrev Apart : ℕ → Type 0
Apart r = among r fields ≡ false

-- every indicator may be cleared; so may its data, which are no indicators
indicators_free : Every (λ (i : Indicator). Free i.field) indicators
unfolding indicators required
indicators_free = (free 17 refl, (free 19 refl, (free 21 refl, (free 27 refl, (free 32 refl, (free 36 refl, tt))))))

data_free : Every (λ (i : Indicator). AllOf Free i.basis) indicators
unfolding indicators required
data_free = (
  (free 18 refl, tt),
  ((free 20 refl, tt), ((free 22 refl, tt), ((free 28 refl, (free 29 refl, (free 30 refl, (free 31 refl, tt)))), ((free 31 refl, tt), ((free 37 refl, tt), tt))))),
)

data_apart : Every (λ (i : Indicator). AllOf Apart i.basis) indicators
unfolding indicators fields among
data_apart = ((refl, tt), ((refl, tt), ((refl, tt), ((refl, (refl, (refl, (refl, tt)))), ((refl, tt), ((refl, tt), tt))))))

indicators_ascend : ascending_from 0 fields ≡ true
unfolding indicators fields ascending_from
indicators_ascend = refl

-- ---- the fields that are cleared

pub clear_free : (k : ℕ) → first (clear_checks k) ≡ none → Free k
clear_free k e =
    let c1 = first_none _ _ e in
    let c2 = first_none _ _ c1.1 in
    let b = between_in 1 46 k _ refl c1.0 in
    record { low = b.0; high = b.1; optional = c2.0 }

pub clears_free : (s : Observation) (k : ℕ) → Free k → AllOf Free (clears_of s k)
unfolding clears_of lost_on
clears_free s k f = (f, all_fields Free _ indicators indicators_free)

all_among : (P : ℕ → Type 0) (x : ℕ) (xs : List ℕ) → AllOf P xs → among x xs ≡ true → P x
unfolding among
all_among P x [] a h = absurd (true_false false h refl)
all_among P x (y ∷ xs) a h = go (eqb x y) refl h (λ k. all_among P x xs a.1 k)
  where
    go : (t : Bool) → eqb x y ≡ t → t || among x xs ≡ true → (among x xs ≡ true → P x) → P x
    go true e k next = subst P (sym (eqb-true x y e)) a.0
    go false e k next = next k

fields_none : (test : Indicator → Bool) (rows : List Indicator) → Every (λ (i : Indicator). test i ≡ false) rows → fields_where test rows ≡ []
unfolding fields_where
fields_none test [] a = refl
fields_none test (i ∷ more) a = rw (a.0, fields_none test more a.1)

-- nothing rests on a field that may not be cleared
pub clears_one : (s : Observation) (k : ℕ) → (Free k → ⊥) → clears_of s k ≡ k ∷ []
unfolding clears_of lost_on
clears_one s k bound =
    ap (λ (ks : List ℕ). k ∷ ks)
    (fields_none (λ (i : Indicator). rests_on i k && data_missing (with_value s k none) i.basis) indicators
    (each (λ (i : Indicator). AllOf Free i.basis) (λ (i : Indicator). rests_on i k && data_missing (with_value s k none) i.basis ≡ false) indicators
    (λ i a. test_case (rests_on i k) (λ e. absurd (bound (all_among Free k i.basis a e))) (λ e. rw e))
    data_free))

-- ---- no indicator that rests on the field is left without its data

outside : (x : ℕ) (test : Indicator → Bool) (rows : List Indicator) → among x (map (λ (i : Indicator). i.field) rows) ≡ false → among x (fields_where test rows) ≡ false
unfolding among fields_where
outside x test [] h = refl
outside x test (i ∷ more) h =
    let o = or_false (eqb x i.field) (among x (map (λ (j : Indicator). j.field) more)) h in
    rw (among_fields x test i more, o.0, and-false (test i), outside x test more o.1)

all_apart : (test : Indicator → Bool) (rs : List ℕ) → AllOf Apart rs → AllOf (λ (r : ℕ). among r (fields_where test indicators) ≡ false) rs
unfolding fields
all_apart test [] a = tt
all_apart test (r ∷ rs) a = (outside r test indicators a.0, all_apart test rs a.1)

pub none_left : (s : Observation) (k x : ℕ) → among x (resting_on k) ≡ true → among x (lost_indicators (clear_each s (clears_of s k))) ≡ false
unfolding resting_on lost_indicators clears_of lost_on clear_each fields
none_left s k x h = excluded x 0 (λ (i : Indicator). rests_on i k) (λ (i : Indicator). is_present (value_at u i.field) && data_missing u i.basis) indicators indicators_ascend rows h
  where
    t : Observation
    t = with_value s k none

    test : Indicator → Bool
    test i = rests_on i k && data_missing t i.basis

    u : Observation
    u = clear_each t (fields_where test indicators)

    row : (i : Indicator) → (test i ≡ true → among i.field (fields_where test indicators) ≡ true) → AllOf Apart i.basis → rests_on i k ≡ true
        → is_present (value_at u i.field) && data_missing u i.basis ≡ false
    row i among-it a r =
        test_case {P = is_present (value_at u i.field) && data_missing u i.basis ≡ false} (data_missing t i.basis)
        (λ e. ap (λ (v : Option Scaled). is_present v && data_missing u i.basis) (cleared_missing t (fields_where test indicators) i.field (among-it (rw (r, e)))))
        (λ e. ap (λ (b : Bool). is_present (value_at u i.field) && b) (data_kept t (fields_where test indicators) i.basis (all_fields Free test indicators indicators_free) (all_apart test i.basis a) ∙ e)
        ∙ and-false (is_present (value_at u i.field)))

    rows : Every (λ (i : Indicator). rests_on i k ≡ true → is_present (value_at u i.field) && data_missing u i.basis ≡ false) indicators
    rows =
        each_two (λ (i : Indicator). test i ≡ true → among i.field (fields_where test indicators) ≡ true)
        (λ (i : Indicator). AllOf Apart i.basis) _ indicators row (passing test indicators) data_apart

-- ---- the values field by field

-- where none of these is present, all are missing
none_present : (s : Observation) (rs : List ℕ) → (SomePresent s rs → ⊥) → data_missing s rs ≡ true
unfolding data_missing among
none_present s [] h = refl
none_present s (r ∷ rs) h =
    test_case {P = not (is_present (value_at s r)) && data_missing s rs ≡ true} (is_present (value_at s r))
    (λ p. absurd (h (r, rw (eq-eqb r r refl), p)))
    (λ p. rw p (none_present s rs (λ q. h (q.0, rw (q.1, or-true (eqb q.0 r)), q.2))))

pub clears : (s : Observation) (k : ℕ) → Free k → Clears k s (clear_each s (clears_of s k))
unfolding clears_of lost_on clear_each fields data_of resting_on lost_indicators among
clears s k f = record { named = cleared_missing s (clears_of s k) k (rw (eq-eqb k k refl)); taken = takes; kept = keeps }
  where
    t : Observation
    t = with_value s k none

    u : Observation
    u = clear_each s (clears_of s k)

    takes : (i : ℕ) → among k (data_of i) ≡ true → (SomePresent u (data_of i) → ⊥) → value_at u i ≡ none
    takes i rests none-left-of =
        let missing = none_present u (data_of i) none-left-of in
        let among-it = passes_row (λ (n : ℕ) (ks : List ℕ). among k ks) i k indicators rests rests in
        test_case {P = value_at u i ≡ none} (is_present (value_at u i))
        (λ p. absurd (true_false _ (passes_row (λ (n : ℕ) (ks : List ℕ). is_present (value_at u n) && data_missing u ks) i k indicators rests (rw (p, missing))) (none_left s k i among-it)))
        (λ p. absent (value_at u i) p)

    lost : (i : ℕ) → (among k (data_of i) ≡ true → SomePresent u (data_of i)) → among i (lost_on t k) ≡ true → ⊥
    lost i stays e =
        let both = and_true (among k (data_of i)) (data_missing t (data_of i)) (row_passes (λ (n : ℕ) (ks : List ℕ). among k ks && data_missing t ks) i 0 indicators indicators_ascend e) in
        let left = stays both.0 in
        let gone = stays_missing t (lost_on t k) left.0 (absent _ (data_missing_lem t (data_of i) left.0 both.1 left.1)) in
        true_false _ left.2 (ap is_present gone)

    keeps : (i : ℕ) → (i ≡ k → ⊥) → (among k (data_of i) ≡ true → SomePresent u (data_of i)) → value_at u i ≡ value_at s i
    keeps i other stays =
        cleared_other s (clears_of s k) i (clears_free s k f)
        (rw (ne_eqb i k other) (test_case {P = among i (lost_on t k) ≡ false} (among i (lost_on t k)) (λ e. absurd (lost i stays e)) (λ e. e)))

-- ---- what is found

-- those that pass a test ascend as their rows do
ascends_from : (a b : ℕ) (xs : List ℕ) → b ≤ a → ascending_from a xs ≡ true → ascending_from b xs ≡ true
unfolding ascending_from
ascends_from a b [] l h = refl
ascends_from a b (x ∷ xs) l h =
    let s = and_true (ltb a x) (ascending_from x xs) h in
    let above = ltb-true a x s.0 in
    rw (lt-ltb b x (omega arith)) s.1

fields_ascend : (low : ℕ) (test : Indicator → Bool) (rows : List Indicator) → ascending_from low (map (λ (i : Indicator). i.field) rows) ≡ true → ascending_from low (fields_where test rows) ≡ true
unfolding ascending_from fields_where
fields_ascend low test [] h = refl
fields_ascend low test (i ∷ more) h =
    let s = and_true (ltb low i.field) (ascending_from i.field (map (λ (j : Indicator). j.field) more)) h in
    let above = ltb-true low i.field s.0 in
    let rest = fields_ascend i.field test more s.1 in
    cond_case (λ (xs : List ℕ). ascending_from low (xs ++ fields_where test more) ≡ true) (test i) (i.field ∷ []) []
    (λ _. rw s.0 rest)
    (λ _. ascends_from i.field low (fields_where test more) (omega arith) rest)

pub found_ascends : (s : Observation) → ascending_from 0 (found s) ≡ true
unfolding found lost_indicators fields ascending_from
found_ascends s =
    cond_case (λ (xs : List ℕ). ascending_from 0 xs ≡ true) (stands 5 s.attachments) [] _ (λ _. refl) (λ _. fields_ascend 0 _ indicators indicators_ascend)

-- they are six at most
fields_few : (test : Indicator → Bool) (rows : List Indicator) → length (fields_where test rows) ≤ length rows
unfolding fields_where
fields_few test [] = omega arith
fields_few test (i ∷ more) =
    cond_case (λ (xs : List ℕ). length (xs ++ fields_where test more) ≤ length (i ∷ more)) (test i) (i.field ∷ []) []
    (λ _. omega (arith, fields_few test more))
    (λ _. omega (arith, fields_few test more))

pub found_few : (s : Observation) → length (found s) ≤ 6
unfolding found lost_indicators
found_few s =
    let six : length indicators ≡ 6 = unfold indicators in refl in
    cond_case (λ (xs : List ℕ). length xs ≤ 6) (stands 5 s.attachments) [] _ (λ _. omega arith)
    (λ _. omega (arith, six, fields_few (λ (i : Indicator). is_present (value_at s i.field) && data_missing s i.basis) indicators))
