-- Laws of the fields: coded and scaled, the entries of an observation and the codes of its card, the checks of fields, the field table.
-- Assumes nothing.
use Prim.Native.Nat.{ℕ, zero, suc, ◌+◌, ◌-◌, ◌^◌, ◌≤◌, ◌<◌, suc-le-suc}
use native.Mathlib.Nat.{not-suc-le-zero, le_of_suc-le-suc}
use native.Mathlib.Omega.{arith}
use native.Mathlib.Decide.{ℕ_discrete}
use mathlib.Core.Path.{◌≡◌, refl, sym, ap, ap₂, subst, ◌∙◌}
use mathlib.Core.Bool.{Bool, true, false, cond, ◌&&◌, and-false}
use mathlib.Core.List.{List, [], ◌∷◌, map}
use mathlib.Core.Option.{Option, none, some}
use lib.ListN.{length, get_or, drop, set, length-set, length-map, get_or-append, get_or-map}
use lib.Seq.{drop-cons, get_or-set_same, get_or-set_other}
use lib.Dec.{T, ltb, leb, eqb, eqb→eq, leb-zero, leb-suc-zero, leb-suc-suc}
use lib.IntN.{ℤ, pos, negsuc, suc_ℤ, pred_ℤ, suc-pred, nat_abs, ◌+ℤ◌, ◌-ℤ◌, +ℤ-suc_ℤ, +ℤ_idr, +ℤ_comm, +ℤ-neg_ℤ_cancel, -ℤ-+ℤ_cancel}
use lib.Signed.{le_z}
use borrow.Author.Tests.{ltb-true, ltb-false, leb-true, eqb-true, eqb-false, le-ltb, le-leb, eq-eqb, ne_eqb}
use Rattle.format.specs.Order.{Refusal, check, first}
use Rattle.format.specs.Field.{Field, field, table, field_at, required, coded, scaled, scaled_of, coded_of, in_range, entry_of, code_of, entries, codes}
use Rattle.format.specs.Bits.{total}
use Rattle.format.specs.Observation.{widths, checksum}
use Rattle.format.specs.Report.{field_checks}
use Rattle.format.specs.declared.Coded.{Coded}
use Rattle.format.specs.declared.Scaled.{Scaled}
use Rattle.format.proofs.Test.{left, right}
use Rattle.format.proofs.Table.{Row, source_rows, agree, agree_all, table_agrees}
use Rattle.laws.proofs.Sequences.{and_true, true_false}
use Rattle.laws.proofs.Order.{first_none}

-- ---- order of the integers: adding on both sides keeps it

le_z_suc : (a b : ℤ) → le_z (suc_ℤ a) (suc_ℤ b) ≡ le_z a b
le_z_suc (pos a) (pos b) = leb-suc-suc a b
le_z_suc (pos a) (negsuc zero) = leb-suc-zero a
le_z_suc (pos a) (negsuc (suc b)) = refl
le_z_suc (negsuc zero) (pos b) = leb-zero (suc b)
le_z_suc (negsuc zero) (negsuc zero) = refl
le_z_suc (negsuc zero) (negsuc (suc b)) = sym (leb-suc-zero b)
le_z_suc (negsuc (suc a)) (pos b) = refl
le_z_suc (negsuc (suc a)) (negsuc zero) = sym (leb-zero (suc a))
le_z_suc (negsuc (suc a)) (negsuc (suc b)) = sym (leb-suc-suc b a)

-- a sum one greater on both sides, and one less
le_z_up : (a b k : ℤ) → le_z (a +ℤ suc_ℤ k) (b +ℤ suc_ℤ k) ≡ le_z (a +ℤ k) (b +ℤ k)
le_z_up a b k = ap₂ le_z (+ℤ-suc_ℤ a k) (+ℤ-suc_ℤ b k) ∙ le_z_suc (a +ℤ k) (b +ℤ k)

le_z_down : (a b k : ℤ) → le_z (a +ℤ pred_ℤ k) (b +ℤ pred_ℤ k) ≡ le_z (a +ℤ k) (b +ℤ k)
le_z_down a b k = sym (le_z_up a b (pred_ℤ k)) ∙ ap (λ (x : ℤ). le_z (a +ℤ x) (b +ℤ x)) (suc-pred k)

le_z_zero : (a b : ℤ) → le_z (a +ℤ pos 0) (b +ℤ pos 0) ≡ le_z a b
le_z_zero a b = ap₂ le_z (+ℤ_idr a) (+ℤ_idr b)

le_z_add : (a b k : ℤ) → le_z (a +ℤ k) (b +ℤ k) ≡ le_z a b
le_z_add a b (pos zero) = le_z_zero a b
le_z_add a b (pos (suc n)) = le_z_up a b (pos n) ∙ le_z_add a b (pos n)
le_z_add a b (negsuc zero) = le_z_down a b (pos 0) ∙ le_z_zero a b
le_z_add a b (negsuc (suc n)) = le_z_down a b (negsuc n) ∙ le_z_add a b (negsuc n)

-- ---- a field's coded number and its scaled value

module _ (f : Field) where
  coded-scaled : (c : Coded) → coded_of f (scaled_of f c) ≡ c
  unfolding coded_of scaled_of
  coded-scaled c = ap (λ (z : ℤ). coded (nat_abs z)) (+ℤ-neg_ℤ_cancel (pos c.0) f.base)

  -- the range, of the value less the base: from 1 to the highest
  range_is : (v : Scaled) → in_range f v ≡ le_z (pos 1) (v.0 -ℤ f.base) && le_z (v.0 -ℤ f.base) (pos f.highest)
  unfolding in_range
  range_is v = ap₂ ◌&&◌ (side (pos 1) v.0 f.base) (side' v.0 (pos f.highest) f.base)
    where
      side : (a v k : ℤ) → le_z (k +ℤ a) v ≡ le_z a (v -ℤ k)
      side a v k = ap₂ le_z (+ℤ_comm k a) (sym (-ℤ-+ℤ_cancel v k)) ∙ le_z_add a (v -ℤ k) k

      side' : (v b k : ℤ) → le_z v (k +ℤ b) ≡ le_z (v -ℤ k) b
      side' v b k = ap₂ le_z (sym (-ℤ-+ℤ_cancel v k)) (+ℤ_comm k b) ∙ le_z_add (v -ℤ k) b k

  -- what a value in range is coded as
  record Codes (v : Scaled) : Type 0 where
    less : v.0 -ℤ f.base ≡ pos (coded_of f v).0
    least : 1 ≤ (coded_of f v).0
    most : (coded_of f v).0 ≤ f.highest

  in_codes : (v : Scaled) → in_range f v ≡ true → Codes v
  unfolding coded_of
  in_codes v e = go (v.0 -ℤ f.base) refl (rw range_is at e)
    where
      go : (d : ℤ) → v.0 -ℤ f.base ≡ d → le_z (pos 1) d && le_z d (pos f.highest) ≡ true → Codes v
      go (pos n) q e =
          let p = and_true (leb 1 n) (leb n f.highest) e in
          let m : nat_abs (v.0 -ℤ f.base) ≡ n = ap nat_abs q in
          record { less = q ∙ ap pos (sym m); least = rw m (leb-true 1 n p.0); most = rw m (leb-true n f.highest p.1) }
      go (negsuc n) q e = let z : ◌≡◌ {A = ℕ} 0 1 = cc in absurd (omega arith)

  pub coded_range : (v : Scaled) → in_range f v ≡ true → (1 ≤ (coded_of f v).0) × ((coded_of f v).0 ≤ f.highest)
  coded_range v e = let c = in_codes v e in (c.least, c.most)

  pub scaled-coded : (v : Scaled) → in_range f v ≡ true → scaled_of f (coded_of f v) ≡ v
  unfolding scaled_of
  scaled-coded v e = ap (λ (z : ℤ). scaled (z +ℤ f.base)) (sym (in_codes v e).less) ∙ ap scaled (-ℤ-+ℤ_cancel v.0 f.base)

  scaled_range : (c : Coded) → 1 ≤ c.0 → c.0 ≤ f.highest → in_range f (scaled_of f c) ≡ true
  unfolding scaled_of
  scaled_range c l h =
      range_is (scaled_of f c)
      ∙ ap (λ (z : ℤ). le_z (pos 1) z && le_z z (pos f.highest)) (+ℤ-neg_ℤ_cancel (pos c.0) f.base)
      ∙ rw (le-leb 1 c.0 l, le-leb c.0 f.highest h)

  -- ---- a field's entry in the observation

  code-entry : (c : Coded) → code_of f (entry_of f c) ≡ c
  unfolding code_of entry_of
  code-entry c = go (eqb c.0 0) refl
    where
      go : (t : Bool) → eqb c.0 0 ≡ t → code_of f (cond t none (some (scaled_of f c))) ≡ c
      go true e = ap coded (sym (eqb-true c.0 0 e))
      go false e = coded-scaled c

-- an entry that a coded number up to the highest stands for
pub record Fair (f : Field) (e : Option Scaled) : Type 0 where
  pub low : (code_of f e).0 ≤ f.highest
  pub back : entry_of f (code_of f e) ≡ e

module _ (f : Field) where
  pub missing_fair : Fair f none
  unfolding code_of entry_of
  missing_fair = record { low = omega arith; back = refl }

  pub in_range_fair : (v : Scaled) → in_range f v ≡ true → Fair f (some v)
  unfolding code_of entry_of
  in_range_fair v e =
      let r = coded_range f v e in
      record { low = r.1; back = rw (ne_eqb (coded_of f v).0 0 (omega arith), scaled-coded f v e) }

  entry_fair : (c : Coded) → c.0 ≤ f.highest → Fair f (entry_of f c)
  entry_fair c h = record { low = rw (code-entry f c) h; back = ap (entry_of f) (code-entry f c) }

  pub fair_range : (v : Scaled) → Fair f (some v) → in_range f v ≡ true
  unfolding code_of entry_of
  fair_range v h = go (eqb (coded_of f v).0 0) refl h.back
    where
      go : (t : Bool) → eqb (coded_of f v).0 0 ≡ t → cond t none (some (scaled_of f (coded_of f v))) ≡ some v → in_range f v ≡ true
      go true e b = let z : ◌≡◌ {A = ℕ} 0 1 = cc in absurd (omega arith)
      go false e b =
          let s : scaled_of f (coded_of f v) ≡ v = cc in
          subst (λ (x : Scaled). in_range f x ≡ true) s (scaled_range f (coded_of f v) (omega (arith, eqb-false (coded_of f v).0 0 e)) h.low)

-- ---- the entries of an observation and the codes of its card

-- where a list of fields ends: `field_at` has the same
abbrev pub no_field : Field
no_field = field 0 (pos 0) 0

-- an entry for each field, each fair
pub data FairAll : List Field → List (Option Scaled) → Type 0 where
  nil : FairAll [] []
  cons : {f : Field} {e : Option Scaled} {fs : List Field} {es : List (Option Scaled)} → Fair f e → FairAll fs es → FairAll (f ∷ fs) (e ∷ es)

pub length_fair : {fs : List Field} {es : List (Option Scaled)} → FairAll fs es → length es ≡ length fs
length_fair nil = refl
length_fair (cons h t) = ap suc (length_fair t)

pub length-codes : (fs : List Field) (es : List (Option Scaled)) → length es ≡ length fs → length (codes fs es) ≡ length fs
unfolding codes
length-codes [] es l = refl
length-codes (f ∷ fs) [] l = l
length-codes (f ∷ fs) (e ∷ es) l = ap suc (length-codes fs es (omega arith))

pub length-entries : (fs : List Field) (cs : List ℕ) → length cs ≡ length fs → length (entries fs cs) ≡ length fs
unfolding entries
length-entries [] cs l = refl
length-entries (f ∷ fs) [] l = l
length-entries (f ∷ fs) (c ∷ cs) l = ap suc (length-entries fs cs (omega arith))

pub codes-entries : (fs : List Field) (cs : List ℕ) → length cs ≡ length fs → codes fs (entries fs cs) ≡ cs
unfolding codes entries
codes-entries [] [] l = refl
codes-entries [] (c ∷ cs) l = absurd (omega arith)
codes-entries (f ∷ fs) [] l = refl
codes-entries (f ∷ fs) (c ∷ cs) l = rw (code-entry f (coded c), codes-entries fs cs (omega arith))

pub entries-codes : {fs : List Field} {es : List (Option Scaled)} → FairAll fs es → entries fs (codes fs es) ≡ es
unfolding codes entries
entries-codes nil = refl
entries-codes (cons h t) = ap₂ ◌∷◌ h.back (entries-codes t)

pub codes_at : (fs : List Field) (es : List (Option Scaled)) (i : ℕ) → i < length fs
    → get_or (codes fs es) i 0 ≡ (code_of (get_or fs i no_field) (get_or es i none)).0
unfolding codes code_of
codes_at [] es i h = absurd (not-suc-le-zero h)
codes_at (f ∷ fs) [] i h = refl
codes_at (f ∷ fs) (e ∷ es) zero h = refl
codes_at (f ∷ fs) (e ∷ es) (suc i) h = codes_at fs es i (le_of_suc-le-suc h)

pub entries_at : (fs : List Field) (cs : List ℕ) (i : ℕ) → i < length fs
    → get_or (entries fs cs) i none ≡ entry_of (get_or fs i no_field) (coded (get_or cs i 0))
unfolding entries entry_of
entries_at [] cs i h = absurd (not-suc-le-zero h)
entries_at (f ∷ fs) [] i h = refl
entries_at (f ∷ fs) (c ∷ cs) zero h = refl
entries_at (f ∷ fs) (c ∷ cs) (suc i) h = entries_at fs cs i (le_of_suc-le-suc h)

pub codes-set : (fs : List Field) (es : List (Option Scaled)) (i : ℕ) (e : Option Scaled)
    → codes fs (set es i e) ≡ set (codes fs es) i (code_of (get_or fs i no_field) e).0
unfolding codes
codes-set [] es i e = refl
codes-set (f ∷ fs) [] i e = refl
codes-set (f ∷ fs) (x ∷ es) zero e = refl
codes-set (f ∷ fs) (x ∷ es) (suc i) e = ap (λ (l : List ℕ). (code_of f x).0 ∷ l) (codes-set fs es i e)

pub fair_set : {fs : List Field} {es : List (Option Scaled)} → FairAll fs es
    → (i : ℕ) (e : Option Scaled) → Fair (get_or fs i no_field) e → FairAll fs (set es i e)
fair_set nil i e h = nil
fair_set (cons h t) zero e k = cons k t
fair_set (cons h t) (suc i) e k = cons h (fair_set t i e k)

-- ---- the checks of fields

-- the refusal of field k at coded number c, or else r
abbrev pub field_refusal : ℕ → Field → ℕ → Option Refusal → Option Refusal
field_refusal k f c r =
    cond (ltb f.highest c) (some (record { number = 2; place = k })) (cond (required k && eqb c 0) (some (record { number = 3; place = k })) r)

checks-cons : (k : ℕ) (f : Field) (fs : List Field) (c : ℕ) (cs : List ℕ)
    → first (field_checks k (f ∷ fs) (c ∷ cs)) ≡ field_refusal k f c (first (field_checks (suc k) fs cs))
unfolding field_checks first
checks-cons k f fs c cs = refl

-- the same for the fields from place i on, as a loop meets them
pub checks_at : (k : ℕ) (fs : List Field) (cs : List ℕ) (i : ℕ) → i < length fs → i < length cs
    → first (field_checks k (drop i fs) (drop i cs))
    ≡ field_refusal k (get_or fs i no_field) (get_or cs i 0) (first (field_checks (suc k) (drop (suc i) fs) (drop (suc i) cs)))
checks_at k fs cs i h l =
    rw (drop-cons fs i no_field h, drop-cons cs i 0 l)
    (checks-cons k (get_or fs i no_field) (drop (suc i) fs) (get_or cs i 0) (drop (suc i) cs))

-- the entries, which begin with field k, hold a value at each required field
abbrev pub Present : ℕ → List (Option Scaled) → Type 0
Present k es = (i : ℕ) → i < length es → required (k + i) ≡ true → get_or es i none ≡ none → ⊥

present_cons : (k : ℕ) (e : Option Scaled) (es : List (Option Scaled)) → (required k ≡ true → e ≡ none → ⊥)
    → Present (suc k) es → Present k (e ∷ es)
present_cons k e es h t zero l r n = let q : k + 0 ≡ k = omega arith in h (rw q at r) n
present_cons k e es h t (suc i) l r n = let q : k + suc i ≡ suc k + i = omega arith in t i (le_of_suc-le-suc l) (rw q at r) n

present_tail : (k : ℕ) (e : Option Scaled) (es : List (Option Scaled)) → Present k (e ∷ es) → Present (suc k) es
present_tail k e es h i l r n = let q : suc k + i ≡ k + suc i = omega arith in h (suc i) (suc-le-suc l) (rw q at r) n

-- an entry is missing where its coded number is 0
entry_none : (f : Field) (c : ℕ) → entry_of f (coded c) ≡ none → c ≡ 0
unfolding entry_of
entry_none f c e = go (eqb c 0) refl e
  where
    go : (t : Bool) → eqb c 0 ≡ t → cond t none (some (scaled_of f (coded c))) ≡ none → c ≡ 0
    go true q e = eqb-true c 0 q
    go false q e = let z : ◌≡◌ {A = ℕ} 0 1 = cc in absurd (omega arith)

none_entry : (f : Field) (e : Option Scaled) → Fair f e → (code_of f e).0 ≡ 0 → e ≡ none
unfolding entry_of
none_entry f e h q = sym h.back ∙ rw q

-- what no check of a field refuses is fair, and has the required fields
pub checks_fair : (k : ℕ) (fs : List Field) (cs : List ℕ) → length cs ≡ length fs → first (field_checks k fs cs) ≡ none
    → FairAll fs (entries fs cs) × Present k (entries fs cs)
unfolding field_checks entries
checks_fair k [] cs l e = (nil, λ i h. absurd (not-suc-le-zero h))
checks_fair k (f ∷ fs) [] l e = absurd (omega arith)
checks_fair k (f ∷ fs) (c ∷ cs) l e =
    let a = first_none (check (ltb f.highest c) 2 k) (check (required k && eqb c 0) 3 k ∷ field_checks (suc k) fs cs) e in
    let b = first_none (check (required k && eqb c 0) 3 k) (field_checks (suc k) fs cs) a.1 in
    let rest = checks_fair (suc k) fs cs (omega arith) b.1 in (
      cons (entry_fair f (coded c) (ltb-false f.highest c a.0)) rest.0,
      present_cons k (entry_of f (coded c)) (entries fs cs)
          (λ r n. true_false (required k && eqb c 0) (rw (r, eq-eqb c 0 (entry_none f c n))) b.0)
          rest.1,
    )

-- and the other way round
pub fair_checks : (k : ℕ) (fs : List Field) (es : List (Option Scaled)) → FairAll fs es → Present k es
    → first (field_checks k fs (codes fs es)) ≡ none
unfolding field_checks codes first
fair_checks k [] [] nil p = refl
fair_checks k [] (e ∷ es) h p = elim h [ ]
fair_checks k (f ∷ fs) [] h p = elim h [ ]
fair_checks k (f ∷ fs) (e ∷ es) (cons h t) p =
    rw (le-ltb f.highest (code_of f e).0 h.low, missing (required k) refl) (fair_checks (suc k) fs es t (present_tail k e es p))
  where
    missing : (r : Bool) → required k ≡ r → required k && eqb (code_of f e).0 0 ≡ false
    missing true q =
        let z : k + 0 ≡ k = omega arith in
        rw q (ne_eqb (code_of f e).0 0 (λ c. p 0 (omega arith) (rw z q) (none_entry f e h c)))
    missing false q = rw q

-- a required field keeps a value
present_set : (k : ℕ) (es : List (Option Scaled)) (i : ℕ) (e : Option Scaled) → (required (k + i) ≡ true → e ≡ none → ⊥)
    → Present k es → Present k (set es i e)
present_set k es i e h p j l r n = go (ℕ_discrete j i)
  where
    go : Dec (j ≡ i) → ⊥
    go (yes q) = h (rw q at r) (sym (get_or-set_same es i e none (omega (arith, length-set es i e))) ∙ rw q at n)
    go (no q) = p j (rw length-set at l) r (rw (get_or-set_other es i j e none q) at n)

pub present_some : (k : ℕ) (es : List (Option Scaled)) (i : ℕ) (v : Scaled) → Present k es → Present k (set es i (some v))
present_some k es i v = present_set k es i (some v) (λ r n. let z : ◌≡◌ {A = ℕ} 0 1 = cc in omega arith)

pub present_none : (k : ℕ) (es : List (Option Scaled)) (i : ℕ) → required (k + i) ≡ false → Present k es → Present k (set es i none)
present_none k es i f = present_set k es i none (λ r n. true_false (required (k + i)) r f)

-- ---- the table, from what was computed of it

rows : T (agree_all table source_rows)
rows = left (agree_all table source_rows) (eqb (length table) 46 && eqb (total widths) 300) table_agrees

counts : T (eqb (length table) 46 && eqb (total widths) 300)
counts = right (agree_all table source_rows) (eqb (length table) 46 && eqb (total widths) 300) table_agrees

pub table-length : length table ≡ 46
table-length = eqb→eq (length table) 46 (left (eqb (length table) 46) (eqb (total widths) 300) counts)

pub field_at_lem : (k : ℕ) → field_at k ≡ get_or table (k - 1) no_field
unfolding field_at
field_at_lem k = refl

-- a field's highest coded number has room in its bits
agree_fits : (f : Field) (r : Row) → T (agree f r) → f.highest < 2 ^ f.bits
unfolding agree
agree_fits f r t = go (ltb f.highest (2 ^ f.bits)) refl
  where
    go : (u : Bool) → ltb f.highest (2 ^ f.bits) ≡ u → f.highest < 2 ^ f.bits
    go true e = ltb-true f.highest (2 ^ f.bits) e
    go false e = absurd (simp (e, and-false) at t)

all_fit : (fs : List Field) (rs : List Row) → T (agree_all fs rs) → (i : ℕ) → (get_or fs i no_field).highest < 2 ^ (get_or fs i no_field).bits
unfolding agree_all
all_fit [] [] t i = omega arith
all_fit [] (r ∷ rs) t i = absurd t
all_fit (f ∷ fs) [] t i = absurd t
all_fit (f ∷ fs) (r ∷ rs) t zero = agree_fits f r (left (agree f r) (agree_all fs rs) t)
all_fit (f ∷ fs) (r ∷ rs) t (suc i) = all_fit fs rs (right (agree f r) (agree_all fs rs) t) i

pub table_fits : (i : ℕ) → (get_or table i no_field).highest < 2 ^ (get_or table i no_field).bits
table_fits = all_fit table source_rows rows

-- the bits of the card's field k
pub width_at : (k : ℕ) → 1 ≤ k → k ≤ 46 → get_or widths k 0 ≡ (field_at k).bits
unfolding widths field_at
width_at zero l h = absurd (not-suc-le-zero l)
width_at (suc i) l h =
    let m : i < length (map (λ (f : Field). f.bits) table) = simp (length-map, table-length) (omega arith) in
    let e : i ≡ suc i - 1 = omega arith in
    get_or-append (map (λ (f : Field). f.bits) table) (14 ∷ 4 ∷ []) 0 i m
    ∙ get_or-map (λ (f : Field). f.bits) table i no_field
    ∙ ap (λ (n : ℕ). (get_or table n no_field).bits) e

codes_low : {fs : List Field} {es : List (Option Scaled)} → FairAll fs es → (i : ℕ) → get_or (codes fs es) i 0 ≤ (get_or fs i no_field).highest
unfolding codes
codes_low nil i = omega arith
codes_low (cons h t) zero = h.low
codes_low (cons h t) (suc i) = codes_low t i

pub codes_fit : {es : List (Option Scaled)} → FairAll table es
    → (i : ℕ) → get_or (codes table es) i 0 < 2 ^ get_or (map (λ (f : Field). f.bits) table) i 0
codes_fit h i = rw (get_or-map (λ (f : Field). f.bits) table i no_field) (omega (arith, codes_low h i, table_fits i))

pub checksum_lt : (cs : List ℕ) → checksum cs < 255
unfolding checksum
checksum_lt cs = omega arith
