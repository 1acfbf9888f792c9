-- The checks of pack: the fields from a place on, and the tail's bytes.
-- Assumes nothing.
use Prim.Native.Nat.{ℕ, zero, suc, ◌+◌, ◌-◌, ◌≤◌, ◌<◌}
use native.Mathlib.Numerals.{add-one}
use native.Mathlib.Omega.{arith}
use mathlib.Core.Path.{◌≡◌, refl, sym, ap, ◌∙◌}
use mathlib.Core.Bool.{Bool, true, false, cond, not, ◌&&◌}
use mathlib.Core.List.{List, [], ◌∷◌}
use mathlib.Core.Option.{Option, none, some}
use lib.ListN.{length, get_or, drop, drop_of_length-le}
use lib.IntN.{ℤ, pos}
use Rattle.format.specs.Order.{Refusal, first}
use Rattle.format.specs.Field.{Field, table, required, scaled, in_range}
use Rattle.format.specs.Whole.{bit_at, pack_checks}
use Rattle.laws.proofs.Fields.{no_field, table-length}
use Rattle.card.specs.Runs.{sum_run}
use Rattle.card.proofs.Entries.{field_is}
use Rattle.std.specs.Prelude.{Ok, Err}
use Rattle.write_values.specs.Lent.{by_tests, given_check, check_at, fault_at}
use Rattle.write_values.proofs.Tests.{each_passes}
use Rattle.pack.specs.Steps.{checked_by, fields_checked}

-- ---- the fields from place i on

abbrev pub left : List ℤ → ℕ → ℕ → Option Refusal
left values word i = first (pack_checks (suc i) (drop i table) word (drop i values))

abbrev turned : Bool → Bool → ℕ → Option Refusal → Option Refusal
turned s t k r = cond s (some (record { number = 10; place = k })) (cond t (some (record { number = 9; place = k })) r)

checks_at : (k : ℕ) (fs : List Field) (word : ℕ) (vs : List ℤ) (i : ℕ) → i < length fs → i < length vs
    → first (pack_checks k (drop i fs) word (drop i vs))
    ≡ turned (required k && not (bit_at word k)) (bit_at word k && not (in_range (get_or fs i no_field) (scaled (get_or vs i (pos 0))))) k
    (first (pack_checks (suc k) (drop (suc i) fs) word (drop (suc i) vs)))
unfolding first pack_checks
checks_at k [] word vs i l m = absurd (omega arith)
checks_at k (f ∷ fs) word [] i l m = absurd (omega arith)
checks_at k (f ∷ fs) word (v ∷ vs) zero l m = refl
checks_at k (f ∷ fs) word (v ∷ vs) (suc i) l m = checks_at k fs word vs i (omega arith) (omega arith)

refused : (s t : Bool) (k : ℕ) (r : Option Refusal) (e : Refusal) → Err e ≡ by_tests s t k → turned s t k r ≡ some e
refused true t k r e q = ap some (cc)
refused false true k r e q = ap some (cc)
refused false false k r e q = absurd (cc)

passed : (s t : Bool) (k : ℕ) (r : Option Refusal) → Ok tt ≡ by_tests s t k → turned s t k r ≡ r
passed true t k r q = absurd (cc)
passed false true k r q = absurd (cc)
passed false false k r q = refl

-- the field at place i
module _ (values : List ℤ) (word i : ℕ) (long : 46 ≤ length values) (h : i < 46) where
  missing : Bool
  missing = required (suc i) && not (bit_at word (suc i))

  outside : Bool
  outside = bit_at word (suc i) && not (in_range (get_or table i no_field) (scaled (get_or values i (pos 0))))

  check_is : check_at values word i ≡ by_tests missing outside (suc i)
  unfolding given_check missing outside
  check_is = rw (field_is i, add-one i)

  left_step : left values word i ≡ turned missing outside (suc i) (left values word (suc i))
  unfolding missing outside
  left_step = checks_at (suc i) table word values i (rw table-length h) (omega arith)

  -- it is the first that is refused
  pub field_refused : (r : Refusal) → Err r ≡ check_at values word i → left values word i ≡ left values word 0 → Err r ≡ fields_checked values word
  unfolding fields_checked
  field_refused r q all =
      let f : left values word 0 ≡ some r = sym all ∙ left_step ∙ refused missing outside (suc i) (left values word (suc i)) r (q ∙ check_is) in
      sym (ap checked_by f)

  -- or it passes
  pub field_passed : Ok tt ≡ check_at values word i → left values word i ≡ left values word (suc i)
  field_passed q = left_step ∙ passed missing outside (suc i) (left values word (suc i)) (q ∙ check_is)

pub fields_passed : (values : List ℤ) (word i : ℕ) → i ≡ 46 → left values word i ≡ left values word 0 → Ok tt ≡ fields_checked values word
unfolding fields_checked first pack_checks
fields_passed values word i e all =
    let end : left values word 46 ≡ none =
    ap (λ (fs : List Field). first (pack_checks 47 fs word (drop 46 values))) (drop_of_length-le table {i = 46} (rw table-length (omega arith))) in
    ap checked_by (sym (sym all ∙ ap (left values word) e ∙ end))

-- the same of field k
module _ (values : List ℤ) (word k : ℕ) (long : 46 ≤ length values) (l : 1 ≤ k) (h : k ≤ 46) where
  pub turn_refused : (r : Refusal) → Err r ≡ check_at values word (k - 1) → left values word (k - 1) ≡ left values word 0 → Err r ≡ fields_checked values word
  turn_refused r e = field_refused values word (k - 1) long (omega arith) r e

  pub turn_passed : Ok tt ≡ check_at values word (k - 1) → left values word (k - 1) ≡ left values word 0 → left values word (k + 1 - 1) ≡ left values word 0
  turn_passed e all =
      let q : k + 1 - 1 ≡ suc (k - 1) = omega arith in
      ap (left values word) q ∙ sym (field_passed values word (k - 1) long (omega arith) e) ∙ all

-- no field is refused where all pass
module _ (values : List ℤ) (word : ℕ) (long : 46 ≤ length values) (e : sum_run (fault_at values word) 0 46 ≡ 0) where
  all_pass : (i : ℕ) → i ≤ 46 → left values word i ≡ left values word 0
  all_pass zero h = refl
  all_pass (suc i) h = sym (field_passed values word i long h (each_passes values word e i h)) ∙ all_pass i (omega arith)

  pub none_refused : Ok tt ≡ fields_checked values word
  none_refused = fields_passed values word 46 refl (all_pass 46 (omega arith))

-- what the answer says

checked_refused : (o : Option Refusal) (r : Refusal) → Err r ≡ checked_by o → o ≡ some r
checked_refused none r e = absurd (cc)
checked_refused (some x) r e = ap some (cc)

checked_passed : (o : Option Refusal) → Ok tt ≡ checked_by o → o ≡ none
checked_passed none e = refl
checked_passed (some r) e = absurd (cc)

module _ (values : List ℤ) (word : ℕ) where
  pub says_refused : (r : Refusal) → Err r ≡ fields_checked values word → first (pack_checks 1 table word values) ≡ some r
  unfolding fields_checked
  says_refused r e = checked_refused (first (pack_checks 1 table word values)) r e

  pub says_passed : Ok tt ≡ fields_checked values word → first (pack_checks 1 table word values) ≡ none
  unfolding fields_checked
  says_passed e = checked_passed (first (pack_checks 1 table word values)) e
