-- Fields of a card that are missing, and fields that are made missing.
-- Assumes nothing.
use Prim.Native.Nat.{ℕ, zero, suc, ◌+◌, ◌-◌, ◌%◌, ◌≤◌, ◌<◌}
use native.Mathlib.Omega.{arith}
use mathlib.Core.Path.{◌≡◌, refl, sym, ap, ap₂, subst, ◌∙◌}
use mathlib.Core.Bool.{Bool, true, false, cond, not, ◌||◌}
use mathlib.Core.List.{List, [], ◌∷◌, ◌++◌, append-nil}
use mathlib.Core.Option.{Option, none}
use lib.ListN.{length, get_or, take, drop, set, length-append}
use lib.Seq.{take-set-lt, drop-set-add, get_or-set_other}
use lib.Dec.{eqb}
use borrow.Author.Tests.{eqb-false, ne_eqb}
use Rattle.format.specs.Bits.{Bytes, total}
use Rattle.format.specs.Field.{Field, table, field_at, coded, entry_of, is_present, entries}
use Rattle.format.specs.Flags.{FlagTable}
use Rattle.format.specs.Observation.{Observation, observation, checksum, card_numbers}
use Rattle.format.specs.Report.{numbers_of, rptin_of, codes_of, checksum_of, count_of, tail_of, observation_of}
use Rattle.format.specs.Nibbles.{attachments_of, among}
use Rattle.format.specs.Indicators.{indicators, fields_where}
use Rattle.format.specs.Calls.{clear_with_indicators, value_at, cleared, data_missing, lost_on, clears_of, made}
use Rattle.format.specs.declared.Coded.{Coded}
use Rattle.format.specs.declared.Scaled.{Scaled}
use Rattle.laws.proofs.Sequences.{and_right, cond_case, test_case}
use Rattle.laws.proofs.Report.{passes, numbers_taken}
use Rattle.laws.proofs.Indicators.{none_set, Free, clears_free}
use Rattle.laws.proofs.Laid.{emptied, total-set, cleared_numbers}
use Rattle.card.specs.Answers.{Carded}
use Rattle.card.proofs.Numbers.{codes-length}
use Rattle.card.proofs.Entries.{present_is, entries-length}
use Rattle.report.specs.Found.{Accepted}
use Rattle.call_fields.proofs.Values.{value_is}
use Rattle.call_indicators.specs.Emptied.{Emptied, lost_tI}

-- ---- missing

twice : (t : Bool) → not (not t) ≡ t
twice true = refl
twice false = refl

module _ (b : List ℕ) (k : ℕ) (low : 1 ≤ k) (high : k ≤ 46) (c : Coded) (at : c.0 ≡ get_or (codes_of b) (k - 1) 0) where
  pub missing_is : (m : Bool) → m ≡ eqb c.0 0 → m ≡ not (is_present (value_at (observation_of b) k))
  missing_is m is =
      is
      ∙ sym (ap not (ap is_present (value_is b k c low high at) ∙ present_is (field_at k) c (eqb c.0 0) refl) ∙ twice (eqb c.0 0))

pub one_missing : (s : Observation) (k : ℕ) (m : Bool) → m ≡ not (is_present (value_at s k)) → m ≡ data_missing s (k ∷ [])
unfolding data_missing
one_missing s k m e = e ∙ sym (and_right _)

-- ---- the indicators that rest on a field that is missing

module _ (s : Observation) (k : ℕ) where
  module _ (gone : is_present (value_at s k) ≡ false) where
    single_on : (i : ℕ) → lost_on s k ≡ cond (data_missing s (k ∷ [])) (i ∷ []) [] ++ [] → lost_on s k ≡ i ∷ []
    single_on i e = e ∙ ap (λ (t : Bool). cond t (i ∷ []) [] ++ []) (sym (one_missing s k true (ap not (sym gone))))

    pub on_D : k ≡ 18 → lost_on s k ≡ 17 ∷ []
    unfolding lost_on fields_where indicators among
    on_D e = single_on 17 (rw e)

    pub on_W : k ≡ 20 → lost_on s k ≡ 19 ∷ []
    unfolding lost_on fields_where indicators among
    on_W e = single_on 19 (rw e)

    pub on_VB : k ≡ 22 → lost_on s k ≡ 21 ∷ []
    unfolding lost_on fields_where indicators among
    on_VB e = single_on 21 (rw e)

    pub on_H : k ≡ 37 → lost_on s k ≡ 36 ∷ []
    unfolding lost_on fields_where indicators among
    on_H e = single_on 36 (rw e)

    pub on_S : k ≡ 31 → lost_on s k ≡ lost_tI s ++ (32 ∷ [])
    unfolding lost_on fields_where indicators among
    on_S e =
        let two : lost_on s k ≡ lost_tI s ++ (cond (data_missing s (k ∷ [])) (32 ∷ []) [] ++ []) = rw e in
        two ∙ ap (λ (t : Bool). lost_tI s ++ (cond t (32 ∷ []) [] ++ [])) (sym (one_missing s k true (ap not (sym gone))))

  -- A, WB, DPT
  pub on_others : 28 ≤ k → k ≤ 30 → lost_on s k ≡ lost_tI s
  unfolding lost_on fields_where indicators among
  on_others low high =
      rw (ne_eqb k 18 (λ e. omega arith), ne_eqb k 20 (λ e. omega arith), ne_eqb k 22 (λ e. omega arith), ne_eqb k 31 (λ e. omega arith), ne_eqb k 37 (λ e. omega arith), one_of)
      (append-nil _)
    where
      one_of : eqb k 28 || (eqb k 29 || (eqb k 30 || false)) ≡ true
      one_of =
          test_case (eqb k 28) (λ e. rw e)
          (λ e. test_case (eqb k 29) (λ f. rw (e, f))
          (λ f. test_case (eqb k 30) (λ g. rw (e, f, g))
          (λ g. let x = eqb-false k 28 e in let y = eqb-false k 29 f in let z = eqb-false k 30 g in absurd (omega arith))))

  -- any other field
  pub on_none : (k ≡ 18 → ⊥) → (k ≡ 20 → ⊥) → (k ≡ 22 → ⊥) → (k ≡ 31 → ⊥) → (k ≡ 37 → ⊥) → (28 ≤ k → k ≤ 30 → ⊥) → lost_on s k ≡ []
  unfolding lost_on fields_where indicators among
  on_none d w vb t h o =
      rw (
        ne_eqb k 18 d,
        ne_eqb k 20 w,
        ne_eqb k 22 vb,
        ne_eqb k 28 (λ e. o (omega arith) (omega arith)),
        ne_eqb k 29 (λ e. o (omega arith) (omega arith)),
        ne_eqb k 30 (λ e. o (omega arith) (omega arith)),
        ne_eqb k 31 t,
        ne_eqb k 37 h,
      )

-- ---- code 0 in a field

-- nothing is made missing
pub emptied_none : (b : List ℕ) → Emptied b b [] 0
unfolding emptied
emptied_none b = record { card = record { card = refl; behind = refl; long = refl }; sum = omega arith; small = omega arith }

codes-set : (b d : List ℕ) (k v : ℕ) → 1 ≤ k → k ≤ 46 → numbers_of d ≡ set (numbers_of b) k v → codes_of d ≡ set (codes_of b) (k - 1) v
codes-set b d k v low high e =
    let at : k ≡ 1 + (k - 1) = omega arith in
    ap (λ (ns : List ℕ). take 46 (drop 1 ns)) (e ∙ ap (λ (n : ℕ). set (numbers_of b) n v) at)
    ∙ ap (take 46) (drop-set-add 1 (numbers_of b) (k - 1) v) ∙ take-set-lt 46 (drop 1 (numbers_of b)) (k - 1) v (omega arith)

pub emptied_one : (b d : List ℕ) (k : ℕ) (c : Coded) → 1 ≤ k → k ≤ 46 → Carded b d (set (numbers_of b) k 0) → c.0 ≡ get_or (codes_of b) (k - 1) 0 → c.0 < 65536
    → Emptied b d (k ∷ []) c.0
unfolding emptied
emptied_one b d k c low high r at small =
    let t = total-set (codes_of b) (k - 1) 0 (rw (codes-length b) (omega arith)) in
    let left = ap total (codes-set b d k 0 low high r.card) in
    record { card = r; sum = omega (arith, t, left, at); small = omega arith }

emptied_append : (ns ks js : List ℕ) → emptied (emptied ns ks) js ≡ emptied ns (ks ++ js)
unfolding emptied
emptied_append ns [] js = refl
emptied_append ns (k ∷ ks) js = emptied_append (set ns k 0) ks js

-- more behind some
pub emptied_more : (b c d ks js : List ℕ) (r q : ℕ) → Emptied b c ks r → Emptied c d js q → Emptied b d (ks ++ js) (r + q)
emptied_more b c d ks js r q x y =
    record {
      card =
          record {
            card = y.card.card ∙ ap (λ (ns : List ℕ). emptied ns js) x.card.card ∙ emptied_append (numbers_of b) ks js;
            behind = y.card.behind ∙ x.card.behind;
            long = y.card.long ∙ x.card.long;
          };
      sum = omega (arith, x.sum, y.sum);
      small = omega (arith, x.small, y.small, length-append ks js);
    }

-- one field or two, which are all that have lost their data
pub emptied_all : (b d ks : List ℕ) (k r : ℕ) → lost_on (observation_of b) k ≡ ks → length ks ≤ 2 → Emptied b d ks r → Emptied b d (lost_on (observation_of b) k) r × (r ≤ 131070)
emptied_all b d ks k r e h x = (subst (λ (l : List ℕ). Emptied b d l r) (sym e) x, omega (arith, x.small))

-- TI is one at most
pub ti_few : (s : Observation) → length (lost_tI s) ≤ 1
ti_few s = cond_case (λ (l : List ℕ). length l ≤ 1) (data_missing s (28 ∷ 29 ∷ 30 ∷ 31 ∷ [])) (27 ∷ []) [] (λ _. omega arith) (λ _. omega arith)

-- ---- the card of a clearing

entries-set : (fs : List Field) (cs : List ℕ) (i : ℕ) → entries fs (set cs i 0) ≡ set (entries fs cs) i none
unfolding entries entry_of
entries-set [] cs i = refl
entries-set (f ∷ fs) [] i = refl
entries-set (f ∷ fs) (c ∷ cs) zero = refl
entries-set (f ∷ fs) (c ∷ cs) (suc i) = ap (λ (es : List (Option Scaled)). entry_of f (coded c) ∷ es) (entries-set fs cs i)

-- code 0 in field k, and all else as it was: the field is cleared
pub exchanged : (b d : List ℕ) (k : ℕ) → 1 ≤ k → k ≤ 46 → Carded b d (set (numbers_of b) k 0) → observation_of d ≡ cleared (observation_of b) k
unfolding observation_of
exchanged b d k low high r =
    let values : entries table (codes_of d) ≡ set (entries table (codes_of b)) (k - 1) none =
    ap (entries table) (codes-set b d k 0 low high r.card) ∙ entries-set table (codes_of b) (k - 1) in
    let rptin : rptin_of d ≡ rptin_of b = ap (λ (ns : List ℕ). get_or ns 0 0) r.card ∙ get_or-set_other (numbers_of b) k 0 0 0 (λ e. omega arith) in
    let count : count_of d ≡ count_of b = ap (λ (ns : List ℕ). get_or ns 48 0) r.card ∙ get_or-set_other (numbers_of b) k 48 0 0 (λ e. omega arith) in
    ap₂ (λ (x : ℕ) (vs : List (Option Scaled)). observation x vs (attachments_of (count_of d) (tail_of d))) rptin values
    ∙ ap₂ (λ (n : ℕ) (ns : List ℕ). observation (rptin_of b) (set (entries table (codes_of b)) (k - 1) none) (attachments_of n ns)) count r.behind

pub now_missing : (b d : List ℕ) (k : ℕ) → 1 ≤ k → k ≤ 46 → Carded b d (set (numbers_of b) k 0) → is_present (value_at (observation_of d) k) ≡ false
now_missing b d k low high r =
    ap (λ (s : Observation). is_present (value_at s k)) (exchanged b d k low high r) ∙ ap is_present (none_set (observation_of b).values (k - 1))

-- the new checksum: the old one less the codes that stood there, with a multiple of 255 added so that it never falls below 0
less_checksum : (n x r t u : ℕ) → n ≡ t % 255 → x + r + u ≡ t → x + r ≤ 196605 → (n + 196605 - x - r) % 255 ≡ u % 255
less_checksum n x r t u e s h = omega arith

module _ (marks : FlagTable) (b : List ℕ) (bs : Bytes b) (j : Accepted marks b) (k : ℕ) (f : Free k) where
  pub clearing_card : (c d e : List ℕ) (n r : ℕ) (o : Coded) → n ≡ checksum_of b → Carded b c (set (numbers_of b) k 0) → o.0 ≡ get_or (codes_of b) (k - 1) 0 → o.0 < 65536
      → Emptied c d (lost_on (observation_of c) k) r → r ≤ 131070 → Carded d e (set (numbers_of d) 47 ((n + 196605 - o.0 - r) % 255))
      → Carded b e (card_numbers (made (observation_of b) (clear_with_indicators k)))
  unfolding made clears_of checksum
  clearing_card c d e n r o sum one at small more few ck =
      let s = observation_of b in
      let first = emptied_one b c k o f.low f.high one at small in
      let all : Emptied b d (k ∷ lost_on (cleared (observation_of b) k) k) (o.0 + r) =
      subst (λ (x : Observation). Emptied b d (k ∷ lost_on x k) (o.0 + r)) (exchanged b c k f.low f.high one) (emptied_more b c d (k ∷ []) _ o.0 r first more) in
      let ns : numbers_of d ≡ emptied (card_numbers (observation_of b)) (clears_of (observation_of b) k) =
      all.card.card ∙ ap (λ (xs : List ℕ). emptied xs (clears_of (observation_of b) k)) (sym (numbers_taken marks b (observation_of b) bs j)) in
      let rest : (n + 196605 - o.0 - r) % 255 ≡ total (codes_of d) % 255 =
      less_checksum n o.0 r (total (codes_of b)) (total (codes_of d)) (sum ∙ (passes marks b (observation_of b) j).0.sum) all.sum (omega arith) in
      record {
        card = ck.card ∙ ap (λ (x : ℕ). set (numbers_of d) 47 x) rest ∙ cleared_numbers (clears_of s k) s (numbers_of d) (values_long b) (clears_free s k f) ns;
        behind = ck.behind ∙ all.card.behind;
        long = ck.long ∙ all.card.long;
      }
    where
      values_long : (b : List ℕ) → length (observation_of b).values ≡ 46
      values_long b = unfold observation_of in entries-length b
