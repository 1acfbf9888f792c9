-- Laws of fresh, unpack and pack: fresh makes a good observation, and pack makes one of all that it accepts; demand 2, pack after
-- unpack and unpack after pack; the smallest and the largest report.
-- Assumes nothing.
use Prim.Native.Nat.{ℕ, zero, suc, ◌+◌, ◌-◌, ◌^◌, ◌≤◌, ◌<◌}
use native.Mathlib.Omega.{arith}
use mathlib.Core.Path.{◌≡◌, refl, sym, ap, ap₂, subst, ◌∙◌}
use mathlib.Core.Bool.{Bool, true, false, cond, not, ◌&&◌, ◌||◌}
use mathlib.Core.List.{List, [], ◌∷◌, ◌++◌, map, append-nil}
use mathlib.Core.Option.{Option, none, some}
use lib.ListN.{length, get_or, take, drop, set, replicate, length-append, length-map}
use lib.Dec.{eqb}
use lib.Seq.{length-take-le, take_all, take-append-le, take-append_seam}
use lib.IntN.{ℤ, pos}
use lib.Count.{ones}
use borrow.Author.Tests.{le-ltb, ltb-false, eqb-true, not-false}
use Rattle.format.specs.Order.{Refusal, first}
use Rattle.format.specs.Field.{Field, table, field_at, required, in_range, scaled, is_present, BOX10, YEAR, MONTH, X, Y}
use Rattle.format.specs.Nibbles.{attachment, attachment_nibbles, tail_nibbles, attachments_of, among}
use Rattle.format.specs.Flags.{FlagTable, flags_fit, total_weight, all_missing, quality_code, flags_valid}
use Rattle.format.specs.ShipText.{text_step, state_after, end_from, at_end, text_valid}
use Rattle.format.specs.Observation.{Observation, packing, size}
use Rattle.format.specs.Report.{body_valid, attachment_checks, Verdict, judge}
use Rattle.format.specs.Calls.{Answer, value_check, with_attachments, all_nibbles, over}
use Rattle.format.specs.Whole.{wrote_by, masked, contents, fresh_observation, value_or_zero, presence, count_present, tail, unpacked, unpack_gives, unpack_checks}
use Rattle.format.specs.Whole.{unpacked_by, unpack, bit_at, bit_outside, pack_checks, entries_given, count_in, pack_observation, pack_order, pack_gives, pack}
use Rattle.format.specs.declared.Scaled.{Scaled}
use Rattle.laws.proofs.Sequences.{true_false, cond_case}
use Rattle.laws.proofs.Order.{first-nil, no_check, no_checks, first_none, first-append_none}
use Rattle.format.specs.Bits.{Bytes}
use Rattle.laws.proofs.Fields.{Fair, missing_fair, in_range_fair, fair_range, no_field, FairAll, nil, cons, length_fair, fair_set, Present, table-length}
use Rattle.laws.proofs.Attachments.{nibbles_all, all_nibbles_lem, tail_reads, tail_count, Fine, empty, fine_checks, fine_nibbles, Walked, checks_fine, count_all}
use Rattle.laws.proofs.Report.{packing-bytes, report_is, Good, judge-packing, judged, size_is}
use Rattle.laws.proofs.Presence.{presence_bit_lem, presence_inside, Agrees, agrees_first, agrees_rest, given_back, word_back, count_ones}

-- ---- the required fields

either : (P : Type 0) (k m : ℕ) (b : Bool) → (k ≡ m → P) → (b ≡ true → P) → eqb k m || b ≡ true → P
either P k m b f g = go (eqb k m) refl
  where
    go : (t : Bool) → eqb k m ≡ t → t || b ≡ true → P
    go true q e = f (eqb-true k m q)
    go false q e = g e

-- what holds of the five fields holds of every required field
required_is : (P : ℕ → Type 0) → P BOX10 → P YEAR → P MONTH → P X → P Y → (k : ℕ) → required k ≡ true → P k
unfolding required
required_is P p1 p2 p3 p6 p7 k =
    either (P k) k BOX10 _ (λ e. rw e p1)
    (either (P k) k YEAR _ (λ e. rw e p2)
    (either (P k) k MONTH _ (λ e. rw e p3)
    (either (P k) k X _ (λ e. rw e p6)
    (λ r. rw (eqb-true k Y r) p7))))

-- ---- fresh

missing_all : (fs : List Field) → FairAll fs (replicate (length fs) none)
missing_all [] = nil
missing_all (f ∷ fs) = cons (missing_fair f) (missing_all fs)

fair_field : {es : List (Option Scaled)} (k : ℕ) (v : Scaled) → (value_check k v).fits ≡ false → FairAll table es → FairAll table (set es (k - 1) (some v))
unfolding field_at
fair_field k v e f = fair_set f (k - 1) (some v) (in_range_fair (get_or table (k - 1) no_field) v (not-false _ e))

some_none : (v : Scaled) → some v ≡ none → ⊥
some_none v e = let z : ◌≡◌ {A = ℕ} 0 1 = cc in omega arith

module _ (box10 year month x y : Scaled) where
  fresh_present : Present 1 (fresh_observation box10 year month x y).values
  unfolding fresh_observation
  fresh_present i l r n =
      let z : 1 + i - 1 ≡ i = omega arith in
      required_is (λ (k : ℕ). get_or (fresh_observation box10 year month x y).values (k - 1) none ≡ none → ⊥)
      (some_none box10) (some_none year) (some_none month) (some_none x) (some_none y) (1 + i) r (rw z n)

  -- values in range make a good observation
  fresh_good : (marks : FlagTable) → (value_check BOX10 box10).fits ≡ false → (value_check YEAR year).fits ≡ false → (value_check MONTH month).fits ≡ false
      → (value_check X x).fits ≡ false → (value_check Y y).fits ≡ false → Good marks (fresh_observation box10 year month x y)
  unfolding fresh_observation
  fresh_good marks e1 e2 e3 e6 e7 = record {
    rptin = omega arith;
    fair = fair_field Y y e7 (fair_field X x e6 (fair_field MONTH month e3 (fair_field YEAR year e2 (fair_field BOX10 box10 e1 (rw table-length at (missing_all table))))));
    present = fresh_present;
    fine = empty;
  }

  -- the smallest report
  pub fresh-size : size (fresh_observation box10 year month x y) ≡ 38
  unfolding fresh_observation tail_nibbles
  fresh-size = size_is (fresh_observation box10 year month x y)

-- ---- what pack has passed

-- the first refusal of its checks, or that there is none, decides what it leaves
pub pack_outcome : (marks : FlagTable) (values : List ℤ) (word rptin : ℕ) (ns out : List ℕ) (o : Option Refusal) → first (pack_order marks (length out) values word rptin ns) ≡ o
    → wrote_by o (pack_gives (size (pack_observation values word rptin ns))) (packing (pack_observation values word rptin ns)) out ≡ pack marks values word rptin ns out
unfolding pack
pack_outcome marks values word rptin ns out o e =
    ap (λ (x : Option Refusal). wrote_by x (pack_gives (size (pack_observation values word rptin ns))) (packing (pack_observation values word rptin ns)) out) (sym e)

-- that none of its checks refuses, part by part; `packs_none` below is the way back
pub record Packs (marks : FlagTable) (n : ℕ) (values : List ℤ) (word rptin : ℕ) (ns : List ℕ) : Type 0 where
  pub long : 46 ≤ length values
  pub inside : bit_outside word ≡ false
  pub fields : first (pack_checks 1 table word values) ≡ none
  pub nibbles : all_nibbles ns ≡ true
  pub attachments : first (attachment_checks marks (count_in ns) 1 [] ns) ≡ none
  pub room : size (pack_observation values word rptin ns) ≤ n

packs : (marks : FlagTable) (n : ℕ) (values : List ℤ) (word rptin : ℕ) (ns : List ℕ) → first (pack_order marks n values word rptin ns) ≡ none → Packs marks n values word rptin ns
unfolding pack_order
packs marks n values word rptin ns e =
    let c1 = first_none _ _ e in
    let c2 = first_none _ _ c1.1 in
    let c3 = first-append_none _ _ c2.1 in
    let c4 = first_none _ _ c3.1 in
    let c5 = first-append_none _ _ c4.1 in
    let c6 = first_none _ _ c5.1 in
    record {
      long = ltb-false (length values) 46 c1.0;
      inside = c2.0;
      fields = c3.0;
      nibbles = not-false _ c4.0;
      attachments = c5.0;
      room = ltb-false n (size (pack_observation values word rptin ns)) c6.0;
    }

-- ---- the observation that pack makes is good

given_fair : (k : ℕ) (fs : List Field) (word : ℕ) (vs : List ℤ) → length fs ≤ length vs → first (pack_checks k fs word vs) ≡ none
    → FairAll fs (entries_given k word (take (length fs) vs))
unfolding pack_checks entries_given
given_fair k [] word vs l e = nil
given_fair k (f ∷ fs) word [] l e = absurd (omega arith)
given_fair k (f ∷ fs) word (v ∷ vs) l e =
    let c1 = first_none _ _ e in
    let c2 = first_none _ _ c1.1 in
    let h : Fair f (cond (bit_at word k) (some (scaled v)) none) =
    cond_case (Fair f) (bit_at word k) (some (scaled v)) none (λ b. in_range_fair f (scaled v) (not-false _ (rw b at c2.0))) (λ b. missing_fair f) in
    cons h (given_fair (suc k) fs word vs (omega arith) c2.1)

-- the bit of each required field is set
abbrev Needed : ℕ → Type 0
Needed word = (k : ℕ) → required k ≡ true → bit_at word k ≡ true

checks-needed : (k : ℕ) (fs : List Field) (word : ℕ) (vs : List ℤ) → first (pack_checks k fs word vs) ≡ none
    → (i : ℕ) → i < length fs → i < length vs → required (k + i) ≡ true → bit_at word (k + i) ≡ true
unfolding pack_checks
checks-needed k [] word vs e i l m r = absurd (omega arith)
checks-needed k (f ∷ fs) word [] e i l m r = absurd (omega arith)
checks-needed k (f ∷ fs) word (v ∷ vs) e zero l m r =
    let z : k + 0 ≡ k = omega arith in
    let q : required k ≡ true = rw z at r in
    rw z (not-false _ (rw q at (first_none _ _ e).0))
checks-needed k (f ∷ fs) word (v ∷ vs) e (suc i) l m r =
    let z : k + suc i ≡ suc k + i = omega arith in
    rw z (checks-needed (suc k) fs word vs (first_none _ _ (first_none _ _ e).1).1 i (omega arith) (omega arith) (rw z at r))

required-from : (k : ℕ) → required k ≡ true → 1 ≤ k
required-from = required_is (λ (k : ℕ). 1 ≤ k) (omega arith) (omega arith) (omega arith) (omega arith) (omega arith)

required_to : (k : ℕ) → required k ≡ true → k ≤ 46
required_to = required_is (λ (k : ℕ). k ≤ 46) (omega arith) (omega arith) (omega arith) (omega arith) (omega arith)

needed_present : (word : ℕ) (es : List (Option Scaled)) → Agrees 1 word es → Needed word → Present 1 es
needed_present word es a h i l r n = true_false (bit_at word (1 + i)) (h (1 + i) r) (a i ∙ ap is_present n)

values_given : (k word : ℕ) (vs : List ℤ) → map value_or_zero (entries_given k word vs) ≡ masked k word vs
unfolding entries_given masked
values_given k word [] = refl
values_given k word (v ∷ vs) = ap₂ ◌∷◌ (go (bit_at word k)) (values_given (suc k) word vs)
  where
    go : (t : Bool) → value_or_zero (cond t (some (scaled v)) none) ≡ cond t v (pos 0)
    go true = refl
    go false = refl

-- the values in the observation are those given, where the word says so
pack_values : (values : List ℤ) (word rptin : ℕ) (ns : List ℕ)
    → map value_or_zero (pack_observation values word rptin ns).values ≡ masked 1 word (take 46 values)
unfolding pack_observation
pack_values values word rptin ns = values_given 1 word (take 46 values)

pack_rptin : (values : List ℤ) (word rptin : ℕ) (ns : List ℕ) → (pack_observation values word rptin ns).rptin ≡ rptin
unfolding pack_observation
pack_rptin values word rptin ns = refl

module _ (marks : FlagTable) (n : ℕ) (values : List ℤ) (word rptin : ℕ) (ns : List ℕ) (e : first (pack_order marks n values word rptin ns) ≡ none) where
  passed : Packs marks n values word rptin ns
  passed = packs marks n values word rptin ns e

  -- its presence word is the word given
  pack-presence : presence (pack_observation values word rptin ns) ≡ word
  unfolding pack_observation
  pack-presence = word_back word (take 46 values) (length-take-le 46 values passed.long) passed.inside

  pack_agrees : Agrees 1 word (pack_observation values word rptin ns).values
  pack_agrees i = ap (λ (w : ℕ). bit_at w (1 + i)) (sym pack-presence) ∙ presence_bit_lem 1 (pack_observation values word rptin ns).values i

  pack-needed : Needed word
  pack-needed k r =
      let l = required-from k r in
      let h = required_to k r in
      let z : k ≡ 1 + (k - 1) = omega arith in
      ap (bit_at word) z
      ∙ checks-needed 1 table word values passed.fields (k - 1) (omega (arith, table-length)) (omega (arith, passed.long)) (sym (ap required z) ∙ r)

  walked : Walked marks (count_in ns) [] ns
  walked = checks_fine marks (count_in ns) 1 [] ns (all_nibbles_lem ns passed.nibbles) passed.attachments

  -- as many attachments as are counted from the tail, and nothing of the tail is left behind them
  pack_count : length (pack_observation values word rptin ns).attachments ≡ count_in ns
  unfolding pack_observation
  pack_count = walked.count

  pack-tail : tail (pack_observation values word rptin ns) ≡ ns
  unfolding pack_observation
  pack-tail = sym (count_all marks ns (all_nibbles_lem ns passed.nibbles) passed.attachments)

  pack_good : rptin < 2 ^ 16 → Good marks (pack_observation values word rptin ns)
  unfolding pack_observation
  pack_good r = record {
    rptin = r;
    fair = rw table-length at (given_fair 1 table word values (rw table-length passed.long) passed.fields);
    present = needed_present word (pack_observation values word rptin ns).values pack_agrees pack-needed;
    fine = walked.fine;
  }

-- ---- pack accepts the parts of a good observation, and makes that observation of them

present_needed : (word : ℕ) (es : List (Option Scaled)) → length es ≡ 46 → Agrees 1 word es → Present 1 es → Needed word
present_needed word es l a h k r =
    let z : k ≡ 1 + (k - 1) = omega (arith, required-from k r) in
    ap (bit_at word) z ∙ a (k - 1) ∙ go (get_or es (k - 1) none) (h (k - 1) (omega (arith, required-from k r, required_to k r)) (sym (ap required z) ∙ r))
  where
    go : (e : Option Scaled) → (e ≡ none → ⊥) → is_present e ≡ true
    go none q = absurd (q refl)
    go (some v) q = refl

given-checks : {fs : List Field} {es : List (Option Scaled)} (k word : ℕ) → FairAll fs es → Agrees k word es → Needed word
    → first (pack_checks k fs word (map value_or_zero es)) ≡ none
unfolding pack_checks
given-checks k word nil a h = first-nil
given-checks k word (cons {f = f} {e = e} {es = es} fair t) a h =
    no_check _ _ (needs (required k) refl) (no_check _ _ (rw (agrees_first k word e es a) (within e fair)) (given-checks (suc k) word t (agrees_rest k word e es a) h))
  where
    needs : (r : Bool) → required k ≡ r → required k && not (bit_at word k) ≡ false
    needs true q = rw (q, h k q)
    needs false q = rw q

    within : (e : Option Scaled) → Fair f e → is_present e && not (in_range f (scaled (value_or_zero e))) ≡ false
    within none q = refl
    within (some v) q = rw (fair_range f v q)

pub packs_none : (marks : FlagTable) (n : ℕ) (values : List ℤ) (word rptin : ℕ) (ns : List ℕ) → Packs marks n values word rptin ns → first (pack_order marks n values word rptin ns) ≡ none
unfolding pack_order
packs_none marks n values word rptin ns p =
    no_check _ _ (le-ltb (length values) 46 p.long)
    (no_check _ _ p.inside
    (no_checks _ _ p.fields
    (no_check _ _ (ap not p.nibbles)
    (no_checks _ _ p.attachments
    (no_check _ _ (le-ltb n (size (pack_observation values word rptin ns)) p.room) first-nil)))))

module _ (marks : FlagTable) (s : Observation) (g : Good marks s) where
  values_length : length s.values ≡ 46
  values_length = length_fair g.fair ∙ table-length

  values_out_lem : length (map value_or_zero s.values) ≡ 46
  values_out_lem = length-map s.values value_or_zero ∙ values_length

  -- the observation comes back from what unpack gives of it
  observation_back : pack_observation (map value_or_zero s.values) (presence s) s.rptin (tail s) ≡ s
  unfolding pack_observation
  observation_back =
      let v : entries_given 1 (presence s) (take 46 (map value_or_zero s.values)) ≡ s.values =
      ap (entries_given 1 (presence s)) (take_all 46 (map value_or_zero s.values) (omega (arith, values_out_lem)))
      ∙ given_back 1 (presence s) s.values (presence_bit_lem 1 s.values) in
      let a : attachments_of (count_in (tail s)) (tail s) ≡ s.attachments =
      ap₂ attachments_of (tail_count s.attachments) (sym (append-nil (tail s))) ∙ tail_reads s.attachments [] in
      λ i. record { rptin = s.rptin; values = v i; attachments = a i }

  observation_packs : (n : ℕ) → size s ≤ n → Packs marks n (map value_or_zero s.values) (presence s) s.rptin (tail s)
  observation_packs n h = record {
    long = omega (arith, values_out_lem);
    inside = presence_inside s values_length;
    fields = given-checks 1 (presence s) g.fair (presence_bit_lem 1 s.values) (present_needed (presence s) s.values values_length (presence_bit_lem 1 s.values) g.present);
    nibbles = nibbles_all (tail s) (fine_nibbles marks g.fine);
    attachments = rw (tail_count s.attachments) (rw append-nil at (fine_checks marks 1 [] g.fine));
    room = rw observation_back h;
  }

-- ---- demand 2

-- pack of an observation's parts writes its packing
pack_good_observation : (marks : FlagTable) (s : Observation) (out : List ℕ) → Good marks s → size s ≤ length out
    → pack marks (map value_or_zero s.values) (presence s) s.rptin (tail s) out
    ≡ record { answer = Answer.accepted (pack_gives (size s)); out = over (packing s) out }
unfolding pack
pack_good_observation marks s out g h =
    rw (packs_none marks (length out) (map value_or_zero s.values) (presence s) s.rptin (tail s) (observation_packs marks s g (length out) h), observation_back marks s g)

-- pack after unpack: the parts of an accepted report are packed to the same bytes
pack-after-unpack : (marks : FlagTable) (b : List ℕ) (s : Observation) (out : List ℕ) → Bytes b → judge marks b ≡ Verdict.accepted s → size s ≤ length out
    → (pack marks (map value_or_zero s.values) (presence s) s.rptin (tail s) out
    ≡ record { answer = Answer.accepted (pack_gives (size s)); out = over (packing s) out })
    × (packing s ≡ take (size s) b)
pack-after-unpack marks b s out bs j h =
    let t = judged marks b s bs j in
    (pack_good_observation marks s out t.good h, sym (report_is marks b s bs j))

-- unpack of an accepted report, with room for what it gives
pub unpack_accepted : (marks : FlagTable) (b : List ℕ) (s : Observation) (vs : List ℤ) (ns : List ℕ) → judge marks b ≡ Verdict.accepted s → 46 ≤ length vs → length (tail s) ≤ length ns
    → unpack marks b vs ns ≡ unpacked (Answer.accepted (unpack_gives s)) (over (map value_or_zero s.values) vs) (over (tail s) ns)
unfolding unpack
unpack_accepted marks b s vs ns j hv hn =
    let c : first (unpack_checks s vs ns) ≡ none = no_check _ _ (rw (le-ltb (length vs) 46 hv, le-ltb (length ns) (length (tail s)) hn)) first-nil in
    rw j (ap (λ (o : Option Refusal). unpacked_by o s vs ns) c)

-- pack takes the first 46 values and ignores more
checks_more : (k : ℕ) (fs : List Field) (word : ℕ) (vs more : List ℤ) → length fs ≤ length vs → pack_checks k fs word (vs ++ more) ≡ pack_checks k fs word vs
unfolding pack_checks
checks_more k [] word vs more l = refl
checks_more k (f ∷ fs) word [] more l = absurd (omega arith)
checks_more k (f ∷ fs) word (v ∷ vs) more l = rw (checks_more (suc k) fs word vs more (omega arith))

pack_more : (marks : FlagTable) (values more : List ℤ) (word rptin : ℕ) (ns out : List ℕ) → 46 ≤ length values
    → pack marks (values ++ more) word rptin ns out ≡ pack marks values word rptin ns out
unfolding pack pack_order pack_observation
pack_more marks values more word rptin ns out l =
    let n : 46 ≤ length (values ++ more) = omega (arith, length-append values more) in
    rw (
      take-append-le 46 values more l,
      checks_more 1 table word values more (rw table-length l),
      le-ltb (length (values ++ more)) 46 n,
      le-ltb (length values) 46 l,
    )

-- pack after unpack, of the two outputs as unpack left them
pub pack-unpacked : (marks : FlagTable) (b : List ℕ) (s : Observation) (vs : List ℤ) (ns out : List ℕ) → Bytes b → judge marks b ≡ Verdict.accepted s
    → 46 ≤ length vs → length (tail s) ≤ length ns → size s ≤ length out
    → pack marks (unpack marks b vs ns).values (presence s) s.rptin (take (length (tail s)) (unpack marks b vs ns).tail) out
    ≡ record { answer = Answer.accepted (pack_gives (size s)); out = over (take (size s) b) out }
pack-unpacked marks b s vs ns out bs j hv hn ho =
    let t = pack-after-unpack marks b s out bs j ho in
    let l = values_out_lem marks s (judged marks b s bs j).good in
    rw (
      unpack_accepted marks b s vs ns j hv hn,
      take-append_seam (tail s) (drop (length (tail s)) ns),
      pack_more marks (map value_or_zero s.values) _ (presence s) s.rptin (tail s) out (omega arith),
      ← t.1,
    )
    t.0

-- unpack after pack: what pack accepts is unpacked to what it was made of, the values of missing fields as 0
module _ (marks : FlagTable) (values : List ℤ) (word rptin : ℕ) (ns out : List ℕ) (r : rptin < 2 ^ 16)
    (e : first (pack_order marks (length out) values word rptin ns) ≡ none) where
  pub judge-pack : judge marks (pack marks values word rptin ns out).out ≡ Verdict.accepted (pack_observation values word rptin ns)
  unfolding pack
  judge-pack = rw e (judge-packing marks (pack_observation values word rptin ns) _ (pack_good marks (length out) values word rptin ns e r))

  pub unpack-after-pack : (vs : List ℤ) (ts : List ℕ) → 46 ≤ length vs → length ns ≤ length ts
      → unpack marks (pack marks values word rptin ns out).out vs ts
      ≡ unpacked
      (Answer.accepted (contents word (ones word) rptin (count_in ns) (size (pack_observation values word rptin ns)) (length ns)))
      (over (masked 1 word (take 46 values)) vs)
      (over ns ts)
  unfolding unpack_gives
  unpack-after-pack vs ts hv ht =
      let s = pack_observation values word rptin ns in
      let w = pack-presence marks (length out) values word rptin ns e in
      let t = pack-tail marks (length out) values word rptin ns e in
      let c : count_present s.values ≡ ones word = sym (count_ones 1 s.values) ∙ ap ones w in
      unpack_accepted marks (pack marks values word rptin ns out).out s vs ts judge-pack hv (rw t ht)
      ∙ rw (c, w, t, pack_rptin values word rptin ns, pack_count marks (length out) values word rptin ns e, pack_values values word rptin ns)

-- ---- the largest report

-- the values of a fresh report, and all fifteen ids: the flags with 16 nibbles, the others with 255
unfoldable pub largest : Observation
largest =
    with_attachments (fresh_observation (scaled (pos 1)) (scaled (pos 1900)) (scaled (pos 1)) (scaled (pos 0)) (scaled (pos 0)))
    (attachment 1 (replicate 16 0)
    ∷ map (λ (i : ℕ). attachment i (replicate 255 0)) (2 ∷ 3 ∷ 4 ∷ 5 ∷ 6 ∷ 7 ∷ 8 ∷ 9 ∷ 10 ∷ 11 ∷ 12 ∷ 13 ∷ 14 ∷ 15 ∷ []))

-- the most that a report takes (`size_range` of Report)
largest_size : size largest ≡ 1853
unfolding largest tail_nibbles attachment_nibbles
largest_size = size_is largest

largest_fine : (marks : FlagTable) → Fine marks [] largest.attachments
unfolding largest tail_nibbles attachment_nibbles attachment_checks first body_valid flags_valid flags_fit all_missing quality_code total_weight text_valid end_from state_after text_step at_end among all_nibbles
largest_fine marks =
    let list = largest.attachments in
    let w = checks_fine marks 15 1 [] (tail_nibbles list) (all_nibbles_lem (tail_nibbles list) refl) refl in
    subst (Fine marks []) (rw append-nil at (tail_reads list [])) w.fine

largest_good : (marks : FlagTable) → Good marks largest
unfolding largest in_range field_at table
largest_good marks =
    let g = fresh_good (scaled (pos 1)) (scaled (pos 1900)) (scaled (pos 1)) (scaled (pos 0)) (scaled (pos 0)) marks refl refl refl refl refl in
    record { rptin = g.rptin; fair = g.fair; present = g.present; fine = largest_fine marks }

-- FORMAT 3.3: both sizes are reached
pub least_reached : (marks : FlagTable) → (b : List ℕ) × Bytes b × (s : Observation) × (judge marks b ≡ Verdict.accepted s) × (size s ≡ 38)
unfolding in_range field_at table
least_reached marks =
    let s : Observation = fresh_observation (scaled (pos 1)) (scaled (pos 1900)) (scaled (pos 1)) (scaled (pos 0)) (scaled (pos 0)) in
    let g = fresh_good (scaled (pos 1)) (scaled (pos 1900)) (scaled (pos 1)) (scaled (pos 0)) (scaled (pos 0)) marks refl refl refl refl refl in
    (packing s, packing-bytes marks s g, s, rw append-nil at (judge-packing marks s [] g), fresh-size _ _ _ _ _)

pub most_reached : (marks : FlagTable) → (b : List ℕ) × Bytes b × (s : Observation) × (judge marks b ≡ Verdict.accepted s) × (size s ≡ 1853)
most_reached marks =
    (packing largest, packing-bytes marks largest (largest_good marks), largest, rw append-nil at (judge-packing marks largest [] (largest_good marks)), largest_size)
