-- What an accepted report that shows r gives to unpack, and each outcome of unpack.
-- Assumes nothing.
use Prim.Native.Nat.{ℕ, ◌+◌, ◌-◌, ◌*◌, ◌/◌, ◌%◌, ◌≤◌, ◌<◌}
use native.Mathlib.Omega.{arith}
use mathlib.Core.Path.{◌≡◌, sym, ap, ◌∙◌}
use mathlib.Core.Bool.{true, ◌||◌}
use mathlib.Core.Logic.{◌⊎◌, inl, inr}
use mathlib.Core.List.{List, ◌++◌, map}
use mathlib.Core.Option.{Option}
use lib.ListN.{length, take, drop, length-append}
use lib.Seq.{take-append_seam}
use lib.Dec.{ltb}
use lib.IntN.{ℤ}
use lib.Count.{ones}
use borrow.Author.Tests.{lt-ltb, le-ltb}
use Rattle.laws.proofs.Attachments.{attachments_length}
use Rattle.format.specs.Order.{Refusal}
use Rattle.format.specs.Field.{table, entries}
use Rattle.format.specs.Flags.{FlagTable}
use Rattle.format.specs.Nibbles.{nibbles}
use Rattle.format.specs.Observation.{Observation, packing, size}
use Rattle.format.specs.Report.{Verdict, observation_of, codes_of, rptin_of, count_of, tail_of}
use Rattle.format.specs.Calls.{Answer, over}
use Rattle.format.specs.Reply.{refusal}
use Rattle.format.specs.Whole.{value_or_zero, presence, presence_from, count_present, tail, unpacked, unpack_gives, unpacked_by, unpack_on, unpack}
use Rattle.report.specs.declared.Report.{Report}
use Rattle.std.specs.Prelude.{Err}
use Rattle.report.specs.Answers.{inspected}
use Rattle.report.specs.Found.{Found}
use Rattle.report.proofs.Outcomes.{judge_refused}
use Rattle.laws.proofs.Order.{first_fits}
use Rattle.format.specs.Bits.{Bytes}
use Rattle.laws.proofs.Report.{judged, size_is, size_range}
use Rattle.laws.proofs.Laid.{tail_taken}
use Rattle.laws.proofs.Presence.{count_ones}
use Rattle.laws.proofs.Whole.{unpack_accepted}
use Rattle.unpack.specs.Answers.{contents_numbers}

numbers_are : (w p rp c z t : ℕ) (s : Observation) → w ≡ presence s → p ≡ count_present s.values → rp ≡ s.rptin → c ≡ length s.attachments → z ≡ size s → t ≡ length (tail s)
    → contents_numbers (record { word = w; present = p; rptin = rp; attachments = c; bytes = z; nibbles = t }) ≡ unpack_gives s
unfolding unpack_gives
numbers_are w p rp c z t s e1 e2 e3 e4 e5 e6 = rw (e1, e2, e3, e4, e5, e6)

-- ---- the outcome of inspecting

pub unpack_refused : (marks : FlagTable) (b : List ℕ) (r : Refusal) (vs : List ℤ) (ts : List ℕ) → Err r ≡ inspected marks b 0
    → unpacked (Answer.refused r) vs ts ≡ unpack marks b vs ts
unfolding unpack
unpack_refused marks b r vs ts is = ap (λ (v : Verdict). unpack_on v vs ts) (sym (judge_refused marks b 0 r is))

-- ---- an accepted report

module _ (marks : FlagTable) (b : List ℕ) (r : Report) (bs : Bytes b) (f : Found marks b 0 r) where
  pub end_is : r.end ≡ 75 + length (tail (observation_of b))
  end_is = ap (λ (q : Report). q.end) f.is

  pub end_room : (38 ≤ length b) × (r.end ≤ 2 * length b) × (r.end ≤ 3706)
  end_room =
      let s : Observation = observation_of b in
      let t = judged marks b s bs f.judged in
      let range = size_range marks s t.good in
      let long : length b ≡ size s + length (drop (size s) b) = ap length t.starts ∙ length-append (packing s) (drop (size s) b) in
      (omega (arith, range.0, long), omega (arith, end_is, size_is s, long), omega (arith, end_is, size_is s, range.1))

  module _ (vs : List ℤ) (ts : List ℕ) where
    short : ltb (length vs) 46 || ltb (length ts) (length (tail (observation_of b))) ≡ true → unpacked (refusal 13 0) vs ts ≡ unpack marks b vs ts
    unfolding unpack
    short e =
        rw f.judged
        (ap (λ (o : Option Refusal). unpacked_by o (observation_of b) vs ts) (sym (first_fits _ _ e)))

    pub short_outputs : (length vs < 46) ⊎ ((46 ≤ length vs) × (length ts < r.end - 75)) → unpacked (refusal 13 0) vs ts ≡ unpack marks b vs ts
    short_outputs (inl h) = short (rw (lt-ltb (length vs) 46 h))
    short_outputs (inr h) = short (rw (le-ltb (length vs) 46 h.0, lt-ltb (length ts) (length (tail (observation_of b))) (omega (arith, end_is, h.1))))

    -- the values, the tail and the numbers are those of the observation
    pub all_given : (word rptin : ℕ) (us : List ℤ) (ns : List ℕ) → 46 ≤ length vs → r.end - 75 ≤ length ts
        → us ≡ over (map value_or_zero (entries table (codes_of b))) vs
        → word ≡ presence_from 1 (entries table (codes_of b))
        → ns ≡ take (r.end - 75) (drop 75 (nibbles b)) ++ drop (r.end - 75) ts
        → rptin ≡ rptin_of b
        → unpacked (Answer.accepted (contents_numbers (record {
          word = word;
          present = ones word;
          rptin = rptin;
          attachments = r.count;
          bytes = r.end / 2 + r.end % 2;
          nibbles = r.end - 75;
        }))) us ns ≡ unpack marks b vs ts
    unfolding observation_of
    all_given word rptin us ns hv hn eu ew en er =
        let s : Observation = observation_of b in
        let n : r.end - 75 ≡ length (tail s) = omega (arith, end_is) in
        let z : r.end / 2 + r.end % 2 ≡ size s = omega (arith, end_is, size_is s) in
        let c : r.count ≡ length s.attachments = ap (λ (q : Report). q.count) f.is ∙ sym (attachments_length (count_of b) (tail_of b)) in
        let t : take (length (tail s)) (tail_of b) ≡ tail s = ap (take (length (tail s))) (tail_taken marks b s bs f.judged) ∙ take-append_seam (tail s) _ in
        let ns-is : ns ≡ over (tail s) ts = en ∙ ap (λ (m : ℕ). take m (tail_of b) ++ drop m ts) n ∙ ap (λ (x : List ℕ). x ++ drop (length (tail s)) ts) t in
        let gives = numbers_are word (ones word) rptin r.count (r.end / 2 + r.end % 2) (r.end - 75) s ew (ap ones ew ∙ count_ones 1 s.values) er c z n in
        (λ i. unpacked (Answer.accepted (gives i)) (eu i) (ns-is i))
        ∙ sym (unpack_accepted marks b s vs ts f.judged hv (omega arith))
