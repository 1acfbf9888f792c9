-- Clear with indicators: it answers as clear field does, it leaves what the clears leave for which it stands, and afterwards no
-- indicator that rests on the field is found. What the finding call writes ascends.
-- Assumes nothing.
use Prim.Native.Nat.{ℕ, ◌+◌, ◌/◌, ◌≤◌, max}
use native.Mathlib.Omega.{arith}
use mathlib.Core.Path.{◌≡◌, refl, sym, ap, subst, ◌∙◌}
use mathlib.Core.Bool.{true, false, not, ◌||◌}
use mathlib.Core.List.{List, [], ◌∷◌, ◌++◌, map}
use mathlib.Core.Option.{Option, none, some}
use lib.ListN.{length, take}
use lib.Seq.{take_at}
use lib.Dec.{ltb}
use lib.IntN.{ℤ, nat_abs}
use borrow.Author.Tests.{le-ltb}
use Rattle.format.specs.Order.{Refusal, Check, first}
use Rattle.format.specs.Bits.{Bytes}
use Rattle.format.specs.Flags.{FlagTable}
use Rattle.format.specs.Nibbles.{Attachment, tail_nibbles, among}
use Rattle.format.specs.Observation.{Observation, size}
use Rattle.format.specs.Report.{observation_of, Verdict, judge}
use Rattle.format.specs.Indicators.{resting_on}
use Rattle.format.specs.Calls.{Call, edits, clear_field, clear_with_indicators, with_value, stands, clears_of, clear_each, made, overfull, writes, outputs_of, Given, gives, counted, count}
use Rattle.format.specs.Calls.{field_number_check, required_check, clear_checks, call_checks, room_check, checks, Answer, stepped_by, step}
use Rattle.format.specs.Machine.{Course, course}
use Rattle.format.specs.Buffer.{layout, buffer_after, After, after, effect_on, effect, Shown, calls, Standing, standing, stepping, run, claim}
use Rattle.format.specs.Whole.{wrote_by}
use Rattle.format.specs.Finding.{lost_indicators, found, find_checks, find_on, find, ascending_from, Ascends, clear_calls, Clears, AsClears}
use Rattle.laws.proofs.Sequences.{cond_case}
use Rattle.laws.proofs.Order.{range_fine, first-nil, no_check, first-append_none}
use Rattle.laws.proofs.Report.{passes, size_is, size-within}
use Rattle.laws.proofs.Indicators.{AllOf, Free, clear_free, clears_free, clears_one, cleared_attachments, none_left, clears, found_ascends}
use Rattle.laws.proofs.WholeList.{whole_list}
use Rattle.laws.proofs.Effects.{refused_accepted, Accepts, accepts}

-- ---- sizes

-- a report's size does not depend on its values
pub cleared-size : (s : Observation) (ks : List ℕ) → size (clear_each s ks) ≡ size s
cleared-size s ks =
    size_is (clear_each s ks) ∙ ap (λ (l : List Attachment). (75 + length (tail_nibbles l) + 1) / 2) (cleared_attachments s ks) ∙ sym (size_is s)

one_size : (s : Observation) (k : ℕ) → size (with_value s k none) ≡ size s
unfolding clear_each
one_size s k = cleared-size s (k ∷ [])

-- ---- the answer

-- the checks are those of clear field: what both make has the same size, so that 13 asks for the same room
same_checks : (marks : FlagTable) (n : ℕ) (s : Observation) (k : ℕ)
    → checks marks n s (edits (clear_with_indicators k)) ≡ checks marks n s (edits (clear_field k))
unfolding checks call_checks made writes outputs_of overfull
same_checks marks n s k =
    ap (λ (m : ℕ). clear_checks k ++ (record { fits = ltb n m || false; refusal = record { number = 13; place = 0 } } ∷ []))
    (cleared-size s (clears_of s k) ∙ sym (one_size s k))

pub answers_clear : (marks : FlagTable) (b : List ℕ) (k : ℕ) → (effect marks b (edits (clear_with_indicators k))).answer ≡ (effect marks b (edits (clear_field k))).answer
unfolding effect
answers_clear marks b k = go (judge marks b)
  where
    by : (s : Observation) (o : Option Refusal) → (stepped_by o s (edits (clear_with_indicators k))).answer ≡ (stepped_by o s (edits (clear_field k))).answer
    by s (some r) = refl
    by s none = unfold gives in refl

    go : (v : Verdict) → (effect_on marks v b (edits (clear_with_indicators k))).answer ≡ (effect_on marks v b (edits (clear_field k))).answer
    go (Verdict.refused r) = refl
    go (Verdict.accepted s) =
        unfold step in
        ap (λ (cs : List Check). (stepped_by (first cs) s (edits (clear_with_indicators k))).answer) (same_checks marks (length b) s k)
        ∙ by s (first (checks marks (length b) s (edits (clear_field k))))

-- ---- the buffer

-- a field that may be cleared passes the checks of clear field, on any buffer that holds the report
clear_passes : (marks : FlagTable) (n : ℕ) (s : Observation) (k : ℕ) → Free k → size s ≤ n → first (checks marks n s (edits (clear_field k))) ≡ none
unfolding checks call_checks made writes outputs_of overfull
clear_passes marks n s k f h =
    let z = one_size s k in
    no_check (field_number_check k) _ (ap not (range_fine 1 46 k f.low f.high))
    (no_check (required_check k) _ f.optional
    (no_check (room_check n s (edits (clear_field k))) [] (rw (le-ltb n (size (with_value s k none)) (omega arith))) first-nil))

-- and is cleared
clear_moves : (marks : FlagTable) (n e : ℕ) (s : Observation) (k : ℕ) → Free k → size s ≤ n → size s ≤ e
    → (stepping marks n (standing s e) (edits (clear_field k))).state ≡ standing (with_value s k none) e
unfolding step made
clear_moves marks n e s k f h l =
    let z = one_size s k in
    let m : max e (size (with_value s k none)) ≡ e = omega arith in
    rw (clear_passes marks n s k f h) (ap (λ (x : ℕ). standing (with_value s k none) x) m)

-- the plain machine over clears
run_clears : (marks : FlagTable) (n e : ℕ) (ks : List ℕ) (s : Observation) → AllOf Free ks → size s ≤ n → size s ≤ e
    → (run marks n (standing s e) (map (λ (i : ℕ). edits (clear_field i)) ks)).state ≡ standing (clear_each s ks) e
unfolding run course clear_each
run_clears marks n e [] s a h l = refl
run_clears marks n e (k ∷ ks) s a h l =
    let t = with_value s k none in
    let z = one_size s k in
    ap (λ (w : Standing). (course (stepping marks n) w (map (λ (i : ℕ). edits (clear_field i)) ks)).state) (clear_moves marks n e s k a.0 h l)
    ∙ run_clears marks n e ks t a.1 (omega arith) (omega arith)

module _ (marks : FlagTable) (b : List ℕ) (bs : Bytes b) (k : ℕ) where
  -- what the clears leave
  cleared_list : (s : Observation) → judge marks b ≡ Verdict.accepted s → (ks : List ℕ) → AllOf Free ks
      → (calls marks b (map (λ (i : ℕ). edits (clear_field i)) ks)).state ≡ layout b (size s) (clear_each s ks)
  cleared_list s j ks a =
      ap (λ (c : Course (List ℕ) Shown). c.state) (whole_list marks b _ bs)
      ∙ (unfold claim in rw j (ap (λ (m : Standing). layout b m.longest m.observation) (run_clears marks (length b) (size s) ks s a (size-within marks b s bs j) (omega arith))))

  -- what a call leaves, by the first of its checks that fits
  buffer_by : (s : Observation) (c : Call) (o : Option Refusal) → judge marks b ≡ Verdict.accepted s → first (checks marks (length b) s c) ≡ o
      → (effect marks b c).buffer ≡ buffer_after (stepped_by o s c).answer b (size s) (stepped_by o s c).observation
  unfolding effect step
  buffer_by s c o j e = rw (j, e)

  -- where clear field is refused, it is the only clear, and nothing changes
  refused_list : (s : Observation) (r : Refusal) → judge marks b ≡ Verdict.accepted s → first (checks marks (length b) s (edits (clear_field k))) ≡ some r
      → (calls marks b (map (λ (i : ℕ). edits (clear_field i)) (clears_of s k))).state ≡ b
  unfolding calls course
  refused_list s r j e =
      let bound : Free k → ⊥ = λ f. let q = sym e ∙ clear_passes marks (length b) s k f (size-within marks b s bs j) in let z : ◌≡◌ {A = ℕ} 0 1 = cc in omega arith in
      rw (clears_one s k bound) (buffer_by s (edits (clear_field k)) (some r) j e)

  pub leaves_clears : (effect marks b (edits (clear_with_indicators k))).buffer ≡ (calls marks b (clear_calls b k)).state
  unfolding made
  leaves_clears = go (judge marks b) refl
    where
      by : (s : Observation) → judge marks b ≡ Verdict.accepted s → (o : Option Refusal) → first (checks marks (length b) s (edits (clear_field k))) ≡ o
          → (effect marks b (edits (clear_with_indicators k))).buffer ≡ (calls marks b (map (λ (i : ℕ). edits (clear_field i)) (clears_of s k))).state
      by s j none e =
          let passed = (first-append_none (clear_checks k) (room_check (length b) s (edits (clear_field k)) ∷ []) (unfold checks call_checks in e)).0 in
          buffer_by s (edits (clear_with_indicators k)) none j (ap first (same_checks marks (length b) s k) ∙ e) ∙ sym (cleared_list s j (clears_of s k) (clears_free s k (clear_free k passed)))
      by s j (some r) e = buffer_by s (edits (clear_with_indicators k)) (some r) j (ap first (same_checks marks (length b) s k) ∙ e) ∙ sym (refused_list s r j e)

      go : (v : Verdict) → judge marks b ≡ v → (effect marks b (edits (clear_with_indicators k))).buffer ≡ (calls marks b (clear_calls b k)).state
      go (Verdict.refused r) j =
          let left : (effect marks b (edits (clear_with_indicators k))).buffer ≡ b = unfold effect in rw j in
          let kept : (claim marks b (clear_calls b k)).state ≡ b = unfold claim in rw j in
          left ∙ sym (ap (λ (c : Course (List ℕ) Shown). c.state) (whole_list marks b (clear_calls b k) bs) ∙ kept)
      go (Verdict.accepted s) j =
          by s j (first (checks marks (length b) s (edits (clear_field k)))) refl
          ∙ ap (λ (x : Observation). (calls marks b (map (λ (i : ℕ). edits (clear_field i)) (clears_of x k))).state) (sym (passes marks b s j).1)

-- ---- what is found

-- the first number that an answer gives
first_given : Answer → ℕ
first_given (Answer.refused r) = 0
first_given (Answer.accepted []) = 0
first_given (Answer.accepted (g ∷ gs)) = optionally g.number
  where
    optionally : Option ℤ → ℕ
    optionally none = 0
    optionally (some z) = nat_abs z

-- what the finding call wrote, where it is accepted
found_these : (marks : FlagTable) (b out : List ℕ) (n : ℕ) → (find marks b out).answer ≡ Answer.accepted (counted count n ∷ [])
    → take n (find marks b out).out ≡ found (observation_of b)
unfolding find first_given
found_these marks b out n = go (judge marks b) refl
  where
    by : (s : Observation) (o : Option Refusal) → (wrote_by o (counted count (length (found s)) ∷ []) (found s) out).answer ≡ Answer.accepted (counted count n ∷ [])
        → take n (wrote_by o (counted count (length (found s)) ∷ []) (found s) out).out ≡ found s
    by s (some r) e = refused_accepted r _ e
    by s none e = let same : length (found s) ≡ n = ap first_given e in take_at (found s) _ n same

    go : (v : Verdict) → judge marks b ≡ v → (find_on v out).answer ≡ Answer.accepted (counted count n ∷ []) → take n (find_on v out).out ≡ found (observation_of b)
    go (Verdict.refused r) j e = refused_accepted r _ e
    go (Verdict.accepted s) j e = by s (first (find_checks s out)) e ∙ ap found (sym (passes marks b s j).1)

pub find_ascends : (marks : FlagTable) (b out : List ℕ) → Ascends (find marks b out)
find_ascends marks b out n e = ap (ascending_from 0) (found_these marks b out n e) ∙ found_ascends (observation_of b)

-- nothing is found but what is left without its data
found_among : (x : ℕ) (s : Observation) → among x (lost_indicators s) ≡ false → among x (found s) ≡ false
unfolding found
found_among x s h = cond_case (λ (xs : List ℕ). among x xs ≡ false) (stands 5 s.attachments) [] (lost_indicators s) (λ _. unfold among in refl) (λ _. h)

-- ---- the promise of clear with indicators

made-left : (s : Observation) (k i : ℕ) → among i (resting_on k) ≡ true → among i (lost_indicators (made s (clear_with_indicators k))) ≡ false
unfolding made
made-left s k i r = none_left s k i r

made_clears : (marks : FlagTable) (s : Observation) (k : ℕ) → first (call_checks marks s (edits (clear_with_indicators k))) ≡ none → Clears k s (made s (clear_with_indicators k))
unfolding made call_checks
made_clears marks s k passed = clears s k (clear_free k passed)

pub as_clears : (marks : FlagTable) (b : List ℕ) → Bytes b → (k : ℕ) (a : Answer) (d : List ℕ) → after a d [] ≡ effect marks b (edits (clear_with_indicators k)) → AsClears marks b k a d
as_clears marks b bs k a d e =
    record {
      answers = ap (λ (x : After). x.answer) e ∙ answers_clear marks b k;
      leaves = ap (λ (x : After). x.buffer) e ∙ leaves_clears marks b bs k;
      values = λ gs q.
          let c = taken gs q in
          subst (λ (s : Observation). Clears k s (observation_of d)) (sym (passes marks b c.from c.judges).1)
          (subst (λ (s : Observation). Clears k c.from s) (sym c.left) (made_clears marks c.from k c.passed));
      none_left = left;
      none_found = λ gs q i r out n f. ap (among i) (found_these marks d out n f) ∙ found_among i (observation_of d) (left gs q i r);
    }
  where
    taken : (gs : List Given) → a ≡ Answer.accepted gs → Accepts marks b (edits (clear_with_indicators k)) gs d
    taken gs q = accepts marks b bs (edits (clear_with_indicators k)) gs d [] (ap (λ (x : Answer). after x d []) (sym q) ∙ e)

    left : (gs : List Given) → a ≡ Answer.accepted gs → (i : ℕ) → among i (resting_on k) ≡ true → among i (lost_indicators (observation_of d)) ≡ false
    left gs q i r = let c = taken gs q in ap (λ (s : Observation). among i (lost_indicators s)) c.left ∙ made-left c.from k i r
