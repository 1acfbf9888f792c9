-- Demand 3 as a theorem about the definitions: any list of calls on one buffer, refused ones included, is what is claimed
-- of it: the answers of the steps, the packing of the last observation, zeros to the longest end reached, and the bytes beyond.
-- Assumes nothing.
use Prim.Native.Nat.{ℕ, ◌+◌, ◌-◌, ◌≤◌, max}
use native.Mathlib.Omega.{arith}
use mathlib.Core.Path.{◌≡◌, refl, sym, ap, ap₂, ◌∙◌}
use mathlib.Core.Bool.{true, false}
use mathlib.Core.List.{List, [], ◌∷◌, ◌++◌, append_assoc}
use mathlib.Core.Option.{Option, none, some}
use lib.ListN.{length, drop, set, length-append, length-drop, length-replicate, replicate-append-replicate, drop_of_length-le}
use lib.Seq.{drop-drop}
use borrow.Author.Tests.{ltb-false, not-false}
use Rattle.format.specs.Order.{Refusal, first}
use Rattle.format.specs.Field.{field_at, required}
use Rattle.format.specs.Nibbles.{attachment}
use Rattle.format.specs.Flags.{FlagTable, flag_fits, with_flag}
use Rattle.format.specs.ShipText.{symbols_in, write_text}
use Rattle.format.specs.Observation.{Observation, packing, size}
use Rattle.format.specs.Report.{Verdict, judge, body_valid}
use Rattle.format.specs.Calls.{Call, Editing, reads, edits, fetches, set_field, clear_field, clear_with_indicators, set_flag, clear_flag, put, remove, put_text}
use Rattle.format.specs.Calls.{with_value, with_content, content, clears_of, clear_each, made, edited, after_edit, next}
use Rattle.format.specs.Calls.{shorter, overfull, outputs_of, writes, flag_number_check, id_check, length_check, content_check, stands_check, room_check, call_checks, checks, Answer, stepped_by, step}
use Rattle.format.specs.Machine.{Course, course}
use Rattle.format.specs.Buffer.{zeros, layout, buffer_after, After, after, effect, Shown, shown, performing, calls, Standing, standing, stepping, run, run_on, refusals, claim_on, claim}
use Rattle.laws.proofs.Machine.{courses_agree}
use Rattle.laws.proofs.Indicators.{AllOf, Free, clear_free, clears_free}
use Rattle.laws.proofs.Sequences.{or_false, drop-append, drop-replicate}
use Rattle.laws.proofs.Order.{between_in, first_none, first-append_none}
use Rattle.format.specs.declared.Scaled.{Scaled}
use Rattle.format.specs.Bits.{Bytes}
use Rattle.laws.proofs.Fields.{Fair, missing_fair, in_range_fair, fair_set, Present, present_some, present_none}
use Rattle.laws.proofs.Flags.{missing_fits, range_fits, valid_flags, flag_set-length, flag_set_valid, flag_set-nibbles}
use Rattle.laws.proofs.Attachments.{FineAt}
use Rattle.laws.proofs.AttachmentEdits.{put_fine, put_checked, remove_fine, content_fine}
use Rattle.laws.proofs.Report.{Good, judge-packing, judged, size-within}

-- ---- layouts

-- an accepted buffer is laid out as its own observation
pub layout_same : (marks : FlagTable) (b : List ℕ) (s : Observation) → Bytes b → judge marks b ≡ Verdict.accepted s → b ≡ layout b (size s) s
unfolding layout
layout_same marks b s bs j =
    let a1 : size s - size s ≡ 0 = omega arith in
    let a2 : max (size s) (size s) ≡ size s = omega arith in
    rw (a1, a2) (judged marks b s bs j).starts

n1 : (p q : ℕ) → max p q - p ≡ q - p
n1 p q = omega arith

n2 : (p q e : ℕ) → p ≤ e → (p - q) + (e - p - (q - p)) ≡ e - q
n2 p q e h = omega arith

n3 : (e q : ℕ) → max e q - q ≡ e - q
n3 e q = omega arith

n4 : (p q e : ℕ) → p ≤ e → (q - p) - (e - p) ≡ q - e
n4 p q e h = omega arith

n5 : (p q e : ℕ) → p ≤ e → max e p + (q - e) ≡ max (max e q) q
n5 p q e h = omega arith

-- laid out twice is laid out once, with zeros to the longer end
relayout : (b : List ℕ) (e : ℕ) (s t : Observation) → size s ≤ e → layout (layout b e s) (size s) t ≡ layout b (max e (size t)) t
unfolding layout
relayout b e s t h = parts (packing s) (packing t) h
  where
    parts : (p q : List ℕ) → length p ≤ e
        → q ++ (zeros (length p - length q) ++ drop (max (length p) (length q)) (p ++ (zeros (e - length p) ++ drop (max e (length p)) b)))
        ≡ q ++ (zeros (max e (length q) - length q) ++ drop (max (max e (length q)) (length q)) b)
    parts p q h =
        let d1 : drop (max (length p) (length q)) p ≡ [] = drop_of_length-le p {i = max (length p) (length q)} (omega arith) in
        let z1 : zeros (length p - length q) ++ zeros (e - length p - (length q - length p)) ≡ zeros (max e (length q) - length q) =
        replicate-append-replicate (length p - length q) (e - length p - (length q - length p)) 0
        ∙ ap zeros (n2 (length p) (length q) e h ∙ sym (n3 e (length q))) in
        rw (
          drop-append (max (length p) (length q)) p (zeros (e - length p) ++ drop (max e (length p)) b),
          d1,
          n1 (length p) (length q),
          drop-append (length q - length p) (zeros (e - length p)) (drop (max e (length p)) b),
          length-replicate {A = ℕ} (e - length p) 0,
          drop-replicate {A = ℕ} (length q - length p) (e - length p) 0,
          drop-drop (length q - length p - (e - length p)) (max e (length p)) b,
          n4 (length p) (length q) e h,
          n5 (length p) (length q) e h,
          ← z1,
          append_assoc,
        )

layout-length : (b : List ℕ) (e : ℕ) (s : Observation) → size s ≤ e → e ≤ length b → length (layout b e s) ≡ length b
unfolding layout
layout-length b e s h k = simp (length-append, length-replicate, length-drop) (omega arith)

pub judge-layout : (marks : FlagTable) (b : List ℕ) (e : ℕ) (s : Observation) → Good marks s → judge marks (layout b e s) ≡ Verdict.accepted s
unfolding layout
judge-layout marks b e s g = judge-packing marks s _ g

-- ---- a step keeps the observation good, and within the buffer

pub record Kept (marks : FlagTable) (n : ℕ) (s : Observation) : Type 0 where
  pub good : Good marks s
  pub fits : size s ≤ n

value_good : (marks : FlagTable) (s : Observation) (k : ℕ) (e : Option Scaled) → Good marks s → Fair (field_at k) e → Present 1 (set s.values (k - 1) e) → Good marks (with_value s k e)
unfolding field_at
value_good marks s k e g f p = record { rptin = g.rptin; fair = fair_set g.fair (k - 1) e f; present = p; fine = g.fine }

content_good : (marks : FlagTable) (s : Observation) (i : ℕ) (ns : List ℕ) → Good marks s → FineAt marks (attachment i ns) → Good marks (with_content s i ns)
content_good marks s i ns g f = record { rptin = g.rptin; fair = g.fair; present = g.present; fine = put_fine marks i ns f g.fine }

put_good : (marks : FlagTable) (s : Observation) (i : ℕ) (ns : List ℕ) → Good marks s → (id_check i).fits ≡ false → (length_check ns).fits ≡ false → (content_check marks i ns).fits ≡ false
    → Good marks (with_content s i ns)
put_good marks s i ns g h l c = content_good marks s i ns g (put_checked marks i ns (not-false _ h) (not-false _ l) (not-false _ c))

flag_good : (marks : FlagTable) (s : Observation) (j v : ℕ) → Good marks s → (flag_number_check j).fits ≡ false → flag_fits marks j v ≡ true → (stands_check s 1).fits ≡ false
    → Good marks (with_content s 1 (with_flag (content s 1) j v))
unfolding body_valid
flag_good marks s j v g f h c =
    let old = (content_fine marks 1 g.fine (not-false _ c)).valid in
    let low = (between_in 1 14 j _ refl f).0 in
    let long = flag_set-length (content s 1) j v (valid_flags marks (content s 1) old).long in
    content_good marks s 1 (with_flag (content s 1) j v) g
    (record {
      filled = omega arith;
      short = omega arith;
      nibbles = flag_set-nibbles (content s 1) j v marks old low h;
      low = omega arith;
      high = omega arith;
      valid = flag_set_valid (content s 1) j v marks old low h;
    })

clear_good : (marks : FlagTable) (s : Observation) (k : ℕ) → Good marks s → Free k → Good marks (with_value s k none)
clear_good marks s k g f =
    let low = f.low in
    let at : 1 + (k - 1) ≡ k = omega arith in
    value_good marks s k none g (missing_fair (field_at k)) (present_none 1 s.values (k - 1) (ap required at ∙ f.optional) g.present)

clears_good : (marks : FlagTable) (ks : List ℕ) (s : Observation) → Good marks s → AllOf Free ks → Good marks (clear_each s ks)
unfolding clear_each
clears_good marks [] s g a = g
clears_good marks (k ∷ ks) s g a = clears_good marks ks (with_value s k none) (clear_good marks s k g a.0) a.1

made_good : (marks : FlagTable) (s : Observation) (e : Editing) → Good marks s → first (call_checks marks s (edits e)) ≡ none → Good marks (made s e)
unfolding made call_checks
made_good marks s (set_field k v) g e =
    let c1 = first_none _ _ e in
    let c2 = first_none _ _ c1.1 in
    value_good marks s k (some v) g (in_range_fair (field_at k) v (not-false _ c2.0)) (present_some 1 s.values (k - 1) v g.present)
made_good marks s (clear_field k) g e = clear_good marks s k g (clear_free k e)
made_good marks s (clear_with_indicators k) g e = clears_good marks (clears_of s k) s g (clears_free s k (clear_free k e))
made_good marks s (set_flag j v) g e =
    let c1 = first_none _ _ e in
    let c2 = first_none _ _ c1.1 in
    let c3 = first_none _ _ c2.1 in
    flag_good marks s j v g c1.0 (range_fits marks j v (not-false _ c2.0)) c3.0
made_good marks s (clear_flag j) g e =
    let c1 = first_none _ _ e in
    let c2 = first_none _ _ c1.1 in
    flag_good marks s j 0 g c1.0 (missing_fits marks j) c2.0
made_good marks s (put i ns) g e =
    let c1 = first_none _ _ e in
    let c2 = first_none _ _ c1.1 in
    let c3 = first_none _ _ c2.1 in
    put_good marks s i ns g c1.0 c2.0 c3.0
made_good marks s (remove i) g e = record { rptin = g.rptin; fair = g.fair; present = g.present; fine = remove_fine marks i g.fine }
made_good marks s (put_text t os) g e =
    let c1 = first_none _ _ e in
    let c2 = first_none _ _ c1.1 in
    let c3 = first_none _ _ c2.1 in
    let c4 = first_none _ _ c3.1 in
    put_good marks s 4 (write_text (symbols_in t os)) g refl c3.0 c4.0

next_good : (marks : FlagTable) (s : Observation) (c : Call) → Good marks s → first (call_checks marks s c) ≡ none → Good marks (next s c)
next_good marks s (reads r) g e = g
next_good marks s (edits x) g e = made_good marks s x g e
next_good marks s (fetches f) g e = g

pub step_kept : (marks : FlagTable) (n : ℕ) (s : Observation) (c : Call) → Kept marks n s → Kept marks n (step marks n s c).observation
unfolding step
step_kept marks n s c k = go (first (checks marks n s c)) refl
  where
    within : (o : Option Observation) → shorter n o ≡ false → size (after_edit s o) ≤ n
    within none e = k.fits
    within (some t) e = ltb-false n (size t) e

    go : (o : Option Refusal) → first (checks marks n s c) ≡ o → Kept marks n (stepped_by o s c).observation
    go (some r) e = k
    go none e =
        let f = first-append_none (call_checks marks s c) (room_check n s c ∷ []) (unfold checks in e) in
        let room = or_false (shorter n (edited s c)) (overfull (writes s c) (outputs_of c)) (first_none (room_check n s c) [] f.1).0 in
        record { good = next_good marks s c k.good f.0; fits = within (edited s c) room.0 }

-- ---- the whole list

-- what a step leaves of a laid-out buffer
step-laid : (marks : FlagTable) (b : List ℕ) (s : Observation) (e : ℕ) (c : Call) → size s ≤ e
    → (let t = step marks (length b) s c in
    buffer_after t.answer (layout b e s) (size s) t.observation ≡ layout b (max e (size t.observation)) t.observation)
unfolding step
step-laid marks b s e c h = go (first (checks marks (length b) s c))
  where
    go : (o : Option Refusal)
        → (let t = stepped_by o s c in
        buffer_after t.answer (layout b e s) (size s) t.observation ≡ layout b (max e (size t.observation)) t.observation)
    go (some r) = let m : e ≡ max e (size s) = omega arith in ap (λ (n : ℕ). layout b n s) m
    go none = relayout b e s (next s c) h

-- the machine and the buffer agree: the buffer b₀ is laid out as the machine stands
record Agrees (marks : FlagTable) (b₀ : List ℕ) (m : Standing) (b : List ℕ) : Type 0 where
  kept : Kept marks (length b₀) m.observation
  reached : size m.observation ≤ m.longest
  within : m.longest ≤ length b₀
  laid : b ≡ layout b₀ m.longest m.observation

-- one call
one : (marks : FlagTable) (b₀ : List ℕ) (m : Standing) (b : List ℕ) (c : Call) → Agrees marks b₀ m b
    → ((performing marks b c).answer ≡ (stepping marks (length b₀) m c).answer) × Agrees marks b₀ (stepping marks (length b₀) m c).state (performing marks b c).state
one marks b₀ m b c g =
    let s = m.observation in
    let t = step marks (length b₀) s c in
    let e = max m.longest (size t.observation) in
    let k = step_kept marks (length b₀) s c g.kept in
    let f : effect marks b c ≡ after t.answer (layout b₀ e t.observation) t.outs =
    ap (λ (x : List ℕ). effect marks x c) g.laid
    ∙ (unfold effect in rw (judge-layout marks b₀ m.longest s g.kept.good, layout-length b₀ m.longest s g.reached g.within, step-laid marks b₀ s m.longest c g.reached)) in (
      ap (λ (a : After). shown a.answer a.outs) f,
      record { kept = k; reached = omega arith; within = omega (arith, k.fits, g.within); laid = ap (λ (a : After). a.buffer) f },
    )

accepted_list : (marks : FlagTable) (b : List ℕ) (s : Observation) (cs : List Call) → Bytes b → judge marks b ≡ Verdict.accepted s
    → calls marks b cs ≡ run_on b (run marks (length b) (standing s (size s)) cs)
unfolding calls run
accepted_list marks b s cs bs j =
    let f = size-within marks b s bs j in
    let start : Agrees marks b (standing s (size s)) b =
    record { kept = record { good = (judged marks b s bs j).good; fits = f }; reached = omega arith; within = f; laid = layout_same marks b s bs j } in
    let r = courses_agree (stepping marks (length b)) (performing marks) (Agrees marks b) (one marks b) cs (standing s (size s)) b start in
    ap₂ (λ (x : List Shown) (y : List ℕ). record { answers = x; state = y }) r.0 r.1.laid

refused_list : (marks : FlagTable) (b : List ℕ) (r : Refusal) (cs : List Call) → judge marks b ≡ Verdict.refused r → calls marks b cs ≡ record { answers = refusals r cs; state = b }
unfolding calls course effect
refused_list marks b r [] j = refl
refused_list marks b r (c ∷ cs) j =
    rw j
    (ap (λ (x : Course (List ℕ) Shown). record { answers = shown (Answer.refused r) (outputs_of c) ∷ x.answers; state = x.state }) (refused_list marks b r cs j))

claim_of : (marks : FlagTable) (b : List ℕ) (cs : List Call) (v : Verdict) → Bytes b → judge marks b ≡ v → calls marks b cs ≡ claim_on marks v b cs
claim_of marks b cs (Verdict.refused r) bs j = refused_list marks b r cs j
claim_of marks b cs (Verdict.accepted s) bs j = accepted_list marks b s cs bs j

-- THE WHOLE LIST
pub whole_list : (marks : FlagTable) (b : List ℕ) (cs : List Call) → Bytes b → calls marks b cs ≡ claim marks b cs
unfolding claim
whole_list marks b cs bs = claim_of marks b cs (judge marks b) bs refl
