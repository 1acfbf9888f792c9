-- The place of an attachment among those that begin at a place.
-- Assumes nothing.
use Prim.Native.Nat.{ℕ, ◌+◌, ◌-◌, ◌*◌, ◌≤◌}
use native.Mathlib.Omega.{arith}
use mathlib.Core.Path.{◌≡◌, refl, sym, ap, ◌∙◌}
use mathlib.Core.Bool.{true, false}
use mathlib.Core.List.{List, [], ◌∷◌, ◌++◌, append_assoc}
use lib.ListN.{length, drop, length-append}
use lib.Seq.{drop-drop, drop-append-add}
use lib.Dec.{eqb}
use borrow.Author.Tests.{eq-eqb}
use Rattle.format.specs.Flags.{FlagTable}
use Rattle.format.specs.Nibbles.{Attachment, attachment, nibbles, attachment_nibbles, tail_nibbles}
use Rattle.format.specs.Observation.{size}
use Rattle.format.specs.Report.{tail_of, observation_of, accepted, judge}
use Rattle.format.specs.Calls.{stands, content_of}
use Rattle.format.specs.Buffer.{zeros}
use Rattle.laws.proofs.Sequences.{or_false, test_case}
use Rattle.format.specs.Bits.{Bytes}
use Rattle.laws.proofs.Attachments.{tail-length, tail-append}
use Rattle.laws.proofs.AttachmentEdits.{Placed}
use Rattle.laws.proofs.Laid.{tail_taken}
use Rattle.tail.specs.Walk.{place_of}

module _ (i : ℕ) where
  -- it is 0 exactly where the id does not stand
  pub absent_at : (at : ℕ) (list : List Attachment) → 1 ≤ at → place_of at i list ≡ 0 → stands i list ≡ false
  unfolding place_of stands
  absent_at at [] h e = refl
  absent_at at (a ∷ more) h e =
      test_case (eqb a.id i)
      (λ q. let z : at ≡ 0 = rw q at e in absurd (omega arith))
      (λ q. rw q (absent_at (at + (3 + length a.content)) more (omega arith) (rw q at e)))

  pub stands_at : (at : ℕ) (list : List Attachment) → (place_of at i list ≡ 0 → ⊥) → stands i list ≡ true
  unfolding place_of stands
  stands_at at [] h = absurd (h refl)
  stands_at at (a ∷ more) h =
      test_case (eqb a.id i) (λ q. rw q) (λ q. rw q (stands_at (at + (3 + length a.content)) more (rw q at h)))

  -- it is behind the attachments before it
  place_past : (at : ℕ) (before rest : List Attachment) → stands i before ≡ false
      → place_of at i (before ++ rest) ≡ place_of (at + length (tail_nibbles before)) i rest
  unfolding place_of stands tail_nibbles
  place_past at [] rest h = let e : at ≡ at + 0 = omega arith in ap (λ (k : ℕ). place_of k i rest) e
  place_past at (a ∷ before) rest h =
      let p = or_false (eqb a.id i) (stands i before) h in
      let e : at + (3 + length a.content) + length (tail_nibbles before) ≡ at + length (tail_nibbles (a ∷ before)) = omega (arith, tail-length a before) in
      rw p.0 (place_past (at + (3 + length a.content)) before rest p.1 ∙ ap (λ (k : ℕ). place_of k i rest) e)

  pub place_is : (at : ℕ) {ns : List ℕ} {list : List Attachment} (p : Placed i ns list) → place_of at i list ≡ at + length (tail_nibbles p.before)
  unfolding place_of
  place_is at {ns} p = ap (place_of at i) p.splits ∙ place_past at p.before (attachment i ns ∷ p.after) p.clear ∙ rw (eq-eqb i i refl)

  -- the nibbles around it
  pub around : {ns : List ℕ} {list : List Attachment} (p : Placed i ns list)
      → tail_nibbles list ≡ tail_nibbles p.before ++ (attachment_nibbles (attachment i ns) ++ tail_nibbles p.after)
  unfolding tail_nibbles
  around {ns} p = ap tail_nibbles p.splits ∙ tail-append p.before (attachment i ns ∷ p.after)

-- ---- in an accepted report

module _ (marks : FlagTable) (b : List ℕ) (i : ℕ) (bs : Bytes b) (j : judge marks b ≡ accepted (observation_of b))
    (p : Placed i (content_of i (observation_of b).attachments) (observation_of b).attachments) where
  abbrev list : List Attachment
  list = (observation_of b).attachments

  abbrev content : List ℕ
  content = content_of i (observation_of b).attachments

  -- what follows the attachments
  abbrev pub beyond : List ℕ
  beyond = zeros (2 * size (observation_of b) - (75 + length (tail_nibbles list))) ++ drop (2 * size (observation_of b)) (nibbles b)

  pub tail-split : tail_of b ≡ tail_nibbles p.before ++ (attachment_nibbles (attachment i content) ++ (tail_nibbles p.after ++ beyond))
  tail-split = tail_taken marks b (observation_of b) bs j ∙ ap (λ (x : List ℕ). x ++ beyond) (around i p) ∙ simp append_assoc

  module _ (place : ℕ) (is : place ≡ place_of 75 i list) where
    -- its nibbles stand behind its header
    pub body_is : drop (place + 3) (nibbles b) ≡ content ++ (tail_nibbles p.after ++ beyond)
    unfolding attachment_nibbles
    body_is =
        let k : place + 3 ≡ 75 + (length (tail_nibbles p.before) + 3) = omega (arith, place_is i 75 p) in
        ap (λ (n : ℕ). drop n (nibbles b)) k
        ∙ sym (drop-drop (length (tail_nibbles p.before) + 3) 75 (nibbles b))
        ∙ ap (drop (length (tail_nibbles p.before) + 3)) tail-split
        ∙ drop-append-add (tail_nibbles p.before) (attachment_nibbles (attachment i content) ++ (tail_nibbles p.after ++ beyond)) 3

    -- and end within the attachments
    pub body_ends : place + (3 + length content) ≤ 75 + length (tail_nibbles list)
    unfolding attachment_nibbles
    body_ends =
        omega (
          arith,
          place_is i 75 p,
          ap length (around i p),
          length-append (tail_nibbles p.before) (attachment_nibbles (attachment i content) ++ tail_nibbles p.after),
          length-append (attachment_nibbles (attachment i content)) (tail_nibbles p.after),
        )
