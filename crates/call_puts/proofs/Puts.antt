-- The calls that put: each return of one is the call's effect.
-- Assumes nothing.
use Prim.Native.Nat.{ℕ, ◌≤◌, ◌<◌}
use native.Mathlib.Omega.{arith}
use mathlib.Core.Path.{◌≡◌, refl, sym, ap, ap₂, ◌∙◌}
use mathlib.Core.Bool.{Bool, true, false, not, cond, ◌&&◌}
use mathlib.Core.List.{List, [], ◌∷◌, ◌++◌}
use mathlib.Core.Option.{none}
use lib.ListN.{length, take, drop, length-append}
use lib.Seq.{take_at}
use lib.Dec.{leb}
use borrow.Author.Tests.{leb-true, leb-false, eq-eqb, ne_eqb, not-false}
use Rattle.format.specs.Bits.{Bytes}
use Rattle.format.specs.Order.{first, between, all_marks}
use Rattle.format.specs.Flags.{FlagTable}
use Rattle.format.specs.Nibbles.{attachment}
use Rattle.format.specs.ShipText.{Symbol, symbols_in, all_admitted, write_text}
use Rattle.format.specs.Observation.{Observation, size}
use Rattle.format.specs.Report.{observation_of, body_valid}
use Rattle.format.specs.Calls.{Editing, edits, made, put, put_text, gives, outputs_of, all_nibbles, with_content, id_check, length_check, content_check}
use Rattle.format.specs.Calls.{paired_check, symbols_check, call_checks, Answer}
use Rattle.format.specs.Buffer.{layout, after, effect}
use Rattle.format.specs.Reply.{refusal, refusal_of, answer_of}
use Rattle.format.specs.declared.Refusal.{Refusal}
use Rattle.format.specs.declared.Refusal.TheVariants.{Length, Room, Content}
use Rattle.format.specs.declared.Outcome.{Outcome}
use Rattle.format.specs.declared.Outcome.TheVariants.{Nothing, Nibbles}
use Rattle.std.specs.Prelude.{Result, Ok, Err}
use Rattle.laws.proofs.Sequences.{and_true}
use Rattle.laws.proofs.Order.{range_low, range_high, range_fine, first-nil, no_check, no_checks}
use Rattle.laws.proofs.ShipText.{text_valid_lem, text_all_nibbles}
use Rattle.laws.proofs.Attachments.{FineAt}
use Rattle.laws.proofs.AttachmentEdits.{put_checked}
use Rattle.laws.proofs.Effects.{call_refuses, edit_done, edit_room}
use Rattle.text_writer.specs.Answers.{written_of, Writes}
use Rattle.report.specs.declared.Report.{Report}
use Rattle.report.specs.Found.{Found}
use Rattle.call_attachments.specs.Edit.{has_room, room_answer, putting}

-- ---- the checks passed

content_passes : (marks : FlagTable) (i : ℕ) (ns : List ℕ) → all_nibbles ns && body_valid marks i ns ≡ true → first (content_check marks i ns ∷ []) ≡ none
content_passes marks i ns valid = no_check (content_check marks i ns) [] (ap not valid) first-nil

-- what the answer to a put says of its room
full_by : (t : Bool) (e : Refusal) → Err e ≡ room_answer t → (t ≡ false) × (e ≡ Room)
full_by true e q = let z : ◌≡◌ {A = ℕ} 0 1 = cc in absurd (omega arith)
full_by false e q = (refl, cc)

room_by : (t : Bool) (u : Unit {0}) → Ok u ≡ room_answer t → t ≡ true
room_by true u q = refl
room_by false u q = let z : ◌≡◌ {A = ℕ} 0 1 = cc in absurd (omega arith)

module _ (marks : FlagTable) {b : List ℕ} {j : ℕ} {r : Report} (bs : Bytes b) (f : Found marks b j r) where
  -- a call that puts, when only 13 is left: with room and without
  module _ (e : Editing) (i : ℕ) (ns : List ℕ) (is : made (observation_of b) e ≡ with_content (observation_of b) i ns)
      (passed : first (call_checks marks (observation_of b) (edits e)) ≡ none) {b' : List ℕ} (put : b' ≡ putting b i ns) where
    abbrev t : Observation
    t = with_content (observation_of b) i ns

    putting_done : (u : Unit {0}) → Ok u ≡ room_answer (has_room b i ns) → after (Answer.accepted (gives (observation_of b) (edits e))) b' [] ≡ effect marks b (edits e)
    putting_done u h =
        let s = observation_of b in
        let q : leb (size t) (length b) ≡ true = room_by (has_room b i ns) u h in
        let laid : b' ≡ layout b (size s) t = rw q at put in
        edit_done marks b s bs f.judged e b' passed (rw is (leb-true (size t) (length b) q)) (laid ∙ ap (layout b (size s)) (sym is))

    putting_full : (x : Refusal) → Err x ≡ room_answer (has_room b i ns) → after (answer_of (Err x)) b' [] ≡ effect marks b (edits e)
    putting_full x h =
        let full = full_by (has_room b i ns) x h in
        let q : leb (size t) (length b) ≡ false = full.0 in
        let same : b' ≡ b = rw q at put in
        ap₂ (λ (y : Refusal) (l : List ℕ). after (Answer.refused (refusal_of y)) l []) full.1 same
        ∙ edit_room marks b (observation_of b) bs f.judged e passed (rw is (leb-false (size t) (length b) q))

    -- either, as an answer of a call: what is done with room, 13 without
    putting-effect : (room : Bool) → room ≡ has_room b i ns → (done r : Result Outcome Refusal)
        → answer_of done ≡ Answer.accepted (gives (observation_of b) (edits e)) → r ≡ cond room done (Err Room)
        → after (answer_of r) b' [] ≡ effect marks b (edits e)
    putting-effect true h done r g a =
        ap (λ (x : Answer). after x b' []) (ap answer_of a ∙ g) ∙ putting_done tt (ap room_answer h)
    putting-effect false h done r g a =
        ap (λ (x : Result Outcome Refusal). after (answer_of x) b' []) a ∙ putting_full Room (ap room_answer h)

  module _ (ns : List ℕ) (known : not (between 1 15 j) ≡ false) where
    pub put_length : (t : Bool) → t ≡ between 1 255 (length ns) → not t ≡ true → after (refusal 12 0) b [] ≡ effect marks b (edits (put j ns))
    unfolding call_checks outputs_of
    put_length t e h =
        call_refuses marks b (observation_of b) (edits (put j ns)) bs f.judged (id_check j ∷ []) (length_check ns) (content_check marks j ns ∷ []) refl
        (no_check (id_check j) _ known first-nil) (ap not (sym e) ∙ h)

    module _ (sized : not (between 1 255 (length ns)) ≡ false) where
      pub put_invalid : (t : Bool) → t ≡ all_nibbles ns && body_valid marks j ns → not t ≡ true → after (refusal 14 0) b [] ≡ effect marks b (edits (put j ns))
      unfolding call_checks outputs_of
      put_invalid t e h =
          call_refuses marks b (observation_of b) (edits (put j ns)) bs f.judged (id_check j ∷ length_check ns ∷ []) (content_check marks j ns) [] refl
          (no_check (id_check j) _ known (no_check (length_check ns) [] sized first-nil)) (ap not (sym e) ∙ h)

      module _ (valid : all_nibbles ns && body_valid marks j ns ≡ true) where
        pub put_fine_at : FineAt marks (attachment j ns)
        put_fine_at = put_checked marks j ns (not-false (between 1 15 j) known) (not-false (between 1 255 (length ns)) sized) valid

        put_passes : first (call_checks marks (observation_of b) (edits (put j ns))) ≡ none
        unfolding call_checks
        put_passes = no_check (id_check j) _ known (no_check (length_check ns) _ sized (content_passes marks j ns valid))

        module _ {b' : List ℕ} (put' : b' ≡ putting b j ns) where
          pub put_done : (u : Unit {0}) → Ok u ≡ room_answer (has_room b j ns) → after (Answer.accepted []) b' [] ≡ effect marks b (edits (put j ns))
          unfolding gives made
          put_done u h = putting-effect (put j ns) j ns refl put_passes put' true (sym (room_by (has_room b j ns) u h)) (Ok Nothing) (Ok Nothing) refl refl

          pub put_full : (x : Refusal) → Err x ≡ room_answer (has_room b j ns) → after (answer_of (Err x)) b' [] ≡ effect marks b (edits (put j ns))
          unfolding gives made
          put_full x h =
              let full = full_by (has_room b j ns) x h in
              putting-effect (put j ns) j ns refl put_passes put' false (sym full.0) (Ok Nothing) (Err x) refl (ap Err full.1)

-- ---- put text

-- what the writer's answer says
fits_by : (t u : Bool) (m n : ℕ) → Ok n ≡ cond t (cond u (Ok m) (Err Length)) (Err Content) → (t ≡ true) × (u ≡ true) × (n ≡ m)
fits_by true true m n e = (refl, refl, cc)
fits_by true false m n e = let z : ◌≡◌ {A = ℕ} 0 1 = cc in absurd (omega arith)
fits_by false u m n e = let z : ◌≡◌ {A = ℕ} 0 1 = cc in absurd (omega arith)

refused_by : {A : Type 0} (t u : Bool) (m : ℕ) (x : Refusal) → Err x ≡ cond t (cond u (Ok m) (Err Length)) (Err Content)
    → (t ≡ true → u ≡ false → x ≡ Length → A) → (t ≡ false → x ≡ Content → A) → A
refused_by true true m x e long unfit = let z : ◌≡◌ {A = ℕ} 0 1 = cc in absurd (omega arith)
refused_by true false m x e long unfit = let is : x ≡ Length = cc in long refl refl is
refused_by false u m x e long unfit = let is : x ≡ Content = cc in unfit refl is

module _ (marks : FlagTable) {b : List ℕ} {r : Report} (bs : Bytes b) (f : Found marks b 4 r) (t os : List ℕ) where
  abbrev xs : List Symbol
  xs = symbols_in t os

  abbrev ns : List ℕ
  ns = write_text xs

  abbrev s : Observation
  s = observation_of b

  pub text_unpaired : (length t ≡ length os → ⊥) → after (refusal 13 0) b [] ≡ effect marks b (edits (put_text t os))
  unfolding call_checks outputs_of
  text_unpaired h =
      call_refuses marks b s (edits (put_text t os)) bs f.judged [] (paired_check t os) (symbols_check t os ∷ length_check ns ∷ content_check marks 4 ns ∷ []) refl
      first-nil (ap not (ne_eqb (length t) (length os) h))

  module _ (paired : length t ≡ length os) {before out : List ℕ} {w : Result ℕ Refusal} (wrote : Writes t os before out w) where
    paired_passes : first (paired_check t os ∷ []) ≡ none
    paired_passes = no_check (paired_check t os) [] (ap not (eq-eqb (length t) (length os) paired)) first-nil

    -- the symbols are such that a text may hold them
    module _ (admitted : all_marks os && all_admitted xs ≡ true) where
      symbols_pass : first (paired_check t os ∷ symbols_check t os ∷ []) ≡ none
      symbols_pass =
          no_check (paired_check t os) (symbols_check t os ∷ []) (ap not (eq-eqb (length t) (length os) paired))
          (no_check (symbols_check t os) [] (ap not admitted) first-nil)

      refused_by_length : (length_check ns).fits ≡ true → after (refusal 12 0) b [] ≡ effect marks b (edits (put_text t os))
      unfolding call_checks outputs_of
      refused_by_length h =
          call_refuses marks b s (edits (put_text t os)) bs f.judged (paired_check t os ∷ symbols_check t os ∷ []) (length_check ns) (content_check marks 4 ns ∷ []) refl
          symbols_pass h

      valid : all_nibbles ns && body_valid marks 4 ns ≡ true
      unfolding body_valid
      valid = let all = (and_true (all_marks os) (all_admitted xs) admitted).1 in rw (text_all_nibbles xs all) (text_valid_lem xs all)

    refusal_is : (x y : Refusal) → x ≡ y → after (answer_of (Err y)) b [] ≡ effect marks b (edits (put_text t os)) → after (answer_of (Err x)) b [] ≡ effect marks b (edits (put_text t os))
    refusal_is x y e h = ap (λ (z : Refusal). after (Answer.refused (refusal_of z)) b []) e ∙ h

    text_content : all_marks os && all_admitted xs ≡ false → after (refusal 14 0) b [] ≡ effect marks b (edits (put_text t os))
    unfolding call_checks outputs_of
    text_content h =
        call_refuses marks b s (edits (put_text t os)) bs f.judged (paired_check t os ∷ []) (symbols_check t os) (length_check ns ∷ content_check marks 4 ns ∷ []) refl
        paired_passes (ap not h)

    pub text_refused : (x : Refusal) → w ≡ Err x → after (answer_of (Err x)) b [] ≡ effect marks b (edits (put_text t os))
    unfolding written_of
    text_refused x e =
        refused_by (all_marks os && all_admitted xs) (leb (length ns) 255) (length ns) x (sym e ∙ wrote.answer)
        (λ a l is. refusal_is x Length is (refused_by_length a (range_high 1 255 (length ns) (leb-false (length ns) 255 l))))
        (λ a is. refusal_is x Content is (text_content a))

    module _ {n : ℕ} (e : w ≡ Ok n) where
      fits : (all_marks os && all_admitted xs ≡ true) × (length ns ≤ 255) × (n ≡ length ns)
      unfolding written_of
      fits =
          let q = fits_by (all_marks os && all_admitted xs) (leb (length ns) 255) (length ns) n (sym e ∙ wrote.answer) in
          (q.0, leb-true (length ns) 255 q.1, q.2)

      pub text_byte : n < 256
      text_byte = omega (arith, fits.1, fits.2)

      pub text_empty : n ≡ 0 → after (refusal 12 0) b [] ≡ effect marks b (edits (put_text t os))
      text_empty h = refused_by_length fits.0 (range_low 1 255 (length ns) (omega (arith, fits.2)))

      laid : out ≡ ns ++ drop (length ns) before
      laid = wrote.nibbles fits.0 fits.1

      -- the text's nibbles stand at the front of what was written
      is_text : take n out ≡ ns
      is_text = ap (take n) laid ∙ take_at ns (drop (length ns) before) n (sym fits.2)

      pub text_within : n ≤ length out
      text_within = omega (arith, fits.2, ap length laid, length-append ns (drop (length ns) before))

      module _ (filled : n ≡ 0 → ⊥) where
        sized : between 1 255 (length ns) ≡ true
        sized = range_fine 1 255 (length ns) (omega (arith, fits.2)) fits.1

        pub text_fine_at : FineAt marks (attachment 4 (take n out))
        text_fine_at = rw is_text (put_checked marks 4 ns refl sized (valid fits.0))

        text_passes : first (call_checks marks s (edits (put_text t os))) ≡ none
        unfolding call_checks
        text_passes =
            no_checks (paired_check t os ∷ symbols_check t os ∷ []) (length_check ns ∷ content_check marks 4 ns ∷ []) (symbols_pass fits.0)
            (no_check (length_check ns) _ (ap not sized) (content_passes marks 4 ns (valid fits.0)))

        module _ {b' : List ℕ} (put' : b' ≡ putting b 4 (take n out)) where
          pub text_done : (u : Unit {0}) → Ok u ≡ room_answer (has_room b 4 (take n out)) → after (answer_of (Ok (Nibbles n))) b' [] ≡ effect marks b (edits (put_text t os))
          unfolding gives made
          text_done u h =
              let room = room_by (has_room b 4 ns) u (h ∙ ap (λ (l : List ℕ). room_answer (has_room b 4 l)) is_text) in
              putting-effect marks bs f (put_text t os) 4 ns refl text_passes (put' ∙ ap (putting b 4) is_text) true (sym room) (Ok (Nibbles n)) (Ok (Nibbles n))
              (ap (λ (k : ℕ). answer_of (Ok (Nibbles k))) fits.2) refl

          pub text_full : (x : Refusal) → Err x ≡ room_answer (has_room b 4 (take n out)) → after (answer_of (Err x)) b' [] ≡ effect marks b (edits (put_text t os))
          unfolding gives made
          text_full x h =
              let full = full_by (has_room b 4 ns) x (h ∙ ap (λ (l : List ℕ). room_answer (has_room b 4 l)) is_text) in
              putting-effect marks bs f (put_text t os) 4 ns refl text_passes (put' ∙ ap (putting b 4) is_text) false (sym full.0) (Ok (Nibbles n)) (Err x)
              (ap (λ (k : ℕ). answer_of (Ok (Nibbles k))) fits.2) (ap Err full.1)
