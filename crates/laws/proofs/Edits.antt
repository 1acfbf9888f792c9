-- An edit of the attachments: nibbles of the tail replaced, AC set, and the buffer is the layout of the observation so edited.
-- Assumes nothing.
use Prim.Native.Nat.{ℕ, ◌+◌, ◌-◌, ◌*◌, ◌/◌, ◌<◌, max, ◌≤◌}
use native.Mathlib.Omega.{arith}
use mathlib.Core.Path.{◌≡◌, refl, sym, ap, ap₂, ◌∙◌}
use mathlib.Core.List.{List, ◌++◌, append_assoc}
use lib.ListN.{length, take, drop, set, length-append}
use lib.Seq.{take_at, drop_at, take-add, drop-drop, drop-append-add, length-take-le}
use Rattle.format.specs.Bits.{read_fields, Bytes}
use Rattle.format.specs.Flags.{FlagTable}
use Rattle.format.specs.Nibbles.{Attachment, nibbles, tail_nibbles, Nibbles}
use Rattle.format.specs.Observation.{Observation, widths, card_numbers, size}
use Rattle.format.specs.Report.{numbers_of, tail_of, observation_of, accepted, judge}
use Rattle.format.specs.Calls.{with_attachments}
use Rattle.format.specs.Buffer.{zeros, layout}
use Rattle.laws.proofs.Bits.{uniform}
use Rattle.laws.proofs.Nibbles.{length-nibbles}
use Rattle.laws.proofs.Card.{front_numbers}
use Rattle.laws.proofs.Fields.{table-length, length_fair}
use Rattle.laws.proofs.Report.{judged, size_is, numbers_taken, within}
use Rattle.laws.proofs.Laid.{layout_is, tail_taken, attachment_numbers}

-- the larger of two ends, in whole bytes
abbrev pub cleared_to : ℕ → ℕ → ℕ
cleared_to end last = 2 * max ((end + 1) / 2) ((last + 1) / 2)

-- nibbles of a report that ends at end, with x in place of old ones: those behind the old ones moved, zeros behind them, and
-- what stood beyond both ends
abbrev pub spliced : List ℕ → ℕ → ℕ → List ℕ → ℕ → List ℕ
spliced ns at old x end =
    let rest = end - (at + old) in
    let last = at + length x + rest in
    take at ns ++ (x ++ (take rest (drop (at + old) ns) ++ (zeros (cleared_to end last - last) ++ drop (cleared_to end last) ns)))

-- the report of b with another list of attachments, whose tail has the nibbles x for old ones at a place
pub record Edit (marks : FlagTable) (b : List ℕ) (list : List Attachment) (x : List ℕ) (at old end count : ℕ) : Type 0 where
  pub judged : judge marks b ≡ accepted (observation_of b)
  pub before : List ℕ
  pub gone : List ℕ
  pub behind : List ℕ
  pub from : tail_nibbles (observation_of b).attachments ≡ before ++ (gone ++ behind)
  pub to : tail_nibbles list ≡ before ++ (x ++ behind)
  pub at_is : at ≡ 75 + length before
  pub old_is : old ≡ length gone
  pub end_is : end ≡ 75 + length (tail_nibbles (observation_of b).attachments)
  pub count_is : count ≡ length list
  pub count_lt : count < 16

module _ (marks : FlagTable) {b : List ℕ} {list : List Attachment} {x : List ℕ} {at old end count : ℕ} (bs : Bytes b) (e : Edit marks b list x at old end count) where
  abbrev s : Observation
  s = observation_of b

  abbrev t : Observation
  t = with_attachments (observation_of b) list

  abbrev n : List ℕ
  n = nibbles b

  abbrev rest : ℕ
  rest = end - (at + old)

  abbrev last : ℕ
  last = at + length x + rest

  old_length : length (tail_nibbles (observation_of b).attachments) ≡ length e.before + (length e.gone + length e.behind)
  old_length = ap length e.from ∙ length-append e.before (e.gone ++ e.behind) ∙ ap (λ (k : ℕ). length e.before + k) (length-append e.gone e.behind)

  new_length : length (tail_nibbles list) ≡ length e.before + (length x + length e.behind)
  new_length = ap length e.to ∙ length-append e.before (x ++ e.behind) ∙ ap (λ (k : ℕ). length e.before + k) (length-append x e.behind)

  pub edit_inside : (at + old ≤ end) × (at + length x + (end - (at + old)) ≡ 75 + length (tail_nibbles list)) × (end - old + length x ≡ 75 + length (tail_nibbles list))
  edit_inside =
      let a = e.at_is in
      let o = e.old_is in
      let d = e.end_is in
      let l = old_length in
      let m = new_length in
      (omega arith, omega arith, omega arith)

  pub edit_size : size (with_attachments (observation_of b) list) ≡ (end - old + length x + 1) / 2
  edit_size = size_is t ∙ ap (λ (k : ℕ). (k + 1) / 2) (sym edit_inside.2)

  cleared_is : cleared_to end last ≡ 2 * max (size s) (size t)
  cleared_is =
      ap₂ (λ (k m : ℕ). 2 * max k m) (ap (λ (k : ℕ). (k + 1) / 2) e.end_is ∙ sym (size_is s)) (ap (λ (k : ℕ). (k + 1) / 2) edit_inside.1 ∙ sym (size_is t))

  -- the old tail, and what follows it
  beyond : List ℕ
  beyond = zeros (2 * size s - (75 + length (tail_nibbles s.attachments))) ++ drop (2 * size s) n

  tail_was : tail_of b ≡ e.before ++ (e.gone ++ (e.behind ++ beyond))
  unfolding beyond
  tail_was =
      tail_taken marks b s bs e.judged ∙ ap (λ (l : List ℕ). l ++ beyond) e.from
      ∙ append_assoc e.before (e.gone ++ e.behind) beyond
      ∙ ap (λ (l : List ℕ). e.before ++ l) (append_assoc e.gone e.behind beyond)

  front : take at n ≡ take 75 n ++ e.before
  front =
      ap (λ (k : ℕ). take k n) e.at_is ∙ take-add 75 (length e.before) n
      ∙ ap (λ (l : List ℕ). take 75 n ++ l) (ap (take (length e.before)) tail_was ∙ take_at e.before (e.gone ++ (e.behind ++ beyond)) (length e.before) refl)

  behind_old : drop (at + old) n ≡ e.behind ++ beyond
  behind_old =
      let k : at + old ≡ 75 + (length e.before + length e.gone) = (let a = e.at_is in let o = e.old_is in omega arith) in
      ap (λ (j : ℕ). drop j n) k
      ∙ sym (drop-drop (length e.before + length e.gone) 75 n) ∙ ap (drop (length e.before + length e.gone)) tail_was
      ∙ drop-append-add e.before (e.gone ++ (e.behind ++ beyond)) (length e.gone)
      ∙ drop_at e.gone (e.behind ++ beyond) (length e.gone) refl

  kept : take rest (drop (at + old) n) ≡ e.behind
  kept =
      let r : rest ≡ length e.behind = (let a = e.at_is in let o = e.old_is in let d = e.end_is in let l = old_length in omega arith) in
      ap₂ take r behind_old ∙ take_at e.behind beyond (length e.behind) refl

  -- as many nibbles as the old ones: all others stay
  pub spliced_same : length x ≡ old → take at (nibbles b) ++ (x ++ drop (at + old) (nibbles b)) ≡ spliced (nibbles b) at old x end
  unfolding beyond
  spliced_same l =
      let i = edit_inside in
      let d = e.end_is in
      let ends : last ≡ 75 + length (tail_nibbles s.attachments) = omega arith in
      let cleared : cleared_to end last ≡ 2 * size s = omega (arith, size_is s) in
      ap (λ (y : List ℕ). take at n ++ (x ++ y))
      (behind_old ∙ sym (ap₂ (λ (y z : List ℕ). y ++ z) kept (ap₂ (λ (k m : ℕ). zeros (k - m) ++ drop k n) cleared ends)))

  module _ (c : List ℕ) (laid : nibbles c ≡ spliced (nibbles b) at old x end) where
    abbrev filled : List ℕ
    filled = zeros (cleared_to end last - last) ++ drop (cleared_to end last) n

    long : 38 ≤ length b
    long = (within marks b s bs e.judged).0

    card_long : length (take 75 (nibbles b)) ≡ 75
    card_long = length-take-le 75 n (omega (arith, length-nibbles b, long))

    whole : nibbles c ≡ take 75 n ++ (e.before ++ (x ++ (e.behind ++ filled)))
    whole =
        laid ∙ ap₂ (λ (y z : List ℕ). y ++ (x ++ (z ++ filled))) front kept
        ∙ append_assoc (take 75 n) e.before (x ++ (e.behind ++ filled))

    -- the nibbles behind the card are those of the list, zeros to the larger end, and what stood beyond
    behind_card_lem : tail_of c
        ≡ tail_nibbles list ++ (zeros (2 * max (size s) (size t) - (75 + length (tail_nibbles list))) ++ drop (2 * max (size s) (size t)) n)
    behind_card_lem =
        ap (drop 75) whole ∙ drop_at (take 75 n) (e.before ++ (x ++ (e.behind ++ filled))) 75 card_long
        ∙ ap (λ (l : List ℕ). e.before ++ l) (sym (append_assoc x e.behind filled))
        ∙ sym (append_assoc e.before (x ++ e.behind) filled)
        ∙ ap₂ (λ (l r : List ℕ). l ++ r) (sym e.to)
        (ap₂ (λ (k m : ℕ). zeros (k - m) ++ drop k n) cleared_is edit_inside.1)

    same_card : numbers_of c ≡ card_numbers (observation_of b)
    same_card =
        front_numbers c (omega (arith, long, length-nibbles c, length-nibbles b, ap length whole, card_long, length-append (take 75 n) (e.before ++ (x ++ (e.behind ++ filled)))))
        ∙ ap (λ (l : List ℕ). read_fields widths (uniform 4 l)) (ap (take 75) whole ∙ take_at (take 75 n) (e.before ++ (x ++ (e.behind ++ filled))) 75 card_long)
        ∙ sym (front_numbers b long) ∙ sym (numbers_taken marks b s bs e.judged)

    module _ (lt : Nibbles (tail_nibbles list)) where
      -- with AC set the buffer is the layout
      pub edit_laid : (d : List ℕ) → Bytes d → length d ≡ length b → numbers_of d ≡ set (numbers_of c) 48 count → tail_of d ≡ tail_of c
          → d ≡ layout b (size (observation_of b)) (with_attachments (observation_of b) list)
      edit_laid d bd same card behind =
          let v : length s.values ≡ 46 = length_fair (judged marks b s bs e.judged).good.fair ∙ table-length in
          layout_is b (size s) t lt d bd (omega (arith, long))
          (card ∙ ap₂ (λ (l : List ℕ) (m : ℕ). set l 48 m) same_card e.count_is ∙ sym (attachment_numbers s list v))
          (behind ∙ behind_card_lem)

      -- so it is where the number of attachments stays
      pub edit_kept : Bytes c → length c ≡ length b → length list ≡ length (observation_of b).attachments
          → c ≡ layout b (size (observation_of b)) (with_attachments (observation_of b) list)
      unfolding card_numbers
      edit_kept bc same l = layout_is b (size s) t lt c bc (omega (arith, long)) (same_card ∙ rw l) behind_card_lem
