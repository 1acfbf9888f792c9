-- Fields: what is read of one, and the layout that a code stored in one leaves.
-- Assumes nothing.
use Prim.Native.Nat.{ℕ, ◌+◌, ◌-◌, ◌%◌, ◌≤◌, ◌<◌}
use native.Mathlib.Omega.{arith}
use mathlib.Core.Path.{◌≡◌, refl, sym, ap, ◌∙◌}
use mathlib.Core.Bool.{Bool, true, false, not}
use lib.Dec.{eqb}
use borrow.Author.Tests.{eqb-true, eqb-false, le-leb}
use mathlib.Core.List.{List, [], ◌∷◌}
use mathlib.Core.Option.{Option, none, some}
use lib.ListN.{length, get_or, set}
use Rattle.format.specs.Bits.{total, Bytes}
use Rattle.format.specs.Field.{Field, table, field_at, is_field, required, coded, scaled_of, entry_of, code_of, entries, codes}
use Rattle.format.specs.Flags.{FlagTable}
use Rattle.format.specs.Order.{first}
use Rattle.format.specs.Nibbles.{Attachment, tail_nibbles}
use Rattle.format.specs.Observation.{checksum, card_numbers, size}
use Rattle.format.specs.Report.{codes_of, observation_of}
use Rattle.format.specs.Calls.{Call, Editing, reads, edits, made, read_field, set_field, clear_field, value_at, with_value, value_given, field_number_check, value_check, required_check, clear_checks}
use Rattle.format.specs.Calls.{call_checks, read_gives, gives, outputs_of, Answer}
use Rattle.format.specs.Reply.{refusal, answer_of, givens_of}
use Rattle.format.specs.declared.Outcome.TheVariants.{Value}
use Rattle.format.specs.Buffer.{layout, after, effect}
use Rattle.format.specs.declared.Coded.{Coded}
use Rattle.format.specs.declared.Scaled.{Scaled}
use Rattle.laws.proofs.Fields.{table-length, codes-entries}
use Rattle.laws.proofs.Report.{numbers_taken, same_within}
use Rattle.laws.proofs.Effects.{call_refuses, number_refuses, read_done, edit_done}
use Rattle.laws.proofs.Laid.{field-laid, value_numbers_lem, total-set}
use Rattle.card.specs.Answers.{Carded, coding_of}
use Rattle.card.proofs.Numbers.{codes-length}
use Rattle.card.proofs.Entries.{entry_missing, entry_there, entry_is, entries-length}
use Rattle.card.proofs.Laid.{coding_outside, coding_inside, coding_code}
use Rattle.std.specs.Prelude as std
use Rattle.std.specs.Option.{ok_or}
use Rattle.std.specs.Prelude.{Some, None, Result, Ok, Err, IsErrAnd}
use Rattle.format.specs.declared.Outcome.{Outcome}
use Rattle.format.specs.declared.Refusal.{Refusal}
use Rattle.format.specs.declared.Refusal.TheVariants.{Number}
use Rattle.format.specs.declared.Refusal.TheVariants as refusals
use Rattle.format.specs.Order.{Check, check, between}
use Rattle.laws.proofs.Results.{err_is}
use Rattle.laws.proofs.Order.{first-nil, no_check}
use Rattle.report.specs.Found.{Accepted}
use Rattle.call_fields.specs.Replaced.{replaced}

-- the value of field k is the entry of its code
pub value_is : (b : List ℕ) (k : ℕ) (c : Coded) → 1 ≤ k → k ≤ 46 → c.0 ≡ get_or (codes_of b) (k - 1) 0 → value_at (observation_of b) k ≡ entry_of (field_at k) c
unfolding observation_of
value_is b k c l h e =
    let at : k - 1 + 1 ≡ k = omega arith in
    entry_is b (k - 1) c (omega arith) e ∙ ap (λ (n : ℕ). entry_of (field_at n) c) at

codes_back : (b : List ℕ) → codes table (entries table (codes_of b)) ≡ codes_of b
codes_back b = codes-entries table (codes_of b) (codes-length b ∙ sym table-length)

-- ---- what a code stands for

module _ (f : Field) (c : Coded) (m : Bool) (is : m ≡ eqb c.0 0) where
  pub value_missing : m ≡ true → givens_of (Value None) ≡ value_given (entry_of f c) ∷ []
  value_missing e = ap (λ (x : Option Scaled). value_given x ∷ []) (sym (entry_missing f c (eqb-true c.0 0 (sym is ∙ e))))

  pub value_there : m ≡ false → (v : Scaled) → v ≡ scaled_of f c → givens_of (Value (Some v)) ≡ value_given (entry_of f c) ∷ []
  value_there e v q = ap (λ (x : Option Scaled). value_given x ∷ []) (ap some q ∙ sym (entry_there f c (eqb-false c.0 0 (sym is ∙ e))))

-- ---- the code of a value

module _ (f : Field) (v : Scaled) (x : std.Option Coded) (is : x ≡ coding_of f v) where
  pub code_found : (e : Refusal) (c : Coded) → Ok c ≡ ok_or x e → Some c ≡ coding_of f v
  code_found e c = go x is
    where
      go : (y : std.Option Coded) → y ≡ coding_of f v → Ok c ≡ ok_or y e → Some c ≡ coding_of f v
      go None q r = absurd (cc)
      go (Some d) q r = cc

  pub none_found : (e d : Refusal) → Err d ≡ ok_or x e → (None ≡ coding_of f v) × (d ≡ e)
  none_found e d = go x is
    where
      go : (y : std.Option Coded) → y ≡ coding_of f v → Err d ≡ ok_or y e → (None ≡ coding_of f v) × (d ≡ e)
      go None q r = (q, cc)
      go (Some d) q r = absurd (cc)

-- ---- a code stored

module _ (marks : FlagTable) (b : List ℕ) (bs : Bytes b) (k : ℕ) (low : 1 ≤ k) (high : k ≤ 46) where
  -- it is that of the entry e: the card is that of the observation with e
  value_card : (e : Option Scaled) (c : Coded) → Accepted marks b → c ≡ code_of (field_at k) e → card_numbers (with_value (observation_of b) k e) ≡ replaced b k c.0
  unfolding observation_of
  value_card e c j is =
      let long : length (entries table (codes_of b)) ≡ 46 = entries-length b in
      let code : c.0 ≡ (code_of (field_at k) e).0 = ap (λ (x : Coded). x.0) is in
      value_numbers_lem (observation_of b) k e long low high ∙ rw (← code, codes_back b, numbers_taken marks b (observation_of b) bs j) refl

  -- and the buffer is its layout
  value_laid : (d : List ℕ) (e : Option Scaled) (c : Coded) → Accepted marks b → Bytes d → c ≡ code_of (field_at k) e
      → Carded b d (replaced b k c.0) → d ≡ layout b (size (observation_of b)) (with_value (observation_of b) k e)
  value_laid d e c j bd is r =
      field-laid marks b d (observation_of b) (with_value (observation_of b) k e) bs j refl bd r.long (r.card ∙ sym (value_card e c j is)) r.behind

-- ---- a refusal that `?` passes on

module _ (marks : FlagTable) (b : List ℕ) (r : Result Outcome Refusal) (e : Refusal) (h : IsErrAnd r (λ y. y ≡ e)) where
  -- 8: there is no such field
  pub no_field : (k : ℕ) → (e ≡ Number) × (is_field k ≡ false) → Bytes b → Accepted marks b → (c : Call) (behind : List Check)
      → call_checks marks (observation_of b) c ≡ check (not (between 1 46 k)) 8 0 ∷ behind → after (answer_of r) b (outputs_of c) ≡ effect marks b c
  no_field k unknown bs j c behind is = rw (err_is r e h, unknown.0) (number_refuses marks b (observation_of b) c bs j 1 46 k behind is false (sym unknown.1) refl)

-- ---- the returns of the calls on fields, where k is a field

module _ (marks : FlagTable) (b : List ℕ) (bs : Bytes b) (j : Accepted marks b) (k : ℕ) (low : 1 ≤ k) (high : k ≤ 46) where
  known_passes : not (is_field k) ≡ false
  known_passes = rw (le-leb 1 k low, le-leb k 46 high)

  -- what is told of the code that stands in field k
  module _ (o : Coded) (at : o.0 ≡ get_or (codes_of b) (k - 1) 0) (v : std.Option Scaled) (is : givens_of (Value v) ≡ value_given (entry_of (field_at k) o) ∷ []) where
    stands : answer_of (Ok (Value v)) ≡ Answer.accepted (read_gives (observation_of b) (read_field k) ∷ [])
    unfolding read_gives
    stands =
        ap Answer.accepted is ∙ ap (λ (e : Option Scaled). Answer.accepted (value_given e ∷ [])) (sym (value_is b k o low high at))

    pub field_read : after (answer_of (Ok (Value v))) b [] ≡ effect marks b (reads (read_field k))
    unfolding call_checks gives
    field_read =
        ap (λ (x : Answer). after x b []) stands
        ∙ read_done marks b (observation_of b) bs j (read_field k) (no_check (field_number_check k) [] known_passes first-nil)

    -- set and clear: a code stored, and the checks before 13 passed
    module _ (d : List ℕ) (bd : Bytes d) where
      pub field-set : (w : Scaled) (c : Coded) → Some c ≡ coding_of (field_at k) w → Carded b d (replaced b k c.0) → after (answer_of (Ok (Value v))) d [] ≡ effect marks b (edits (set_field k w))
      unfolding call_checks made gives code_of
      field-set w c e r =
          let q = coding_code (field_at k) w c e in
          ap (λ (x : Answer). after x d []) stands
          ∙ edit_done marks b (observation_of b) bs j (set_field k w) d
          (no_check (field_number_check k) (value_check k w ∷ []) known_passes (no_check (value_check k w) [] (ap not (coding_inside (field_at k) w c e)) first-nil))
          (same_within marks b (observation_of b) bs j (with_value (observation_of b) k (some w)) refl)
          (value_laid marks b bs k low high d (some w) c j bd q.0 r)

      -- clear, with or without indicators
      pub card_cleared : (e : Editing) → call_checks marks (observation_of b) (edits e) ≡ clear_checks k
          → gives (observation_of b) (edits e) ≡ read_gives (observation_of b) (read_field k) ∷ []
          → (made (observation_of b) e).attachments ≡ (observation_of b).attachments → (q : Bool) → q ≡ required k → q ≡ false → Carded b d (card_numbers (made (observation_of b) e))
          → after (answer_of (Ok (Value v))) d [] ≡ effect marks b (edits e)
      card_cleared e checks former same q eq free r =
          ap (λ (x : Answer). after x d []) (stands ∙ ap Answer.accepted (sym former))
          ∙ edit_done marks b (observation_of b) bs j e d
          (ap first checks ∙ no_check (field_number_check k) (required_check k ∷ []) known_passes (no_check (required_check k) [] (sym eq ∙ free) first-nil))
          (same_within marks b (observation_of b) bs j (made (observation_of b) e) (ap (λ (l : List Attachment). length (tail_nibbles l)) same))
          (field-laid marks b d (observation_of b) (made (observation_of b) e) bs j same bd r.long r.card r.behind)

      pub field-cleared : (q : Bool) → q ≡ required k → q ≡ false → (c : Coded) → c ≡ coded 0 → Carded b d (replaced b k c.0)
          → after (answer_of (Ok (Value v))) d [] ≡ effect marks b (edits (clear_field k))
      unfolding call_checks made gives code_of
      field-cleared q eq free c e r =
          card_cleared (clear_field k) refl refl refl q eq free
          (record { card = r.card ∙ sym (value_card marks b bs k low high none c j e); behind = r.behind; long = r.long })

  -- 9: there is no code
  pub field_outside : (v : Scaled) (r : Result Outcome Refusal) (e : Refusal) → IsErrAnd r (λ y. y ≡ e) → e ≡ refusals.Value k → None ≡ coding_of (field_at k) v
      → after (answer_of r) b [] ≡ effect marks b (edits (set_field k v))
  unfolding call_checks outputs_of
  field_outside v r e h is outside =
      rw (err_is r e h, is)
      (call_refuses marks b (observation_of b) (edits (set_field k v)) bs j (field_number_check k ∷ []) (value_check k v) [] refl
      (no_check (field_number_check k) [] known_passes first-nil) (ap not (coding_outside (field_at k) v outside)))

  pub field-required : (e : Editing) → call_checks marks (observation_of b) (edits e) ≡ clear_checks k → (q : Bool) → q ≡ required k → q ≡ true
      → after (refusal 10 k) b [] ≡ effect marks b (edits e)
  unfolding outputs_of
  field-required e checks q eq must =
      call_refuses marks b (observation_of b) (edits e) bs j (field_number_check k ∷ []) (required_check k) [] checks
      (no_check (field_number_check k) [] known_passes first-nil) (sym eq ∙ must)

-- ---- the new checksum

module _ (b : List ℕ) (n k : ℕ) (h : n ≡ checksum (codes_of b)) where
  -- the checksum less the old code and more the new one, by a multiple of 255 above 0
  pub new_checksum : 1 ≤ k → k ≤ 46 → (o c : Coded) → o.0 ≡ get_or (codes_of b) (k - 1) 0 → o.0 < 65536
      → (n + 65535 - o.0 + c.0) % 255 ≡ checksum (set (codes_of b) (k - 1) c.0)
  unfolding checksum
  new_checksum low high o c e l =
      let t : total (set (codes_of b) (k - 1) c.0) + get_or (codes_of b) (k - 1) 0 ≡ total (codes_of b) + c.0 =
      total-set (codes_of b) (k - 1) c.0 (rw (codes-length b) (omega arith)) in
      omega (arith, h)
