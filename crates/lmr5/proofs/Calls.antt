-- What the definitions say of a call, said with its answer in numbers.
-- Assumes nothing.
use Prim.{Unit, tt}
use Prim.Native.Nat.{ℕ, ◌+◌, ◌*◌, ◌≤◌, ◌<◌, ◌^◌}
use native.Mathlib.Omega.{arith}
use mathlib.Core.Path.{◌≡◌, refl, sym, ap, ap₂, subst, ◌∙◌}
use mathlib.Core.Bool.{◌||◌}
use mathlib.Core.List.{List, [], ◌∷◌, map}
use mathlib.Core.Option.{Option, none, some}
use lib.ListN.{length}
use lib.Dec.{ltb}
use lib.IntN.{ℤ, pos}
use Rattle.std.specs.Prelude.{Result, Ok, Some, None}
use Rattle.numbers.specs.Words.{signed, unsigned}
use Rattle.format.specs.Bits.{Bytes}
use Rattle.format.specs.Order.{Refusal, first}
use Rattle.format.specs.Flags.{FlagTable}
use Rattle.format.specs.Observation.{Observation}
use Rattle.format.specs.Calls as call
use Rattle.format.specs.Calls.{Call, Given, accepted}
use Rattle.format.specs.Buffer.{After, after, effect}
use Rattle.format.specs.Reply.{answer_of, givens_of}
use Rattle.format.specs.declared.Refusal as code
use Rattle.format.specs.declared.Outcome.{Outcome}
use Rattle.format.specs.declared.Outcome.TheVariants as outcome
use Rattle.script.specs.Labels.{quantity_label, label_of, number_or_zero, labels, labelled_row}
use Rattle.script.specs.declared.Labelled.{Labelled}
use Rattle.script.proofs.Numbers.{signed-unsigned}
use Rattle.format.specs.Whole.{Wrote, Unpacked, unpacked, pack_observation, pack_order, pack_gives, pack}
use Rattle.format.specs.Costliest.{costliest_checks, costliest_refusal}
use Rattle.laws.proofs.Sequences.{cond_case}
use Rattle.laws.proofs.Report.{judged, size_range}
use Rattle.laws.proofs.Whole.{judge-pack}
use Rattle.laws.proofs.Bounds.{NumberFits, GivenFit, AnswerFits, effect_fits}
use Rattle.pack.specs.Answers.{pack_answer}
use Rattle.lmr5.specs.declared.Answer.{Answer}
use Rattle.lmr5.specs.Numbered.{numbered, told, opening, numbered_unpacked, word}

-- ---- a row of numbers with their labels, told

given_signed : (n : Option ℤ) → NumberFits n → signed (unsigned (number_or_zero n)) ≡ number_or_zero n
unfolding signed unsigned
given_signed none h = refl
given_signed (some z) h = signed-unsigned z h

nothing_signed : signed 0 ≡ pos 0
unfolding signed
nothing_signed = refl

pub told_row : (gs : List Given) → length gs ≤ 3 → GivenFit gs → told (labelled_row 3 gs) ≡ numbered (accepted gs)
unfolding labelled_row labels
told_row [] l h = rw nothing_signed
told_row (x ∷ []) l h = rw (nothing_signed, given_signed x.number h.0)
told_row (x ∷ y ∷ []) l h = rw (nothing_signed, given_signed x.number h.0, given_signed y.number h.1.0)
told_row (x ∷ y ∷ z ∷ []) l h =
    let last : label_of z + 256 * 0 ≡ label_of z = omega arith in
    rw (last, given_signed x.number h.0, given_signed y.number h.1.0, given_signed z.number h.1.1.0)
told_row (x ∷ y ∷ z ∷ u ∷ gs) l h = absurd (omega arith)

few : (o : Outcome) → length (givens_of o) ≤ 3
few outcome.Nothing = omega arith
few (outcome.Value (Some v)) = omega arith
few (outcome.Value None) = omega arith
few (outcome.Flag (Some v)) = omega arith
few (outcome.Flag None) = omega arith
few (outcome.Count n) = omega arith
few (outcome.Nibbles n) = omega arith
few (outcome.Text n k m) = omega arith

pub told_outcome : (r : List Labelled) (o : Outcome) → r ≡ labelled_row 3 (givens_of o) → AnswerFits (answer_of (Ok o)) → told r ≡ numbered (answer_of (Ok o))
told_outcome r o is h = ap told is ∙ told_row (givens_of o) (few o) h

small_signed : (n : ℕ) → n < 2 ^ 63 → signed n ≡ pos n
unfolding unsigned
small_signed n h = signed-unsigned (pos n) h

pub told_size : (n : ℕ) → n < 2 ^ 63 → told (record { label = 8; number = n } ∷ record { label = 0; number = 0 } ∷ record { label = 0; number = 0 } ∷ []) ≡ numbered (accepted (pack_gives n))
unfolding labels quantity_label
told_size n h = rw (nothing_signed, small_signed n h)

-- ---- the numbers fit

pub call_fits : (marks : FlagTable) (a : call.Answer) (b d : List ℕ) (o : List (List ℕ)) (c : Call) → after a d o ≡ effect marks b c → Bytes b → AnswerFits a
call_fits marks a b d o c e h = subst AnswerFits (sym (ap (λ (w : After). w.answer) e)) (effect_fits marks b c h)

-- the size that pack gives
abbrev SizeFits : call.Answer → Type 0
SizeFits (call.refused r) = Unit {0}
SizeFits (call.accepted gs) = GivenFit gs

packed_fits : (marks : FlagTable) (values : List ℤ) (word rptin : ℕ) (ns out : List ℕ) → rptin < 2 ^ 16 → Bytes (pack marks values word rptin ns out).out
    → SizeFits (pack marks values word rptin ns out).answer
packed_fits marks values word rptin ns out r h = go (first (pack_order marks (length out) values word rptin ns)) refl
  where
    s : Observation
    s = pack_observation values word rptin ns

    go : (o : Option Refusal) → first (pack_order marks (length out) values word rptin ns) ≡ o → SizeFits (pack marks values word rptin ns out).answer
    go (some x) q = unfold pack in rw q tt
    go none q = let z = size_range marks s (judged marks _ s h (judge-pack marks values word rptin ns out r q)).good in unfold pack in rw q (omega arith, tt)

pub pack_fits : (marks : FlagTable) (values : List ℤ) (word rptin : ℕ) (ns out o : List ℕ) (p : Result ℕ code.Refusal) (n : ℕ)
    → record { answer = pack_answer p; out = o } ≡ pack marks values word rptin ns out → p ≡ Ok n → rptin < 2 ^ 16 → Bytes o → n < 2 ^ 63
pack_fits marks values word rptin ns out o p n e q r h =
    (subst SizeFits (sym (ap (λ (w : Wrote). w.answer) e) ∙ ap pack_answer q)
    (packed_fits marks values word rptin ns out r (subst Bytes (ap (λ (w : Wrote). w.out) e) h))).0

pub costliest_fits : (m : ℕ) (text origins : List ℕ) → AnswerFits (call.done_by (costliest_refusal m text origins))
unfolding costliest_refusal costliest_checks first
costliest_fits m text origins =
    cond_case (λ (o : Option Refusal). AnswerFits (call.done_by o)) (ltb 85 m) _ _ (λ _. omega arith)
    (λ _. cond_case (λ (o : Option Refusal). AnswerFits (call.done_by o)) (ltb (length text) m || ltb (length origins) m) _ _ (λ _. omega arith) (λ _. tt))

-- ---- unpack

pub unpack-given : (gs : List Given) (vs : List ℤ) (ns before after : List ℕ) (r : Answer) (u : Unpacked) → unpacked (accepted gs) vs ns ≡ u
    → after ≡ map word gs → r ≡ numbered (accepted []) → opening r vs ns after ≡ numbered_unpacked u before
unpack-given gs vs ns before after r u h g e = ap₂ (λ (x : Answer) (l : List ℕ). opening x vs ns l) e g ∙ ap (λ (v : Unpacked). numbered_unpacked v before) h
