-- The nibbles that put text and fetch text give are those of id 4 in the report that the buffer then begins with.
-- Assumes nothing.
use Prim.{tt}
use Prim.Native.Nat.{ℕ}
use mathlib.Core.Path.{◌≡◌, refl, ap, ◌∙◌}
use mathlib.Core.Bool.{true}
use mathlib.Core.List.{List, [], ◌∷◌}
use mathlib.Core.Option.{Option, none, some}
use lib.ListN.{length}
use lib.Dec.{eqb}
use lib.IntN.{ℤ, pos, negsuc}
use borrow.Author.Tests.{eqb-true, eq-eqb}
use Rattle.format.specs.Bits.{Bytes}
use Rattle.format.specs.Nibbles.{Attachment, attachment}
use Rattle.format.specs.Flags.{FlagTable}
use Rattle.format.specs.ShipText.{symbols_in, write_text, nibble_count, end_from, at_end, text_valid}
use Rattle.format.specs.Observation.{Observation}
use Rattle.format.specs.Report.{observation_of, body_valid}
use Rattle.format.specs.Calls.{Call, edits, fetches, put_text, fetch_text, content_of, content, put_in, made, ship_text, Given, gives}
use Rattle.format.specs.Buffer.{after, effect}
use Rattle.format.specs.Reply.{answer_of, CountsId4}
use Rattle.std.specs.Prelude.{Result, Ok, Err}
use Rattle.format.specs.declared.Refusal.{Refusal}
use Rattle.format.specs.declared.Outcome.{Outcome}
use Rattle.format.specs.declared.Outcome.TheVariants.{Nothing, Value, Flag, Count, Nibbles, Text}
use Rattle.laws.proofs.Sequences.{cond_case}
use Rattle.laws.proofs.Attachments.{Fine, empty, one}
use Rattle.laws.proofs.ShipText.{text_back}
use Rattle.laws.proofs.Report.{Good}
use Rattle.laws.proofs.Effects.{Accepts, accepts}

-- ---- the content of id 4

put_content : (i : ℕ) (ns : List ℕ) (list : List Attachment) → content_of i (put_in i ns list) ≡ ns
unfolding content_of put_in
put_content i ns [] = rw (eq-eqb i i refl)
put_content i ns (a ∷ more) =
    cond_case (λ (l : List Attachment). content_of i l ≡ ns) (eqb a.id i) (attachment i ns ∷ more) (a ∷ put_in i ns more)
    (λ e. rw (eq-eqb i i refl))
    (λ e. rw e (put_content i ns more))

-- of a fine list it is a valid text, also where the id does not stand
text_content : (marks : FlagTable) {seen : List ℕ} {list : List Attachment} → Fine marks seen list → text_valid (content_of 4 list) ≡ true
unfolding content_of text_valid end_from at_end body_valid
text_content marks empty = refl
text_content marks (one {a = a} {more = more} at new f) =
    cond_case (λ (ns : List ℕ). text_valid ns ≡ true) (eqb a.id 4) a.content (content_of 4 more)
    (λ e. rw (eqb-true a.id 4 e) at at.valid)
    (λ e. text_content marks f)

-- the text that is read of it takes as many nibbles
pub read_count : (marks : FlagTable) (s : Observation) → Good marks s → nibble_count (ship_text s) ≡ length (content s 4)
read_count marks s g = ap length (text_back (content s 4) (text_content marks g.fine))

-- ---- the two calls

-- the last number that is given
abbrev count_in : Option ℤ → ℕ
count_in (some (pos n)) = n
count_in (some (negsuc n)) = 0
count_in none = 0

abbrev last_count : List Given → ℕ
last_count [] = 0
last_count (g ∷ []) = count_in g.number
last_count (g ∷ h ∷ more) = last_count (h ∷ more)

module _ (marks : FlagTable) (b : List ℕ) (bytes : Bytes b) (b' : List ℕ) (os : List (List ℕ)) where
  counts : (c : Call) → ((gs : List Given) → Accepts marks b c gs b' → last_count gs ≡ length (content (observation_of b') 4))
      → (r : Result Outcome Refusal) → after (answer_of r) b' os ≡ effect marks b c → CountsId4 r b'
  counts c last (Err refused) e = tt
  counts c last (Ok Nothing) e = tt
  counts c last (Ok (Value v)) e = tt
  counts c last (Ok (Flag v)) e = tt
  counts c last (Ok (Count n)) e = tt
  counts c last (Ok (Nibbles n)) e = last _ (accepts marks b bytes c _ b' os e)
  counts c last (Ok (Text n k m)) e = last _ (accepts marks b bytes c _ b' os e)

  pub put_counts : (t origins : List ℕ) (r : Result Outcome Refusal) → after (answer_of r) b' os ≡ effect marks b (edits (put_text t origins)) → CountsId4 r b'
  unfolding gives made
  put_counts t origins =
      counts (edits (put_text t origins))
      (λ gs a. rw (a.left, put_content 4 (write_text (symbols_in t origins)) a.from.attachments) (ap last_count a.given))

  pub fetch_counts : (out origins : List ℕ) (r : Result Outcome Refusal) → after (answer_of r) b' os ≡ effect marks b (fetches (fetch_text out origins)) → CountsId4 r b'
  unfolding gives
  fetch_counts out origins =
      counts (fetches (fetch_text out origins)) (λ gs a. rw a.left (ap last_count a.given ∙ read_count marks a.from a.good))
