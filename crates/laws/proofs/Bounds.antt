-- Every answer fits 64 bits: a refusal's place, and each number that a call gives, negative ones too. A report's refusals
-- have the numbers 1 to 7.
-- Assumes nothing.
use Prim.{Unit, tt}
use Prim.Native.Nat.{ℕ, zero, suc, ◌+◌, ◌-◌, ◌^◌, ◌≤◌, ◌<◌}
use native.Mathlib.Omega.{arith}
use mathlib.Core.Path.{◌≡◌, refl, sym, subst, ◌∙◌}
use mathlib.Core.Bool.{Bool, true, false, cond, not, ◌&&◌}
use mathlib.Core.List.{List, [], ◌∷◌, ◌++◌}
use mathlib.Core.Option.{Option, none, some}
use lib.ListN.{length, get_or}
use lib.Dec.{ltb, eqb}
use lib.IntN.{ℤ, pos, negsuc, ◌+ℤ◌}
use lib.Signed.{le_z, mag}
use borrow.Author.Tests.{leb-true}
use Rattle.format.specs.Order.{Refusal, Check, check, first, between}
use Rattle.format.specs.Field.{Field, table, in_range}
use Rattle.format.specs.Bits.{Bytes, offset}
use Rattle.format.specs.Nibbles.{Attachment, Nibbles, id_at, behind}
use Rattle.format.specs.Flags.{FlagTable, flag_at}
use Rattle.format.specs.ShipText.{symbols_in, nibble_count, DeckSet, unknown, ebcdic, ascii, deck_set, set_number}
use Rattle.format.specs.Observation.{Observation, widths, size}
use Rattle.format.specs.Report.{codes_of, count_of, tail_of, field_checks, attachment_checks, report_checks, observation_of, Verdict, verdict, judge}
use Rattle.format.specs.Calls.{Call, Reading, reads, edits, fetches, read_field, set_field, clear_field, clear_with_indicators, read_flag, set_flag, clear_flag, put, fetch, remove, put_text, fetch_text}
use Rattle.format.specs.Calls.{content_of, content, ship_text, value_number, count, counted, Given, read_gives, gives, room_check, call_checks, checks, Answer, refused, accepted, stepped_by, step}
use Rattle.format.specs.Buffer.{Shown, Standing, standing, stepping, run, effect_on, effect, refusals, claim_on, claim}
use Rattle.format.specs.Whole.{wrote_by}
use Rattle.format.specs.Finding.{found, find_checks, find_on, find}
use Rattle.format.specs.declared.Scaled.{Scaled}
use Rattle.laws.proofs.Sequences.{and_true, true_false, cond_case}
use Rattle.laws.proofs.Order.{between_in, first_none, first-append_some, first-append_skip, first-append_none}
use Rattle.laws.proofs.Bits.{bit_field_at, bit_field_lt}
use Rattle.laws.proofs.Card.{length-widths}
use Rattle.laws.proofs.Fields.{Fair, FairAll, nil, cons, fair_range, table-length}
use Rattle.laws.proofs.Attachments.{Fine, empty, one}
use Rattle.laws.proofs.ShipText.{read_text_length, text_cost_lem}
use Rattle.laws.proofs.Report.{Good, judged, size-within}
use Rattle.laws.proofs.WholeList.{Kept, step_kept}
use Rattle.laws.proofs.Machine.{Each, each_answer}
use Rattle.laws.proofs.Indicators.{found_few}

-- ---- what fits

-- a number that a signed word of 64 bits holds, or that is missing
abbrev pub NumberFits : Option ℤ → Type 0
NumberFits none = Unit {0}
NumberFits (some z) = mag z < 2 ^ 63

abbrev pub GivenFit : List Given → Type 0
GivenFit [] = Unit {0}
GivenFit (g ∷ more) = NumberFits g.number × GivenFit more

abbrev pub AnswerFits : Answer → Type 0
AnswerFits (refused r) = r.place < 2 ^ 64
AnswerFits (accepted gs) = GivenFit gs

-- ---- refusals

-- the first refusal of these checks, if there is one, is such
unfoldable pub Near : (Refusal → Type 0) → List Check → Type 0
Near P cs = (r : Refusal) → first cs ≡ some r → P r

module _ (P : Refusal → Type 0) where
  near_nil : Near P []
  unfolding Near first
  near_nil r e = let z : ◌≡◌ {A = ℕ} 0 1 = cc in absurd (omega arith)

  -- a check, and those behind it, which count where it does not fit
  pub near_cons : (c : Check) (more : List Check) → P c.refusal → (c.fits ≡ false → Near P more) → Near P (c ∷ more)
  unfolding Near first
  near_cons c more h rest r = go c.fits refl
    where
      go : (t : Bool) → c.fits ≡ t → cond t (some c.refusal) (first more) ≡ some r → P r
      go true q e = let s : c.refusal ≡ r = cc in subst P s h
      go false q e = rest q r e

  pub near_one : (c : Check) → P c.refusal → Near P (c ∷ [])
  near_one c h = near_cons c [] h (λ q. near_nil)

  near_append : (xs ys : List Check) → Near P xs → Near P ys → Near P (xs ++ ys)
  unfolding Near
  near_append xs ys hx hy r = go (first xs) refl
    where
      go : (o : Option Refusal) → first xs ≡ o → first (xs ++ ys) ≡ some r → P r
      go none q e = hy r (sym (first-append_skip xs ys q) ∙ e)
      go (some x) q e = hx r (q ∙ sym (first-append_some xs ys x q) ∙ e)

-- its place is below 64
abbrev Close : Refusal → Type 0
Close r = r.place < 64

-- so is a report's, whose number is 1 to 7
abbrev OfReport : Refusal → Type 0
OfReport r = (r.place < 64) × (1 ≤ r.number) × (r.number ≤ 7)

-- the report's
fields_near : (k : ℕ) (fs : List Field) (cs : List ℕ) → k + length fs ≤ 64 → Near OfReport (field_checks k fs cs)
unfolding field_checks
fields_near k [] cs h = near_nil OfReport
fields_near k (f ∷ fs) [] h = near_nil OfReport
fields_near k (f ∷ fs) (c ∷ cs) h =
    near_cons OfReport _ _ (omega arith, omega arith, omega arith) (λ q. near_cons OfReport _ _ (omega arith, omega arith, omega arith) (λ p. fields_near (suc k) fs cs (omega arith)))

attachments_near : (marks : FlagTable) (n i : ℕ) (seen ns : List ℕ) → i + n ≤ 64 → Near OfReport (attachment_checks marks n i seen ns)
unfolding attachment_checks
attachments_near marks zero i seen ns h = near_nil OfReport
attachments_near marks (suc n) i seen ns h =
    near_cons OfReport _ _ (omega arith, omega arith, omega arith)
    (λ q1. near_cons OfReport _ _ (omega arith, omega arith, omega arith)
    (λ q2. near_cons OfReport _ _ (omega arith, omega arith, omega arith)
    (λ q3. near_cons OfReport _ _ (omega arith, omega arith, omega arith) (λ q4. attachments_near marks n (suc i) (id_at ns ∷ seen) (behind ns) (omega arith)))))

count_low : (b : List ℕ) → count_of b < 16
unfolding widths table
count_low b =
    let at = bit_field_at widths b 48 (omega (arith, length-widths)) in
    subst (λ (n : ℕ). n < 16) at (bit_field_lt b (offset widths 48) 4)

report_near : (marks : FlagTable) (b : List ℕ) → Near OfReport (report_checks marks b)
unfolding report_checks
report_near marks b =
    near_cons OfReport _ _ (omega arith, omega arith, omega arith)
    (λ q. near_append OfReport (field_checks 1 table (codes_of b)) _ (fields_near 1 table (codes_of b) (omega (arith, table-length)))
    (near_cons OfReport _ _ (omega arith, omega arith, omega arith)
    (λ p. near_append OfReport (attachment_checks marks (count_of b) 1 [] (tail_of b)) _ (attachments_near marks (count_of b) 1 [] (tail_of b) (omega (arith, count_low b)))
    (near_one OfReport _ (omega arith, omega arith, omega arith)))))

judge_close : (marks : FlagTable) (b : List ℕ) (r : Refusal) → judge marks b ≡ Verdict.refused r → OfReport r
unfolding judge Near
judge_close marks b r = go (first (report_checks marks b)) refl
  where
    go : (o : Option Refusal) → first (report_checks marks b) ≡ o → verdict o (observation_of b) ≡ Verdict.refused r → OfReport r
    go none q e = let z : ◌≡◌ {A = ℕ} 0 1 = cc in absurd (omega arith)
    go (some x) q e = let s : x ≡ r = cc in subst OfReport s (report_near marks b x q)

pub judge-number : (marks : FlagTable) (b : List ℕ) (r : Refusal) → judge marks b ≡ Verdict.refused r → (1 ≤ r.number) × (r.number ≤ 7)
judge-number marks b r e = let c = judge_close marks b r e in (c.1, c.2)

-- a call's: a number is judged before it is a place
number_near : (low high x : ℕ) (more : List Check) → (x ≤ high → Near Close more) → Near Close (check (not (between low high x)) 8 0 ∷ more)
number_near low high x more h = near_cons Close _ _ (omega arith) (λ q. h (between_in low high x (between low high x) refl q).1)

calls_near : (marks : FlagTable) (s : Observation) (c : Call) → Near Close (call_checks marks s c)
unfolding call_checks
calls_near marks s (reads (read_field k)) = number_near 1 46 k _ (λ h. near_nil Close)
calls_near marks s (reads (read_flag j)) = number_near 1 14 j _ (λ h. near_one Close _ (omega arith))
calls_near marks s (edits (set_field k v)) = number_near 1 46 k _ (λ h. near_one Close _ (omega arith))
calls_near marks s (edits (clear_field k)) = number_near 1 46 k _ (λ h. near_one Close _ (omega arith))
calls_near marks s (edits (clear_with_indicators k)) = number_near 1 46 k _ (λ h. near_one Close _ (omega arith))
calls_near marks s (edits (set_flag j v)) = number_near 1 14 j _ (λ h. near_cons Close _ _ (omega arith) (λ q. near_one Close _ (omega arith)))
calls_near marks s (edits (clear_flag j)) = number_near 1 14 j _ (λ h. near_one Close _ (omega arith))
calls_near marks s (edits (put i ns)) = number_near 1 15 i _ (λ h. near_cons Close _ _ (omega arith) (λ q. near_one Close _ (omega arith)))
calls_near marks s (edits (remove i)) = number_near 1 15 i _ (λ h. near_one Close _ (omega arith))
calls_near marks s (edits (put_text t os)) =
    near_cons Close _ _ (omega arith) (λ p. near_cons Close _ _ (omega arith) (λ q. near_cons Close _ _ (omega arith) (λ r. near_one Close _ (omega arith))))
calls_near marks s (fetches (fetch i out)) = number_near 1 15 i _ (λ h. near_one Close _ (omega arith))
calls_near marks s (fetches (fetch_text out origins)) = near_one Close _ (omega arith)

-- ---- numbers that are given

-- fields: no range goes beyond 20000 either way
abbrev lowest : Field → ℤ
lowest f = f.base +ℤ pos 1

abbrev top : Field → ℤ
top f = f.base +ℤ pos f.highest

abbrev narrow : Field → Bool
narrow f = le_z (negsuc 20000) (lowest f) && le_z (top f) (pos 20000)

all_narrow : List Field → Bool
all_narrow [] = true
all_narrow (f ∷ fs) = narrow f && all_narrow fs

table_narrow : all_narrow table ≡ true
unfolding all_narrow table
table_narrow = refl

between_fits : (a z b : ℤ) → le_z (negsuc 20000) a ≡ true → le_z a z ≡ true → le_z z b ≡ true → le_z b (pos 20000) ≡ true → mag z < 2 ^ 63
between_fits a (pos n) (pos m) h1 h2 h3 h4 = let x = leb-true n m h3 in let y = leb-true m 20000 h4 in omega arith
between_fits a (pos n) (negsuc m) h1 h2 h3 h4 = absurd (true_false false h3 refl)
between_fits (pos m) (negsuc n) b h1 h2 h3 h4 = absurd (true_false false h2 refl)
between_fits (negsuc m) (negsuc n) b h1 h2 h3 h4 = let x = leb-true n m h2 in let y = leb-true m 20000 h1 in omega arith

entry_fits : (f : Field) (e : Option Scaled) → Fair f e → narrow f ≡ true → NumberFits (value_number e)
unfolding in_range
entry_fits f none h l = tt
entry_fits f (some v) h l =
    let r = and_true (le_z (lowest f) v.0) (le_z v.0 (top f)) (fair_range f v h) in
    let n = and_true (le_z (negsuc 20000) (lowest f)) (le_z (top f) (pos 20000)) l in
    between_fits (lowest f) v.0 (top f) n.0 r.0 r.1 n.1

value_fits : {fs : List Field} {es : List (Option Scaled)} → FairAll fs es → all_narrow fs ≡ true → (i : ℕ) → NumberFits (value_number (get_or es i none))
unfolding all_narrow
value_fits nil l i = tt
value_fits (cons {f = f} {e = e} {fs = fs} h t) l zero = entry_fits f e h (and_true (narrow f) (all_narrow fs) l).0
value_fits (cons {f = f} {fs = fs} h t) l (suc i) = value_fits t (and_true (narrow f) (all_narrow fs) l).1 i

-- attachments: 255 nibbles at most
pub content_low : (marks : FlagTable) {seen : List ℕ} {list : List Attachment} (i : ℕ) → Fine marks seen list
    → (length (content_of i list) ≤ 255) × Nibbles (content_of i list)
unfolding content_of
content_low marks i empty = (omega arith, λ k. omega arith)
content_low marks i (one {a = a} {more = more} at new f) =
    cond_case (λ (ns : List ℕ). (length ns ≤ 255) × Nibbles ns) (eqb a.id i) a.content (content_of i more)
    (λ e. (at.short, at.nibbles))
    (λ e. content_low marks i f)

set_small : (d : DeckSet) → set_number d < 2 ^ 63
unfolding set_number
set_small unknown = omega arith
set_small ebcdic = omega arith
set_small ascii = omega arith

-- a text that is put has passed its check of 12
text_low : (marks : FlagTable) (s : Observation) (t os : List ℕ) → first (call_checks marks s (edits (put_text t os))) ≡ none → nibble_count (symbols_in t os) ≤ 255
unfolding call_checks
text_low marks s t os e =
    let passed = (first_none _ _ (first_none _ _ (first_none _ _ e).1).1).0 in
    (between_in 1 255 (nibble_count (symbols_in t os)) _ refl passed).1

-- what a read gives, and so set and clear
read_fits : (marks : FlagTable) (s : Observation) (r : Reading) → Good marks s → NumberFits (read_gives s r).number
unfolding read_gives
read_fits marks s (read_field k) g = value_fits g.fair table_narrow (k - 1)
read_fits marks s (read_flag j) g =
    let v = flag_at (content s 1) j in
    let h = (content_low marks 1 g.fine).1 (j - 1) in
    cond_case NumberFits (eqb v 0) none (some (pos v)) (λ _. tt) (λ _. omega arith)

gives_fit : (marks : FlagTable) (s : Observation) (c : Call) → Good marks s → first (call_checks marks s c) ≡ none → GivenFit (gives s c)
unfolding gives
gives_fit marks s (reads r) g e = (read_fits marks s r g, tt)
gives_fit marks s (edits (set_field k v)) g e = (read_fits marks s (read_field k) g, tt)
gives_fit marks s (edits (clear_field k)) g e = (read_fits marks s (read_field k) g, tt)
gives_fit marks s (edits (clear_with_indicators k)) g e = (read_fits marks s (read_field k) g, tt)
gives_fit marks s (edits (set_flag j v)) g e = (read_fits marks s (read_flag j) g, tt)
gives_fit marks s (edits (clear_flag j)) g e = (read_fits marks s (read_flag j) g, tt)
gives_fit marks s (edits (put i ns)) g e = tt
gives_fit marks s (edits (remove i)) g e = tt
gives_fit marks s (edits (put_text t os)) g e = (omega (arith, text_low marks s t os e), tt)
gives_fit marks s (fetches (fetch i out)) g e = let h = (content_low marks i g.fine).0 in (omega arith, tt)
gives_fit marks s (fetches (fetch_text out origins)) g e =
    let h = (content_low marks 4 g.fine).0 in
    let symbols = read_text_length (content s 4) in
    (omega arith, (set_small (deck_set (get_or s.values 9 none)), (omega (arith, text_cost_lem (ship_text s)), tt)))

-- ---- answers

step_fits : (marks : FlagTable) (n : ℕ) (s : Observation) (c : Call) → Good marks s → AnswerFits (step marks n s c).answer
unfolding step Near
step_fits marks n s c g = go (first (checks marks n s c)) refl
  where
    near : Near Close (checks marks n s c)
    near = unfold checks in near_append Close (call_checks marks s c) (room_check n s c ∷ []) (calls_near marks s c) (near_one Close (room_check n s c) (omega arith))

    go : (o : Option Refusal) → first (checks marks n s c) ≡ o → AnswerFits (stepped_by o s c).answer
    go (some r) q = let h = near r q in omega arith
    go none q = gives_fit marks s c g (first-append_none (call_checks marks s c) (room_check n s c ∷ []) (unfold checks in q)).0

pub effect_fits : (marks : FlagTable) (b : List ℕ) (c : Call) → Bytes b → AnswerFits (effect marks b c).answer
unfolding effect
effect_fits marks b c h = go (judge marks b) refl
  where
    go : (v : Verdict) → judge marks b ≡ v → AnswerFits (effect_on marks v b c).answer
    go (Verdict.refused r) q = omega (arith, (judge_close marks b r q).0)
    go (Verdict.accepted s) q = step_fits marks (length b) s c (judged marks b s h q).good

-- of the finding call: six at most
pub find_fits : (marks : FlagTable) (b out : List ℕ) → AnswerFits (find marks b out).answer
unfolding find find_checks first
find_fits marks b out = go (judge marks b) refl
  where
    go : (v : Verdict) → judge marks b ≡ v → AnswerFits (find_on v out).answer
    go (Verdict.refused r) q = omega (arith, (judge_close marks b r q).0)
    go (Verdict.accepted s) q =
        cond_case (λ (o : Option Refusal). AnswerFits (wrote_by o (counted count (length (found s)) ∷ []) (found s) out).answer) (ltb (length out) (length (found s))) _ _
        (λ _. omega arith)
        (λ _. (omega (arith, found_few s), tt))

-- every answer of a list
abbrev pub ShownFits : Call → Shown → Type 0
ShownFits c a = AnswerFits a.answer

refusals_fit : (r : Refusal) (cs : List Call) → r.place < 2 ^ 64 → Each ShownFits cs (refusals r cs)
refusals_fit r [] h = tt
refusals_fit r (c ∷ cs) h = (h, refusals_fit r cs h)

pub claim_fits : (marks : FlagTable) (b : List ℕ) (cs : List Call) → Bytes b → Each ShownFits cs (claim marks b cs).answers
unfolding claim run
claim_fits marks b cs h = go (judge marks b) refl
  where
    go : (v : Verdict) → judge marks b ≡ v → Each ShownFits cs (claim_on marks v b cs).answers
    go (Verdict.refused r) q = refusals_fit r cs (omega (arith, (judge_close marks b r q).0))
    go (Verdict.accepted s) q =
        each_answer (stepping marks (length b)) (λ (m : Standing). Kept marks (length b) m.observation) ShownFits
        (λ m c k. (step_fits marks (length b) m.observation c k.good, step_kept marks (length b) m.observation c k))
        cs (standing s (size s)) (record { good = (judged marks b s h q).good; fits = size-within marks b s h q })
