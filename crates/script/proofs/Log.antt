-- The log cuts nothing: the records of a list's answers have the lengths that its calls say, and tell the answers.
-- Assumes nothing.
use Prim.{Unit, tt}
use Prim.Native.Nat.{ℕ, zero, suc, ◌+◌, ◌-◌, ◌*◌, ◌≤◌, ◌<◌}
use native.Mathlib.Omega.{arith}
use mathlib.Core.Path.{◌≡◌, refl, sym, ap, ◌∙◌}
use mathlib.Core.Bool.{false}
use mathlib.Core.List.{List, [], ◌∷◌, ◌++◌, append_assoc}
use mathlib.Core.Option.{Option, none, some}
use lib.ListN.{length, drop, length-append, length-drop}
use lib.Seq.{drop-drop, drop_at, take_at}
use lib.Dec.{ltb, eqb}
use lib.IntN.{ℤ}
use borrow.Author.Tests.{ltb-false, lt-ltb, le-ltb, ne_eqb}
use Rattle.format.specs.Bits.{Bytes}
use Rattle.format.specs.Order.{Refusal, first}
use Rattle.format.specs.Flags.{FlagTable}
use Rattle.format.specs.Observation.{Observation, size}
use Rattle.format.specs.Report.{Verdict, judge}
use Rattle.format.specs.Calls.{Call, reads, edits, fetches, set_field, clear_field, clear_with_indicators, set_flag, clear_flag, put, remove, put_text, fetch, fetch_text}
use Rattle.format.specs.Calls.{edited, shorter, overfull, over_each, outputs_of, writes, room_check, call_checks, checks}
use Rattle.format.specs.Calls.{Quantity, value, flag, count, word, present, rptin, attachments, bytes, nibbles, deck, Given, given, gives, Answer, refused, accepted, stepped_by, step, over}
use Rattle.format.specs.Buffer.{Shown, Standing, standing, stepping, run, effect_on, effect, refusals, claim_on, claim}
use Rattle.laws.proofs.Sequences.{or_false}
use Rattle.laws.proofs.Order.{first_none, first-append_none}
use Rattle.laws.proofs.Machine.{Each, each_answer}
use Rattle.laws.proofs.Bounds.{NumberFits, GivenFit, AnswerFits, ShownFits, claim_fits}
use Rattle.numbers.specs.Words.{unsigned}
use Rattle.script.specs.Labels.{quantity_label, quantity_of, label_by, number_or_zero}
use Rattle.script.specs.Script.{bytes8, joined, record_size, row_of, head_of, record_of, records, given_at, given_in, answer_at, outputs_in, answers_in}
use Rattle.script.proofs.Numbers.{length-bytes8, number_at_lem, signed-unsigned, unsigned_lt}

-- ---- lengths

row_length : (n : ℕ) (gs : List Given) → length (row_of n gs) ≡ 9 * n
unfolding row_of
row_length zero gs = refl
row_length (suc n) [] = simp (length-append, length-bytes8, row_length n []) (omega arith)
row_length (suc n) (g ∷ gs) = simp (length-append, length-bytes8, row_length n gs) (omega arith)

pub head_length : (a : Answer) → length (head_of a) ≡ 37
unfolding head_of
head_length (refused r) = simp (length-append, length-bytes8, row_length 3 [])
head_length (accepted gs) = simp (length-append, length-bytes8, row_length 3 gs)

pub record_length : (a : Shown) → length (record_of a) ≡ 37 + length (joined a.outs)
unfolding record_of
record_length a = simp (length-append, head_length)

-- outputs as many and as long as others
abbrev pub Alike : List (List ℕ) → List (List ℕ) → Type 0
Alike [] [] = Unit {0}
Alike [] (y ∷ ys) = ⊥
Alike (x ∷ xs) [] = ⊥
Alike (x ∷ xs) (y ∷ ys) = (length x ≡ length y) × Alike xs ys

alike_same : (xs : List (List ℕ)) → Alike xs xs
alike_same [] = tt
alike_same (x ∷ xs) = (refl, alike_same xs)

alike_over : (xs outs : List (List ℕ)) → overfull xs outs ≡ false → Alike (over_each xs outs) outs
unfolding overfull over_each
alike_over [] outs h = alike_same outs
alike_over (x ∷ xs) [] h = let z : ◌≡◌ {A = ℕ} 0 1 = cc in absurd (omega arith)
alike_over (x ∷ xs) (out ∷ outs) h =
    let f = or_false (ltb (length out) (length x)) (overfull xs outs) h in
    let fits = ltb-false (length out) (length x) f.0 in
    (simp (length-append, length-drop) (omega arith), alike_over xs outs f.1)

pub alike_joined : (xs ys : List (List ℕ)) → Alike xs ys → length (joined xs) ≡ length (joined ys)
unfolding joined
alike_joined [] [] h = refl
alike_joined [] (y ∷ ys) h = absurd h
alike_joined (x ∷ xs) [] h = absurd h
alike_joined (x ∷ xs) (y ∷ ys) h = simp (length-append, h.0, alike_joined xs ys h.1)

-- no call changes the lengths of its outputs
step_outs : (marks : FlagTable) (n : ℕ) (s : Observation) (c : Call) → Alike (step marks n s c).outs (outputs_of c)
unfolding step
step_outs marks n s c = go (first (checks marks n s c)) refl
  where
    go : (o : Option Refusal) → first (checks marks n s c) ≡ o → Alike (stepped_by o s c).outs (outputs_of c)
    go (some r) q = alike_same (outputs_of c)
    go none q =
        let f = first-append_none (call_checks marks s c) (room_check n s c ∷ []) (unfold checks in q) in
        let room = or_false (shorter n (edited s c)) (overfull (writes s c) (outputs_of c)) (first_none (room_check n s c) [] f.1).0 in
        alike_over (writes s c) (outputs_of c) room.1

pub effect_outs : (marks : FlagTable) (b : List ℕ) (c : Call) → Alike (effect marks b c).outs (outputs_of c)
unfolding effect
effect_outs marks b c = go (judge marks b)
  where
    go : (v : Verdict) → Alike (effect_on marks v b c).outs (outputs_of c)
    go (Verdict.refused r) = alike_same (outputs_of c)
    go (Verdict.accepted s) = step_outs marks (length b) s c

-- ---- an answer read back

label_range : (q : Quantity) → (1 ≤ quantity_label q) × (quantity_label q < 128)
unfolding quantity_label
label_range value = (omega arith, omega arith)
label_range flag = (omega arith, omega arith)
label_range count = (omega arith, omega arith)
label_range word = (omega arith, omega arith)
label_range present = (omega arith, omega arith)
label_range rptin = (omega arith, omega arith)
label_range attachments = (omega arith, omega arith)
label_range bytes = (omega arith, omega arith)
label_range nibbles = (omega arith, omega arith)
label_range deck = (omega arith, omega arith)

label_back : (q : Quantity) → quantity_of (quantity_label q) ≡ q
unfolding quantity_label quantity_of
label_back value = refl
label_back flag = refl
label_back count = refl
label_back word = refl
label_back present = refl
label_back rptin = refl
label_back attachments = refl
label_back bytes = refl
label_back nibbles = refl
label_back deck = refl

number_back : (q : Quantity) (n : Option ℤ) (rest : List ℕ) → NumberFits n
    → given_at (label_by (quantity_label q) n ∷ (bytes8 (unsigned (number_or_zero n)) ++ rest)) ≡ given q n
number_back q none rest h =
    let m = quantity_label q in
    let e : 128 + m - 128 ≡ m = omega arith in
    rw (le-ltb (128 + m) 128 (omega arith), e, label_back q)
number_back q (some z) rest h =
    let m = quantity_label q in
    rw (lt-ltb m 128 (label_range q).1, label_back q, number_at_lem (m ∷ []) 1 refl (unsigned z) rest (unsigned_lt z h), signed-unsigned z h)

label_there : (m : ℕ) (n : Option ℤ) → 1 ≤ m → eqb (label_by m n) 0 ≡ false
label_there m none h = ne_eqb (128 + m) 0 (λ e. omega arith)
label_there m (some z) h = ne_eqb m 0 (λ e. omega arith)

given_back : (n : ℕ) (gs : List Given) (rest : List ℕ) → length gs ≤ n → GivenFit gs → given_in n (row_of n gs ++ rest) ≡ gs
unfolding given_in row_of
given_back zero [] rest l h = refl
given_back zero (g ∷ gs) rest l h = absurd (omega arith)
given_back (suc n) [] rest l h = refl
given_back (suc n) (g ∷ gs) rest l h =
    let x = bytes8 (unsigned (number_or_zero g.number)) in
    rw (
      append_assoc x (row_of n gs) rest,
      label_there (quantity_label g.quantity) g.number (label_range g.quantity).0,
      number_back g.quantity g.number (row_of n gs ++ rest) h.0,
      drop_at x (row_of n gs ++ rest) 8 (length-bytes8 _),
      given_back n gs rest (omega arith) h.1,
    )

-- a refusal, or not more numbers than a row has room for
abbrev Few : Answer → Type 0
Few (refused r) = Unit {0}
Few (accepted gs) = length gs ≤ 3

answer_back : (a : Answer) (rest : List ℕ) → Few a → AnswerFits a → answer_at (head_of a ++ rest) ≡ a
unfolding answer_at head_of
answer_back (refused r) rest t h =
    rw (append_assoc (bytes8 r.place) (row_of 3 []) rest, number_at_lem (0 ∷ r.number ∷ []) 2 refl r.place (row_of 3 [] ++ rest) h)
answer_back (accepted gs) rest t h =
    rw (append_assoc (bytes8 0) (row_of 3 gs) rest, drop_at (bytes8 0) (row_of 3 gs ++ rest) 8 (length-bytes8 0), given_back 3 gs rest t h)

outputs_back : (outs lent : List (List ℕ)) (rest : List ℕ) → Alike outs lent → outputs_in lent (joined outs ++ rest) ≡ outs
unfolding outputs_in joined
outputs_back [] [] rest h = refl
outputs_back [] (y ∷ lent) rest h = absurd h
outputs_back (x ∷ outs) [] rest h = absurd h
outputs_back (x ∷ outs) (y ∷ lent) rest h =
    rw (append_assoc x (joined outs) rest, take_at x (joined outs ++ rest) (length y) h.0, drop_at x (joined outs ++ rest) (length y) h.0, outputs_back outs lent rest h.1)

-- ---- the answers of a list read back

-- what a record holds: a call's answer, and outputs of the lengths that were lent
abbrev Held : Call → Shown → Type 0
Held c a = Few a.answer × Alike a.outs (outputs_of c)

answers_back : (cs : List Call) (more : List Shown) (rest : List ℕ) → Each Held cs more → Each ShownFits cs more → answers_in cs (records more ++ rest) ≡ more
unfolding answers_in records record_of record_size
answers_back [] [] rest s f = refl
answers_back [] (a ∷ more) rest s f = absurd s
answers_back (c ∷ cs) [] rest s f = absurd s
answers_back (c ∷ cs) (a ∷ more) rest s f =
    let head = head_of a.answer in
    let outs = joined a.outs in
    let left = records more ++ rest in
    let n = length (joined (outputs_of c)) in
    let long : length outs ≡ n = alike_joined a.outs (outputs_of c) s.0.1 in
    let whole : ((head ++ outs) ++ records more) ++ rest ≡ head ++ (outs ++ left) =
    append_assoc (head ++ outs) (records more) rest ∙ append_assoc head outs left in
    let behind : drop 37 (head ++ (outs ++ left)) ≡ outs ++ left = drop_at head (outs ++ left) 37 (head_length a.answer) in
    let next : drop (37 + n) (head ++ (outs ++ left)) ≡ left =
    sym (drop-drop n 37 (head ++ (outs ++ left))) ∙ ap (drop n) behind ∙ drop_at outs left n long in
    rw (whole, answer_back a.answer (outs ++ left) s.0.0 f.0, behind, outputs_back a.outs (outputs_of c) left s.0.1, next, answers_back cs more rest s.1 f.1)

gives_few : (s : Observation) (c : Call) → length (gives s c) ≤ 3
unfolding gives
gives_few s (reads r) = omega arith
gives_few s (edits (set_field k v)) = omega arith
gives_few s (edits (clear_field k)) = omega arith
gives_few s (edits (clear_with_indicators k)) = omega arith
gives_few s (edits (set_flag j v)) = omega arith
gives_few s (edits (clear_flag j)) = omega arith
gives_few s (edits (put i ns)) = omega arith
gives_few s (edits (remove i)) = omega arith
gives_few s (edits (put_text t os)) = omega arith
gives_few s (fetches (fetch i out)) = omega arith
gives_few s (fetches (fetch_text out origins)) = omega arith

step_few : (marks : FlagTable) (n : ℕ) (s : Observation) (c : Call) → Few (step marks n s c).answer
unfolding step
step_few marks n s c = go (first (checks marks n s c))
  where
    go : (o : Option Refusal) → Few (stepped_by o s c).answer
    go (some r) = tt
    go none = gives_few s c

refusals-held : (r : Refusal) (cs : List Call) → Each Held cs (refusals r cs)
refusals-held r [] = tt
refusals-held r (c ∷ cs) = ((tt, alike_same (outputs_of c)), refusals-held r cs)

claim-held : (marks : FlagTable) (b : List ℕ) (cs : List Call) → Each Held cs (claim marks b cs).answers
unfolding claim run
claim-held marks b cs = go (judge marks b)
  where
    go : (v : Verdict) → Each Held cs (claim_on marks v b cs).answers
    go (Verdict.refused r) = refusals-held r cs
    go (Verdict.accepted s) =
        each_answer (stepping marks (length b)) (λ (m : Standing). Unit {0}) Held
        (λ m c k. ((step_few marks (length b) m.observation c, step_outs marks (length b) m.observation c), tt))
        cs (standing s (size s)) tt

-- THE LOG TELLS THE ANSWERS that are claimed of a list
pub claim_told : (marks : FlagTable) (b : List ℕ) (cs : List Call) (log : List ℕ) → Bytes b → answers_in cs (over (records (claim marks b cs).answers) log) ≡ (claim marks b cs).answers
claim_told marks b cs log h = answers_back cs (claim marks b cs).answers _ (claim-held marks b cs) (claim_fits marks b cs h)
