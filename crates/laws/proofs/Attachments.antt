-- Attachments: a tail is read back as it was written, the checks accept the tails of attachments that stand and no others,
-- and how large these are.
-- Assumes nothing.
use Prim.Native.Nat.{ℕ, zero, suc, ◌+◌, ◌-◌, ◌/◌, ◌%◌, ◌≤◌, ◌<◌}
use native.Mathlib.Omega.{arith}
use mathlib.Core.Path.{◌≡◌, refl, sym, ap, ◌∙◌}
use mathlib.Core.Bool.{Bool, true, false, cond}
use mathlib.Core.List.{List, [], ◌∷◌, ◌++◌, append_assoc, append-nil}
use mathlib.Core.Option.{none}
use lib.ListN.{length, get_or, take, drop, length-append, take-append-drop}
use lib.Seq.{take_at, drop_at, drop-append_seam, length-take-le}
use lib.Dec.{leb, eqb}
use borrow.Author.Tests.{le-ltb, le-leb, ne_eqb, ltb-false, leb-true, eqb-true, eqb-false, not-false}
use Rattle.format.specs.Order.{first}
use Rattle.format.specs.Nibbles.{Attachment, attachment, attachment_nibbles, tail_nibbles, length_at, id_at, content_at, behind, attachments_of, among, Nibbles}
use Rattle.format.specs.Flags.{FlagTable, flags_valid}
use Rattle.format.specs.Report.{body_valid, attachment_checks}
use Rattle.format.specs.Calls.{all_nibbles}
use Rattle.format.specs.Whole.{count_from, count_in}
use Rattle.laws.proofs.Sequences.{and_true, or_false, cond_case}
use Rattle.laws.proofs.Order.{first_none}
use Rattle.laws.proofs.Bits.{append_below, take_below, drop_below}

-- ---- nibbles

-- the test of nibbles says so of each
pub nibbles_all : (ns : List ℕ) → Nibbles ns → all_nibbles ns ≡ true
unfolding all_nibbles
nibbles_all [] p = refl
nibbles_all (x ∷ ns) p = rw (le-leb x 15 (omega (arith, p 0)), nibbles_all ns (λ i. p (suc i)))

pub all_nibbles_lem : (ns : List ℕ) → all_nibbles ns ≡ true → Nibbles ns
unfolding all_nibbles
all_nibbles_lem [] e i = omega arith
all_nibbles_lem (x ∷ ns) e zero = omega (arith, leb-true x 15 (and_true (leb x 15) (all_nibbles ns) e).0)
all_nibbles_lem (x ∷ ns) e (suc i) = all_nibbles_lem ns (and_true (leb x 15) (all_nibbles ns) e).1 i

-- ---- tails

-- what is read at the head of a tail is what was written there
module _ (a : Attachment) (more : List Attachment) (r : List ℕ) where
  length_at_lem : length_at (tail_nibbles (a ∷ more) ++ r) ≡ length a.content
  unfolding tail_nibbles attachment_nibbles
  length_at_lem = omega arith

  id_at_lem : id_at (tail_nibbles (a ∷ more) ++ r) ≡ a.id
  unfolding tail_nibbles attachment_nibbles
  id_at_lem = refl

  data_at : drop 3 (tail_nibbles (a ∷ more) ++ r) ≡ a.content ++ (tail_nibbles more ++ r)
  unfolding tail_nibbles attachment_nibbles
  data_at = append_assoc a.content (tail_nibbles more) r

  content_at_lem : content_at (tail_nibbles (a ∷ more) ++ r) ≡ a.content
  content_at_lem = rw (length_at_lem, data_at) (take_at a.content (tail_nibbles more ++ r) (length a.content) refl)

  behind_at : behind (tail_nibbles (a ∷ more) ++ r) ≡ tail_nibbles more ++ r
  behind_at = rw (length_at_lem, data_at) (drop_at a.content (tail_nibbles more ++ r) (length a.content) refl)

pub tail-append : (xs ys : List Attachment) → tail_nibbles (xs ++ ys) ≡ tail_nibbles xs ++ tail_nibbles ys
unfolding tail_nibbles
tail-append [] ys = refl
tail-append (a ∷ xs) ys = rw (tail-append xs ys) (sym (append_assoc (attachment_nibbles a) (tail_nibbles xs) (tail_nibbles ys)))

-- the size of a tail: 3 nibbles and the content for each attachment
pub tail-length : (a : Attachment) (more : List Attachment)
    → length (tail_nibbles (a ∷ more)) ≡ 3 + (length a.content + length (tail_nibbles more))
unfolding tail_nibbles attachment_nibbles
tail-length a more = simp length-append (omega arith)

-- a tail is read as it was written, whatever follows
pub tail_reads : (list : List Attachment) (r : List ℕ) → attachments_of (length list) (tail_nibbles list ++ r) ≡ list
unfolding attachments_of
tail_reads [] r = refl
tail_reads (a ∷ more) r = rw (content_at_lem a more r, behind_at a more r, id_at_lem a more r, tail_reads more r)

-- counted from a tail and what follows it: the tail's attachments, and those that follow
count_from_lem : (list : List Attachment) (k : ℕ) (r : List ℕ) → count_from (length list + k) (tail_nibbles list ++ r) ≡ length list + count_from k r
unfolding count_from tail_nibbles attachment_nibbles
count_from_lem [] k r = let e : 0 + k ≡ k = omega arith in rw e (omega arith)
count_from_lem (a ∷ more) k r =
    let e : suc (length more) + k ≡ suc (length more + k) = omega arith in
    rw (e, behind_at a more r, count_from_lem more k r) (omega arith)

-- nothing is counted from no nibbles, and from no others
pub count_nil : (k : ℕ) → count_from k [] ≡ 0
unfolding count_from
count_nil zero = refl
count_nil (suc k) = refl

count_none : (k : ℕ) (r : List ℕ) → length r ≤ k → count_from k r ≡ 0 → r ≡ []
unfolding count_from
count_none k [] h e = refl
count_none zero (x ∷ r) h e = absurd (omega arith)
count_none (suc k) (x ∷ r) h e = absurd (omega arith)

tail_least : (list : List Attachment) → length list ≤ length (tail_nibbles list)
tail_least [] = omega arith
tail_least (a ∷ more) = let h = tail_least more in rw tail-length (omega arith)

-- as many attachments are counted from a tail as it has
pub tail_count : (list : List Attachment) → count_in (tail_nibbles list) ≡ length list
tail_count list =
    let k = length (tail_nibbles list) - length list in
    let h = tail_least list in
    let e : length (tail_nibbles list) ≡ length list + k = omega arith in
    let c : count_from (length list + k) (tail_nibbles list) ≡ length list + count_from k [] = rw append-nil at (count_from_lem list k []) in
    rw e (c ∙ rw count_nil (omega arith))

-- if as many are counted from a tail with what follows it, nothing follows
count_rest : (list : List Attachment) (m : ℕ) (r : List ℕ) → length (tail_nibbles list ++ r) ≤ m
    → count_from m (tail_nibbles list ++ r) ≡ length list → r ≡ []
count_rest list m r h e =
    let k = m - length list in
    let h1 = tail_least list in
    let h2 = length-append (tail_nibbles list) r in
    let e1 : m ≡ length list + k = omega arith in
    let e2 : count_from (length list + k) (tail_nibbles list ++ r) ≡ length list = rw e1 at e in
    count_none k r (omega arith) (omega (arith, count_from_lem list k r))

-- ---- attachments that stand

-- an attachment that no check refuses by itself
pub record FineAt (marks : FlagTable) (a : Attachment) : Type 0 where
  pub filled : 1 ≤ length a.content
  pub short : length a.content ≤ 255
  pub nibbles : Nibbles a.content
  pub low : 1 ≤ a.id
  pub high : a.id ≤ 15
  pub valid : body_valid marks a.id a.content ≡ true

-- attachments that stand after the ids seen
pub data Fine (marks : FlagTable) : List ℕ → List Attachment → Type 0 where
  empty : {seen : List ℕ} → Fine marks seen []
  one : {seen : List ℕ} {a : Attachment} {more : List Attachment}
      → FineAt marks a → among a.id seen ≡ false → Fine marks (a.id ∷ seen) more → Fine marks seen (a ∷ more)

-- no check refuses what stands, whatever follows
pub fine_checks : (marks : FlagTable) {seen : List ℕ} {list : List Attachment} (i : ℕ) (r : List ℕ) → Fine marks seen list
    → first (attachment_checks marks (length list) i seen (tail_nibbles list ++ r)) ≡ none
unfolding attachment_checks first
fine_checks marks i r empty = refl
fine_checks marks {seen} i r (one {a = a} {more = more} at new f) =
    let ns = tail_nibbles (a ∷ more) ++ r in
    let l = length a.content in
    let head : 3 ≤ length ns = simp (length-append, tail-length) (omega arith) in
    rw (
      le-ltb (length ns) 3 head,
      length_at_lem a more r,
      id_at_lem a more r,
      data_at a more r,
      ne_eqb l 0 (omega arith),
      ne_eqb a.id 0 (omega arith),
      new,
      le-ltb (length (a.content ++ (tail_nibbles more ++ r))) l (simp length-append (omega arith)),
      take_at a.content (tail_nibbles more ++ r) l refl,
      at.valid,
      drop_at a.content (tail_nibbles more ++ r) l refl,
      fine_checks marks (suc i) r f,
    )

-- the tail of what stands is of nibbles
attachment-nibbles : (marks : FlagTable) (a : Attachment) → FineAt marks a → Nibbles (attachment_nibbles a)
unfolding attachment_nibbles
attachment-nibbles marks a at zero = omega arith
attachment-nibbles marks a at (suc zero) = omega arith
attachment-nibbles marks a at (suc (suc zero)) = omega arith
attachment-nibbles marks a at (suc (suc (suc i))) = at.nibbles i

pub fine_nibbles : (marks : FlagTable) {seen : List ℕ} {list : List Attachment} → Fine marks seen list → Nibbles (tail_nibbles list)
unfolding tail_nibbles
fine_nibbles marks empty = λ i. omega arith
fine_nibbles marks (one {a = a} {more = more} at new f) = append_below 16 (attachment_nibbles a) (tail_nibbles more) (attachment-nibbles marks a at) (fine_nibbles marks f)

-- ---- and back: what no check refuses is a tail

-- n attachments at the head of nibbles
pub record Walked (marks : FlagTable) (n : ℕ) (seen ns : List ℕ) : Type 0 where
  pub fine : Fine marks seen (attachments_of n ns)
  pub count : length (attachments_of n ns) ≡ n
  pub starts : ns ≡ tail_nibbles (attachments_of n ns) ++ drop (length (tail_nibbles (attachments_of n ns))) ns

front : (ns p r : List ℕ) → ns ≡ p ++ r → ns ≡ p ++ drop (length p) ns
front ns p r e = rw e (rw drop-append_seam)

header : (ns : List ℕ) → 3 ≤ length ns → ns ≡ get_or ns 0 0 ∷ get_or ns 1 0 ∷ get_or ns 2 0 ∷ drop 3 ns
header [] h = absurd (omega arith)
header (x ∷ []) h = absurd (omega arith)
header (x ∷ y ∷ []) h = absurd (omega arith)
header (x ∷ y ∷ z ∷ ns) h = refl

-- nibbles are an attachment and what stands behind it, if its header and its data fit
headed : (ns : List ℕ) (more : List Attachment) (r : List ℕ) → Nibbles ns → 3 ≤ length ns → length_at ns ≤ length (drop 3 ns)
    → behind ns ≡ tail_nibbles more ++ r → ns ≡ tail_nibbles (attachment (id_at ns) (content_at ns) ∷ more) ++ r
unfolding tail_nibbles attachment_nibbles
headed ns more r b head fits e =
    let l = length_at ns in
    let d = drop 3 ns in
    let b1 = b 1 in
    let high : l / 16 ≡ get_or ns 0 0 = omega arith in
    let low : l % 16 ≡ get_or ns 1 0 = omega arith in
    let body : d ≡ (content_at ns ++ tail_nibbles more) ++ r = sym (take-append-drop l d) ∙ rw e (sym (append_assoc (content_at ns) (tail_nibbles more) r)) in
    rw (length-take-le l d fits, high, low) (header ns head ∙ ap (λ (t : List ℕ). get_or ns 0 0 ∷ get_or ns 1 0 ∷ id_at ns ∷ t) body)

-- what no check refuses are attachments that stand, written at the front
pub checks_fine : (marks : FlagTable) (n i : ℕ) (seen ns : List ℕ) → Nibbles ns → first (attachment_checks marks n i seen ns) ≡ none → Walked marks n seen ns
unfolding attachment_checks attachments_of tail_nibbles attachment_nibbles
checks_fine marks zero i seen ns b e = record { fine = empty; count = refl; starts = refl }
checks_fine marks (suc n) i seen ns b e =
    let l = length_at ns in
    let d = drop 3 ns in
    let e1 = first_none _ _ e in
    let e2 = first_none _ _ e1.1 in
    let e3 = first_none _ _ e2.1 in
    let e4 = first_none _ _ e3.1 in
    let t2 = or_false (eqb l 0) _ e2.0 in
    let t3 = or_false (eqb (id_at ns) 0) _ t2.1 in
    let fits : l ≤ length d = ltb-false (length d) l e3.0 in
    let size : length (take l d) ≡ l = length-take-le l d fits in
    let b0 = b 0 in
    let b1 = b 1 in
    let b2 = b 2 in
    let n1 = eqb-false l 0 t2.0 in
    let n2 = eqb-false (id_at ns) 0 t3.0 in
    let at : FineAt marks (attachment (id_at ns) (take l d)) = record {
      filled = omega arith;
      short = omega arith;
      nibbles = take_below 16 l d (drop_below 16 3 ns b);
      low = omega arith;
      high = omega arith;
      valid = not-false _ e4.0;
    } in
    let w = checks_fine marks n (suc i) (id_at ns ∷ seen) (drop l d) (drop_below 16 l d (drop_below 16 3 ns b)) e4.1 in
    let more = attachments_of n (behind ns) in
    let r = drop (length (tail_nibbles more)) (behind ns) in
    let split = headed ns more r b (ltb-false (length ns) 3 e1.0) fits w.starts in
    record { fine = one at t3.1 w.fine; count = ap suc w.count; starts = front ns (tail_nibbles (attachments_of (suc n) ns)) r split }

-- nothing is left behind the last attachment that is counted
pub count_all : (marks : FlagTable) (ns : List ℕ) → Nibbles ns → first (attachment_checks marks (count_in ns) 1 [] ns) ≡ none
    → ns ≡ tail_nibbles (attachments_of (count_in ns) ns)
count_all marks ns b e =
    let w = checks_fine marks (count_in ns) 1 [] ns b e in
    let t = tail_nibbles (attachments_of (count_in ns) ns) in
    let r = drop (length t) ns in
    let s : ns ≡ t ++ r = w.starts in
    let c : count_from (length ns) (t ++ r) ≡ length (attachments_of (count_in ns) ns) = ap (count_from (length ns)) (sym s) ∙ sym w.count in
    let l : length (t ++ r) ≤ length ns = omega (arith, ap length s) in
    let z : r ≡ [] = count_rest (attachments_of (count_in ns) ns) (length ns) r l c in
    s ∙ (rw (z, append-nil))

-- ---- how many attachments, and how large a tail

-- what the ids 1 to k weigh that are not seen
room : (ℕ → ℕ) → ℕ → List ℕ → ℕ
room w zero seen = 0
room w (suc k) seen = cond (among (suc k) seen) 0 (w (suc k)) + room w k seen

room_above : (w : ℕ → ℕ) (k i : ℕ) (seen : List ℕ) → k < i → room w k (i ∷ seen) ≡ room w k seen
unfolding room among
room_above w zero i seen h = refl
room_above w (suc k) i seen h = rw (ne_eqb (suc k) i (omega arith), room_above w k i seen (omega arith))

room_taken : (w : ℕ → ℕ) (k i : ℕ) (seen : List ℕ) → 1 ≤ i → i ≤ k → among i seen ≡ false
    → w i + room w k (i ∷ seen) ≡ room w k seen
unfolding room among
room_taken w zero i seen low high new = absurd (omega arith)
room_taken w (suc k) i seen low high new = go (λ h. room_taken w k i seen low h new) (eqb (suc k) i) refl
  where
    go : (i ≤ k → w i + room w k (i ∷ seen) ≡ room w k seen) → (t : Bool) → eqb (suc k) i ≡ t
        → w i + room w (suc k) (i ∷ seen) ≡ room w (suc k) seen
    go below true e =
        let s : i ≡ suc k = sym (eqb-true (suc k) i e) in
        rw (e, room_above w k i seen (omega arith), ← s, new) (omega arith)
    go below false e =
        let ne = eqb-false (suc k) i e in
        rw e (omega (arith, below (omega arith)))

-- attachments that stand weigh no more together than the ids that are not seen
fine_weigh : (marks : FlagTable) {seen : List ℕ} {list : List Attachment} (f : List Attachment → ℕ) (w : ℕ → ℕ) → f [] ≡ 0
    → ((a : Attachment) (more : List Attachment) → FineAt marks a → f (a ∷ more) ≤ w a.id + f more) → Fine marks seen list → f list ≤ room w 15 seen
fine_weigh marks f w z s empty = omega arith
fine_weigh marks {seen} f w z s (one {a = a} {more = more} at new g) =
    omega (arith, s a more at, fine_weigh marks f w z s g, room_taken w 15 a.id seen at.low at.high new)

-- at most fifteen attachments stand
pub fine_count : (marks : FlagTable) {list : List Attachment} → Fine marks [] list → length list ≤ 15
unfolding room among
fine_count marks f = fine_weigh marks length (λ i. 1) refl (λ a more at. omega arith) f

-- flags have 16 nibbles
flags_length : (marks : FlagTable) (ns : List ℕ) → body_valid marks 1 ns ≡ true → length ns ≡ 16
unfolding body_valid flags_valid
flags_length marks ns e = eqb-true (length ns) 16 (and_true _ _ e).0

-- the most nibbles of an attachment under id i, with its header
most : ℕ → ℕ
most i = cond (eqb i 1) 19 258

fine_most : (marks : FlagTable) (a : Attachment) → FineAt marks a → 3 + length a.content ≤ most a.id
unfolding most
fine_most marks a at =
    cond_case (λ (n : ℕ). 3 + length a.content ≤ n) (eqb a.id 1) 19 258
    (λ e. omega (arith, flags_length marks a.content (rw (eqb-true a.id 1 e) at at.valid)))
    (λ e. omega arith)

-- the largest tail: 15 attachments, of which the flags have 16 nibbles and the others 255
pub fine_size : (marks : FlagTable) {list : List Attachment} → Fine marks [] list → length (tail_nibbles list) ≤ 3631
unfolding room among tail_nibbles most
fine_size marks f = fine_weigh marks (λ list. length (tail_nibbles list)) most refl (λ a more at. rw tail-length (omega (arith, fine_most marks a at))) f

-- as many attachments as are counted
pub attachments_length : (n : ℕ) (ns : List ℕ) → length (attachments_of n ns) ≡ n
unfolding attachments_of
attachments_length zero ns = refl
attachments_length (suc n) ns = ap suc (attachments_length n (behind ns))
