-- The laws of a report: a packing is accepted and shows its observation; an accepted report is the packing of its observation.
-- Assumes nothing.
use Prim.Native.Nat.{ℕ, zero, suc, ◌+◌, ◌*◌, ◌/◌, ◌%◌, ◌^◌, ◌<◌, ◌≤◌}
use native.Mathlib.Omega.{arith}
use mathlib.Core.Path.{◌≡◌, refl, sym, ap, ap₂, subst, ◌∙◌}
use mathlib.Core.Logic.{◌↔◌}
use mathlib.Core.Bool.{Bool, true, false, cond, not, ◌&&◌}
use mathlib.Core.List.{List, [], ◌∷◌, ◌++◌, map, append_assoc, append-nil}
use mathlib.Core.Option.{Option, none, some}
use native.Mathlib.Nat.{suc_inj}
use lib.ListN.{length, get_or, take, drop, replicate, length-map, length-append, length-drop, take-append-drop, drop_of_length-le}
use lib.Seq.{take_at, get_or_at, drop-cons, take-append_seam, get_or-drop, length-take-le, get_or-append-add, get_or-append_seam}
use lib.Dec.{eqb}
use borrow.Author.Tests.{le-ltb, eq-eqb, ne_eqb, ltb-false, eqb-true, not-false}
use Rattle.format.specs.Order.{Refusal, first}
use Rattle.format.specs.Field.{Field, table, entries, codes}
use Rattle.format.specs.Bits.{read_fields, write_fields, Bytes}
use Rattle.format.specs.Flags.{FlagTable}
use Rattle.format.specs.Nibbles.{Attachment, nibbles, bytes, padded, odd, tail_nibbles, attachments_of, Nibbles}
use Rattle.format.specs.Observation.{Observation, widths, checksum, card_numbers, card_nibbles, packing, size}
use Rattle.format.specs.Report.{numbers_of, rptin_of, codes_of, checksum_of, count_of, tail_of, observation_of, field_checks, attachment_checks, tail_length, report_checks, accepted, verdict, judge}
use Rattle.laws.proofs.Sequences.{true_false}
use Rattle.laws.proofs.Order.{first-nil, no_check, no_checks, first_none, first-append_none}
use Rattle.laws.proofs.Bits.{Fit, append_below}
use Rattle.laws.proofs.Nibbles.{length-nibbles, bytes_lt, padded_lt, nibbles_lt, nibbles-bytes, nibbles_inj, nibbles-take, padded_is, padded-even, length-bytes, length-bytes-padded}
use Rattle.laws.proofs.Card.{card_length, card_lt, card_back, tail_back, card_front, numbers_fit, numbers_length}
use Rattle.laws.proofs.Fields.{table-length, FairAll, Present, length_fair, length-codes, codes-entries, entries-codes, checks_fair, fair_checks, codes_fit, checksum_lt}
use Rattle.laws.proofs.Attachments.{Fine, fine_checks, tail_reads, fine_nibbles, fine_count, fine_size, Walked, checks_fine}

-- an observation that a report can have
pub record Good (marks : FlagTable) (s : Observation) : Type 0 where
  pub rptin : s.rptin < 2 ^ 16
  pub fair : FairAll table s.values
  pub present : Present 1 s.values
  pub fine : Fine marks [] s.attachments

-- ---- the numbers of a card

-- 49 numbers in their parts: RPTIN, 46 codes, CK, AC
parts_back : (r : ℕ) (cs : List ℕ) (ck ac : ℕ) → length cs ≡ 46
    → (take 46 (drop 1 (r ∷ (cs ++ (ck ∷ ac ∷ [])))) ≡ cs)
    × (get_or (r ∷ (cs ++ (ck ∷ ac ∷ []))) 47 0 ≡ ck)
    × (get_or (r ∷ (cs ++ (ck ∷ ac ∷ []))) 48 0 ≡ ac)
    × (length (r ∷ (cs ++ (ck ∷ ac ∷ []))) ≡ 49)
parts_back r cs ck ac l = (
  take_at cs (ck ∷ ac ∷ []) 46 l,
  get_or_at cs ck (ac ∷ []) 0 46 l,
  let e : 47 ≡ length cs + 1 = omega arith in ap (λ (k : ℕ). get_or (cs ++ (ck ∷ ac ∷ [])) k 0) e ∙ get_or-append-add cs (ck ∷ ac ∷ []) 1 0,
  omega (arith, length-append cs (ck ∷ ac ∷ [])),
)

fit_cons : (w v : ℕ) (ws vs : List ℕ) → v < 2 ^ w → Fit ws vs → Fit (w ∷ ws) (v ∷ vs)
fit_cons w v ws vs h f zero = h
fit_cons w v ws vs h f (suc k) = f k

fit_append : (ws us cs ds : List ℕ) → length cs ≡ length ws → Fit ws cs → Fit us ds → Fit (ws ++ us) (cs ++ ds)
fit_append [] us [] ds l f g = g
fit_append [] us (c ∷ cs) ds l f g = absurd (omega arith)
fit_append (w ∷ ws) us [] ds l f g = absurd (omega arith)
fit_append (w ∷ ws) us (c ∷ cs) ds l f g =
    fit_cons w c (ws ++ us) (cs ++ ds) (f 0) (fit_append ws us cs ds (suc_inj l) (λ k. f (suc k)) g)

fit_nil : Fit [] []
fit_nil k = omega arith

-- ---- the size of a packing

-- FORMAT 3.3: a report's size by its nibbles
pub size_is : (s : Observation) → size s ≡ (75 + length (tail_nibbles s.attachments) + 1) / 2
unfolding packing card_nibbles
size_is s =
    length-bytes-padded (card_nibbles s ++ tail_nibbles s.attachments)
    ∙ ap (λ (n : ℕ). (n + 1) / 2)
    (length-append (card_nibbles s) (tail_nibbles s.attachments) ∙ ap (λ (n : ℕ). n + length (tail_nibbles s.attachments)) (card_length (card_numbers s)))

pub packing-bytes : (marks : FlagTable) (s : Observation) → Good marks s → Bytes (packing s)
unfolding packing
packing-bytes marks s g =
    bytes_lt _ (padded_lt (card_nibbles s ++ tail_nibbles s.attachments)
    (append_below 16 (card_nibbles s) (tail_nibbles s.attachments) (unfold card_nibbles in card_lt (card_numbers s)) (fine_nibbles marks g.fine)))

-- a padding nibble that is 0
pad_none : (t : Bool) (ns q : List ℕ) → t && not (eqb (get_or (ns ++ (cond t (0 ∷ []) [] ++ q)) (length ns) 0) 0) ≡ false
pad_none true ns q = rw (get_or-append_seam ns 0 q 0)
pad_none false ns q = refl

-- ---- a packing is accepted, whatever follows it, and shows its observation

module _ (marks : FlagTable) (s : Observation) (r : List ℕ) (g : Good marks s) where
  cs_length : length (codes table s.values) ≡ 46
  cs_length = length-codes table s.values (length_fair g.fair) ∙ table-length

  numbers_parts : (take 46 (drop 1 (card_numbers s)) ≡ codes table s.values)
      × (get_or (card_numbers s) 47 0 ≡ checksum (codes table s.values))
      × (get_or (card_numbers s) 48 0 ≡ length s.attachments)
      × (length (card_numbers s) ≡ 49)
  unfolding card_numbers
  numbers_parts = parts_back s.rptin (codes table s.values) (checksum (codes table s.values)) (length s.attachments) cs_length

  numbers_fit_card : Fit widths (card_numbers s)
  unfolding card_numbers widths
  numbers_fit_card =
      let cs = codes table s.values in
      let few : length s.attachments < 2 ^ 4 = omega (arith, fine_count marks g.fine) in
      let ck : checksum cs < 2 ^ 14 = omega (arith, checksum_lt cs) in
      let ends = checksum cs ∷ length s.attachments ∷ [] in
      let ws = map (λ (f : Field). f.bits) table in
      fit_cons 16 s.rptin (ws ++ (14 ∷ 4 ∷ [])) (cs ++ ends) g.rptin
      (fit_append ws (14 ∷ 4 ∷ []) cs ends (length-codes table s.values (length_fair g.fair) ∙ sym (length-map table (λ (f : Field). f.bits)))
      (codes_fit g.fair)
      (fit_cons 14 (checksum cs) (4 ∷ []) (length s.attachments ∷ []) ck (fit_cons 4 (length s.attachments) [] [] few fit_nil)))

  tail_lt : Nibbles (tail_nibbles s.attachments)
  tail_lt = fine_nibbles marks g.fine

  numbers_is : numbers_of (packing s ++ r) ≡ card_numbers s
  unfolding packing card_nibbles
  numbers_is = card_back (card_numbers s) (tail_nibbles s.attachments) r numbers_parts.3 numbers_fit_card tail_lt

  tail_is : tail_of (packing s ++ r) ≡ tail_nibbles s.attachments ++ (cond (odd (75 + length (tail_nibbles s.attachments))) (0 ∷ []) [] ++ nibbles r)
  unfolding packing card_nibbles
  tail_is = tail_back (card_numbers s) (tail_nibbles s.attachments) r tail_lt

  codes_is : codes_of (packing s ++ r) ≡ codes table s.values
  codes_is = ap (λ (l : List ℕ). take 46 (drop 1 l)) numbers_is ∙ numbers_parts.0

  checksum_is : checksum_of (packing s ++ r) ≡ checksum (codes table s.values)
  checksum_is = ap (λ (l : List ℕ). get_or l 47 0) numbers_is ∙ numbers_parts.1

  count_is : count_of (packing s ++ r) ≡ length s.attachments
  count_is = ap (λ (l : List ℕ). get_or l 48 0) numbers_is ∙ numbers_parts.2

  rptin_is : rptin_of (packing s ++ r) ≡ s.rptin
  unfolding card_numbers
  rptin_is = ap (λ (l : List ℕ). get_or l 0 0) numbers_is

  attachments_is : attachments_of (count_of (packing s ++ r)) (tail_of (packing s ++ r)) ≡ s.attachments
  attachments_is = ap₂ attachments_of count_is tail_is ∙ tail_reads s.attachments _

  observation_is : observation_of (packing s ++ r) ≡ s
  unfolding observation_of
  observation_is =
      let v : entries table (codes_of (packing s ++ r)) ≡ s.values = ap (entries table) codes_is ∙ entries-codes g.fair in
      λ i. record { rptin = rptin_is i; values = v i; attachments = attachments_is i }

  pad_is : odd (75 + tail_length (packing s ++ r)) && not (eqb (get_or (tail_of (packing s ++ r)) (tail_length (packing s ++ r)) 0) 0) ≡ false
  pad_is =
      let t : tail_length (packing s ++ r) ≡ length (tail_nibbles s.attachments) = ap (λ (l : List Attachment). length (tail_nibbles l)) attachments_is in
      ap₂ (λ (n : ℕ) (l : List ℕ). odd (75 + n) && not (eqb (get_or l n 0) 0)) t tail_is
      ∙ pad_none (odd (75 + length (tail_nibbles s.attachments))) (tail_nibbles s.attachments) (nibbles r)

  checks_none : first (report_checks marks (packing s ++ r)) ≡ none
  unfolding report_checks
  checks_none =
      no_check _ _ (le-ltb (length (packing s ++ r)) 38 (omega (arith, size_is s, length-append (packing s) r)))
      (no_checks _ _ (ap (λ (l : List ℕ). first (field_checks 1 table l)) codes_is ∙ fair_checks 1 table s.values g.fair g.present)
      (no_check _ _ (ap not (eq-eqb _ _ (checksum_is ∙ ap checksum (sym codes_is))))
      (no_checks _ _ (ap₂ (λ (n : ℕ) (l : List ℕ). first (attachment_checks marks n 1 [] l)) count_is tail_is ∙ fine_checks marks 1 _ g.fine)
      (no_check _ _ pad_is first-nil))))

  pub judge-packing : judge marks (packing s ++ r) ≡ accepted s
  unfolding judge
  judge-packing = ap₂ verdict checks_none observation_is

-- ---- an accepted report is the packing of its observation

-- what a report has passed
pub record Passed (marks : FlagTable) (b : List ℕ) : Type 0 where
  pub long : 38 ≤ length b
  pub fields : first (field_checks 1 table (codes_of b)) ≡ none
  pub sum : checksum_of b ≡ checksum (codes_of b)
  pub attachments : first (attachment_checks marks (count_of b) 1 [] (tail_of b)) ≡ none
  pub last : odd (75 + tail_length b) && not (eqb (get_or (tail_of b) (tail_length b) 0) 0) ≡ false

verdict_accepted : (o : Option Refusal) (t s : Observation) → verdict o t ≡ accepted s → (o ≡ none) × (t ≡ s)
verdict_accepted none t s e = (refl, (cc))
verdict_accepted (some r) t s e = let z : ◌≡◌ {A = ℕ} 0 1 = cc in absurd (omega arith)

pub passes : (marks : FlagTable) (b : List ℕ) (s : Observation) → judge marks b ≡ accepted s → Passed marks b × (observation_of b ≡ s)
unfolding judge report_checks
passes marks b s e =
    let v = verdict_accepted (first (report_checks marks b)) (observation_of b) s e in
    let c1 = first_none _ _ v.0 in
    let c2 = first-append_none _ _ c1.1 in
    let c3 = first_none _ _ c2.1 in
    let c4 = first-append_none _ _ c3.1 in
    let c5 = first_none _ _ c4.1 in (
      record {
        long = ltb-false (length b) 38 c1.0;
        fields = c2.0;
        sum = eqb-true (checksum_of b) (checksum (codes_of b)) (not-false _ c3.0);
        attachments = c4.0;
        last = c5.0;
      },
      v.1,
    )

-- 49 numbers are their parts
parts : (l : List ℕ) → length l ≡ 49 → l ≡ get_or l 0 0 ∷ (take 46 (drop 1 l) ++ (get_or l 47 0 ∷ get_or l 48 0 ∷ []))
parts [] e = absurd (omega arith)
parts (x ∷ l) e =
    let n : length l ≡ 48 = omega arith in
    let d : drop 46 l ≡ get_or l 46 0 ∷ get_or l 47 0 ∷ [] =
    drop-cons l 46 0 (omega arith) ∙ ap (λ (m : List ℕ). get_or l 46 0 ∷ m) (drop-cons l 47 0 (omega arith) ∙ ap (λ (m : List ℕ). get_or l 47 0 ∷ m) (drop_of_length-le l {i = 48} (omega arith))) in
    ap (λ (m : List ℕ). x ∷ m) (sym (take-append-drop 46 l) ∙ ap (λ (m : List ℕ). take 46 l ++ m) d)

first_width : get_or widths 0 0 ≡ 16
unfolding widths
first_width = refl

-- nibbles, with what pads them at the front of the rest
pad_front : (all q : List ℕ) → odd (length (all ++ q)) ≡ false → odd (length all) && not (eqb (get_or q 0 0) 0) ≡ false
    → (r : List ℕ) × (all ++ q ≡ padded all ++ r)
pad_front all q even zero_last = go (odd (length all)) refl q even zero_last
  where
    go : (t : Bool) → odd (length all) ≡ t → (q : List ℕ) → odd (length (all ++ q)) ≡ false → odd (length all) && not (eqb (get_or q 0 0) 0) ≡ false
        → (r : List ℕ) × (all ++ q ≡ padded all ++ r)
    go true e [] h z = absurd (true_false (odd (length all)) e (rw append-nil at h))
    go true e (x ∷ q) h z =
        let x0 : x ≡ 0 = eqb-true x 0 (not-false (eqb x 0) (rw e at z)) in
        let pad : padded all ≡ all ++ (0 ∷ []) = padded_is all ∙ rw e in
        (q, ap (λ (y : ℕ). all ++ (y ∷ q)) x0 ∙ sym (append_assoc all (0 ∷ []) q) ∙ ap (λ (p : List ℕ). p ++ q) (sym pad))
    go false e q h z = let pad : padded all ≡ all = padded_is all ∙ rw (e, append-nil) in (q, ap (λ (p : List ℕ). p ++ q) (sym pad))

-- bytes that begin with these nibbles begin with their bytes
bytes_front : (b ps q : List ℕ) → nibbles b ≡ ps ++ q → Nibbles ps → odd (length ps) ≡ false → b ≡ bytes ps ++ drop (length (bytes ps)) b
bytes_front b ps q e lt even =
    let n = length (bytes ps) in
    let same : nibbles (take n b) ≡ nibbles (bytes ps) =
    nibbles-take n b ∙ ap₂ take (length-bytes ps even) e ∙ take-append_seam ps q ∙ sym (nibbles-bytes ps lt even) in
    sym (take-append-drop n b) ∙ ap (λ (l : List ℕ). l ++ drop n b) (nibbles_inj (take n b) (bytes ps) same)

front_lt : (xs ys : List ℕ) → Nibbles (xs ++ ys) → Nibbles xs
front_lt [] ys h i = omega arith
front_lt (x ∷ xs) ys h zero = h 0
front_lt (x ∷ xs) ys h (suc i) = front_lt xs ys (λ k. h (suc k)) i

twice_even : (n m : ℕ) → n ≡ 2 * m → odd n ≡ false
twice_even n m e = ne_eqb (n % 2) 1 (λ o. omega arith)

pub record Taken (marks : FlagTable) (b : List ℕ) (s : Observation) : Type 0 where
  pub good : Good marks s
  pub starts : b ≡ packing s ++ drop (size s) b

module _ (marks : FlagTable) (b : List ℕ) (bs : Bytes b) (p : Passed marks b) where
  codes-length : length (codes_of b) ≡ 46
  codes-length = length-take-le 46 (drop 1 (numbers_of b)) (omega (arith, length-drop 1 (numbers_of b), numbers_length b))

  codes-table : length (codes_of b) ≡ length table
  codes-table = codes-length ∙ sym table-length

  tail_lt_16 : Nibbles (tail_of b)
  tail_lt_16 i = rw (get_or-drop 75 (nibbles b) i 0) (nibbles_lt b bs (75 + i))

  walked : Walked marks (count_of b) [] (tail_of b)
  walked = checks_fine marks (count_of b) 1 [] (tail_of b) tail_lt_16 p.attachments

  passed_good : Good marks (observation_of b)
  unfolding observation_of
  passed_good =
      let f = checks_fair 1 table (codes_of b) codes-table p.fields in
      record { rptin = rw first_width at (numbers_fit b 0); fair = f.0; present = f.1; fine = walked.fine }

  numbers_same : card_numbers (observation_of b) ≡ numbers_of b
  unfolding card_numbers observation_of
  numbers_same =
      rw (codes-entries table (codes_of b) codes-table, walked.count, ← p.sum) (sym (parts (numbers_of b) (numbers_length b)))

  card_same : read_fields (replicate 75 4) (write_fields widths (numbers_of b)) ≡ card_nibbles (observation_of b)
  unfolding card_nibbles
  card_same = ap (λ (l : List ℕ). read_fields (replicate 75 4) (write_fields widths l)) (sym numbers_same)

  -- the card and the attachments of its observation, as nibbles
  all : List ℕ
  all = card_nibbles (observation_of b) ++ tail_nibbles (attachments_of (count_of b) (tail_of b))

  split : nibbles b ≡ all ++ drop (tail_length b) (tail_of b)
  unfolding all
  split =
      card_front b bs p.long
      ∙ ap₂ (λ (x y : List ℕ). x ++ y) card_same walked.starts
      ∙ sym (append_assoc (card_nibbles (observation_of b)) (tail_nibbles (attachments_of (count_of b) (tail_of b))) (drop (tail_length b) (tail_of b)))

  all_length : length all ≡ 75 + tail_length b
  unfolding all card_nibbles
  all_length =
      length-append (card_nibbles (observation_of b)) (tail_nibbles (attachments_of (count_of b) (tail_of b)))
      ∙ ap (λ (n : ℕ). n + tail_length b) (card_length (card_numbers (observation_of b)))

  zero_last : odd (length all) && not (eqb (get_or (drop (tail_length b) (tail_of b)) 0 0) 0) ≡ false
  zero_last =
      let z : tail_length b + 0 ≡ tail_length b = omega arith in
      ap₂ (λ (n m : ℕ). odd n && not (eqb m 0)) all_length (get_or-drop (tail_length b) (tail_of b) 0 0 ∙ ap (λ (n : ℕ). get_or (tail_of b) n 0) z) ∙ p.last

  passed_taken : Taken marks b (observation_of b)
  unfolding packing observation_of all
  passed_taken =
      let even = twice_even (length (all ++ drop (tail_length b) (tail_of b))) (length b) (ap length (sym split) ∙ length-nibbles b) in
      let pad = pad_front all (drop (tail_length b) (tail_of b)) even zero_last in
      let front : nibbles b ≡ padded all ++ pad.0 = split ∙ pad.1 in
      let lt : Nibbles (padded all) = front_lt (padded all) pad.0 (subst Nibbles front (nibbles_lt b bs)) in
      record { good = passed_good; starts = bytes_front b (padded all) pad.0 front lt (padded-even all) }

pub judged : (marks : FlagTable) (b : List ℕ) (s : Observation) → Bytes b → judge marks b ≡ accepted s → Taken marks b s
judged marks b s bs e = let q = passes marks b s e in subst (Taken marks b) q.1 (passed_taken marks b bs q.0)

-- the numbers on the card are its observation's, and AC is the number of its attachments
pub numbers_taken : (marks : FlagTable) (b : List ℕ) (s : Observation) → Bytes b → judge marks b ≡ accepted s → card_numbers (observation_of b) ≡ numbers_of b
numbers_taken marks b s bs e = numbers_same marks b bs (passes marks b s e).0

pub counted : (marks : FlagTable) (b : List ℕ) (s : Observation) → Bytes b → judge marks b ≡ accepted s → count_of b ≡ length (observation_of b).attachments
unfolding observation_of
counted marks b s bs e = sym (walked marks b bs (passes marks b s e).0).count

-- ---- reports and observations

-- demand 3 (FORMAT 10): two accepted reports have the same bytes exactly when they have the same observation
packing_inj : (marks : FlagTable) (s t : Observation) → Good marks s → Good marks t → packing s ≡ packing t → s ≡ t
packing_inj marks s t gs gt e =
    let same : accepted s ≡ accepted t = sym (judge-packing marks s [] gs) ∙ ap (λ (p : List ℕ). judge marks (p ++ [])) e ∙ judge-packing marks t [] gt in
    cc

-- a report is the packing of its observation
pub report_is : (marks : FlagTable) (b : List ℕ) (s : Observation) → Bytes b → judge marks b ≡ accepted s → take (size s) b ≡ packing s
report_is marks b s bs e = ap (take (size s)) (judged marks b s bs e).starts ∙ take-append_seam (packing s) (drop (size s) b)

pub reports_equal : (marks : FlagTable) (b c : List ℕ) (s t : Observation) → Bytes b → Bytes c → judge marks b ≡ accepted s → judge marks c ≡ accepted t
    → (take (size s) b ≡ take (size t) c) ↔ (s ≡ t)
reports_equal marks b c s t bb bc eb ec = (
  λ e. packing_inj marks s t (judged marks b s bb eb).good (judged marks c t bc ec).good (sym (report_is marks b s bb eb) ∙ e ∙ report_is marks c t bc ec),
  λ e. report_is marks b s bb eb ∙ ap packing e ∙ sym (report_is marks c t bc ec),
)

-- FORMAT 3.3: the least and the most bytes of a report
pub size_range : (marks : FlagTable) (s : Observation) → Good marks s → (38 ≤ size s) × (size s ≤ 1853)
size_range marks s g = let h = fine_size marks g.fine in let z = size_is s in (omega arith, omega arith)

-- ---- an accepted report lies within its buffer

module _ (marks : FlagTable) (b : List ℕ) (s : Observation) (bs : Bytes b) (j : judge marks b ≡ accepted s) where
  pub size-within : size s ≤ length b
  size-within = omega (arith, length-append (packing s) (drop (size s) b), ap length (judged marks b s bs j).starts)

  pub within : (38 ≤ length b) × (75 + length (tail_nibbles s.attachments) ≤ 2 * length b) × (75 + length (tail_nibbles s.attachments) ≤ 3706)
  within =
      let w = size-within in
      let z = size_is s in
      let g = (judged marks b s bs j).good in
      (omega (arith, size_range marks s g), omega arith, omega (arith, fine_size marks g.fine))

  -- so does a report with as many nibbles behind the card
  pub same_within : (t : Observation) → length (tail_nibbles t.attachments) ≡ length (tail_nibbles s.attachments) → size t ≤ length b
  same_within t e = omega (arith, size_is t, size_is s, size-within)
