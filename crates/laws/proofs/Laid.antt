-- What a buffer must hold to be the layout of an observation: the card's numbers, and the nibbles behind the card.
-- Assumes nothing.
use Prim.Native.Nat.{ℕ, zero, suc, ◌+◌, ◌-◌, ◌*◌, ◌/◌, ◌%◌, ◌≤◌, ◌<◌, max}
use native.Mathlib.Omega.{arith}
use mathlib.Core.Path.{◌≡◌, refl, sym, ap, ap₂, ◌∙◌}
use mathlib.Core.Bool.{Bool, true, false, cond}
use mathlib.Core.List.{List, [], ◌∷◌, ◌++◌, append_assoc}
use mathlib.Core.Option.{Option, none}
use lib.ListN.{length, get_or, take, drop, set, replicate, length-append, length-set, replicate-append-replicate}
use lib.Seq.{take_at, drop_at, set_at, set-append_left}
use borrow.Author.Tests.{eqb-true, eqb-false}
use Rattle.format.specs.Field.{table, field_at, codes, code_of}
use Rattle.format.specs.Bits.{read_fields, write_fields, total, Bytes}
use Rattle.format.specs.Flags.{FlagTable}
use Rattle.format.specs.Nibbles.{Attachment, nibbles, odd, tail_nibbles, Nibbles}
use Rattle.format.specs.Observation.{Observation, widths, checksum, card_numbers, card_nibbles, packing, size}
use Rattle.format.specs.Report.{numbers_of, tail_of, Verdict, judge}
use Rattle.format.specs.Calls.{with_value, with_attachments, clear_each, over}
use Rattle.format.specs.Buffer.{zeros, layout}
use Rattle.format.specs.declared.Scaled.{Scaled}
use Rattle.laws.proofs.Bits.{append_below}
use Rattle.laws.proofs.Nibbles.{nibbles-append, nibbles-drop, nibbles_inj, nibbles_packed}
use Rattle.laws.proofs.Card.{card_length, card_lt, card_front}
use Rattle.laws.proofs.Fields.{no_field, table-length, length-codes, codes-set}
use Rattle.laws.proofs.Attachments.{fine_nibbles}
use Rattle.laws.proofs.Indicators.{AllOf, Free}
use Rattle.laws.proofs.Report.{size_is, judged, within}
use Rattle.laws.proofs.WholeList.{layout_same}

-- ---- nibbles of a layout

nibbles-zeros : (n : ℕ) → nibbles (zeros n) ≡ zeros (2 * n)
unfolding nibbles
nibbles-zeros zero = refl
nibbles-zeros (suc n) = let e : 2 * suc n ≡ suc (suc (2 * n)) = omega arith in rw (e, nibbles-zeros n)

pad_zeros : (n : ℕ) → cond (odd n) (0 ∷ []) [] ≡ zeros (n % 2)
pad_zeros n = go (odd n) refl
  where
    go : (t : Bool) → odd n ≡ t → cond t (0 ∷ []) [] ≡ zeros (n % 2)
    go true e = rw (eqb-true (n % 2) 1 e)
    go false e = let h = eqb-false (n % 2) 1 e in let z : n % 2 ≡ 0 = omega arith in rw z

-- the zeros behind a tail of a layout: what pads it, and those up to the end e
gap : (n s e : ℕ) → s ≡ (n + 1) / 2 → n % 2 + 2 * (e - s) ≡ 2 * max e s - n
gap n s e h = omega arith

module _ (b : List ℕ) (e : ℕ) (s : Observation) (lt : Nibbles (tail_nibbles s.attachments)) where
  behind_is : cond (odd (75 + length (tail_nibbles s.attachments))) (0 ∷ []) [] ++ nibbles (zeros (e - size s) ++ drop (max e (size s)) b)
      ≡ zeros (2 * max e (size s) - (75 + length (tail_nibbles s.attachments))) ++ drop (2 * max e (size s)) (nibbles b)
  behind_is =
      let n : ℕ = 75 + length (tail_nibbles s.attachments) in
      let z : zeros (n % 2) ++ zeros (2 * (e - size s)) ≡ zeros (2 * max e (size s) - n) =
      replicate-append-replicate (n % 2) (2 * (e - size s)) 0 ∙ ap zeros (gap n (size s) e (size_is s)) in
      ap₂ (λ (x y : List ℕ). x ++ y) (pad_zeros n)
      (nibbles-append (zeros (e - size s)) (drop (max e (size s)) b) ∙ ap₂ (λ (x y : List ℕ). x ++ y) (nibbles-zeros (e - size s)) (nibbles-drop (max e (size s)) b))
      ∙ sym (append_assoc (zeros (n % 2)) (zeros (2 * (e - size s))) (drop (2 * max e (size s)) (nibbles b)))
      ∙ ap (λ (x : List ℕ). x ++ drop (2 * max e (size s)) (nibbles b)) z

  nibbles-layout : nibbles (layout b e s)
      ≡ card_nibbles s ++ (tail_nibbles s.attachments ++ (zeros (2 * max e (size s) - (75 + length (tail_nibbles s.attachments))) ++ drop (2 * max e (size s)) (nibbles b)))
  unfolding layout packing card_nibbles
  nibbles-layout =
      let ns = tail_nibbles s.attachments in
      let x = zeros (e - size s) ++ drop (max e (size s)) b in
      let l : length (card_nibbles s ++ tail_nibbles s.attachments) ≡ 75 + length (tail_nibbles s.attachments) =
      length-append (card_nibbles s) (tail_nibbles s.attachments) ∙ ap (λ (n : ℕ). n + length (tail_nibbles s.attachments)) (card_length (card_numbers s)) in
      nibbles_packed (card_nibbles s ++ tail_nibbles s.attachments) (zeros (e - size s) ++ drop (max e (size s)) b)
      (append_below 16 (card_nibbles s) (tail_nibbles s.attachments) (card_lt (card_numbers s)) lt)
      ∙ append_assoc (card_nibbles s) (tail_nibbles s.attachments) _
      ∙ ap (λ (y : List ℕ). card_nibbles s ++ (tail_nibbles s.attachments ++ y))
      (ap (λ (n : ℕ). cond (odd n) (0 ∷ []) [] ++ nibbles (zeros (e - size s) ++ drop (max e (size s)) b)) l ∙ behind_is)

  -- what a buffer must hold to be the layout
  pub layout_is : (c : List ℕ) → Bytes c → 38 ≤ length c → numbers_of c ≡ card_numbers s
      → tail_of c ≡ tail_nibbles s.attachments ++ (zeros (2 * max e (size s) - (75 + length (tail_nibbles s.attachments))) ++ drop (2 * max e (size s)) (nibbles b))
      → c ≡ layout b e s
  unfolding card_nibbles
  layout_is c bs long card behind =
      nibbles_inj c (layout b e s)
      (card_front c bs long
      ∙ ap₂ (λ (vs ns : List ℕ). read_fields (replicate 75 4) (write_fields widths vs) ++ ns) card behind
      ∙ sym nibbles-layout)

  -- and what a layout holds behind its card
  tail-laid : tail_of (layout b e s)
      ≡ tail_nibbles s.attachments ++ (zeros (2 * max e (size s) - (75 + length (tail_nibbles s.attachments))) ++ drop (2 * max e (size s)) (nibbles b))
  unfolding card_nibbles
  tail-laid = ap (drop 75) nibbles-layout ∙ drop_at (card_nibbles s) _ 75 (card_length (card_numbers s))

-- a layout with nothing to clear
pub over-layout : (b : List ℕ) (s : Observation) → layout b 0 s ≡ over (packing s) b
unfolding layout
over-layout b s =
    let a : 0 - size s ≡ 0 = omega arith in
    let m : max 0 (size s) ≡ size s = omega arith in
    ap₂ (λ (x y : ℕ). packing s ++ (zeros x ++ drop y b)) a m

-- an accepted report, behind its card
pub tail_taken : (marks : FlagTable) (b : List ℕ) (s : Observation) → Bytes b → judge marks b ≡ Verdict.accepted s
    → tail_of b ≡ tail_nibbles s.attachments ++ (zeros (2 * size s - (75 + length (tail_nibbles s.attachments))) ++ drop (2 * size s) (nibbles b))
tail_taken marks b s bs j =
    let m : max (size s) (size s) ≡ size s = omega arith in
    ap tail_of (layout_same marks b s bs j)
    ∙ rw m at (tail-laid b (size s) s (fine_nibbles marks (judged marks b s bs j).good.fine))

-- ---- fields

-- another card before the same attachments
pub field-laid : (marks : FlagTable) (b c : List ℕ) (s t : Observation) → Bytes b → judge marks b ≡ Verdict.accepted s → t.attachments ≡ s.attachments
    → Bytes c → length c ≡ length b → numbers_of c ≡ card_numbers t → tail_of c ≡ tail_of b → c ≡ layout b (size s) t
field-laid marks b c s t bs j same bc long card behind =
    let sizes : size t ≡ size s = size_is t ∙ ap (λ (l : List Attachment). (75 + length (tail_nibbles l) + 1) / 2) same ∙ sym (size_is s) in
    let m : max (size s) (size t) ≡ size s = omega arith in
    layout_is b (size s) t (rw same (fine_nibbles marks (judged marks b s bs j).good.fine)) c bc (omega (arith, within marks b s bs j)) card
    (rw (m, same) (behind ∙ tail_taken marks b s bs j))

-- the numbers of an observation's card, with any number x for its checksum
abbrev numbers_with : Observation → ℕ → List ℕ
numbers_with s x = s.rptin ∷ (codes table s.values ++ (x ∷ length s.attachments ∷ []))

codes_long : (s : Observation) → length s.values ≡ 46 → length (codes table s.values) ≡ 46
codes_long s l = length-codes table s.values (l ∙ sym table-length) ∙ table-length

-- with another code in field k, and with another checksum
code-set : (s : Observation) (x k : ℕ) (e : Option Scaled) → length s.values ≡ 46 → 1 ≤ k → k ≤ 46
    → set (numbers_with s x) k (code_of (field_at k) e).0 ≡ numbers_with (with_value s k e) x
unfolding field_at
code-set s x zero e l h m = absurd (omega arith)
code-set s x (suc k) e l h m =
    let i : suc k - 1 ≡ k = omega arith in
    let ends = x ∷ length s.attachments ∷ [] in
    rw i
    (ap (λ (y : List ℕ). s.rptin ∷ y)
    (set-append_left (codes table s.values) ends k (code_of (get_or table k no_field) e).0 (omega (arith, codes_long s l))
    ∙ ap (λ (cs : List ℕ). cs ++ ends) (sym (codes-set table s.values k e))))

checksum-set : (s : Observation) (x y : ℕ) → length s.values ≡ 46 → set (numbers_with s x) 47 y ≡ numbers_with s y
checksum-set s x y l = ap (λ (ns : List ℕ). s.rptin ∷ ns) (set_at (codes table s.values) x (length s.attachments ∷ []) y 46 (codes_long s l))

-- the numbers of a card with another entry at field k: its code, and the checksum of the codes so changed
pub value_numbers_lem : (s : Observation) (k : ℕ) (e : Option Scaled) → length s.values ≡ 46 → 1 ≤ k → k ≤ 46
    → card_numbers (with_value s k e)
    ≡ set (set (card_numbers s) k (code_of (field_at k) e).0) 47 (checksum (set (codes table s.values) (k - 1) (code_of (field_at k) e).0))
unfolding card_numbers field_at
value_numbers_lem s k e l h m =
    let t = with_value s k e in
    let ck = checksum (codes table s.values) in
    let long : length t.values ≡ 46 = length-set s.values (k - 1) e ∙ l in
    let sum = checksum (set (codes table s.values) (k - 1) (code_of (get_or table (k - 1) no_field) e).0) in
    let same : checksum (codes table t.values) ≡ sum = ap checksum (codes-set table s.values (k - 1) e) in
    ap (numbers_with t) same ∙ sym (ap (λ (ns : List ℕ). set ns 47 sum) (code-set s ck k e l h m) ∙ checksum-set t ck sum long)

-- code 0 in each of these fields
unfoldable pub emptied : List ℕ → List ℕ → List ℕ
emptied ns [] = ns
emptied ns (k ∷ ks) = emptied (set ns k 0) ks

emptied_numbers : (ks : List ℕ) (s : Observation) (x : ℕ) → length s.values ≡ 46 → AllOf Free ks
    → (emptied (numbers_with s x) ks ≡ numbers_with (clear_each s ks) x) × (length (clear_each s ks).values ≡ 46)
unfolding emptied clear_each code_of
emptied_numbers [] s x l a = (refl, l)
emptied_numbers (k ∷ ks) s x l a =
    let r = emptied_numbers ks (with_value s k none) x (length-set s.values (k - 1) none ∙ l) a.1 in
    (ap (λ (ns : List ℕ). emptied ns ks) (code-set s x k none l a.0.low a.0.high) ∙ r.0, r.1)

-- the numbers of a card with these fields cleared: code 0 in each, and the checksum of the codes that are left
pub cleared_numbers : (ks : List ℕ) (s : Observation) (ns : List ℕ) → length s.values ≡ 46 → AllOf Free ks → ns ≡ emptied (card_numbers s) ks
    → set ns 47 (checksum (take 46 (drop 1 ns))) ≡ card_numbers (clear_each s ks)
unfolding card_numbers
cleared_numbers ks s ns l a is =
    let ck = checksum (codes table s.values) in
    let t = clear_each s ks in
    let r = emptied_numbers ks s ck l a in
    let with : ns ≡ numbers_with t ck = is ∙ r.0 in
    let left : take 46 (drop 1 ns) ≡ codes table t.values =
    ap (λ (xs : List ℕ). take 46 (drop 1 xs)) with ∙ take_at (codes table t.values) (ck ∷ length t.attachments ∷ []) 46 (codes_long t r.1) in
    ap₂ (λ (xs cs : List ℕ). set xs 47 (checksum cs)) with left ∙ checksum-set t ck (checksum (codes table t.values)) r.1

-- the sum of a list with another element
pub total-set : (cs : List ℕ) (i c : ℕ) → i < length cs → total (set cs i c) + get_or cs i 0 ≡ total cs + c
unfolding total
total-set [] i c h = absurd (omega arith)
total-set (x ∷ cs) zero c h = omega arith
total-set (x ∷ cs) (suc i) c h = omega (arith, total-set cs i c (omega arith))

-- the numbers of a card with other attachments: their count
pub attachment_numbers : (s : Observation) (list : List Attachment) → length s.values ≡ 46 → card_numbers (with_attachments s list) ≡ set (card_numbers s) 48 (length list)
unfolding card_numbers
attachment_numbers s list l =
    let cs = codes table s.values in
    let ck = checksum (codes table s.values) in
    let long : length (codes table s.values) ≡ 46 = length-codes table s.values (l ∙ sym table-length) ∙ table-length in
    let front : length (codes table s.values ++ (ck ∷ [])) ≡ 47 = omega (arith, length-append (codes table s.values) (ck ∷ [])) in
    ap (λ (x : List ℕ). s.rptin ∷ x)
    (sym (append_assoc cs (ck ∷ []) (length list ∷ []))
    ∙ sym (set_at (cs ++ (ck ∷ [])) (length s.attachments) [] (length list) 47 front)
    ∙ ap (λ (x : List ℕ). set x 47 (length list)) (append_assoc cs (ck ∷ []) (length s.attachments ∷ [])))
