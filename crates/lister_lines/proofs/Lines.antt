-- The lines: what each is made of, how long they are, and what is listed by outcome.
-- Assumes nothing.
use Prim.Native.Nat.{ℕ, suc, ◌+◌, ◌-◌, ◌*◌, ◌^◌, ◌≤◌, ◌<◌}
use native.Mathlib.Omega.{arith}
use native.Mathlib.Numerals.{add-one}
use mathlib.Core.Path.{◌≡◌, refl, sym, ap, ap₂, subst, ◌∙◌}
use mathlib.Core.Bool.{Bool, true, false, ◌&&◌}
use mathlib.Core.List.{List, [], ◌∷◌, ◌++◌, append_assoc, append-nil}
use mathlib.Core.Option.{Option, none, some}
use lib.ListN.{length, get_or, drop, length-append, drop_of_length-le}
use lib.Seq.{drop-cons, take_all}
use lib.Dec.{T, ltb, ltb→lt}
use lib.IntN.{ℤ, pos, negsuc, nat_abs, sub_ℕ, ◌+ℤ◌}
use Rattle.laws.proofs.Attachments.{attachments_length}
use Rattle.format.specs.Field.{Field, table, field_at, scaled_of, coded_of, entry_of, codes, entries}
use Rattle.format.specs.Flags.{FlagTable, all_yes}
use Rattle.format.specs.Nibbles.{attachments_of}
use Rattle.format.specs.Observation.{checksum}
use Rattle.format.specs.Report.{checksum_of, codes_of, count_of, tail_of, observation_of, judge}
use Rattle.format.specs.Lister.{decimal, signed_decimal, line, field_line, field_lines, listing_of, listing}
use Rattle.format.specs.declared.Coded.{Coded}
use Rattle.format.specs.declared.Scaled.{Scaled}
use Rattle.format.proofs.Test.{left, right}
use Rattle.laws.proofs.Fields.{table-length, Fair, FairAll, nil, cons, fair_range, coded_range, scaled-coded, codes-entries, checks_fair}
use Rattle.laws.proofs.Report.{passes}
use Rattle.card.proofs.Entries.{entry_there, entry_missing, entry_is, entries-length}
use Rattle.card.proofs.Numbers.{codes-length}
use Rattle.report.specs.Answers.{inspected}
use Rattle.report.specs.declared.Report.{Report}
use Rattle.std.specs.Prelude.{Ok, Err}
use Rattle.format.specs.Order as order
use Rattle.format.specs.Report.{refused}
use Rattle.report.proofs.Outcomes.{judge_refused, judge_fine}
use Rattle.lister_lines.specs.Lines.{value_lines, lettered_lines, refusal_line}
use Rattle.lister_lines.proofs.Decimal.{decimal-short}

-- ---- what a line is made of

pub field-line : (k : ℕ) (f : Field) (c : Coded) (z : ℤ) → (c.0 ≡ 0 → ⊥) → z ≡ (scaled_of f c).0
    → field_line k (entry_of f c) ≡ (decimal k ++ (32 ∷ [])) ++ (signed_decimal z ++ (10 ∷ []))
field-line k f c z n e =
    ap (field_line k) (entry_there f c n) ∙ ap (λ (y : ℤ). line (decimal k) (signed_decimal y)) (sym e)
    ∙ sym (append_assoc (decimal k) (32 ∷ []) (signed_decimal z ++ (10 ∷ [])))

-- a missing field has none
pub no_line : (k : ℕ) (f : Field) (c : Coded) (b : List ℕ) → c.0 ≡ 0 → b ≡ b ++ field_line k (entry_of f c)
no_line k f c b e = sym (append-nil b) ∙ ap (λ (l : List ℕ). b ++ l) (sym (ap (field_line k) (entry_missing f c e)))

pub lettered-line : (l : List ℕ) (n : ℕ) → line l (decimal n) ≡ (l ++ (32 ∷ [])) ++ (decimal n ++ (10 ∷ []))
lettered-line l n = sym (append_assoc l (32 ∷ []) (decimal n ++ (10 ∷ [])))

pub refusal-line : (n p : ℕ) → refusal_line n p ≡ (82 ∷ 32 ∷ []) ++ ((decimal n ++ (32 ∷ [])) ++ (decimal p ++ (10 ∷ [])))
unfolding refusal_line
refusal-line n p =
    ap (λ (l : List ℕ). 82 ∷ 32 ∷ l)
    (append_assoc (decimal n) (32 ∷ decimal p) (10 ∷ []) ∙ sym (append_assoc (decimal n) (32 ∷ []) (decimal p ++ (10 ∷ []))))

-- the line of the field at place i, and those behind it
pub lines_step : (b : List ℕ) (i : ℕ) (c : Coded) → i < 46 → c.0 ≡ get_or (codes_of b) (i + 1 - 1) 0
    → value_lines b i ≡ field_line (i + 1) (entry_of (field_at (i + 1)) c) ++ value_lines b (i + 1)
unfolding value_lines field_lines
lines_step b i c h e =
    let q : i + 1 - 1 ≡ i = omega arith in
    let at = entry_is b i c h (e ∙ ap (λ (n : ℕ). get_or (codes_of b) n 0) q) in
    rw add-one
    (ap (field_lines (suc i)) (drop-cons (entries table (codes_of b)) i none (rw entries-length h))
    ∙ ap (λ (o : Option Scaled). field_line (suc i) o ++ field_lines (suc (suc i)) (drop (suc i) (entries table (codes_of b)))) (rw add-one at at))

-- the same by the field's number
pub lines_at : (b : List ℕ) (k : ℕ) (c : Coded) → 1 ≤ k → k ≤ 46 → c.0 ≡ get_or (codes_of b) (k - 1) 0
    → value_lines b (k - 1) ≡ field_line k (entry_of (field_at k) c) ++ value_lines b k
lines_at b k c low high e =
    let same : k - 1 + 1 ≡ k = omega arith in
    subst (λ (m : ℕ). value_lines b (k - 1) ≡ field_line m (entry_of (field_at m) c) ++ value_lines b m) same
    (lines_step b (k - 1) c (omega arith) (e ∙ ap (λ (n : ℕ). get_or (codes_of b) (n - 1) 0) (sym same)))

pub lines_end : (b : List ℕ) (i : ℕ) → 46 ≤ i → value_lines b i ≡ []
unfolding value_lines field_lines
lines_end b i h = ap (field_lines (suc i)) (drop_of_length-le (entries table (codes_of b)) {i = i} (omega (arith, entries-length b)))

-- ---- how long they are

sum_small : (c : ℕ) (b : ℤ) → nat_abs (pos c +ℤ b) ≤ c + nat_abs b
sum_small c (pos m) = omega arith
sum_small c (negsuc m) = go (ltb c (suc m)) refl
  where
    go : (t : Bool) → ltb c (suc m) ≡ t → nat_abs (sub_ℕ c (suc m)) ≤ c + suc m
    go true e = rw e (omega arith)
    go false e = rw e (omega arith)

-- the values of a field have at most five digits
abbrev small_field : Field → Bool
small_field f = ltb (f.highest + nat_abs f.base) 100000

small_all : List Field → Bool
small_all [] = true
small_all (f ∷ fs) = small_field f && small_all fs

table_small : T (small_all table)
unfolding table small_all
table_small = tt

signed-short : (z : ℤ) → nat_abs z < 100000 → length (signed_decimal z) ≤ 6
signed-short (pos n) h = omega (arith, decimal-short 4 n h)
signed-short (negsuc n) h = omega (arith, decimal-short 4 (suc n) h)

fair_small : (f : Field) (v : Scaled) → T (small_field f) → Fair f (some v) → nat_abs v.0 < 100000
unfolding scaled_of
fair_small f v t h =
    let r = fair_range f v h in
    let e : v.0 ≡ pos (coded_of f v).0 +ℤ f.base = ap (λ (x : Scaled). x.0) (sym (scaled-coded f v r)) in
    omega (arith, ap nat_abs e, sum_small (coded_of f v).0 f.base, coded_range f v r, ltb→lt (f.highest + nat_abs f.base) 100000 t)

line-short : (k : ℕ) (f : Field) (e : Option Scaled) → k < 100 → T (small_field f) → Fair f e → length (field_line k e) ≤ 10
line-short k f none h t g = omega arith
line-short k f (some v) h t g =
    omega (arith, length-append (decimal k) (32 ∷ (signed_decimal v.0 ++ (10 ∷ []))), length-append (signed_decimal v.0) (10 ∷ []), decimal-short 1 k h, signed-short v.0 (fair_small f v t g))

lines_short : (k : ℕ) {fs : List Field} {es : List (Option Scaled)} → FairAll fs es → T (small_all fs) → k + length es ≤ 100 → length (field_lines k es) ≤ 10 * length es
unfolding field_lines small_all
lines_short k nil t h = omega arith
lines_short k (cons {f} {e} {fs} {es} g gs) t h =
    omega (
      arith,
      length-append (field_line k e) (field_lines (suc k) es),
      line-short k f e (omega arith) (left (small_field f) (small_all fs) t) g,
      lines_short (suc k) gs (right (small_field f) (small_all fs) t) (omega arith),
    )

-- ---- what is listed, by outcome

module _ (marks : FlagTable) (b : List ℕ) where
  pub refused_lists : (r : order.Refusal) (n p : ℕ) → n ≡ r.number → p ≡ r.place → Err r ≡ inspected marks b 0 → listing_of (judge marks b) ≡ refusal_line n p
  unfolding refusal_line
  refused_lists r n p number place e =
      ap listing_of (judge_refused marks b 0 r e) ∙ ap₂ (λ (k m : ℕ). listing_of (refused (record { number = k; place = m }))) (sym number) (sym place)

  module _ (r : Report) (e : Ok r ≡ inspected marks b 0) where
    codes-table : length (codes_of b) ≡ length table
    codes-table = codes-length b ∙ sym table-length

    pub fine_long : 38 ≤ length b
    fine_long = (passes marks b (observation_of b) (judge_fine marks b 0 r e).0).0.long

    module _ (n : ℕ) (stored : n ≡ checksum_of b) where
      -- the checksum that an accepted report stores is that of its fields
      sum_is : n ≡ checksum (codes_of b)
      sum_is = stored ∙ (passes marks b (observation_of b) (judge_fine marks b 0 r e).0).0.sum

      pub fine_lists : listing_of (judge marks b) ≡ value_lines b 0 ++ lettered_lines n r.count
      unfolding value_lines lettered_lines observation_of
      fine_lists =
          let f = judge_fine marks b 0 r e in
          let sum : checksum (codes table (entries table (codes_of b))) ≡ n = ap checksum (codes-entries table (codes_of b) codes-table) ∙ sym sum_is in
          let count : length (attachments_of (count_of b) (tail_of b)) ≡ r.count = attachments_length (count_of b) (tail_of b) ∙ sym (ap (λ (y : Report). y.count) f.1) in
          ap listing_of f.0
          ∙ ap₂ (λ (m n : ℕ). field_lines 1 (entries table (codes_of b)) ++ (line (67 ∷ []) (decimal m) ++ line (65 ∷ []) (decimal n))) sum count

      sum_fits : n < 255
      unfolding checksum
      sum_fits = omega (arith, sum_is)

      pub fine_short : r.count < 2 ^ 64 → length (value_lines b 0 ++ lettered_lines n r.count) ≤ 512
      unfolding value_lines lettered_lines
      fine_short g =
          let p = (passes marks b (observation_of b) (judge_fine marks b 0 r e).0).0 in
          let fields = lines_short 1 (checks_fair 1 table (codes_of b) codes-table p.fields).0 table_small (omega (arith, entries-length b)) in
          omega (
            arith,
            fields,
            entries-length b,
            length-append (field_lines 1 (entries table (codes_of b))) (line (67 ∷ []) (decimal n) ++ line (65 ∷ []) (decimal r.count)),
            length-append (line (67 ∷ []) (decimal n)) (line (65 ∷ []) (decimal r.count)),
            length-append (decimal n) (10 ∷ []),
            length-append (decimal r.count) (10 ∷ []),
            decimal-short 2 n (omega (arith, sum_fits)),
            decimal-short 19 r.count (omega arith),
          )

pub refused_short : (n p : ℕ) → n < 256 → p < 2 ^ 64 → length (refusal_line n p) ≤ 512
refused_short n p h g =
    omega (
      arith,
      ap length (refusal-line n p),
      length-append (decimal n ++ (32 ∷ [])) (decimal p ++ (10 ∷ [])),
      length-append (decimal n) (32 ∷ []),
      length-append (decimal p) (10 ∷ []),
      decimal-short 2 n (omega arith),
      decimal-short 19 p (omega arith),
    )

pub listing-short : (s : List ℕ) → length s ≤ 1856 → listing_of (judge all_yes s) ≡ listing s
unfolding listing
listing-short s h = ap (λ (l : List ℕ). listing_of (judge all_yes l)) (sym (take_all 1856 s h))
