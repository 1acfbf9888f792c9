-- The values that a caller gives with a presence word: their coded numbers, written.
-- Assumes nothing.
use Prim.Native.Nat.{ℕ, zero, suc, ◌+◌, ◌-◌, ◌≤◌, ◌<◌}
use native.Mathlib.Nat.{add_comm, not-suc-le-zero, le_of_suc-le-suc}
use native.Mathlib.Numerals.{add-one}
use native.Mathlib.Omega.{arith}
use mathlib.Core.Path.{◌≡◌, refl, sym, ap, ap₂, ◌∙◌}
use mathlib.Core.Bool.{cond, not, false, ◌&&◌}
use mathlib.Core.List.{List, [], ◌∷◌, ◌++◌}
use mathlib.Core.Option.{Option, none, some}
use lib.ListN.{length, get_or, take, drop, set, length-append, drop_of_length-le}
use lib.Seq.{append_snoc, drop-cons, get_or-take, length-take-le, set_at, take_all}
use lib.IntN.{ℤ, pos}
use Rattle.format.specs.Order.{check, first}
use Rattle.format.specs.Bits.{total}
use Rattle.format.specs.Field.{Field, table, field_at, required, scaled, in_range, code_of}
use Rattle.format.specs.Report.{numbers_of}
use Rattle.format.specs.Whole.{bit_at, pack_checks, entries_given}
use Rattle.format.specs.declared.Scaled.{Scaled}
use Rattle.laws.proofs.Order.{first_none}
use Rattle.laws.proofs.Bits.{total-step, total_end}
use Rattle.laws.proofs.Card.{numbers_length}
use Rattle.laws.proofs.Fields.{no_field, table-length, length-codes, codes_at}
use Rattle.card.specs.Answers.{Carded}
use Rattle.card.proofs.Entries.{field_is}
use Rattle.card.proofs.Runs.{sum_left, set_all, both_none, both_one, both_then}
use Rattle.write_values.specs.Lent.{codes_given, code_given, fielded, CodesWritten}

-- ---- the values of a list

-- where no check refuses, each that is present is in range
pack_fits : (k : ℕ) (fs : List Field) (word : ℕ) (vs : List ℤ) (i : ℕ) → first (pack_checks k fs word vs) ≡ none → i < length fs → i < length vs
    → bit_at word (k + i) && not (in_range (get_or fs i no_field) (scaled (get_or vs i (pos 0)))) ≡ false
unfolding pack_checks
pack_fits k [] word vs i e h l = absurd (not-suc-le-zero h)
pack_fits k (f ∷ fs) word [] i e h l = absurd (not-suc-le-zero l)
pack_fits k (f ∷ fs) word (v ∷ vs) i e h l =
    let a = first_none (check (required k && not (bit_at word k)) 10 k) _ e in
    let b = first_none (check (bit_at word k && not (in_range f (scaled v))) 9 k) (pack_checks (suc k) fs word vs) a.1 in
    go i h l b.0 (λ j. pack_fits (suc k) fs word vs j b.1)
  where
    go : (i : ℕ) → i < suc (length fs) → i < suc (length vs) → bit_at word k && not (in_range f (scaled v)) ≡ false
        → ((j : ℕ) → j < length fs → j < length vs → bit_at word (suc k + j) && not (in_range (get_or fs j no_field) (scaled (get_or vs j (pos 0)))) ≡ false)
        → bit_at word (k + i) && not (in_range (get_or (f ∷ fs) i no_field) (scaled (get_or (v ∷ vs) i (pos 0)))) ≡ false
    go zero h l here there = let q : k + 0 ≡ k = omega arith in rw q here
    go (suc j) h l here there = let q : k + suc j ≡ suc k + j = omega arith in rw q (there j (le_of_suc-le-suc h) (le_of_suc-le-suc l))

entries-given_at : (k word : ℕ) (vs : List ℤ) (i : ℕ) → i < length vs
    → get_or (entries_given k word vs) i none ≡ cond (bit_at word (k + i)) (some (scaled (get_or vs i (pos 0)))) none
unfolding entries_given
entries-given_at k word [] i h = absurd (not-suc-le-zero h)
entries-given_at k word (v ∷ vs) zero h = let q : k + 0 ≡ k = omega arith in rw q
entries-given_at k word (v ∷ vs) (suc i) h =
    let q : suc k + i ≡ k + suc i = omega arith in
    rw (← q) (entries-given_at (suc k) word vs i (le_of_suc-le-suc h))

length-entries-given : (k word : ℕ) (vs : List ℤ) → length (entries_given k word vs) ≡ length vs
unfolding entries_given
length-entries-given k word [] = refl
length-entries-given k word (v ∷ vs) = ap suc (length-entries-given (suc k) word vs)

-- the entry at place i
abbrev entry_given : List ℤ → ℕ → ℕ → Option Scaled
entry_given values word i = cond (bit_at word (i + 1)) (some (scaled (get_or values i (pos 0)))) none

module _ (values : List ℤ) (word : ℕ) (many : 46 ≤ length values) where
  front_length : length (take 46 values) ≡ 46
  front_length = length-take-le 46 values many

  pub given-length : length (codes_given values word) ≡ 46
  given-length = length-codes table _ (length-entries-given 1 word (take 46 values) ∙ front_length ∙ sym table-length) ∙ table-length

  given_at_lem : (i : ℕ) → i < 46 → get_or (codes_given values word) i 0 ≡ (code_of (field_at (i + 1)) (entry_given values word i)).0
  given_at_lem i h =
      codes_at table (entries_given 1 word (take 46 values)) i (rw table-length h)
      ∙ ap₂ (λ (f : Field) (e : Option Scaled). (code_of f e).0) (field_is i)
      (entries-given_at 1 word (take 46 values) i (rw front_length h) ∙ rw (add_comm 1 i, get_or-take 46 values i (pos 0) h))

  -- by a field's number
  module _ (k : ℕ) (low : 1 ≤ k) (high : k ≤ 46) where
    pub code_number : (code_of (field_at k) (cond (bit_at word k) (some (scaled (get_or values (k - 1) (pos 0)))) none)).0 ≡ code_given values word (k - 1)
    code_number =
        let q : k - 1 + 1 ≡ k = omega arith in
        sym (rw q at (given_at_lem (k - 1) (omega arith)))

    pub given_fits : first (pack_checks 1 table word values) ≡ none → bit_at word k && not (in_range (field_at k) (scaled (get_or values (k - 1) (pos 0)))) ≡ false
    given_fits fair =
        let q : k - 1 + 1 ≡ k = omega arith in
        let a : 1 + (k - 1) ≡ k = omega arith in
        rw (field_is (k - 1), q, a) at (pack_fits 1 table word values (k - 1) fair (rw table-length (omega arith)) (omega (arith, many)))

-- ---- the fields written

-- one
pub written_one : (values : List ℤ) (word i k : ℕ) (s t : List ℕ) (c : ℕ) (sum : ℕ) → i < 46 → k ≡ i + 1 → c < 65536
    → c ≡ code_given values word (k - 1) → Carded s t (set (numbers_of s) k c) → CodesWritten values word i 1 s t sum (sum + c)
written_one values word i k s t c sum h at m e a =
    let place : k - 1 ≡ i = omega arith in
    let q : c ≡ code_given values word i = rw place at e in
    record {
      fields =
          both_one i (numbers_of s) (numbers_of t) sum (sum + c) (a.card ∙ ap₂ (λ (n v : ℕ). set (numbers_of s) n v) (at ∙ add_comm i 1) q)
          (ap (λ (n : ℕ). sum + n) q) (omega (arith, q));
      behind = a.behind;
      long = a.long;
    }

-- none
pub written_none : (values : List ℤ) (word i : ℕ) (s : List ℕ) (sum : ℕ) → CodesWritten values word i 0 s s sum sum
written_none values word i s sum = record { fields = both_none i (numbers_of s) sum; behind = refl; long = refl }

-- one run after the other
pub written_then : {values : List ℤ} {word i m n : ℕ} {x y z : List ℕ} {w u v : ℕ} → CodesWritten values word i m x y w u → CodesWritten values word (i + m) n y z u v
    → CodesWritten values word i (m + n) x z w v
written_then a b = record { fields = both_then a.fields b.fields; behind = b.behind ∙ a.behind; long = b.long ∙ a.long }

-- all
pub written_all : (values : List ℤ) (word : ℕ) (s t : List ℕ) (r : ℕ) → 46 ≤ length values → CodesWritten values word 0 46 s t 0 r
    → Carded s t (fielded (numbers_of s) (codes_given values word) 46) × (r ≡ total (codes_given values word))
written_all values word s t r p a =
    let cs : List ℕ = codes_given values word in
    let n : length cs ≡ 46 = given-length values word p in
    let left = sum_left (code_given values word) (λ (j : ℕ). total (drop j cs)) 46 0 (λ j l. rw add-one at (total-step cs j (omega arith))) in (
      record {
        card = a.fields.list ∙ set_all cs (numbers_of s) 0 1 46 (rw numbers_length (omega arith)) (omega arith);
        behind = a.behind;
        long = a.long;
      },
      omega (arith, a.fields.sums.total, left, total_end cs 46 (omega arith)),
    )

-- the numbers behind the fields, and RPTIN
ends : (n cs : List ℕ) (x y z : ℕ) → length n ≡ 49 → length cs ≡ 46
    → set (set (set (fielded n cs 46) 47 x) 48 y) 0 z ≡ z ∷ (cs ++ (x ∷ y ∷ []))
ends [] cs x y z l m = absurd (omega arith)
ends (a ∷ n) cs x y z l m =
    let k : length n ≡ 48 = omega arith in
    let p : ℕ = get_or n 46 0 in
    let q : ℕ = get_or n 47 0 in
    let d : drop 46 n ≡ p ∷ q ∷ [] =
    drop-cons n 46 0 (omega arith) ∙ ap (λ (r : List ℕ). p ∷ r) (drop-cons n 47 0 (omega arith) ∙ ap (λ (r : List ℕ). q ∷ r) (drop_of_length-le n {i = 48} (omega arith))) in
    let w : length (cs ++ (x ∷ [])) ≡ 47 = length-append cs (x ∷ []) ∙ omega arith in
    ap₂ (λ (f r : List ℕ). z ∷ set (set (f ++ r) 46 x) 47 y) (take_all 46 cs (omega arith)) d
    ∙ ap (λ (r : List ℕ). z ∷ set r 47 y) (set_at cs p (q ∷ []) x 46 m ∙ sym (append_snoc cs x (q ∷ [])))
    ∙ ap (λ (r : List ℕ). z ∷ r) (set_at (cs ++ (x ∷ [])) q [] y 47 w ∙ append_snoc cs x (y ∷ []))

pub carded_whole : (s t cs : List ℕ) (x y z : ℕ) → length cs ≡ 46 → Carded s t (set (set (set (fielded (numbers_of s) cs 46) 47 x) 48 y) 0 z)
    → Carded s t (z ∷ (cs ++ (x ∷ y ∷ [])))
carded_whole s t cs x y z l a =
    record { card = a.card ∙ ends (numbers_of s) cs x y z (numbers_length s) l; behind = a.behind; long = a.long }
