-- Fourteen flags held in one number: their fit, their weights, and whether all are missing; and the body of sixteen nibbles.
-- Assumes nothing.
use Prim.Native.Nat.{ℕ, zero, suc, ◌+◌, ◌-◌, ◌*◌, ◌/◌, ◌%◌, ◌^◌, ◌≤◌, ◌<◌}
use native.Mathlib.Omega.{arith}
use native.Mathlib.Numerals.{add-one}
use native.Mathlib.Nat.{pow-le-pow_right, pow-suc, zero-lt-suc}
use mathlib.Core.Path.{◌≡◌, refl, sym, ap, ap₂, ◌∙◌}
use mathlib.Core.Bool.{Bool, true, false, ◌&&◌, ◌||◌}
use mathlib.Core.List.{List, [], ◌∷◌, ◌++◌, append_assoc, append-nil}
use lib.ListN.{length, get_or, take, drop, length-drop, length-append}
use lib.Seq.{take_at, take-suc, take-add, take_all, drop-cons, drop-drop, get_or-drop, get_or-take, get_or-append-add}
use Rattle.std.proofs.lemmas.List.{length-take-le}
use lib.Dec.{eqb, leb}
use borrow.Author.Tests.{le-leb, ne_eqb, eqb-true, eqb-false, leb-true}
use Rattle.format.specs.Order.{between}
use Rattle.format.specs.Bits.{bit_field, Bytes}
use Rattle.format.specs.Nibbles.{nibbles, Nibbles}
use Rattle.format.specs.Flags.{FlagTable, total_weight, all_missing, quality_code, flag_fits, flags_fit, flags_valid}
use Rattle.laws.proofs.Sequences.{and_true, and_right, and_assoc, test_case}
use Rattle.laws.proofs.Nibbles.{length-nibbles, nibbles-drop}
use Rattle.words.proofs.Turned.{join, byte}
use Rattle.laws.proofs.Flags.{missing_fits, flag_set_valid}
use Rattle.flags.proofs.Row.{in_length, in_last, in_more, in_first, in_rest, fit_more}
use Rattle.flags.proofs.Planes.{over_last}
use Rattle.flags.specs.Planes.{mask, over_of}
use Rattle.flags.specs.Word.{nibbles_in, column_of, stands}
use Rattle.flags.specs.Missing.{MissingPermitted}

-- ---- n bytes of a packed buffer as a number

module _ (s : List ℕ) (bs : Bytes s) where
  byte_nibbles : (i : ℕ) → i < length s → take 2 (drop (2 * i) (nibbles s)) ≡ get_or s i 0 / 16 ∷ get_or s i 0 % 16 ∷ []
  unfolding nibbles
  byte_nibbles i h = ap (take 2) (sym (nibbles-drop i s) ∙ ap nibbles (drop-cons s i 0 h))

  bytes_in : (n i : ℕ) → i + n ≤ length s → nibbles_in (2 * n) (bit_field s (8 * i) (8 * n)) ≡ take (2 * n) (drop (2 * i) (nibbles s))
  unfolding nibbles_in
  bytes_in zero i h = refl
  bytes_in (suc n) i h =
      let x : ℕ = bit_field s (8 * i) (8 * n) in
      let b : ℕ = get_or s (i + n) 0 in
      let l = bs (i + n) in
      let two : 2 * suc n ≡ suc (suc (2 * n)) = omega arith in
      let eight : 8 * suc n ≡ 8 * n + 8 = omega arith in
      let at : 8 * i + 8 * n ≡ 8 * (i + n) = omega arith in
      let word : bit_field s (8 * i) (8 * suc n) ≡ x * 256 + b =
      ap (bit_field s (8 * i)) eight ∙ sym (join s (8 * i) (8 * n) 8 (omega arith)) ∙ ap (λ (y : ℕ). x * 256 + y) (ap (λ (o : ℕ). bit_field s o 8) at ∙ byte s bs (i + n) (omega arith)) in
      let high : (x * 256 + b) / 16 / 16 ≡ x = omega arith in
      let mid : (x * 256 + b) / 16 % 16 ≡ b / 16 = omega arith in
      let low : (x * 256 + b) % 16 ≡ b % 16 = omega arith in
      let place : 2 * i + 2 * n ≡ 2 * (i + n) = omega arith in
      let more : 2 * n + 2 ≡ 2 * suc n = omega arith in
      ap₂ nibbles_in two word
      ∙ ap (λ (l : List ℕ). l ++ ((x * 256 + b) % 16 ∷ [])) (ap₂ (λ (y z : ℕ). nibbles_in (2 * n) y ++ (z ∷ [])) high mid)
      ∙ append_assoc (nibbles_in (2 * n) x) (b / 16 ∷ []) ((x * 256 + b) % 16 ∷ [])
      ∙ ap₂ (λ (l : List ℕ) (z : ℕ). l ++ (b / 16 ∷ z ∷ [])) (bytes_in n i (omega arith)) low
      ∙ ap (λ (l : List ℕ). take (2 * n) (drop (2 * i) (nibbles s)) ++ l)
      (sym (ap (take 2) (drop-drop (2 * n) (2 * i) (nibbles s) ∙ ap (λ (k : ℕ). drop k (nibbles s)) place) ∙ byte_nibbles (i + n) (omega arith)))
      ∙ sym (take-add (2 * n) 2 (drop (2 * i) (nibbles s))) ∙ ap (λ (k : ℕ). take k (drop (2 * i) (nibbles s))) more

  pub even_place : (at w : ℕ) → at + 16 ≤ 2 * length s → at % 2 ≡ 0 → w ≡ bit_field s (8 * (at / 2)) 64 → nibbles_in 16 w ≡ take 16 (drop at (nibbles s))
  even_place at w h e is =
      let p : 2 * (at / 2) ≡ at = omega arith in
      ap (nibbles_in 16) is ∙ bytes_in 8 (at / 2) (omega arith) ∙ ap (λ (k : ℕ). take 16 (drop k (nibbles s))) p

  pub odd_place : (at w x : ℕ) → at + 16 ≤ 2 * length s → (at % 2 ≡ 0 → ⊥) → w ≡ bit_field s (8 * (at / 2)) 64 → x ≡ get_or s (at / 2 + 8) 0
      → nibbles_in 16 (w % 1152921504606846976 * 16 + x / 16) ≡ take 16 (drop at (nibbles s))
  unfolding nibbles
  odd_place at w x h n is ex =
      let i : ℕ = at / 2 in
      let p : at ≡ 1 + 2 * i = omega arith in
      let l = bs (i + 8) in
      let small : x / 16 < 16 = omega arith in
      let all : nibbles_in 16 w ≡ take 16 (drop (2 * i) (nibbles s)) = ap (nibbles_in 16) is ∙ bytes_in 8 i (omega arith) in
      let behind : nibbles_in 15 w ≡ take 15 (drop at (nibbles s)) =
      ap (drop 1) (sym (in_first 15 w) ∙ all) ∙ drop-take-one (drop (2 * i) (nibbles s)) ∙ ap (take 15) (drop-drop 1 (2 * i) (nibbles s) ∙ ap (λ (k : ℕ). drop k (nibbles s)) (omega_at at i p)) in
      let k : at + 15 ≡ 2 * (i + 8) = omega arith in
      let last : get_or (drop at (nibbles s)) 15 0 ≡ x / 16 =
      get_or-drop at (nibbles s) 15 0 ∙ ap (λ (m : ℕ). get_or (nibbles s) m 0) k ∙ high_half (i + 8) (omega arith) ∙ ap (λ (y : ℕ). y / 16) (sym ex) in
      in_more 15 (w % 1152921504606846976) (x / 16) small
      ∙ ap₂ (λ (ns : List ℕ) (y : ℕ). ns ++ (y ∷ [])) (in_rest 15 w ∙ behind) (sym last)
      ∙ sym (take-suc (drop at (nibbles s)) 15 0 (rw (length-drop, length-nibbles) (omega arith)))
    where
      drop-take-one : (l : List ℕ) → drop 1 (take 16 l) ≡ take 15 (drop 1 l)
      drop-take-one [] = refl
      drop-take-one (y ∷ l) = refl

      omega_at : (at i : ℕ) → at ≡ 1 + 2 * i → 2 * i + 1 ≡ at
      omega_at at i p = omega arith

      high_half : (j : ℕ) → j < length s → get_or (nibbles s) (2 * j) 0 ≡ get_or s j 0 / 16
      high_half j h = let z : 2 * j ≡ 2 * j + 0 = omega arith in
          ap (λ (m : ℕ). get_or (nibbles s) m 0) z ∙ sym (get_or-drop (2 * j) (nibbles s) 0 0) ∙ ap (λ (l : List ℕ). get_or l 0 0) (sym (nibbles-drop j s) ∙ ap nibbles (drop-cons s j 0 h))

-- ---- a nibble a byte

-- the first i nibbles of a row have been read
pub record Reading (row : List ℕ) (i w : ℕ) : Type 0 where
  pub passed : i ≤ 16
  pub read : nibbles_in i w ≡ take i row
  pub small : w < 16 ^ i

pub read_none : (row : List ℕ) → Reading row 0 0
unfolding nibbles_in
read_none row = record { passed = omega arith; read = refl; small = omega arith }

pub read_small : (row : List ℕ) (i w : ℕ) → i < 16 → Reading row i w → w < 16 ^ 15
read_small row i w h k =
    let l : i ≤ 15 = omega arith in
    let p : 16 ^ i ≤ 16 ^ 15 = pow-le-pow_right (zero-lt-suc 15) l in
    omega (arith, k.small)

row_length : (s : List ℕ) (at : ℕ) → at + 16 ≤ length s → length (take 16 (drop at s)) ≡ 16
row_length s at l = length-take-le 16 (drop at s) (omega (arith, length-drop at s))

-- the nibble at i of those from a place on
item_is : (s : List ℕ) (at i : ℕ) → i < 16 → get_or (take (at + 16 - at) (drop at s)) i 0 ≡ get_or s (at + i) 0
item_is s at i h = let e : i < at + 16 - at = omega arith in get_or-take (at + 16 - at) (drop at s) i 0 e ∙ get_or-drop at s i 0

pub item_small : (s : List ℕ) (at i : ℕ) → Nibbles s → i < 16 → get_or (take (at + 16 - at) (drop at s)) i 0 < 16
item_small s at i ns h = omega (arith, item_is s at i h, ns (at + i))

pub read_more : (s : List ℕ) (at i w x : ℕ) → Nibbles s → at + 16 ≤ length s → i < 16 → x ≡ get_or (take (at + 16 - at) (drop at s)) i 0 → Reading (take 16 (drop at s)) i w
    → Reading (take 16 (drop at s)) (i + 1) (w * 16 + x)
read_more s at i w x ns l h e k =
    let t = add-one i in
    let row = take 16 (drop at s) in
    let here : x ≡ get_or row i 0 = e ∙ item_is s at i h ∙ sym (get_or-take 16 (drop at s) i 0 h ∙ get_or-drop at s i 0) in
    let long = row_length s at l in
    let small : x < 16 = omega (arith, item_small s at i ns h) in
    record {
      passed = omega arith;
      read = ap (λ (n : ℕ). nibbles_in n (w * 16 + x)) t ∙ in_more i w x small ∙ ap₂ (λ (ns : List ℕ) (y : ℕ). ns ++ (y ∷ [])) k.read here
          ∙ sym (take-suc row i 0 (omega arith)) ∙ ap (λ (n : ℕ). take n row) (sym t);
      small = omega (arith, k.small, ap (λ (n : ℕ). 16 ^ n) t ∙ pow-suc 16 i);
    }

pub read_all : (s : List ℕ) (at i w : ℕ) → at + 16 ≤ length s → 16 ≤ i → Reading (take 16 (drop at s)) i w → nibbles_in 16 w ≡ take 16 (drop at s)
read_all s at i w l h k =
    let e : i ≡ 16 = omega (arith, k.passed) in
    ap (λ (n : ℕ). nibbles_in n w) (sym e) ∙ k.read ∙ take_all i (take 16 (drop at s)) (omega (arith, row_length s at l))

-- ---- the quality code

missing_more : (vs : List ℕ) (v : ℕ) → all_missing (vs ++ (v ∷ [])) ≡ all_missing vs && eqb v 0
unfolding all_missing
missing_more [] v = and_right (eqb v 0)
missing_more (x ∷ vs) v = ap (λ (t : Bool). eqb x 0 && t) (missing_more vs v) ∙ sym (and_assoc (eqb x 0) (all_missing vs) (eqb v 0))

both_zero : (w : ℕ) → eqb (w / 16) 0 && eqb (w % 16) 0 ≡ eqb w 0
both_zero w =
    test_case (eqb w 0)
    (λ e. let z = eqb-true w 0 e in rw z)
    (λ e.
    let n = eqb-false w 0 e in
    rw e
    (test_case (eqb (w / 16) 0)
    (λ a. let q = eqb-true (w / 16) 0 a in rw (a, ne_eqb (w % 16) 0 (λ z. n (omega arith))))
    (λ a. rw a)))

all_missing_lem : (n w : ℕ) → w < 16 ^ n → all_missing (nibbles_in n w) ≡ eqb w 0
unfolding nibbles_in all_missing
all_missing_lem zero w h = let z : w ≡ 0 = omega arith in rw z
all_missing_lem (suc n) w h =
    missing_more (nibbles_in n (w / 16)) (w % 16) ∙ ap (λ (t : Bool). t && eqb (w % 16) 0) (all_missing_lem n (w / 16) (omega (arith, pow-suc 16 n))) ∙ both_zero w

code_none : (n : ℕ) → 0 ≡ quality_code (nibbles_in n 0)
unfolding quality_code
code_none n = rw (all_missing_lem n 0 (pow_pos' n))
  where
    pow_pos' : (n : ℕ) → 0 < 16 ^ n
    pow_pos' zero = omega arith
    pow_pos' (suc n) = omega (arith, pow_pos' n, pow-suc 16 n)

pub code_missing : (flags : ℕ) → flags ≡ 0 → (0 ≡ quality_code (nibbles_in 14 flags)) × (0 ≤ 43)
code_missing flags e = (rw e (code_none 14), omega arith)

pub code_given : (flags w : ℕ) → flags < 2 ^ 56 → (flags ≡ 0 → ⊥) → (w ≡ total_weight (nibbles_in 14 flags)) × (w ≤ 42)
    → (1 + w ≡ quality_code (nibbles_in 14 flags)) × (1 + w ≤ 43)
unfolding quality_code
code_given flags w h n e = (rw (all_missing_lem 14 flags h, ne_eqb flags 0 n) (ap (λ (x : ℕ). 1 + x) e.0), omega (arith, e.1))

-- ---- the table

pub stands_is : (v mark : ℕ) → v ≤ 10 → eqb v 0 || eqb mark 1 ≡ stands v mark
unfolding stands
stands_is v mark h =
    test_case (eqb v 0) (λ e. rw e)
    (λ e. let n = eqb-false v 0 e in rw (e, le-leb 1 v (omega arith), le-leb v 10 h))

-- the mark in the value's column decides
stands_fits : (marks : FlagTable) (n v : ℕ) → stands v (get_or (get_or marks n []) (column_of v) 0) ≡ flag_fits marks (suc n) v
unfolding stands column_of
stands_fits marks n v =
    let e : n ≡ suc n - 1 = omega arith in
    test_case (eqb v 0) (λ z. rw z)
    (λ z.
    rw z
    (test_case (between 1 10 v)
    (λ b. rw b (ap (λ (i : ℕ). eqb (get_or (get_or marks i []) (v - 1) 0) 1) e))
    (λ b. rw b)))

-- the flags of the first rows are left to be looked at; r is whether the others may stand
pub record Fitting (marks : FlagTable) (flags : ℕ) (rows : FlagTable) (left : ℕ) (r : Bool) : Type 0 where
  pub behind : FlagTable
  pub whole : marks ≡ rows ++ behind
  pub low : over_of (mask (length rows)) left ≡ 0
  pub same : flags_fit marks 1 (nibbles_in (length rows) left) && r ≡ flags_fit marks 1 (nibbles_in 14 flags)

pub fit_none : (marks : FlagTable) (flags : ℕ) (rows : FlagTable) → rows ≡ marks → length marks ≡ 14 → over_of (mask 14) flags ≡ 0 → Fitting marks flags rows flags true
fit_none marks flags rows e l o =
    let n = ap length e ∙ l in
    record {
      behind = [];
      whole = sym e ∙ sym (append-nil rows);
      low = ap (λ (m : ℕ). over_of (mask m) flags) n ∙ o;
      same = and_right (flags_fit marks 1 (nibbles_in (length rows) flags)) ∙ ap (λ (m : ℕ). flags_fit marks 1 (nibbles_in m flags)) n;
    }

module _ (marks : FlagTable) (flags : ℕ) (rows : FlagTable) (left : ℕ) (r : Bool) (rest : FlagTable) (row : List ℕ) (e : rows ≡ rest ++ (row ∷ []))
    (k : Fitting marks flags rows left r) where
  count : length rows ≡ suc (length rest)
  count = ap length e ∙ omega (arith, length-append rest (row ∷ []))

  lows : (over_of (mask (length rest)) (left / 16) ≡ 0) × (left % 16 ≤ 10)
  lows = over_last (length rest) left (sym (ap (λ (n : ℕ). over_of (mask n) left) count) ∙ k.low)

  pub left_low : left % 16 ≤ 10
  left_low = lows.1

  marks_are : marks ≡ rest ++ (row ∷ k.behind)
  marks_are = k.whole ∙ ap (λ (l : FlagTable). l ++ k.behind) e ∙ append_assoc rest (row ∷ []) k.behind

  row_is : get_or marks (length rest) [] ≡ row
  row_is = let z : length rest ≡ length rest + 0 = omega arith in
      ap₂ (λ (l : FlagTable) (i : ℕ). get_or l i []) marks_are z ∙ get_or-append-add rest (row ∷ k.behind) 0 []

  last_fits : flags_fit marks 1 (nibbles_in (length rows) left) ≡ flags_fit marks 1 (nibbles_in (length rest) (left / 16)) && flag_fits marks (suc (length rest)) (left % 16)
  last_fits =
      let n = length rest in
      let j : 1 + length (nibbles_in n (left / 16)) ≡ suc n = omega (arith, in_length n (left / 16)) in
      ap (λ (m : ℕ). flags_fit marks 1 (nibbles_in m left)) count ∙ ap (flags_fit marks 1) (in_last n left) ∙ fit_more marks 1 (nibbles_in n (left / 16)) (left % 16)
      ∙ ap (λ (i : ℕ). flags_fit marks 1 (nibbles_in n (left / 16)) && flag_fits marks i (left % 16)) j

  pub fit_next : (column : ℕ) (t : Bool) → column ≡ column_of (left % 16) → t ≡ stands (left % 16) (get_or row column 0) → Fitting marks flags rest (left / 16) (r && t)
  fit_next column t ec et =
      let n = length rest in
      let is : t ≡ flag_fits marks (suc n) (left % 16) =
      et ∙ ap₂ (λ (i : ℕ) (l : List ℕ). stands (left % 16) (get_or l i 0)) ec (sym row_is) ∙ stands_fits marks n (left % 16) in
      let before = flags_fit marks 1 (nibbles_in n (left / 16)) in
      record {
        behind = row ∷ k.behind;
        whole = marks_are;
        low = lows.0;
        same = turned before r t ∙ ap (λ (b : Bool). (before && b) && r) is ∙ ap (λ (b : Bool). b && r) (sym last_fits) ∙ k.same;
      }
    where
      turned : (a b d : Bool) → a && (b && d) ≡ (a && d) && b
      turned false b d = refl
      turned true true d = sym (and_right d)
      turned true false true = refl
      turned true false false = refl

pub fit_all : (marks : FlagTable) (flags : ℕ) (rows : FlagTable) (left : ℕ) (r : Bool) → length rows ≡ 0 → Fitting marks flags rows left r → r ≡ flags_fit marks 1 (nibbles_in 14 flags)
unfolding nibbles_in flags_fit
fit_all marks flags [] left r h k = k.same
fit_all marks flags (row ∷ rows) left r h k = absurd (omega arith)

-- ---- a body

-- fourteen flags, and the two nibbles of the quality code
body_parts : (w : ℕ) → nibbles_in 16 w ≡ nibbles_in 14 (w / 256) ++ ((w / 16) % 16 ∷ w % 16 ∷ [])
unfolding nibbles_in
body_parts w =
    let e : w / 16 / 16 ≡ w / 256 = omega arith in
    append_assoc (nibbles_in 14 (w / 16 / 16)) ((w / 16) % 16 ∷ []) (w % 16 ∷ []) ∙ ap (λ (f : ℕ). nibbles_in 14 f ++ ((w / 16) % 16 ∷ w % 16 ∷ [])) e

module _ (row : List ℕ) (w : ℕ) (e : nibbles_in 16 w ≡ row) where
  whole : row ≡ nibbles_in 14 (w / 256) ++ ((w / 16) % 16 ∷ w % 16 ∷ [])
  whole = sym e ∙ body_parts w

  pub body_flags : take 14 row ≡ nibbles_in 14 (w / 256)
  body_flags = ap (take 14) whole ∙ take_at (nibbles_in 14 (w / 256)) ((w / 16) % 16 ∷ w % 16 ∷ []) 14 (in_length 14 (w / 256))

  body_behind : (i : ℕ) → get_or row (14 + i) 0 ≡ get_or ((w / 16) % 16 ∷ w % 16 ∷ []) i 0
  body_behind i =
      ap (λ (l : List ℕ). get_or l (14 + i) 0) whole
      ∙ rw (in_length 14 (w / 256)) at (get_or-append-add (nibbles_in 14 (w / 256)) ((w / 16) % 16 ∷ w % 16 ∷ []) i 0)

  body_code : get_or row 14 0 * 16 + get_or row 15 0 ≡ w % 256
  body_code = rw (body_behind 0, body_behind 1) (omega arith)

  body_is : (marks : FlagTable) → flags_valid marks row ≡ flags_fit marks 1 (nibbles_in 14 (w / 256)) && eqb (w % 256) (quality_code (nibbles_in 14 (w / 256)))
  unfolding flags_valid
  body_is marks = rw (ap length (sym e) ∙ in_length 16 w, body_flags, body_code)

  pub body_fits : (marks : FlagTable) (q : ℕ) → true ≡ flags_fit marks 1 (nibbles_in 14 (w / 256)) → q ≡ quality_code (nibbles_in 14 (w / 256)) → eqb (w % 256) q ≡ flags_valid marks row
  body_fits marks q f c = sym (body_is marks ∙ rw (sym f, sym c))

  pub body_unfit : (marks : FlagTable) → false ≡ flags_fit marks 1 (nibbles_in 14 (w / 256)) → false ≡ flags_valid marks row
  body_unfit marks f = sym (body_is marks ∙ rw (sym f))

-- no flag, and quality code 0
pub body_none : (marks : FlagTable) (row : List ℕ) (w : ℕ) → nibbles_in 16 w ≡ row → w ≡ 0 → true ≡ flags_valid marks row
unfolding nibbles_in flags_valid flags_fit quality_code all_missing
body_none marks row w e z = ap (flags_valid marks) (ap (nibbles_in 16) (sym z) ∙ e)

pub other_length : (marks : FlagTable) (row : List ℕ) (n : ℕ) → length row ≡ n → (n ≡ 16 → ⊥) → false ≡ flags_valid marks row
unfolding flags_valid
other_length marks row n l h = rw (l, ne_eqb n 16 h)

-- ---- a missing flag

pub missing_permitted : (marks : FlagTable) → MissingPermitted marks
unfolding flags_fit
missing_permitted marks =
    record { fits = λ j vs. refl; cleared = λ body j i e. flag_set_valid body j 0 marks e (leb-true 1 j (and_true (leb 1 j) (leb j 14) i).0) (missing_fits marks j) }
