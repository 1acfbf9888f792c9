-- Laws of the flags: the bodies that id 1 may have, their quality code, and a flag set.
-- Assumes nothing.
use Prim.Native.Nat.{ℕ, zero, suc, ◌+◌, ◌-◌, ◌*◌, ◌/◌, ◌%◌, ◌≤◌, ◌<◌}
use native.Mathlib.Omega.{arith}
use native.Mathlib.Decide.{dec_lt}
use mathlib.Core.Path.{◌≡◌, refl, sym, ap, subst, ◌∙◌}
use mathlib.Core.Bool.{Bool, true, false, cond, ◌&&◌}
use mathlib.Core.List.{List, [], ◌∷◌}
use lib.ListN.{length, get_or, take, set, length-append, length-set}
use lib.Seq.{length-take-le, take_at, get_or-append-add, get_or-take}
use lib.Dec.{eqb, leb}
use borrow.Author.Tests.{leb-true, eqb-true, eq-eqb}
use Rattle.format.specs.Order.{between}
use Rattle.format.specs.Flags.{FlagTable, permitted, weights, weight, total_weight, all_missing, quality_code, flag_in_range, flag_fits, flags_fit, flag_body, with_flag, flags_valid}
use Rattle.laws.proofs.Sequences.{and_true, cond_case}

-- ---- what a flag may hold

pub missing_fits : (marks : FlagTable) (j : ℕ) → flag_fits marks j 0 ≡ true
missing_fits marks j = refl

pub range_fits : (marks : FlagTable) (j v : ℕ) → flag_in_range marks j v ≡ true → flag_fits marks j v ≡ true
range_fits marks j v e = cond_case (λ (t : Bool). t ≡ true) (eqb v 0) true (flag_in_range marks j v) (λ _. refl) (λ _. e)

flag_le : (marks : FlagTable) (j v : ℕ) → flag_fits marks j v ≡ true → v ≤ 10
flag_le marks j v e = go (eqb v 0) refl e
  where
    go : (t : Bool) → eqb v 0 ≡ t → cond t true (flag_in_range marks j v) ≡ true → v ≤ 10
    go true q e = omega (arith, eqb-true v 0 q)
    go false q e = leb-true v 10 (and_true (leb 1 v) (leb v 10) (and_true (between 1 10 v) (permitted marks j v) e).0).1

-- no flag is over 10
flags_le : (marks : FlagTable) (j : ℕ) (flags : List ℕ) → flags_fit marks j flags ≡ true → (i : ℕ) → get_or flags i 0 ≤ 10
unfolding flags_fit
flags_le marks j [] e i = omega arith
flags_le marks j (v ∷ vs) e zero = flag_le marks j v (and_true (flag_fits marks j v) (flags_fit marks (suc j) vs) e).0
flags_le marks j (v ∷ vs) e (suc i) = flags_le marks (suc j) vs (and_true (flag_fits marks j v) (flags_fit marks (suc j) vs) e).1 i

-- flags that fit still do with one more that fits
fit_set : (marks : FlagTable) (j : ℕ) (flags : List ℕ) (i v : ℕ) → flags_fit marks j flags ≡ true → flag_fits marks (j + i) v ≡ true → flags_fit marks j (set flags i v) ≡ true
unfolding flags_fit
fit_set marks j [] i v e f = refl
fit_set marks j (x ∷ vs) zero v e f =
    let z : j + 0 ≡ j = omega arith in
    let f' = subst (λ (k : ℕ). flag_fits marks k v ≡ true) z f in
    rw (f', (and_true (flag_fits marks j x) (flags_fit marks (suc j) vs) e).1)
fit_set marks j (x ∷ vs) (suc i) v e f =
    let z : j + suc i ≡ suc j + i = omega arith in
    let a = and_true (flag_fits marks j x) (flags_fit marks (suc j) vs) e in
    rw (a.0, fit_set marks (suc j) vs i v a.1 (subst (λ (k : ℕ). flag_fits marks k v ≡ true) z f))

-- ---- the quality code

-- no number of a list is over n
up_to : ℕ → List ℕ → Bool
up_to n [] = true
up_to n (x ∷ xs) = leb x n && up_to n xs

up_to_at : (n : ℕ) (xs : List ℕ) → up_to n xs ≡ true → (i : ℕ) → get_or xs i 0 ≤ n
unfolding up_to
up_to_at n [] e i = omega arith
up_to_at n (x ∷ xs) e zero = leb-true x n (and_true (leb x n) (up_to n xs) e).0
up_to_at n (x ∷ xs) e (suc i) = up_to_at n xs (and_true (leb x n) (up_to n xs) e).1 i

weight_le : (v : ℕ) → weight v ≤ 3
unfolding weight weights up_to
weight_le zero = omega arith
weight_le (suc v) = up_to_at 3 weights refl v

pub weights_le : (flags : List ℕ) → total_weight flags ≤ 3 * length flags
unfolding total_weight
weights_le [] = omega arith
weights_le (v ∷ vs) = omega (arith, weight_le v, weights_le vs)

-- at most 43 of fourteen flags: two nibbles
pub quality_le : (flags : List ℕ) → quality_code flags ≤ 1 + 3 * length flags
unfolding quality_code
quality_le flags =
    cond_case (λ (q : ℕ). q ≤ 1 + 3 * length flags) (all_missing flags) 0 (1 + total_weight flags)
    (λ _. omega arith)
    (λ _. omega (arith, weights_le flags))

-- ---- the body of fourteen flags

quality_nibble : (q : ℕ) → q ≤ 43 → (n : ℕ) → get_or (q / 16 ∷ q % 16 ∷ []) n 0 < 16
quality_nibble q h zero = omega arith
quality_nibble q h (suc zero) = omega arith
quality_nibble q h (suc (suc n)) = omega arith

module _ (flags : List ℕ) (l : length flags ≡ 14) where
  body_length : length (flag_body flags) ≡ 16
  unfolding flag_body
  body_length = simp (length-append, l)

  body_flags : take 14 (flag_body flags) ≡ flags
  unfolding flag_body
  body_flags = take_at flags _ 14 l

  -- from its fifteenth nibble on, a body is the two nibbles of its quality code
  body_behind : (n : ℕ) → get_or (flag_body flags) (14 + n) 0 ≡ get_or (quality_code flags / 16 ∷ quality_code flags % 16 ∷ []) n 0
  unfolding flag_body
  body_behind n = rw l at (get_or-append-add flags (quality_code flags / 16 ∷ quality_code flags % 16 ∷ []) n 0)

  body_quality : get_or (flag_body flags) 14 0 * 16 + get_or (flag_body flags) 15 0 ≡ quality_code flags
  body_quality = rw (body_behind 0, body_behind 1) (omega arith)

  module _ (marks : FlagTable) (e : flags_fit marks 1 flags ≡ true) where
    pub flags_body : flags_valid marks (flag_body flags) ≡ true
    unfolding flags_valid
    flags_body = rw (body_length, body_flags, e, body_quality, eq-eqb (quality_code flags) (quality_code flags) refl)

    body_nibbles : (i : ℕ) → get_or (flag_body flags) i 0 < 16
    body_nibbles i = go (dec_lt i 14)
      where
        go : Dec (i < 14) → get_or (flag_body flags) i 0 < 16
        go (yes h) = omega (arith, sym (get_or-take 14 (flag_body flags) i 0 h), ap (λ (x : List ℕ). get_or x i 0) body_flags, flags_le marks 1 flags e i)
        go (no h) =
            let q : i ≡ 14 + (i - 14) = omega arith in
            rw (q, body_behind (i - 14)) (quality_nibble (quality_code flags) (omega (arith, quality_le flags)) (i - 14))

-- ---- a valid body

-- what a body that 6 accepts is
pub record ValidFlags (marks : FlagTable) (body : List ℕ) : Type 0 where
  pub long : length body ≡ 16
  pub fit : flags_fit marks 1 (take 14 body) ≡ true
  pub quality : get_or body 14 0 * 16 + get_or body 15 0 ≡ quality_code (take 14 body)

pub valid_flags : (marks : FlagTable) (body : List ℕ) → flags_valid marks body ≡ true → ValidFlags marks body
unfolding flags_valid
valid_flags marks body e =
    let q = eqb (get_or body 14 0 * 16 + get_or body 15 0) (quality_code (take 14 body)) in
    let a = and_true (eqb (length body) 16) (flags_fit marks 1 (take 14 body) && q) e in
    let b = and_true (flags_fit marks 1 (take 14 body)) q a.1 in
    record {
      long = eqb-true (length body) 16 a.0;
      fit = b.0;
      quality = eqb-true (get_or body 14 0 * 16 + get_or body 15 0) (quality_code (take 14 body)) b.1;
    }

-- ---- a flag set

module _ (body : List ℕ) (j v : ℕ) where
  set-length : length body ≡ 16 → length (set (take 14 body) (j - 1) v) ≡ 14
  set-length l = length-set (take 14 body) (j - 1) v ∙ length-take-le 14 body (omega arith)

  module _ (l : length body ≡ 16) where
    pub flag_set-length : length (with_flag body j v) ≡ 16
    unfolding with_flag
    flag_set-length = body_length (set (take 14 body) (j - 1) v) (set-length l)

  module _ (marks : FlagTable) (e : flags_valid marks body ≡ true) (a : 1 ≤ j) (f : flag_fits marks j v ≡ true) where
    set_fit : flags_fit marks 1 (set (take 14 body) (j - 1) v) ≡ true
    set_fit =
        let z : j ≡ 1 + (j - 1) = omega arith in
        fit_set marks 1 (take 14 body) (j - 1) v (valid_flags marks body e).fit (subst (λ (k : ℕ). flag_fits marks k v ≡ true) z f)

    pub flag_set_valid : flags_valid marks (with_flag body j v) ≡ true
    unfolding with_flag
    flag_set_valid = flags_body (set (take 14 body) (j - 1) v) (set-length (valid_flags marks body e).long) marks set_fit

    pub flag_set-nibbles : (i : ℕ) → get_or (with_flag body j v) i 0 < 16
    unfolding with_flag
    flag_set-nibbles = body_nibbles (set (take 14 body) (j - 1) v) (set-length (valid_flags marks body e).long) marks set_fit
