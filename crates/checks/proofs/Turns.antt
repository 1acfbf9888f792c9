-- The walk over the fields: what is left to check and to sum, and what a turn finds.
-- Assumes nothing.
use Prim.Native.Nat.{ℕ, suc, ◌+◌, ◌-◌, ◌%◌, ◌≤◌, ◌<◌}
use native.Mathlib.Numerals.{add-one}
use native.Mathlib.Omega.{arith}
use mathlib.Core.Path.{◌≡◌, refl, sym, ap, ap₂, ◌∙◌}
use mathlib.Core.Bool.{Bool, true, false, cond, ◌&&◌}
use mathlib.Core.List.{List}
use mathlib.Core.Option.{Option, none, some}
use lib.Dec.{ltb, eqb}
use lib.ListN.{get_or, drop, drop_of_length-le}
use borrow.Author.Tests.{lt-ltb, le-ltb}
use Rattle.format.specs.Order.{Refusal, first}
use Rattle.format.specs.Bits.{total}
use Rattle.format.specs.Field.{Field, table, field_at, required}
use Rattle.format.specs.Observation.{checksum}
use Rattle.format.specs.Report.{codes_of, field_checks}
use Rattle.laws.proofs.Bits.{total-step, total_end}
use Rattle.laws.proofs.Fields.{no_field, field_at_lem, table-length, field_refusal, checks_at}
use Rattle.card.proofs.Numbers.{codes-length}
use Rattle.checks.specs.Answers.{checked_of, card_check}
use Rattle.checks.specs.Walk.{by_tests, code_check}
use Rattle.std.specs.Prelude.{Result, Ok, Err}

-- ---- the coded fields from place i on

-- what is left to check, and to sum
abbrev pub left : List ℕ → ℕ → Option Refusal
left b i = first (field_checks (suc i) (drop i table) (drop i (codes_of b)))

abbrev pub rest : List ℕ → ℕ → ℕ
rest b i = total (drop i (codes_of b))

pub left_end : (b : List ℕ) → left b 46 ≡ none
unfolding first field_checks
left_end b = ap (λ (fs : List Field). first (field_checks 47 fs (drop 46 (codes_of b)))) (drop_of_length-le table {i = 46} (rw table-length (omega arith)))

pub rest_end : (b : List ℕ) → rest b 46 ≡ 0
rest_end b = total_end (codes_of b) 46 (rw codes-length (omega arith))

left_step : (b : List ℕ) (i : ℕ) → i < 46 → left b i ≡ field_refusal (suc i) (get_or table i no_field) (get_or (codes_of b) i 0) (left b (suc i))
left_step b i h = checks_at (suc i) table (codes_of b) i (rw table-length h) (rw codes-length h)

pub rest-step : (b : List ℕ) (i : ℕ) → i < 46 → rest b i ≡ get_or (codes_of b) i 0 + rest b (suc i)
rest-step b i h = rw add-one at (total-step (codes_of b) i (rw codes-length h))

-- ---- the walk: a field's refusal, and what it leaves

module _ (k c : ℕ) where
  pub refusal_above : (field_at k).highest < c → Err (record { number = 2; place = k }) ≡ code_check k c
  unfolding code_check
  refusal_above h = rw (lt-ltb (field_at k).highest c h)

  pub refusal_fine : c ≤ (field_at k).highest → required k && eqb c 0 ≡ false → Ok tt ≡ code_check k c
  unfolding code_check
  refusal_fine h e = rw (le-ltb (field_at k).highest c h, e)

  pub refusal_missing : c ≡ 0 → required k ≡ true → Err (record { number = 3; place = k }) ≡ code_check k c
  unfolding code_check
  refusal_missing e q = rw (e, q, le-ltb (field_at k).highest 0 (omega arith))

-- the refusal of a field, or what comes behind it
abbrev refused_or : Result Unit Refusal → Option Refusal → Option Refusal
refused_or (Err r) more = some r
refused_or (Ok u) more = more

tests_or : (s t : Bool) (k : ℕ) (more : Option Refusal)
    → cond s (some (record { number = 2; place = k })) (cond t (some (record { number = 3; place = k })) more) ≡ refused_or (by_tests s t k) more
tests_or true t k more = refl
tests_or false true k more = refl
tests_or false false k more = refl

-- a turn of the walk: the field at place i
module _ (b : List ℕ) (i : ℕ) (h : i < 46) where
  turn : left b i ≡ refused_or (code_check (suc i) (get_or (codes_of b) i 0)) (left b (suc i))
  unfolding code_check
  turn =
      let q : suc i - 1 ≡ i = omega arith in
      let f : get_or table i no_field ≡ field_at (suc i) = sym (field_at_lem (suc i) ∙ ap (λ (m : ℕ). get_or table m no_field) q) in
      left_step b i h
      ∙ tests_or (ltb (get_or table i no_field).highest (get_or (codes_of b) i 0)) (required (suc i) && eqb (get_or (codes_of b) i 0) 0) (suc i) (left b (suc i))
      ∙ ap (λ (f : Field). refused_or (by_tests (ltb f.highest (get_or (codes_of b) i 0)) (required (suc i) && eqb (get_or (codes_of b) i 0) 0) (suc i)) (left b (suc i))) f

  -- it is the first
  pub walk_refused : (r : Refusal) → Err r ≡ code_check (suc i) (get_or (codes_of b) i 0) → left b i ≡ left b 0 → Err r ≡ card_check b
  unfolding card_check
  walk_refused r e all =
      let f : left b 0 ≡ some r = sym all ∙ turn ∙ ap (λ (x : Result Unit Refusal). refused_or x (left b (suc i))) (sym e) in
      sym (ap (λ (x : Option Refusal). checked_of x (checksum (codes_of b))) f)

  -- or there is none
  pub walk_passed : Ok tt ≡ code_check (suc i) (get_or (codes_of b) i 0) → left b i ≡ left b (suc i)
  walk_passed e = turn ∙ ap (λ (x : Result Unit Refusal). refused_or x (left b (suc i))) (sym e)

-- of field k
module _ (b : List ℕ) (k : ℕ) (l : 1 ≤ k) (h : k ≤ 46) where
  place : suc (k - 1) ≡ k
  place = omega arith

  pub refused_at : (r : Refusal) → Err r ≡ code_check k (get_or (codes_of b) (k - 1) 0) → left b (k - 1) ≡ left b 0 → Err r ≡ card_check b
  refused_at r e = walk_refused b (k - 1) (omega arith) r (e ∙ ap (λ (j : ℕ). code_check j (get_or (codes_of b) (k - 1) 0)) (sym place))

  pub rest_at : rest b (k - 1) ≡ get_or (codes_of b) (k - 1) 0 + rest b (k + 1 - 1)
  rest_at =
      let q : suc (k - 1) ≡ k + 1 - 1 = omega arith in
      rest-step b (k - 1) (omega arith) ∙ ap (λ (j : ℕ). get_or (codes_of b) (k - 1) 0 + rest b j) q

  pub passed_at : Ok tt ≡ code_check k (get_or (codes_of b) (k - 1) 0) → left b (k - 1) ≡ left b (k + 1 - 1)
  passed_at e =
      let q : suc (k - 1) ≡ k + 1 - 1 = omega arith in
      walk_passed b (k - 1) (omega arith) (e ∙ ap (λ (j : ℕ). code_check j (get_or (codes_of b) (k - 1) 0)) (sym place)) ∙ ap (left b) q

pub walk_end : (b : List ℕ) (i sum n : ℕ) → i ≡ 46 → left b i ≡ left b 0 → sum + rest b i ≡ rest b 0 → n ≡ sum % 255 → Ok n ≡ card_check b
unfolding card_check checksum
walk_end b i sum n e all whole is =
    let f : left b 0 ≡ none = sym all ∙ ap (left b) e ∙ left_end b in
    let t : sum ≡ total (codes_of b) = omega (arith, ap (rest b) e, rest_end b) in
    ap₂ (λ (m : ℕ) (r : Option Refusal). checked_of r m) (is ∙ ap (λ (m : ℕ). m % 255) t) (sym f)
