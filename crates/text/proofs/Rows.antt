-- The tables of steps against the reader: computed at every nibble, for one state of those that share a place, and at every byte.
-- Assumes nothing.
use Prim.Native.Nat.{ℕ, zero, suc, ◌+◌, ◌*◌, ◌/◌, ◌%◌, ◌^◌, ◌≤◌, ◌<◌}
use native.Mathlib.Omega.{arith}
use native.Mathlib.Nat.{zero-div}
use mathlib.Core.Path.{◌≡◌, refl, sym, ap, ◌∙◌}
use mathlib.Core.Bool.{Bool, true, false, not, and-false}
use mathlib.Core.List.{List, [], ◌∷◌}
use lib.ListN.{length, get_or}
use lib.Dec.{ltb, eqb}
use borrow.Author.Tests.{lt-ltb, le-ltb, eq-eqb, ne_eqb, eqb-true, eqb-false, ltb-true, ltb-false, not-true}
use Rattle.format.specs.ShipText.{TextState, Between, Run, Pair, Escape, Half, Invalid}
use Rattle.format.specs.ShipText.{TextStep, On}
use Rattle.format.specs.ShipText.{pair_byte, text_step, state_after, end_from, at_end, text_valid}
use Rattle.laws.proofs.Sequences.{cond_case, test_case}
use Rattle.laws.proofs.Characters.{all_below, at_below, no_column, no_row}
use Rattle.text.specs.Rows.{pair_places, place, state_rows, next_state, place_after, byte_next, six, row_from, byte_row, Placed, held, Holds}

-- the place behind a nibble
abbrev stepped : TextState → ℕ → ℕ
stepped st n = place (state_after (text_step st n))

-- ---- computed

-- a state steps as its place does
abbrev agrees : TextState → Bool
agrees st = all_below 16 (λ n. eqb (stepped st n) (next_state (place st) n))

all_between : all_below 18 (λ s. agrees (Between s)) ≡ true
unfolding all_below place state_after text_step next_state
all_between = refl

full_between : all_below 16 (λ n. eqb (next_state 4 n) (next_state 8 n)) ≡ true
unfolding all_below next_state
full_between = refl

all_runs : agrees (Run 0) ≡ true
unfolding all_below place state_after text_step next_state
all_runs = refl

all_pairs : all_below 16 (λ z. agrees (Pair 0 z)) ≡ true
unfolding all_below place state_after text_step pair_byte next_state
all_pairs = refl

all_escapes : agrees (Escape 0) ≡ true
unfolding all_below place state_after text_step next_state
all_escapes = refl

all_halves : agrees (Half 0 0) ≡ true
unfolding all_below place state_after text_step next_state
all_halves = refl

all_invalid : agrees Invalid ≡ true
unfolding all_below place state_after text_step next_state
all_invalid = refl

-- ---- nibbles

beyond : (xs : List ℕ) (n : ℕ) → length xs ≤ n → get_or xs n 0 ≡ 0
beyond [] n h = refl
beyond (x ∷ xs) zero h = absurd (omega arith)
beyond (x ∷ xs) (suc n) h = beyond xs n (omega arith)

module _ (n : ℕ) (h : n < 16) where
  computed : (st : TextState) → agrees st ≡ true → stepped st n ≡ next_state (place st) n
  computed st e = eqb-true _ _ (at_below 16 (λ n. eqb (stepped st n) (next_state (place st) n)) n e h)

  still : 0 ≡ next_state 0 n
  unfolding place state_after text_step
  still = computed Invalid all_invalid

  -- the number of waiting spaces, but for whether it is 0, counts modulo 18
  same_spaces : (s t : ℕ) → s % 18 ≡ t % 18 → (s ≡ 0 → ⊥) → (t ≡ 0 → ⊥) → place (Between s) ≡ place (Between t)
  unfolding place
  same_spaces s t e i j = rw (ne_eqb s 0 i, ne_eqb t 0 j, e)

  same_between : (s t : ℕ) → s % 18 ≡ t % 18 → stepped (Between s) n ≡ stepped (Between t) n
  unfolding place state_after text_step
  same_between s t e =
      test_case (ltb n 10) (λ a. rw a)
      (λ a. test_case (eqb n 10)
      (λ b. test_case (ltb (t % 18) 2) (λ c. rw (a, b, e, c) (same_spaces (s + 1) (t + 1) (omega arith) (λ z. omega arith) (λ z. omega arith))) (λ c. rw (a, b, e, c)))
      (λ b. test_case (eqb n 11) (λ c. rw (a, b, c, e))
      (λ c. test_case (ltb n 15) (λ d. rw (a, b, c, d)) (λ d. test_case (eqb n 15) (λ f. rw (a, b, c, d, f)) (λ f. rw (a, b, c, d, f))))))

  -- the row of n has the same for full eighteens as for no space
  full : (s : ℕ) → eqb s 0 ≡ false → eqb (s % 18) 0 ≡ true → next_state 4 n ≡ next_state (place (Between s)) n
  unfolding place
  full s e f = rw (e, f) (eqb-true _ _ (at_below 16 (λ n. eqb (next_state 4 n) (next_state 8 n)) n full_between h))

  between_step : (s : ℕ) → stepped (Between s) n ≡ next_state (place (Between s)) n
  between_step s =
      same_between s (s % 18) (omega arith)
      ∙ computed (Between (s % 18)) (at_below 18 (λ s. agrees (Between s)) (s % 18) all_between (omega arith))
      ∙ test_case (eqb s 0) (λ e. let z : s ≡ 0 = eqb-true s 0 e in rw z)
      (λ e. test_case (eqb (s % 18) 0) (λ f. rw (eqb-true (s % 18) 0 f) (unfold place in full s e f))
      (λ f. ap (λ (p : ℕ). next_state p n) (same_spaces (s % 18) s (omega arith) (eqb-false (s % 18) 0 f) (eqb-false s 0 e))))

  run_step : (s : ℕ) → stepped (Run s) n ≡ next_state (place (Run s)) n
  unfolding place state_after text_step
  run_step s =
      test_case (eqb (s % 18) 0)
      (λ e.
      let z : s % 18 ≡ 0 = eqb-true (s % 18) 0 e in
      rw (e, lt-ltb n 16 h)
      (same_spaces (s + (n + 3)) (0 + (n + 3)) (omega arith) (λ q. omega arith) (λ q. omega arith)
      ∙ rw (lt-ltb n 16 h) at (computed (Run 0) all_runs)))
      (λ e. rw e still)

  pair_step : (s z : ℕ) → stepped (Pair s z) n ≡ next_state (place (Pair s z)) n
  unfolding place state_after text_step
  pair_step s z =
      test_case (ltb z 16)
      (λ e.
      let c = computed (Pair 0 z) (at_below 16 (λ z. agrees (Pair 0 z)) z all_pairs (ltb-true z 16 e)) in
      test_case (eqb (pair_byte z n) 0) (λ f. rw f (rw f at c)) (λ f. rw f (rw f at c)))
      (λ e. rw (no_column z n (ltb-false z 16 e)) (still ∙ ap (λ (p : ℕ). next_state p n) (sym (beyond pair_places z (ltb-false z 16 e)))))

  escape_step : (s : ℕ) → stepped (Escape s) n ≡ next_state (place (Escape s)) n
  unfolding place state_after text_step
  escape_step s = rw (lt-ltb n 16 h) (rw (lt-ltb n 16 h) at (computed (Escape 0) all_escapes))

  half_step : (s z : ℕ) → stepped (Half s z) n ≡ next_state (place (Half s z)) n
  unfolding place state_after text_step
  half_step s z =
      test_case (ltb z 16) (λ e. rw (e, lt-ltb n 16 h) (rw (lt-ltb n 16 h) at (computed (Half 0 0) all_halves))) (λ e. rw e still)

  step_below : (st : TextState) → stepped st n ≡ next_state (place st) n
  step_below (Between s) = between_step s
  step_below (Run s) = run_step s
  step_below (Pair s z) = pair_step s z
  step_below (Escape s) = escape_step s
  step_below (Half s z) = half_step s z
  step_below Invalid = computed Invalid all_invalid

-- ---- a number over 15: invalid in any state

module _ (n : ℕ) (h : 16 ≤ n) where
  next-over : (p : ℕ) → next_state p n ≡ 0
  unfolding next_state
  next-over p = rw (beyond state_rows n h, zero-div (2 ^ p))

  step-over : (st : TextState) → On Invalid ≡ text_step st n
  unfolding text_step
  step-over (Between s) =
      rw (le-ltb n 10 (omega arith), ne_eqb n 10 (λ e. omega arith), ne_eqb n 11 (λ e. omega arith), le-ltb n 15 (omega arith), ne_eqb n 15 (λ e. omega arith))
  step-over (Run s) = rw (le-ltb n 16 h, and-false (eqb (s % 18) 0))
  step-over (Pair s z) = rw (no_row z n h)
  step-over (Escape s) = rw (le-ltb n 16 h)
  step-over (Half s z) = rw (le-ltb n 16 h, and-false (ltb z 16))
  step-over Invalid = refl

  place-over : (st : TextState) → stepped st n ≡ next_state (place st) n
  unfolding place state_after
  place-over st = ap (λ (t : TextStep). place (state_after t)) (sym (step-over st)) ∙ sym (next-over (place st))

-- ---- the law

place-step : (st : TextState) (n : ℕ) → place (state_after (text_step st n)) ≡ next_state (place st) n
place-step st n = test_case (ltb n 16) (λ e. step_below n (ltb-true n 16 e) st) (λ e. place-over n (ltb-false n 16 e) st)

place_steps : (ns : List ℕ) (st : TextState) → place (end_from st ns) ≡ place_after (place st) ns
unfolding end_from place_after
place_steps [] st = refl
place_steps (n ∷ ns) st = place_steps ns (state_after (text_step st n)) ∙ ap (λ (p : ℕ). place_after p ns) (place-step st n)

-- a test of the entries of a list, and of 0 beyond them
entry : (test : ℕ → Bool) (xs : List ℕ) → all_below (length xs) (λ i. test (get_or xs i 0)) ≡ true → test 0 ≡ true → (n : ℕ) → test (get_or xs n 0) ≡ true
entry test xs e z n =
    test_case (ltb n (length xs)) (λ h. at_below (length xs) (λ i. test (get_or xs i 0)) n e (ltb-true n (length xs) h))
    (λ h. ap test (beyond xs n (ltb-false n (length xs) h)) ∙ z)

abbrev waiting : ℕ → Type 0
waiting p = eqb p 4 ≡ false

-- a body may end at the place of no waiting space
place_end : (st : TextState) → eqb (place st) 4 ≡ at_end st
unfolding place at_end all_below
place_end (Between s) =
    test_case (eqb s 0) (λ e. rw e)
    (λ e. rw e (cond_case waiting (eqb (s % 18) 0) _ _ (λ _. refl) (λ _. cond_case waiting (eqb (s % 18) 1) _ _ (λ _. refl) (λ _. refl))))
place_end (Run s) = cond_case waiting (eqb (s % 18) 0) _ _ (λ _. refl) (λ _. refl)
place_end (Pair s z) = not-true _ (entry (λ p. not (eqb p 4)) pair_places refl refl z)
place_end (Escape s) = refl
place_end (Half s h) = cond_case waiting (ltb h 16) _ _ (λ _. refl) (λ _. refl)
place_end Invalid = refl

pub valid_place : (ns : List ℕ) → eqb (place_after 4 ns) 4 ≡ text_valid ns
unfolding text_valid place
valid_place ns = ap (λ (p : ℕ). eqb p 4) (sym (place_steps ns (Between 0))) ∙ place_end (end_from (Between 0) ns)

-- ---- bytes

abbrev placed_test : ℕ → Bool
placed_test n = all_below 11 (λ k. ltb (next_state (4 * k) n) 44)

all_placed : all_below 16 placed_test ≡ true
unfolding all_below next_state
all_placed = refl

next_low : (p n : ℕ) → Placed p → next_state p n < 44
next_low p n s =
    let e : 4 * (p / 4) ≡ p = omega (arith, s.whole) in
    test_case (ltb n 16)
    (λ h.
    let q = at_below 11 (λ k. ltb (next_state (4 * k) n) 44) (p / 4) (at_below 16 placed_test n all_placed (ltb-true n 16 h)) (omega (arith, s.low)) in
    rw e at (ltb-true (next_state (4 * (p / 4)) n) 44 q))
    (λ h. omega (arith, next-over n (ltb-false n 16 h) p))

pub next-placed : (p n : ℕ) → Placed p → Placed (next_state p n)
unfolding next_state
next-placed p n s = record { low = unfold next_state in next_low p n s; whole = omega arith }

-- a byte steps as its row does
abbrev row_test : ℕ → Bool
row_test b = let r = byte_row b in all_below 11 (λ k. eqb (r / 2 ^ (6 * k) % 64) (six (byte_next (4 * k) b)))

all_rows : all_below 256 row_test ≡ true
unfolding all_below byte_row row_from byte_next next_state
all_rows = refl

row_next : (b p : ℕ) → b < 256 → Placed p → byte_row b / 2 ^ six p % 64 ≡ six (byte_next p b)
row_next b p h s =
    let e : 4 * (p / 4) ≡ p = omega (arith, s.whole) in
    let f : 6 * (p / 4) ≡ six p = omega (arith, s.whole) in
    let q = at_below 11 (λ k. eqb (byte_row b / 2 ^ (6 * k) % 64) (six (byte_next (4 * k) b))) (p / 4) (at_below 256 row_test b all_rows h) (omega (arith, s.low)) in
    rw (f, e) at (eqb-true (byte_row b / 2 ^ (6 * (p / 4)) % 64) (six (byte_next (4 * (p / 4)) b)) q)

held-placed : (w : ℕ) → Holds w → Placed (held w)
held-placed w h = record { low = omega (arith, h.low); whole = omega arith }

digit : (k w : ℕ) → w % 64 ≡ 6 * k → k < 11 → Holds w × (held w ≡ 4 * k)
digit k w e h =
    let r : 6 * k % 6 ≡ 0 = omega arith in
    let q : 6 * k / 6 ≡ k = omega arith in
    (record { low = omega arith; whole = ap (λ (x : ℕ). x % 6) e ∙ r }, ap (λ (x : ℕ). x / 6 * 4) e ∙ ap (λ (x : ℕ). x * 4) q ∙ omega arith)

pub byte_held : (b w r : ℕ) → b < 256 → Holds w → r ≡ byte_row b / 2 ^ (w % 64) → Holds r × (held r ≡ byte_next (held w) b)
unfolding byte_next
byte_held b w r h k e =
    let s = held-placed w k in
    let q = next-placed (next_state (held w) (b / 16)) (b % 16) (next-placed (held w) (b / 16) s) in
    let z : six (held w) ≡ w % 64 = omega (arith, k.whole) in
    let f : r % 64 ≡ six (next_state (next_state (held w) (b / 16)) (b % 16)) = ap (λ (x : ℕ). x % 64) (e ∙ ap (λ (m : ℕ). byte_row b / 2 ^ m) (sym z)) ∙ row_next b (held w) h s in
    let t = next_state (next_state (held w) (b / 16)) (b % 16) in
    let d : 4 * (t / 4) ≡ t = omega (arith, q.whole) in
    let g : six t ≡ 6 * (t / 4) = omega (arith, q.whole) in
    let m = digit (t / 4) r (f ∙ g) (omega (arith, q.low)) in
    (m.0, m.1 ∙ d)

-- a place is held, and looked at
pub place-held : (p : ℕ) → Placed p → Holds (p / 4 * 6) × (held (p / 4 * 6) ≡ p)
place-held p s =
    let d : 4 * (p / 4) ≡ p = omega (arith, s.whole) in
    let k : p / 4 < 11 = omega (arith, s.low) in
    let e : p / 4 * 6 % 64 ≡ 6 * (p / 4) = omega arith in
    let m = digit (p / 4) (p / 4 * 6) e k in
    (m.0, m.1 ∙ d)

pub held_end : (w : ℕ) → Holds w → eqb (w % 64) 6 ≡ eqb (held w) 4
held_end w h =
    test_case (eqb (w % 64) 6) (λ e. let q = eqb-true (w % 64) 6 e in rw e (sym (eq-eqb (held w) 4 (omega arith))))
    (λ e. let q : w % 64 ≡ 6 → ⊥ = eqb-false (w % 64) 6 e in rw e (sym (ne_eqb (held w) 4 (λ z. q (omega (arith, h.whole))))))

-- ---- the last arm of a match

pub beyond_rows : (n : ℕ) → 16 ≤ n → 0 ≡ get_or state_rows n 0
beyond_rows n h = sym (beyond state_rows n h)
