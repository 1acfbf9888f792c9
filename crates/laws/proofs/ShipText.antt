-- The laws of ship text: what was written is read back without its trailing plain spaces, what is read is what was written, so
-- that a body is valid exactly when some row of symbols is written so, and what is read is the shortest such row; and the bounds.
-- Assumes nothing.
use Prim.Native.Nat.{ℕ, zero, suc, ◌+◌, ◌*◌, ◌/◌, ◌%◌, ◌≤◌, ◌<◌}
use native.Mathlib.Omega.{arith}
use native.Mathlib.Numerals.{add-one}
use mathlib.Core.Path.{◌≡◌, refl, sym, ap, ap₂, ◌∙◌}
use mathlib.Core.Bool.{true, false, cond, ◌&&◌}
use mathlib.Core.List.{List, [], ◌∷◌, ◌++◌, append_assoc, append-nil}
use lib.ListN.{length, take, length-append, length-replicate}
use lib.Seq.{take-append_seam}
use lib.Dec.{ltb, leb, eqb}
use borrow.Author.Tests.{ltb-true, eqb-true, eqb-false, lt-ltb, le-ltb, le-leb, eq-eqb, ne_eqb}
use Rattle.format.specs.ShipText.{TextState, Between, Run, Pair, Escape, Half, Invalid}
use Rattle.format.specs.ShipText.{TextStep, On, Plain, Original}
use Rattle.format.specs.ShipText.{char_code, short, pair_byte, code_nibbles, Symbol, plain, original, admitted, all_admitted, is_space, symbol_nibbles, fulls, rest, nibble_count, ends_in_space}
use Rattle.format.specs.ShipText.{space_run, write_from, write_text, spaces, text_step, state_after, symbols_of, read_from, end_from, at_end, text_valid, read_text}
use Rattle.format.specs.Calls.{all_nibbles}
use Rattle.laws.proofs.Sequences.{and_true, true_false, cond_case, test_case}
use Rattle.laws.proofs.Characters.{Coded, a_digit, a_pair, coded, code_bound, digit-code, paired}

-- ---- symbols that a text may hold

-- a symbol behind s spaces
abbrev word : ℕ → Symbol → List Symbol
word s x = spaces s ++ (x ∷ [])

admitted_parts : (x : Symbol) (t : List Symbol) → all_admitted (x ∷ t) ≡ true → (admitted x ≡ true) × (all_admitted t ≡ true)
unfolding all_admitted
admitted_parts x t e = and_true (admitted x) (all_admitted t) e

admitted-word : (s : ℕ) (x : Symbol) (t : List Symbol) → admitted x ≡ true → all_admitted t ≡ true → all_admitted (word s x ++ t) ≡ true
unfolding all_admitted spaces admitted short char_code
admitted-word zero x t e f = rw e f
admitted-word (suc s) x t e f = admitted-word s x t e f

pub admitted_plain : (b : ℕ) → admitted (plain b) ≡ true → (b < 256) × (short b ≡ true)
unfolding admitted
admitted_plain b e = let t = and_true (ltb b 256) (short b) e in (ltb-true b 256 t.0, t.1)

admitted_original : (b : ℕ) → admitted (original b) ≡ true → b < 256
unfolding admitted
admitted_original b e = ltb-true b 256 e

-- ---- the writer, one symbol at a time

write_space : (s : ℕ) (x : Symbol) (t : List Symbol) → is_space x ≡ true → write_from s (x ∷ t) ≡ write_from (suc s) t
unfolding write_from
write_space s x t e = rw (e, write_from)

write_symbol : (s : ℕ) (x : Symbol) (t : List Symbol) → is_space x ≡ false → write_from s (x ∷ t) ≡ space_run s ++ (symbol_nibbles x ++ write_from 0 t)
unfolding write_from
write_symbol s x t e = rw (e, write_from)

-- a property of what is written, from both cases
write_case : (P : List ℕ → Type 0) (s : ℕ) (x : Symbol) (t : List Symbol) → (is_space x ≡ true → P (write_from (suc s) t))
    → (is_space x ≡ false → P (space_run s ++ (symbol_nibbles x ++ write_from 0 t))) → P (write_from s (x ∷ t))
write_case P s x t f g = test_case (is_space x) (λ e. rw (write_space s x t e) (f e)) (λ e. rw (write_symbol s x t e) (g e))

write_word : (k s : ℕ) (x : Symbol) (t : List Symbol) → is_space x ≡ false → write_from s (word k x ++ t) ≡ (space_run (k + s) ++ symbol_nibbles x) ++ write_text t
unfolding spaces write_text
write_word zero s x t e =
    let z : 0 + s ≡ s = omega arith in
    rw z (write_symbol s x t e ∙ sym (append_assoc (space_run s) (symbol_nibbles x) (write_text t)))
write_word (suc k) s x t e =
    let z : suc k + s ≡ k + suc s = omega arith in
    rw z (write_space s (plain 32) (word k x ++ t) (unfold is_space in refl) ∙ write_word k (suc s) x t e)

-- ---- the reader, one nibble at a time

pub read_append : (xs ys : List ℕ) (st : TextState) → read_from st (xs ++ ys) ≡ read_from st xs ++ read_from (end_from st xs) ys
unfolding read_from end_from
read_append [] ys st = refl
read_append (n ∷ xs) ys st = rw (read_append xs ys (state_after (text_step st n)), append_assoc)

pub end_append : (xs ys : List ℕ) (st : TextState) → end_from st (xs ++ ys) ≡ end_from (end_from st xs) ys
unfolding end_from
end_append [] ys st = refl
end_append (n ∷ xs) ys st = end_append xs ys (state_after (text_step st n))

invalid_ends : (ns : List ℕ) → end_from Invalid ns ≡ Invalid
unfolding end_from text_step state_after
invalid_ends [] = refl
invalid_ends (n ∷ ns) = invalid_ends ns

pub invalid_refused : (ns : List ℕ) → at_end (end_from Invalid ns) ≡ false
unfolding at_end
invalid_refused ns = rw (invalid_ends ns)

-- from st the nibbles ns bring these symbols and leave the reader there
record Reads (st : TextState) (ns : List ℕ) (xs : List Symbol) (to : TextState) : Type 0 where
  text : read_from st ns ≡ xs
  end : end_from st ns ≡ to

reads_none : (st : TextState) → Reads st [] [] st
unfolding read_from end_from
reads_none st = record { text = refl; end = refl }

reads_one : {st : TextState} {n : ℕ} {step : TextStep} → text_step st n ≡ step → Reads st (n ∷ []) (symbols_of step) (state_after step)
unfolding read_from end_from
reads_one e = record { text = append-nil _ ∙ ap symbols_of e; end = ap state_after e }

reads_on : {st to : TextState} {n : ℕ} → text_step st n ≡ On to → Reads st (n ∷ []) [] to
unfolding symbols_of state_after
reads_on {to = to} e = reads_one {step = On to} e

reads_append : {st mid to : TextState} {ns ms : List ℕ} {xs ys : List Symbol} → Reads st ns xs mid → Reads mid ms ys to → Reads st (ns ++ ms) (xs ++ ys) to
reads_append {st} {ns = ns} {ms = ms} p q = record {
  text = read_append ns ms st ∙ ap₂ ◌++◌ p.text (ap (λ (u : TextState). read_from u ms) p.end ∙ q.text);
  end = end_append ns ms st ∙ ap (λ (u : TextState). end_from u ms) p.end ∙ q.end;
}

-- ---- runs of spaces

pub fulls_more : (k : ℕ) → fulls (suc k) ≡ fulls k ++ (11 ∷ 15 ∷ [])
unfolding fulls
fulls_more zero = refl
fulls_more (suc k) = ap (λ (l : List ℕ). 11 ∷ 15 ∷ l) (fulls_more k)

rest-one : (r : ℕ) → r < 2 → rest (suc r) ≡ rest r ++ (10 ∷ [])
unfolding rest
rest-one zero h = refl
rest-one (suc zero) h = refl
rest-one (suc (suc r)) h = absurd (omega arith)

-- a run grows by 10 while its rest is below 2
run-one : (s : ℕ) → s % 18 < 2 → space_run (s + 1) ≡ space_run s ++ (10 ∷ [])
unfolding space_run
run-one s h =
    let d : (s + 1) / 18 ≡ s / 18 = omega arith in
    let m : (s + 1) % 18 ≡ suc (s % 18) = omega arith in
    rw (d, m, rest-one (s % 18) h, append_assoc)

-- and by 11 and n behind full eighteens
run_more : (s n : ℕ) → s % 18 ≡ 0 → n < 16 → space_run (s + (n + 3)) ≡ space_run s ++ (11 ∷ n ∷ [])
unfolding space_run rest
run_more s n e h =
    test_case (eqb n 15)
    (λ q.
    let i : n ≡ 15 = eqb-true n 15 q in
    let d : (s + (15 + 3)) / 18 ≡ suc (s / 18) = omega arith in
    let m : (s + (15 + 3)) % 18 ≡ 0 = omega arith in
    simp (i, d, m, e, append-nil) (fulls_more (s / 18)))
    (λ q.
    let i : n ≡ 15 → ⊥ = eqb-false n 15 q in
    let d : (s + (n + 3)) / 18 ≡ s / 18 = omega arith in
    let m : (s + (n + 3)) % 18 ≡ suc (suc (suc n)) = omega arith in
    simp (d, m, e, append-nil))

reads_more : (a n : ℕ) → a % 18 ≡ 0 → n < 16 → Reads (Between a) (11 ∷ n ∷ []) [] (Between (a + (n + 3)))
unfolding text_step
reads_more a n e h = reads_append {mid = Run a} (reads_on refl) (reads_on (rw (eq-eqb (a % 18) 0 e, lt-ltb n 16 h)))

reads_space : (a : ℕ) → a % 18 < 2 → Reads (Between a) (10 ∷ []) [] (Between (a + 1))
unfolding text_step
reads_space a h = reads_on (rw (lt-ltb (a % 18) 2 h))

reads_fulls : (k a : ℕ) → a % 18 ≡ 0 → Reads (Between a) (fulls k) [] (Between (a + 18 * k))
unfolding fulls
reads_fulls zero a h = let e : a + 18 * 0 ≡ a = omega arith in rw e (reads_none (Between a))
reads_fulls (suc k) a h =
    let e : a + 18 * suc k ≡ a + (15 + 3) + 18 * k = omega arith in
    rw e (reads_append (reads_more a 15 h (omega arith)) (reads_fulls k (a + (15 + 3)) (omega arith)))

reads_rest : (r a : ℕ) → a % 18 ≡ 0 → r < 18 → Reads (Between a) (rest r) [] (Between (a + r))
unfolding rest
reads_rest zero a h l = let e : a + 0 ≡ a = omega arith in rw e (reads_none (Between a))
reads_rest (suc zero) a h l = reads_space a (omega arith)
reads_rest (suc (suc zero)) a h l =
    let e : a + 2 ≡ a + 1 + 1 = omega arith in
    rw e (reads_append (reads_space a (omega arith)) (reads_space (a + 1) (omega arith)))
reads_rest (suc (suc (suc r))) a h l =
    let e : a + suc (suc (suc r)) ≡ a + (r + 3) = omega arith in
    rw e (reads_more a r h (omega arith))

reads_run : (s : ℕ) → Reads (Between 0) (space_run s) [] (Between s)
unfolding space_run
reads_run s =
    let e : 0 + 18 * (s / 18) + s % 18 ≡ s = omega arith in
    rw e at (reads_append (reads_fulls (s / 18) 0 refl) (reads_rest (s % 18) (0 + 18 * (s / 18)) (omega arith) (omega arith)))

-- ---- a symbol's nibbles

plain_one : (b v : ℕ) → char_code b ≡ v → v < 16 → symbol_nibbles (plain b) ≡ v ∷ []
unfolding symbol_nibbles code_nibbles
plain_one b v e h = rw (e, lt-ltb v 16 h)

plain_two : (b z n : ℕ) → char_code b ≡ z * 16 + n → 1 ≤ z → z < 16 → n < 16 → symbol_nibbles (plain b) ≡ z ∷ n ∷ []
unfolding symbol_nibbles code_nibbles
plain_two b z n e g h k =
    let d : (z * 16 + n) / 16 ≡ z = omega arith in
    let m : (z * 16 + n) % 16 ≡ n = omega arith in
    rw (e, le-ltb (z * 16 + n) 16 (omega arith), lt-ltb (z * 16 + n) 256 (omega arith), d, m)

original_three : (h n : ℕ) → n < 16 → symbol_nibbles (original (h * 16 + n)) ≡ 15 ∷ h ∷ n ∷ []
unfolding symbol_nibbles
original_three h n k =
    let d : (h * 16 + n) / 16 ≡ h = omega arith in
    let m : (h * 16 + n) % 16 ≡ n = omega arith in
    rw (d, m)

reads_coded : (s b : ℕ) → Coded b → Reads (Between s) (symbol_nibbles (plain b)) (word s (plain b)) (Between 0)
unfolding text_step symbols_of state_after
reads_coded s b (a_digit h e) =
    rw (plain_one b (char_code b) refl (omega arith)) (reads_one {step = Plain s b} (rw (lt-ltb (char_code b) 10 h, e)))
reads_coded s b (a_pair h k e z) =
    let v = char_code b in
    let i : v ≡ v / 16 * 16 + v % 16 = omega arith in
    rw (plain_two b (v / 16) (v % 16) i (omega arith) (omega arith) (omega arith))
    (reads_append {mid = Pair s (v / 16)}
    (reads_on (rw (le-ltb (v / 16) 10 (omega arith), ne_eqb (v / 16) 10 (λ q. omega arith), ne_eqb (v / 16) 11 (λ q. omega arith), lt-ltb (v / 16) 15 (omega arith))))
    (reads_one {step = Plain s b} (rw (e, ne_eqb b 0 z))))

reads_escaped : (s h n : ℕ) → h < 16 → n < 16 → Reads (Between s) (symbol_nibbles (original (h * 16 + n))) (word s (original (h * 16 + n))) (Between 0)
unfolding text_step symbols_of state_after
reads_escaped s h n k l =
    rw (original_three h n l)
    (reads_append {mid = Escape s} (reads_on refl)
    (reads_append {mid = Half s h} (reads_on (rw (lt-ltb h 16 k))) (reads_one {step = Original s (h * 16 + n)} (rw (lt-ltb h 16 k, lt-ltb n 16 l)))))

reads_symbol : (s : ℕ) (x : Symbol) → admitted x ≡ true → is_space x ≡ false → Reads (Between s) (symbol_nibbles x) (word s x) (Between 0)
unfolding is_space
reads_symbol s (plain b) o i = let p = admitted_plain b o in reads_coded s b (coded b p.0 p.1 i)
reads_symbol s (original b) o i =
    let small : b < 256 = admitted_original b o in
    let e : b / 16 * 16 + b % 16 ≡ b = omega arith in
    rw e at (reads_escaped s (b / 16) (b % 16) (omega arith) (omega arith))

-- ---- what was written is read back

space_is : (x : Symbol) → is_space x ≡ true → x ≡ plain 32
unfolding is_space
space_is (plain b) e = ap plain (eqb-true b 32 e)
space_is (original b) e = absurd (true_false false e refl)

spaces_more : (s : ℕ) (t : List Symbol) → spaces s ++ (plain 32 ∷ t) ≡ spaces (suc s) ++ t
unfolding spaces
spaces_more zero t = refl
spaces_more (suc s) t = ap (λ (l : List Symbol). plain 32 ∷ l) (spaces_more s t)

-- the nibbles ns bring the symbols t behind s spaces, but for spaces at the end
record Written (s : ℕ) (t : List Symbol) (ns : List ℕ) : Type 0 where
  text : List Symbol
  dropped : ℕ
  reads : Reads (Between 0) ns text (Between 0)
  whole : spaces s ++ t ≡ text ++ spaces dropped

written : (t : List Symbol) (s : ℕ) → all_admitted t ≡ true → Written s t (write_from s t)
unfolding write_from spaces
written [] s f = record { text = []; dropped = s; reads = reads_none (Between 0); whole = append-nil (spaces s) }
written (x ∷ t) s f =
    let p = admitted_parts x t f in
    write_case (Written s (x ∷ t)) s x t
    (λ e. let w = written t (suc s) p.1 in
    record {
      text = w.text;
      dropped = w.dropped;
      reads = w.reads;
      whole = ap (λ (y : Symbol). spaces s ++ (y ∷ t)) (space_is x e) ∙ spaces_more s t ∙ w.whole;
    })
    (λ e. let w = written t 0 p.1 in
    record {
      text = word s x ++ w.text;
      dropped = w.dropped;
      reads = reads_append (reads_run s) (reads_append (reads_symbol s x p.0 e) w.reads);
      whole = sym (append_assoc (spaces s) (x ∷ []) t) ∙ ap (λ (l : List Symbol). word s x ++ l) w.whole ∙ sym (append_assoc (word s x) w.text (spaces w.dropped));
    })

-- ---- spaces at the end of a text

write_spaces : (k s : ℕ) → write_from s (spaces k) ≡ []
unfolding write_from spaces is_space
write_spaces zero s = refl
write_spaces (suc k) s = write_spaces k (suc s)

write_trailing : (t : List Symbol) (k s : ℕ) → write_from s (t ++ spaces k) ≡ write_from s t
unfolding write_from
write_trailing [] k s = write_spaces k s
write_trailing (x ∷ t) k s =
    write_case (λ (l : List ℕ). write_from s (x ∷ (t ++ spaces k)) ≡ l) s x t
    (λ e. write_space s x (t ++ spaces k) e ∙ write_trailing t k (suc s))
    (λ e. write_symbol s x (t ++ spaces k) e ∙ ap (λ (l : List ℕ). space_run s ++ (symbol_nibbles x ++ l)) (write_trailing t k 0))

-- ---- what is read is what was written

-- the nibbles behind the last symbol that brought the reader there
consumed : TextState → List ℕ
consumed (Between s) = space_run s
consumed (Run s) = space_run s ++ (11 ∷ [])
consumed (Pair s z) = space_run s ++ (z ∷ [])
consumed (Escape s) = space_run s ++ (15 ∷ [])
consumed (Half s h) = space_run s ++ (15 ∷ h ∷ [])
consumed Invalid = []

-- a nibble is refused, or one more of those, or the last of a word
data Brings (st : TextState) (n : ℕ) : TextStep → Type 0 where
  nothing : Brings st n (On Invalid)
  a_state : {to : TextState} → consumed to ≡ consumed st ++ (n ∷ []) → Brings st n (On to)
  a_word : {step : TextStep} (s : ℕ) (x : Symbol) → symbols_of step ≡ word s x → state_after step ≡ Between 0
      → admitted x ≡ true → is_space x ≡ false → space_run s ++ symbol_nibbles x ≡ consumed st ++ (n ∷ []) → Brings st n step

brings_plain : {st : TextState} {n : ℕ} (s b : ℕ) → admitted (plain b) ≡ true → eqb b 32 ≡ false → space_run s ++ symbol_nibbles (plain b) ≡ consumed st ++ (n ∷ []) → Brings st n (Plain s b)
unfolding symbols_of state_after is_space
brings_plain s b o i e = a_word s (plain b) refl refl o i e

short_ok : (b v : ℕ) → char_code b ≡ v → v < 256 → b < 256 → admitted (plain b) ≡ true
unfolding admitted short
short_ok b v e h k = rw (lt-ltb b 256 k, e, lt-ltb v 256 h)

after-between : (s n : ℕ) → Brings (Between s) n (text_step (Between s) n)
unfolding text_step consumed
after-between s n =
    cond_case (Brings (Between s) n) (ltb n 10) _ _
    (λ e. let h : n < 10 = ltb-true n 10 e in
    brings_plain s (48 + n) (short_ok (48 + n) n (digit-code n h) (omega arith) (omega arith)) (ne_eqb (48 + n) 32 (λ q. omega arith))
    (ap (λ (l : List ℕ). space_run s ++ l) (plain_one (48 + n) n (digit-code n h) (omega arith))))
    (λ _. cond_case (Brings (Between s) n) (eqb n 10) _ _
    (λ e. cond_case (Brings (Between s) n) (ltb (s % 18) 2) _ _
    (λ f. a_state (run-one s (ltb-true (s % 18) 2 f) ∙ ap (λ (m : ℕ). space_run s ++ (m ∷ [])) (sym (eqb-true n 10 e))))
    (λ _. nothing))
    (λ _. cond_case (Brings (Between s) n) (eqb n 11) _ _
    (λ e. a_state (ap (λ (m : ℕ). space_run s ++ (m ∷ [])) (sym (eqb-true n 11 e))))
    (λ _. cond_case (Brings (Between s) n) (ltb n 15) _ _
    (λ _. a_state refl)
    (λ _. cond_case (Brings (Between s) n) (eqb n 15) _ _
    (λ e. a_state (ap (λ (m : ℕ). space_run s ++ (m ∷ [])) (sym (eqb-true n 15 e))))
    (λ _. nothing)))))

after_run : (s n : ℕ) → Brings (Run s) n (text_step (Run s) n)
unfolding text_step consumed
after_run s n =
    cond_case (Brings (Run s) n) (eqb (s % 18) 0 && ltb n 16) _ _
    (λ e. let t = and_true (eqb (s % 18) 0) (ltb n 16) e in
    a_state (run_more s n (eqb-true (s % 18) 0 t.0) (ltb-true n 16 t.1) ∙ sym (append_assoc (space_run s) (11 ∷ []) (n ∷ []))))
    (λ _. nothing)

after-pair : (s z n : ℕ) → Brings (Pair s z) n (text_step (Pair s z) n)
unfolding text_step consumed
after-pair s z n =
    cond_case (Brings (Pair s z) n) (eqb (pair_byte z n) 0) _ _ (λ _. nothing)
    (λ e. let p = paired z n e in
    brings_plain s (pair_byte z n) (short_ok (pair_byte z n) (z * 16 + n) p.code (omega arith) p.byte) p.ink
    (ap (λ (l : List ℕ). space_run s ++ l) (plain_two (pair_byte z n) z n p.code (omega arith) (omega arith) p.nibble) ∙ sym (append_assoc (space_run s) (z ∷ []) (n ∷ []))))

after_half : (s h n : ℕ) → Brings (Half s h) n (text_step (Half s h) n)
unfolding text_step consumed symbols_of state_after is_space admitted
after_half s h n =
    cond_case (Brings (Half s h) n) (ltb h 16 && ltb n 16) _ _
    (λ e. let t = and_true (ltb h 16) (ltb n 16) e in
    let high = ltb-true h 16 t.0 in
    let low = ltb-true n 16 t.1 in
    a_word s (original (h * 16 + n)) refl refl (lt-ltb (h * 16 + n) 256 (omega arith)) refl
    (ap (λ (l : List ℕ). space_run s ++ l) (original_three h n low) ∙ sym (append_assoc (space_run s) (15 ∷ h ∷ []) (n ∷ []))))
    (λ _. nothing)

brings : (st : TextState) (n : ℕ) → Brings st n (text_step st n)
unfolding text_step consumed
brings (Between s) n = after-between s n
brings (Run s) n = after_run s n
brings (Pair s z) n = after-pair s z n
brings (Escape s) n = cond_case (Brings (Escape s) n) (ltb n 16) _ _ (λ _. a_state (sym (append_assoc (space_run s) (15 ∷ []) (n ∷ [])))) (λ _. nothing)
brings (Half s h) n = after_half s h n
brings Invalid n = nothing

none_consumed : consumed (Between 0) ≡ []
unfolding consumed space_run fulls rest
none_consumed = refl

-- at the end they are none
ended : (st : TextState) → at_end st ≡ true → consumed st ≡ []
unfolding at_end consumed
ended (Between s) e = ap (λ (m : ℕ). consumed (Between m)) (eqb-true s 0 e) ∙ none_consumed
ended (Run s) e = absurd (true_false false e refl)
ended (Pair s z) e = absurd (true_false false e refl)
ended (Escape s) e = absurd (true_false false e refl)
ended (Half s h) e = absurd (true_false false e refl)
ended Invalid e = absurd (true_false false e refl)

-- the nibbles of what was read
record Back (st : TextState) (ns : List ℕ) (t : List Symbol) : Type 0 where
  same : write_text t ≡ consumed st ++ ns
  good : all_admitted t ≡ true

back_by : (st : TextState) (n : ℕ) (ns : List ℕ) (step : TextStep) → Brings st n step
    → ((to : TextState) → at_end (end_from to ns) ≡ true → Back to ns (read_from to ns))
    → at_end (end_from (state_after step) ns) ≡ true → Back st (n ∷ ns) (symbols_of step ++ read_from (state_after step) ns)
unfolding symbols_of state_after write_text
back_by st n ns (On Invalid) nothing ih e = absurd (true_false _ e (invalid_refused ns))
back_by st n ns (On to) (a_state q) ih e =
    let b = ih to e in
    record { same = b.same ∙ ap (λ (l : List ℕ). l ++ ns) q ∙ append_assoc (consumed st) (n ∷ []) ns; good = b.good }
back_by st n ns step (a_word s x g a o i q) ih e =
    let b = ih (Between 0) (rw a at e) in
    let t = read_from (Between 0) ns in
    let z : s + 0 ≡ s = omega arith in
    let u : write_text t ≡ ns = rw none_consumed at b.same in
    rw (g, a) (record {
      same = write_word s 0 x t i ∙ ap (λ (k : ℕ). (space_run k ++ symbol_nibbles x) ++ write_text t) z ∙ ap₂ ◌++◌ q u ∙ append_assoc (consumed st) (n ∷ []) ns;
      good = admitted-word s x t o b.good;
    })

back : (ns : List ℕ) (st : TextState) → at_end (end_from st ns) ≡ true → Back st ns (read_from st ns)
unfolding read_from end_from all_admitted write_from write_text
back [] st e = record { same = sym (append-nil (consumed st) ∙ ended st e); good = refl }
back (n ∷ ns) st e = back_by st n ns (text_step st n) (brings st n) (back ns) e

-- ---- nibbles

nibbles-append : (xs ys : List ℕ) → all_nibbles xs ≡ true → all_nibbles ys ≡ true → all_nibbles (xs ++ ys) ≡ true
unfolding all_nibbles
nibbles-append [] ys e f = f
nibbles-append (x ∷ xs) ys e f =
    let t = and_true (leb x 15) (all_nibbles xs) e in
    rw t.0 (nibbles-append xs ys t.1 f)

fulls-nibbles : (k : ℕ) → all_nibbles (fulls k) ≡ true
unfolding all_nibbles fulls
fulls-nibbles zero = refl
fulls-nibbles (suc k) = fulls-nibbles k

rest-nibbles : (r : ℕ) → r < 18 → all_nibbles (rest r) ≡ true
unfolding all_nibbles rest
rest-nibbles zero h = refl
rest-nibbles (suc zero) h = refl
rest-nibbles (suc (suc zero)) h = refl
rest-nibbles (suc (suc (suc r))) h = rw (le-leb r 15 (omega arith))

run-nibbles : (s : ℕ) → all_nibbles (space_run s) ≡ true
unfolding space_run
run-nibbles s = nibbles-append (fulls (s / 18)) (rest (s % 18)) (fulls-nibbles (s / 18)) (rest-nibbles (s % 18) (omega arith))

code-nibbles : (v : ℕ) → v < 4096 → all_nibbles (code_nibbles v) ≡ true
unfolding code_nibbles all_nibbles
code-nibbles v h =
    cond_case (λ (l : List ℕ). all_nibbles l ≡ true) (ltb v 16) _ _ (λ e. rw (le-leb v 15 (omega (arith, ltb-true v 16 e))))
    (λ _. cond_case (λ (l : List ℕ). all_nibbles l ≡ true) (ltb v 256) _ _
    (λ e. rw (le-leb (v / 16) 15 (omega (arith, ltb-true v 256 e)), le-leb (v % 16) 15 (omega arith)))
    (λ _. rw (le-leb (v / 256) 15 (omega arith), le-leb (v / 16 % 16) 15 (omega arith), le-leb (v % 16) 15 (omega arith))))

symbol_nibbles_lem : (x : Symbol) → admitted x ≡ true → all_nibbles (symbol_nibbles x) ≡ true
unfolding symbol_nibbles all_nibbles
symbol_nibbles_lem (plain b) e = code-nibbles (char_code b) (code_bound b (admitted_plain b e).0)
symbol_nibbles_lem (original b) e =
    let h : b < 256 = admitted_original b e in
    rw (le-leb (b / 16) 15 (omega arith), le-leb (b % 16) 15 (omega arith))

write_nibbles : (t : List Symbol) (s : ℕ) → all_admitted t ≡ true → all_nibbles (write_from s t) ≡ true
unfolding write_from all_nibbles
write_nibbles [] s f = refl
write_nibbles (x ∷ t) s f =
    let p = admitted_parts x t f in
    write_case (λ (l : List ℕ). all_nibbles l ≡ true) s x t (λ _. write_nibbles t (suc s) p.1)
    (λ _. nibbles-append (space_run s) (symbol_nibbles x ++ write_from 0 t) (run-nibbles s)
    (nibbles-append (symbol_nibbles x) (write_from 0 t) (symbol_nibbles_lem x p.0) (write_nibbles t 0 p.1)))

pub text_all_nibbles : (t : List Symbol) → all_admitted t ≡ true → all_nibbles (write_text t) ≡ true
unfolding write_text
text_all_nibbles t f = write_nibbles t 0 f

-- ---- bounds

pub fulls-length : (k : ℕ) → length (fulls k) ≡ 2 * k
unfolding fulls
fulls-length zero = refl
fulls-length (suc k) = let e = fulls-length k in omega arith

rest-length : (r : ℕ) → length (rest r) ≤ r
unfolding rest
rest-length zero = omega arith
rest-length (suc zero) = omega arith
rest-length (suc (suc zero)) = omega arith
rest-length (suc (suc (suc r))) = omega arith

pub run_length : (s : ℕ) → length (space_run s) ≤ s
unfolding space_run
run_length s = omega (arith, length-append (fulls (s / 18)) (rest (s % 18)), fulls-length (s / 18), rest-length (s % 18))

-- what a symbol takes less than three nibbles, at least
unfoldable pub saved : Symbol → ℕ
saved (plain b) = cond (short b) 1 0
saved (original b) = 0

unfoldable pub all_saved : List Symbol → ℕ
all_saved [] = 0
all_saved (x ∷ xs) = saved x + all_saved xs

saved_one : (x : Symbol) → saved x ≤ 1
unfolding saved
saved_one (plain b) = cond_case (λ (n : ℕ). n ≤ 1) (short b) 1 0 (λ _. omega arith) (λ _. omega arith)
saved_one (original b) = omega arith

symbol_cost : (x : Symbol) → (1 ≤ length (symbol_nibbles x)) × (length (symbol_nibbles x) + saved x ≤ 3)
unfolding symbol_nibbles code_nibbles saved short
symbol_cost (plain b) =
    let v = char_code b in
    test_case (ltb v 16)
    (λ e. let i : ltb v 256 ≡ true = lt-ltb v 256 (omega (arith, ltb-true v 16 e)) in rw (e, i) (omega arith, omega arith))
    (λ e. test_case (ltb v 256) (λ f. rw (e, f) (omega arith, omega arith)) (λ f. rw (e, f) (omega arith, omega arith)))
symbol_cost (original b) = (omega arith, omega arith)

-- behind s spaces a row takes three nibbles a symbol and one a space at most, and less by what its symbols save
write_cost : (t : List Symbol) (s : ℕ) → length (write_from s t) + all_saved t ≤ s + 3 * length t
unfolding write_from all_saved
write_cost [] s = omega arith
write_cost (x ∷ t) s =
    write_case (λ (l : List ℕ). length l + all_saved (x ∷ t) ≤ s + 3 * length (x ∷ t)) s x t
    (λ _. omega (arith, write_cost t (suc s), saved_one x))
    (λ _. omega (arith, write_cost t 0, (symbol_cost x).1, run_length s, length-append (space_run s) (symbol_nibbles x ++ write_from 0 t), length-append (symbol_nibbles x) (write_from 0 t)))

-- and at least one, where its last symbol is no space
write_some : (t : List Symbol) (s : ℕ) → 1 ≤ length t → ends_in_space t ≡ false → 1 ≤ length (write_from s t)
unfolding ends_in_space
write_some [] s h e = absurd (omega arith)
write_some (x ∷ t) s h e =
    write_case (λ (l : List ℕ). 1 ≤ length l) s x t (λ f. later t e f (λ h' e'. write_some t (suc s) h' e'))
    (λ _. omega (arith, (symbol_cost x).0, length-append (space_run s) (symbol_nibbles x ++ write_from 0 t), length-append (symbol_nibbles x) (write_from 0 t)))
  where
    later : (u : List Symbol) → ends_in_space (x ∷ u) ≡ false → is_space x ≡ true → (1 ≤ length u → ends_in_space u ≡ false → 1 ≤ length (write_from (suc s) u))
        → 1 ≤ length (write_from (suc s) u)
    later [] q f more = absurd (true_false (is_space x) f q)
    later (y ∷ ys) q f more = more (omega arith) q

-- the spaces that wait, and 9 for an 11, half of the 18 that it may bring
unfoldable pub credit : TextState → ℕ
credit (Between s) = s
credit (Run s) = s + 9
credit (Pair s z) = s
credit (Escape s) = s
credit (Half s h) = s
credit Invalid = 0

word-length : (s : ℕ) (x : Symbol) → length (word s x) ≡ s + 1
unfolding spaces
word-length s x = length-append (spaces s) (x ∷ []) ∙ ap (λ (k : ℕ). k + 1) (length-replicate s (plain 32))

abbrev Within : ℕ → TextStep → Type 0
Within c step = length (symbols_of step) + credit (state_after step) ≤ c + 9

-- a nibble brings 9 at most, in symbols and in spaces that wait
pub step_credit : (st : TextState) (n : ℕ) → length (symbols_of (text_step st n)) + credit (state_after (text_step st n)) ≤ credit st + 9
unfolding text_step symbols_of state_after credit
step_credit (Between s) n =
    cond_case (Within s) (ltb n 10) _ _ (λ _. omega (arith, word-length s (plain (48 + n))))
    (λ _. cond_case (Within s) (eqb n 10) _ _ (λ _. cond_case (Within s) (ltb (s % 18) 2) _ _ (λ _. omega arith) (λ _. omega arith))
    (λ _. cond_case (Within s) (eqb n 11) _ _ (λ _. omega arith)
    (λ _. cond_case (Within s) (ltb n 15) _ _ (λ _. omega arith)
    (λ _. cond_case (Within s) (eqb n 15) _ _ (λ _. omega arith) (λ _. omega arith)))))
step_credit (Run s) n =
    cond_case (Within (s + 9)) (eqb (s % 18) 0 && ltb n 16) _ _
    (λ e. omega (arith, ltb-true n 16 (and_true (eqb (s % 18) 0) (ltb n 16) e).1))
    (λ _. omega arith)
step_credit (Pair s z) n = cond_case (Within s) (eqb (pair_byte z n) 0) _ _ (λ _. omega arith) (λ _. omega (arith, word-length s (plain (pair_byte z n))))
step_credit (Escape s) n = cond_case (Within s) (ltb n 16) _ _ (λ _. omega arith) (λ _. omega arith)
step_credit (Half s h) n =
    cond_case (Within s) (ltb h 16 && ltb n 16) _ _ (λ _. omega (arith, word-length s (original (h * 16 + n)))) (λ _. omega arith)
step_credit Invalid n = omega arith

pub read_length : (ns : List ℕ) (st : TextState) → length (read_from st ns) + credit (end_from st ns) ≤ credit st + 9 * length ns
unfolding read_from end_from
read_length [] st = omega arith
read_length (n ∷ ns) st =
    let step = text_step st n in
    omega (arith, step_credit st n, read_length ns (state_after step), length-append (symbols_of step) (read_from (state_after step) ns))

-- ---- one symbol of the writer

-- what it adds behind s spaces, and how many spaces then wait
unfoldable pub piece : ℕ → Symbol → List ℕ
piece s x = cond (is_space x) [] (space_run s ++ symbol_nibbles x)

unfoldable pub waiting : ℕ → Symbol → ℕ
waiting s x = cond (is_space x) (s + 1) 0

pub write_one : (s : ℕ) (x : Symbol) (t : List Symbol) → write_from s (x ∷ t) ≡ piece s x ++ write_from (waiting s x) t
unfolding piece waiting
write_one s x t =
    test_case (is_space x) (λ e. rw (e, add-one) (write_space s x t e))
    (λ e. rw (e, append_assoc) (write_symbol s x t e))

-- ---- texts and bodies

-- the writer is total on symbols that a text may hold: its nibbles are a valid content
pub text_valid_lem : (t : List Symbol) → all_admitted t ≡ true → text_valid (write_text t) ≡ true
unfolding text_valid at_end write_text
text_valid_lem t f = ap at_end (written t 0 f).reads.end

-- what is read of a valid content gives it again
pub text_back : (ns : List ℕ) → text_valid ns ≡ true → write_text (read_text ns) ≡ ns
unfolding text_valid read_text
text_back ns e = rw none_consumed at (back ns (Between 0) e).same

pub text_admitted : (ns : List ℕ) → text_valid ns ≡ true → all_admitted (read_text ns) ≡ true
unfolding text_valid read_text
text_admitted ns e = (back ns (Between 0) e).good

-- FORMAT 3.5: a valid content is given by the writer for some row of symbols
pub valid_written : (ns : List ℕ) → text_valid ns ≡ true → (t : List Symbol) × (all_admitted t ≡ true) × (write_text t ≡ ns)
valid_written ns e = (read_text ns, text_admitted ns e, text_back ns e)

pub written_valid : (t : List Symbol) (ns : List ℕ) → all_admitted t ≡ true → write_text t ≡ ns → text_valid ns ≡ true
written_valid t ns h e = ap text_valid (sym e) ∙ text_valid_lem t h

-- the writer drops plain spaces at the end, and nothing else
pub text_trailing : (t : List Symbol) (k : ℕ) → write_text (t ++ spaces k) ≡ write_text t
unfolding write_text
text_trailing t k = write_trailing t k 0

read_writes : (t : List Symbol) → all_admitted t ≡ true → (k : ℕ) × (t ≡ read_text (write_text t) ++ spaces k)
unfolding read_text write_text spaces
read_writes t f = let w = written t 0 f in (w.dropped, w.whole ∙ ap (λ (l : List Symbol). l ++ spaces w.dropped) (sym w.reads.text))

-- FORMAT 3.5, the shortest row of symbols of a content: any other is that one and plain spaces behind it
pub strip_tail : (ns : List ℕ) (t : List Symbol) → all_admitted t ≡ true → write_text t ≡ ns → (k : ℕ) × (t ≡ read_text ns ++ spaces k)
strip_tail ns t h e = let r = read_writes t h in (r.0, r.1 ∙ ap (λ (l : List ℕ). read_text l ++ spaces r.0) e)

pub shortest : (ns : List ℕ) (t : List Symbol) → all_admitted t ≡ true → write_text t ≡ ns → length (read_text ns) ≤ length t
shortest ns t h e =
    let r = strip_tail ns t h e in
    omega (arith, ap length r.1, length-append (read_text ns) (spaces r.0))

-- nine symbols for each nibble at most
pub read_text_length : (ns : List ℕ) → length (read_text ns) ≤ 9 * length ns
unfolding read_text credit
read_text_length ns = omega (arith, read_length ns (Between 0))

-- FORMAT 7.9: no row takes over three nibbles a symbol
pub text_cost_lem : (t : List Symbol) → nibble_count t + all_saved t ≤ 3 * length t
unfolding write_text
text_cost_lem t = omega (arith, write_cost t 0)

pub text_some : (t : List Symbol) → 1 ≤ length t → ends_in_space t ≡ false → 1 ≤ nibble_count t
unfolding write_text
text_some t h e = write_some t 0 h e

-- ---- one symbol alone

space_read : (text_valid (symbol_nibbles (plain 32) ++ (0 ∷ [])) ≡ true) × (read_text (symbol_nibbles (plain 32) ++ (0 ∷ [])) ≡ plain 32 ∷ plain 48 ∷ [])
unfolding text_valid read_text symbol_nibbles code_nibbles char_code end_from read_from text_step state_after symbols_of at_end spaces
space_read = (refl, refl)

-- its nibbles are read as it, where a digit 0 follows: a space is read where something follows it
pub symbol_read : (x : Symbol) → admitted x ≡ true → (text_valid (symbol_nibbles x ++ (0 ∷ [])) ≡ true) × (read_text (symbol_nibbles x ++ (0 ∷ [])) ≡ x ∷ plain 48 ∷ [])
unfolding text_valid read_text text_step symbols_of state_after at_end spaces
symbol_read x h =
    test_case (is_space x) (λ e. rw (space_is x e) space_read)
    (λ e.
    let r = reads_append (reads_symbol 0 x h e) (reads_one {st = Between 0} {n = 0} {step = Plain 0 48} refl) in
    (ap at_end r.end, r.text))

cut : (xs ys : List ℕ) (a : ℕ) → xs ++ (a ∷ []) ≡ ys ++ (a ∷ []) → xs ≡ ys
cut xs ys a e =
    let l : length xs ≡ length ys = omega (arith, ap length e, length-append xs (a ∷ []), length-append ys (a ∷ [])) in
    sym (take-append_seam xs (a ∷ [])) ∙ ap₂ (λ (k : ℕ) (m : List ℕ). take k m) l e ∙ take-append_seam ys (a ∷ [])

-- and no others are
pub read_symbol : (x : Symbol) (ns : List ℕ) → text_valid (ns ++ (0 ∷ [])) ≡ true → read_text (ns ++ (0 ∷ [])) ≡ x ∷ plain 48 ∷ [] → (admitted x ≡ true) × (ns ≡ symbol_nibbles x)
read_symbol x ns v e =
    let h = (admitted_parts x (plain 48 ∷ []) (rw e at (text_admitted (ns ++ (0 ∷ [])) v))).0 in
    let r = symbol_read x h in
    (h, cut ns (symbol_nibbles x) 0 (sym (text_back (ns ++ (0 ∷ [])) v) ∙ ap write_text (e ∙ sym r.1) ∙ text_back (symbol_nibbles x ++ (0 ∷ [])) r.0))
