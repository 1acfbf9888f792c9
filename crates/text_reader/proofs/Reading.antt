-- A code at the head of what is left of a valid body, read from between two codes.
-- Assumes nothing.
use Prim.Native.Nat.{ℕ, ◌+◌, ◌-◌, ◌*◌, ◌%◌, ◌≤◌, ◌<◌}
use native.Mathlib.Omega.{arith}
use native.Mathlib.Nat.{add-zero}
use mathlib.Core.Path.{◌≡◌, refl, sym, ap, subst, ◌∙◌}
use mathlib.Core.Bool.{true, false, cond, ◌&&◌}
use mathlib.Core.List.{List, [], ◌∷◌, ◌++◌, append-nil}
use lib.Seq.{get_or-take, get_or-drop}
use lib.ListN.{length, get_or, take, drop, replicate, length-append, length-take, length-drop, length-replicate, replicate-append-replicate}
use lib.Dec.{ltb, eqb}
use borrow.Author.Tests.{lt-ltb, le-ltb, le-leb, lt-leb, ne_eqb, eqb-true, eqb-false, ltb-true, ltb-false}
use Rattle.format.specs.Nibbles.{nibbles}
use Rattle.laws.proofs.Nibbles.{length-nibbles}
use Rattle.format.specs.ShipText.{TextState, Between, Run, Pair, Escape, Half, Invalid}
use Rattle.format.specs.ShipText.{TextStep, On}
use Rattle.format.specs.ShipText.{Symbol, plain, original, byte_of, origin_of, symbol_of, spaces, pair_byte, text_step, state_after, symbols_of, read_from, end_from, at_end}
use Rattle.laws.proofs.Sequences.{true_false, cond_case, test_case}
use Rattle.laws.proofs.ShipText.{invalid_refused, credit}
use Rattle.text_reader.specs.declared.Code.{Code}
use Rattle.text_reader.specs.declared.Origin.{Origin}
use Rattle.text_reader.specs.declared.Origin.TheVariants.{Plain, Original}
use Rattle.text_reader.specs.Codes.{mark, code, code_at, whole, code_in}
use Rattle.std.specs.Prelude.{Option, Some, None, is_some, unwrap_or}

abbrev pub symbol_in : Code → Symbol
symbol_in c = symbol_of c.byte (mark c.origin)

-- at the head of the nibbles ns the code c is read behind w spaces
pub record Taken (w : ℕ) (ns : List ℕ) (c : Code) : Type 0 where
  pub some : 0 < c.nibbles
  pub inside : c.nibbles ≤ length ns
  pub defined : eqb (mark c.origin) 0 && eqb c.byte 0 ≡ false
  pub waits : ℕ
  pub state : end_from (Between w) (take c.nibbles ns) ≡ Between waits
  pub symbols : read_from (Between w) (take c.nibbles ns) ++ spaces waits ≡ spaces w ++ replicate c.count (symbol_in c)

-- the nibbles are what is left of a valid body
abbrev Ends : TextState → List ℕ → Type 0
Ends st ns = at_end (end_from st ns) ≡ true

ends_step : (st : TextState) (n : ℕ) (ns : List ℕ) (t : TextStep) → text_step st n ≡ t → Ends st (n ∷ ns) → Ends (state_after t) ns
unfolding end_from
ends_step st n ns t e v = ap (λ (u : TextStep). at_end (end_from (state_after u) ns)) (sym e) ∙ v

refused : {P : Type 0} (st : TextState) (n : ℕ) (ns : List ℕ) → text_step st n ≡ On Invalid → Ends st (n ∷ ns) → P
unfolding state_after
refused st n ns e v = absurd (true_false _ (ends_step st n ns (On Invalid) e v) (invalid_refused ns))

-- a symbol behind w spaces
symbol_alone : (w : ℕ) (x : Symbol) → ((spaces w ++ (x ∷ [])) ++ []) ++ [] ≡ spaces w ++ (x ∷ [])
symbol_alone w x = append-nil ((spaces w ++ (x ∷ [])) ++ []) ∙ append-nil (spaces w ++ (x ∷ []))

spaces-append : (m n : ℕ) → spaces (m + n) ≡ spaces m ++ replicate n (plain 32)
unfolding spaces
spaces-append m n = sym (replicate-append-replicate m n (plain 32))

module _ (w : ℕ) where
  taken_digit : (n : ℕ) (l : List ℕ) → n < 10 → Taken w (n ∷ l) (code 1 1 (48 + n) Plain)
  unfolding end_from read_from text_step state_after symbols_of symbol_of spaces
  taken_digit n l h = record {
    some = omega arith;
    inside = omega arith;
    defined = ne_eqb (48 + n) 0 (λ q. omega arith);
    waits = 0;
    state = rw (lt-ltb n 10 h);
    symbols = rw (lt-ltb n 10 h) (symbol_alone w (plain (48 + n)));
  }

  taken_space : (n : ℕ) (l : List ℕ) → n ≡ 10 → Ends (Between w) (n ∷ l) → Taken w (n ∷ l) (code 1 1 32 Plain)
  unfolding end_from read_from text_step state_after symbols_of symbol_of
  taken_space n l h v =
      test_case (ltb (w % 18) 2)
      (λ e. record {
        some = omega arith;
        inside = omega arith;
        defined = refl;
        waits = w + 1;
        state = rw (h, e);
        symbols = rw (h, e) (spaces-append w 1);
      })
      (λ e. refused (Between w) n l (rw (h, e)) v)

  taken_run : (n : ℕ) (l : List ℕ) → n ≡ 11 → Ends (Run w) l → Taken w (n ∷ l) (code 2 (get_or l 0 0 + 3) 32 Plain)
  unfolding end_from read_from state_after symbols_of symbol_of text_step at_end
  taken_run n [] h v = absurd (true_false false v refl)
  taken_run n (m ∷ l) h v =
      test_case (eqb (w % 18) 0 && ltb m 16)
      (λ e. record {
        some = omega arith;
        inside = omega arith;
        defined = refl;
        waits = w + (m + 3);
        state = rw (h, e);
        symbols = rw (h, e) (spaces-append w (m + 3));
      })
      (λ e. refused (Run w) m l (rw e) v)

  between-pair : (n : ℕ) → 12 ≤ n → n < 15 → text_step (Between w) n ≡ On (Pair w n)
  unfolding text_step
  between-pair n h g = rw (le-ltb n 10 (omega arith), ne_eqb n 10 (λ e. omega arith), ne_eqb n 11 (λ e. omega arith), lt-ltb n 15 g)

  taken_pair : (n : ℕ) (l : List ℕ) → 12 ≤ n → n < 15 → Ends (Pair w n) l → Taken w (n ∷ l) (code 2 1 (pair_byte n (get_or l 0 0)) Plain)
  unfolding end_from read_from state_after symbols_of symbol_of text_step at_end spaces
  taken_pair n [] h g v = absurd (true_false false v refl)
  taken_pair n (m ∷ l) h g v =
      test_case (eqb (pair_byte n m) 0)
      (λ e. refused (Pair w n) m l (rw e) v)
      (λ e. record {
        some = omega arith;
        inside = omega arith;
        defined = e;
        waits = 0;
        state = rw (between-pair n h g, e);
        symbols = rw (between-pair n h g, e) (symbol_alone w (plain (pair_byte n m)));
      })

  taken_escape : (n : ℕ) (l : List ℕ) → n ≡ 15 → Ends (Escape w) l → Taken w (n ∷ l) (code 3 1 (get_or l 0 0 * 16 + get_or l 1 0) Original)
  unfolding end_from read_from state_after symbols_of symbol_of text_step at_end spaces
  taken_escape n [] h v = absurd (true_false false v refl)
  taken_escape n (m ∷ l) h v =
      test_case (ltb m 16) (λ e. low l e (ends_step (Escape w) m l (On (Half w m)) (rw e) v)) (λ e. refused (Escape w) m l (rw e) v)
    where
      low : (l : List ℕ) → ltb m 16 ≡ true → Ends (Half w m) l → Taken w (n ∷ m ∷ l) (code 3 1 (m * 16 + get_or l 0 0) Original)
      low [] e u = absurd (true_false false u refl)
      low (j ∷ l) e u =
          test_case (ltb j 16)
          (λ f. record {
            some = omega arith;
            inside = omega arith;
            defined = refl;
            waits = 0;
            state = rw (h, e, f, e);
            symbols = rw (h, e, f, e) (symbol_alone w (original (m * 16 + j)));
          })
          (λ f. refused (Half w m) j l (rw (e, f)) u)

-- the code at the head, by its first nibble
taken_at : (w : ℕ) (ns : List ℕ) → 0 < length ns → Ends (Between w) ns → Taken w ns (code_at ns)
unfolding code_at state_after text_step
taken_at w [] h v = absurd (omega arith)
taken_at w (n ∷ l) h v =
    test_case (ltb n 10) (λ a. rw a (taken_digit w n l (ltb-true n 10 a)))
    (λ a. test_case (eqb n 10) (λ b. rw (a, b) (taken_space w n l (eqb-true n 10 b) v))
    (λ b. test_case (eqb n 11) (λ c. rw (a, b, c) (taken_run w n l (eqb-true n 11 c) (ends_step (Between w) n l (On (Run w)) (rw (a, b, c)) v)))
    (λ c.
    let x : n ≡ 10 → ⊥ = eqb-false n 10 b in
    let y : n ≡ 11 → ⊥ = eqb-false n 11 c in
    let z = ltb-false n 10 a in
    let o : 12 ≤ n = omega arith in
    test_case (ltb n 15)
    (λ d. rw (a, b, c, d) (taken_pair w n l o (ltb-true n 15 d) (ends_step (Between w) n l (On (Pair w n)) (rw (a, b, c, d)) v)))
    (λ d. test_case (eqb n 15)
    (λ f. rw (a, b, c, d) (taken_escape w n l (eqb-true n 15 f) (ends_step (Between w) n l (On (Escape w)) (rw (a, b, c, d, f)) v)))
    (λ f. refused (Between w) n l (rw (a, b, c, d, f)) v)))))

whole_code : (ns : List ℕ) → (code_at ns).nibbles ≤ length ns → eqb (mark (code_at ns).origin) 0 && eqb (code_at ns).byte 0 ≡ false → code_in ns ≡ Some (code_at ns)
unfolding code_in whole
whole_code ns h e = rw (le-leb (code_at ns).nibbles (length ns) h, e)

pub taken : (w : ℕ) (ns : List ℕ) → 0 < length ns → at_end (end_from (Between w) ns) ≡ true → Taken w ns (code_at ns) × (code_in ns ≡ Some (code_at ns))
taken w ns h v = let t = taken_at w ns h v in (t, whole_code ns t.inside t.defined)

-- ---- spaces that wait in a valid body are given in the end

unfoldable pub held : TextState → ℕ
held (Between s) = s
held (Run s) = s
held (Pair s z) = s
held (Escape s) = s
held (Half s h) = s
held Invalid = 0

abbrev Kept : ℕ → TextStep → Type 0
Kept s t = (ns : List ℕ) → at_end (end_from (state_after t) ns) ≡ true → s ≤ length (symbols_of t) + held (state_after t)

lost : (s : ℕ) → Kept s (On Invalid)
unfolding state_after
lost s ns v = absurd (true_false _ v (invalid_refused ns))

symbol_length : (s : ℕ) (x : Symbol) → s ≤ length (spaces s ++ (x ∷ []))
unfolding spaces
symbol_length s x = omega (arith, length-append (spaces s) (x ∷ []), length-replicate s (plain 32))

keeps : (st : TextState) (n : ℕ) → Kept (held st) (text_step st n)
unfolding text_step symbols_of state_after held
keeps (Between s) n =
    cond_case (Kept s) (ltb n 10) _ _ (λ _ ns v. omega (arith, symbol_length s (plain (48 + n))))
    (λ _. cond_case (Kept s) (eqb n 10) _ _ (λ _. cond_case (Kept s) (ltb (s % 18) 2) _ _ (λ _ ns v. omega arith) (λ _. lost s))
    (λ _. cond_case (Kept s) (eqb n 11) _ _ (λ _ ns v. omega arith)
    (λ _. cond_case (Kept s) (ltb n 15) _ _ (λ _ ns v. omega arith)
    (λ _. cond_case (Kept s) (eqb n 15) _ _ (λ _ ns v. omega arith) (λ _. lost s)))))
keeps (Run s) n = cond_case (Kept s) (eqb (s % 18) 0 && ltb n 16) _ _ (λ _ ns v. omega arith) (λ _. lost s)
keeps (Pair s z) n = cond_case (Kept s) (eqb (pair_byte z n) 0) _ _ (λ _. lost s) (λ _ ns v. omega (arith, symbol_length s (plain (pair_byte z n))))
keeps (Escape s) n = cond_case (Kept s) (ltb n 16) _ _ (λ _ ns v. omega arith) (λ _. lost s)
keeps (Half s h) n =
    cond_case (Kept s) (ltb h 16 && ltb n 16) _ _ (λ _ ns v. omega (arith, symbol_length s (original (h * 16 + n)))) (λ _. lost s)
keeps Invalid n = λ ns v. omega arith

pub end_held : (st : TextState) → at_end st ≡ true → held st ≡ 0
unfolding at_end held
end_held (Between s) e = eqb-true s 0 e
end_held (Run s) e = absurd (true_false false e refl)
end_held (Pair s z) e = absurd (true_false false e refl)
end_held (Escape s) e = absurd (true_false false e refl)
end_held (Half s h) e = absurd (true_false false e refl)
end_held Invalid e = refl

pub held-given : (ns : List ℕ) (st : TextState) → at_end (end_from st ns) ≡ true → held st ≤ length (read_from st ns)
unfolding end_from read_from
held-given [] st v = omega (arith, end_held st v)
held-given (n ∷ ns) st v =
    let t = text_step st n in
    omega (arith, keeps st n ns v, held-given ns (state_after t) v, length-append (symbols_of t) (read_from (state_after t) ns))

-- nothing wraps: the spaces that wait count among the 9 that a nibble brings at most
pub held_credit : (st : TextState) → held st ≤ credit st
unfolding held credit
held_credit (Between s) = omega arith
held_credit (Run s) = omega arith
held_credit (Pair s z) = omega arith
held_credit (Escape s) = omega arith
held_credit (Half s h) = omega arith
held_credit Invalid = omega arith

-- ---- the nibbles of bytes from a place to an end

module _ (s : List ℕ) (at end : ℕ) (h : end ≤ 2 * length s) where
  pub part_length : length (take (end - at) (drop at (nibbles s))) ≡ end - at
  part_length = omega (arith, h, length-nibbles s, length-take (end - at) (drop at (nibbles s)), length-drop at (nibbles s))

  pub part_at : (k : ℕ) → k < end - at → (n : ℕ) → n ≡ get_or (nibbles s) (at + k) 0 → get_or (take (end - at) (drop at (nibbles s))) k 0 ≡ n
  part_at k l n e = get_or-take (end - at) (drop at (nibbles s)) k 0 l ∙ get_or-drop at (nibbles s) k 0 ∙ sym e

  pub part-first : at < end → (n : ℕ) → n ≡ get_or (nibbles s) at 0 → get_or (take (end - at) (drop at (nibbles s))) 0 0 ≡ n
  part-first l n e = part_at 0 (omega arith) n (e ∙ ap (λ (k : ℕ). get_or (nibbles s) k 0) (sym (add-zero at)))

-- ---- the code at the head, by its nibbles

pub none_some : {A : Type 0} {x : A} → None ≡ Some x → ⊥
none_some e = true_false true refl (sym (ap is_some e))

pub some_same : {c d : Code} → Some c ≡ Some d → c ≡ d
some_same {c} {d} e = ap (λ (o : Option Code). unwrap_or o c) e

-- a byte that is found for a pair, or none
some_pair : (p b : ℕ) → Some b ≡ cond (eqb p 0) None (Some p) → (b ≡ p) × (eqb p 0 ≡ false)
some_pair p b e =
    test_case (eqb p 0) (λ f. absurd (none_some {x = b} (sym (rw f at e))))
    (λ f. (ap (λ (o : Option ℕ). unwrap_or o 0) (rw f at e), f))

no_pair : (p : ℕ) → None ≡ cond (eqb p 0) None (Some p) → eqb p 0 ≡ true
no_pair p e = test_case (eqb p 0) (λ f. f) (λ f. absurd (none_some {x = p} (rw f at e)))

-- one that is not whole
broken : (ns : List ℕ) → whole ns ≡ false → None ≡ code_in ns
unfolding code_in
broken ns e = rw e

fine : (ns : List ℕ) (c : Code) → code_at ns ≡ c → c.nibbles ≤ length ns → eqb (mark c.origin) 0 && eqb c.byte 0 ≡ false → Some c ≡ code_in ns
fine ns c e h d = sym (subst (λ (k : Code). k.nibbles ≤ length ns → eqb (mark k.origin) 0 && eqb k.byte 0 ≡ false → code_in ns ≡ Some k) e (whole_code ns) h d)

cut_off : (ns : List ℕ) → length ns < (code_at ns).nibbles → None ≡ code_in ns
unfolding whole
cut_off ns h = broken ns (rw (lt-leb (code_at ns).nibbles (length ns) h))

code_some : (ns : List ℕ) → 1 ≤ (code_at ns).nibbles
unfolding code_at
code_some ns =
    cond_case some (ltb (get_or ns 0 0) 10) _ _ (λ _. omega arith)
    (λ _. cond_case some (eqb (get_or ns 0 0) 10) _ _ (λ _. omega arith)
    (λ _. cond_case some (eqb (get_or ns 0 0) 11) _ _ (λ _. omega arith)
    (λ _. cond_case some (ltb (get_or ns 0 0) 15) _ _ (λ _. omega arith) (λ _. omega arith))))
  where
    some : Code → Type 0
    some c = 1 ≤ c.nibbles

pub code_end : (ns : List ℕ) → length ns < 1 → None ≡ code_in ns
code_end ns h = cut_off ns (omega (arith, code_some ns))

module _ (ns : List ℕ) (n : ℕ) (e : get_or ns 0 0 ≡ n) (filled : 1 ≤ length ns) where
  pub code-digit : n < 10 → Some (code 1 1 (48 + n) Plain) ≡ code_in ns
  unfolding code_at
  code-digit h = fine ns (code 1 1 (48 + n) Plain) (rw (e, lt-ltb n 10 h)) filled (ne_eqb (48 + n) 0 (λ q. omega arith))

  pub code_space : n ≡ 10 → Some (code 1 1 32 Plain) ≡ code_in ns
  unfolding code_at
  code_space h = fine ns (code 1 1 32 Plain) (rw (e, h)) filled refl

  -- a code of two nibbles or three
  module _ (low : 10 ≤ n) (no_space : n ≡ 10 → ⊥) where
    pub code_one : length ns < 2 → None ≡ code_in ns
    unfolding code_at
    code_one h =
        let q : 2 ≤ (code_at ns).nibbles = rw (e, le-ltb n 10 low, ne_eqb n 10 no_space)
        (cond_case two (eqb n 11) _ _ (λ _. omega arith) (λ _. cond_case two (ltb n 15) _ _ (λ _. omega arith) (λ _. omega arith))) in
        cut_off ns (omega arith)
      where
        two : Code → Type 0
        two c = 2 ≤ c.nibbles

    module _ (m : ℕ) (f : get_or ns 1 0 ≡ m) (second : 2 ≤ length ns) where
      pub code-run : n ≡ 11 → Some (code 2 (m + 3) 32 Plain) ≡ code_in ns
      unfolding code_at
      code-run h = fine ns (code 2 (m + 3) 32 Plain) (rw (e, f, h)) second refl

      module _ (no_run : n ≡ 11 → ⊥) where
        a_pair : n < 15 → (b : ℕ) → b ≡ pair_byte n m → code_at ns ≡ code 2 1 b Plain
        unfolding code_at
        a_pair h b g = rw (e, f, le-ltb n 10 low, ne_eqb n 10 no_space, ne_eqb n 11 no_run, lt-ltb n 15 h, g)

        -- the byte that is found for the pair
        pub code-pair : n < 15 → (b : ℕ) → Some b ≡ cond (eqb (pair_byte n m) 0) None (Some (pair_byte n m)) → Some (code 2 1 b Plain) ≡ code_in ns
        code-pair h b g =
            let f = some_pair (pair_byte n m) b g in
            fine ns (code 2 1 b Plain) (a_pair h b f.0) second (rw f.0 f.1)

        pub code-blank : n < 15 → None ≡ cond (eqb (pair_byte n m) 0) None (Some (pair_byte n m)) → None ≡ code_in ns
        unfolding whole
        code-blank h g = broken ns (rw (a_pair h (pair_byte n m) refl, no_pair (pair_byte n m) g, le-leb 2 (length ns) second))

        module _ (h : 15 ≤ n) where
          an_escape : code_at ns ≡ code 3 1 (m * 16 + get_or ns 2 0) Original
          unfolding code_at
          an_escape = rw (e, f, le-ltb n 10 low, ne_eqb n 10 no_space, ne_eqb n 11 no_run, le-ltb n 15 h)

          pub code_two : length ns < 3 → None ≡ code_in ns
          code_two l = cut_off ns (omega (arith, ap (λ (c : Code). c.nibbles) an_escape))

          pub code_escape : (j : ℕ) → get_or ns 2 0 ≡ j → 3 ≤ length ns → Some (code 3 1 (m * 16 + j) Original) ≡ code_in ns
          code_escape j g third = fine ns (code 3 1 (m * 16 + j) Original) (an_escape ∙ ap (λ (x : ℕ). code 3 1 (m * 16 + x) Original) g) third refl

-- ---- a code's symbol: its byte and its mark

pub byte_in : (b o : ℕ) → byte_of (symbol_of b o) ≡ b
unfolding byte_of symbol_of
byte_in b o = test_case (eqb o 0) (λ e. rw e) (λ e. rw e)

pub origin_in : (b : ℕ) (o : Origin) → origin_of (symbol_of b (mark o)) ≡ mark o
unfolding origin_of symbol_of
origin_in b Plain = refl
origin_in b Original = refl
