-- A reader for display: its steps over a valid body, and its opening.
-- Assumes nothing.
use Prim.Native.Nat.{ℕ, zero, suc, ◌+◌, ◌-◌, ◌*◌, ◌≤◌, ◌<◌, min}
use native.Mathlib.Omega.{arith}
use mathlib.Core.Path.{◌≡◌, refl, sym, ap, subst, ◌∙◌}
use mathlib.Core.Bool.{true, cond, not}
use mathlib.Core.List.{List, [], ◌∷◌, ◌++◌, append_assoc, append-nil}
use lib.Dec.{ltb, leb, eqb}
use lib.ListN.{length, get_or, take, drop, replicate, length-take, length-drop}
use lib.Seq.{take_all}
use borrow.Author.Tests.{lt-ltb, le-ltb, ltb-true, ltb-false, leb-true}
use Rattle.std.specs.Prelude.{Option, Some, None}
use Rattle.format.specs.Bits.{Bytes}
use Rattle.format.specs.Flags.{FlagTable}
use Rattle.format.specs.Nibbles.{nibbles}
use Rattle.format.specs.ShipText.{Symbol, plain, symbol_of, pair_byte, write_from, write_text, nibble_count, text_valid, read_text}
use Rattle.format.specs.Report.{Verdict, observation_of, judge}
use Rattle.format.specs.Calls.{call_checks, stands_check, ship_text}
use Rattle.format.specs.Display.{opening_on, opening_refusal, displayed_by, displayed, handed}
use Rattle.format.specs.Reply.{refusal_of}
use Rattle.format.specs.declared.Refusal.{Refusal}
use Rattle.format.specs.declared.Refusal.TheVariants.{NoSuch}
use Rattle.laws.proofs.Sequences.{and_true, cond_case, test_case}
use Rattle.laws.proofs.Order.{first_fits}
use Rattle.laws.proofs.Nibbles.{length-nibbles}
use Rattle.laws.proofs.TextCounts.{read_count}
use Rattle.report.specs.declared.Report.{Report}
use Rattle.report.specs.Found.{Found}
use Rattle.report.proofs.Found.{good, al_is, reach, absent, stands_passes, content_is}
use Rattle.tail.specs.declared.Held.{Held}
use Rattle.call_fetches.proofs.Fetches.{body_valid_lem}
use Rattle.text_reader.specs.declared.Code.{Code}
use Rattle.text_reader.specs.declared.Origin.TheVariants.{Plain, Original}
use Rattle.text_reader.specs.Codes.{code, code_at, whole, code_in}
use Rattle.text_reader.proofs.Reading.{symbol_in, none_some, some_same, code_end}
use Rattle.text_reader.proofs.Bodies.{Parsed, laid, laid_none, laid_all, laid_code, parse_none, parse_more, code_there, code_inside}
use Rattle.text_display.specs.declared.Step.{Step}
use Rattle.text_display.specs.Steps.{step, step_at, step_symbol, symbol_given, step_number, Gives, refusal_in, numbers_of, Opens}

-- ---- steps

module _ (b : List ℕ) (end : ℕ) where
  -- at the end it stays
  pub gives_none : (at w : ℕ) → step_at b at end w ≡ None → Gives b at end w []
  unfolding handed step_number
  gives_none at w e zero = ap symbol_given e
  gives_none at w e (suc n) = rw (e, step_number) (gives_none at w e n)

  pub gives_one : (at w : ℕ) (s : Step) (xs : List Symbol) → step_at b at end w ≡ Some s → Gives b s.at end s.spaces xs → Gives b at end w (step_symbol s ∷ xs)
  unfolding handed step_number
  gives_one at w s xs e g zero = ap symbol_given e
  gives_one at w s xs e g (suc n) = rw (e, step_number) (g n)

  space_step : (at w : ℕ) → step_at b at end (suc w) ≡ Some (step 32 Plain at w)
  unfolding step_at
  space_step at w = let m : suc w - 1 ≡ w = omega arith in rw (lt-ltb 0 (suc w) (omega arith), m)

  gives-spaces : (at w : ℕ) (xs : List Symbol) → Gives b at end 0 xs → Gives b at end w (replicate w (plain 32) ++ xs)
  unfolding symbol_of
  gives-spaces at zero xs g = g
  gives-spaces at (suc w) xs g = gives_one at (suc w) (step 32 Plain at w) (replicate w (plain 32) ++ xs) (space_step at w) (gives-spaces at w xs g)

-- ---- a code's symbols

-- at least one, and more than one of plain spaces alone
abbrev Run : Code → Type 0
Run c = (1 ≤ c.nibbles) × (1 ≤ c.count) × (2 ≤ c.count → symbol_in c ≡ plain 32)

code-run : (ns : List ℕ) → Run (code_at ns)
unfolding code_at symbol_of
code-run ns =
    let n = get_or ns 0 0 in
    let m = get_or ns 1 0 in
    let escape = code 3 1 (m * 16 + get_or ns 2 0) Original in
    let pair = cond (ltb n 15) (code 2 1 (pair_byte n m) Plain) escape in
    let run = cond (eqb n 11) (code 2 (m + 3) 32 Plain) pair in
    let space = cond (eqb n 10) (code 1 1 32 Plain) run in
    cond_case Run (ltb n 10) (code 1 1 (48 + n) Plain) space (λ _. (omega arith, omega arith, λ h. absurd (omega arith)))
    (λ _. cond_case Run (eqb n 10) (code 1 1 32 Plain) run (λ _. (omega arith, omega arith, λ h. absurd (omega arith)))
    (λ _. cond_case Run (eqb n 11) (code 2 (m + 3) 32 Plain) pair (λ _. (omega arith, omega arith, λ _. refl))
    (λ _. cond_case Run (ltb n 15) (code 2 1 (pair_byte n m) Plain) escape (λ _. (omega arith, omega arith, λ h. absurd (omega arith)))
    (λ _. (omega arith, omega arith, λ h. absurd (omega arith))))))

same_run : (k : ℕ) (x : Symbol) → (2 ≤ suc k → x ≡ plain 32) → replicate k x ≡ replicate k (plain 32)
same_run zero x h = refl
same_run (suc k) x h = ap (replicate (suc k)) (h (omega arith))

code_step : (b : List ℕ) (at end : ℕ) (c : Code) → Some c ≡ code_in (take (end - at) (drop at (nibbles b)))
    → step_at b at end 0 ≡ Some (step c.byte c.origin (at + c.nibbles) (c.count - 1))
unfolding step_at
code_step b at end c e = rw (← e)

-- within an end that is beyond the bytes
nearer_part : (v : List ℕ) (at end m : ℕ) → m ≡ min end (length v) → take (m - at) (drop at v) ≡ take (end - at) (drop at v)
nearer_part v at end m e =
    test_case (ltb (length v) end)
    (λ q.
    let h = ltb-true (length v) end q in
    let l = length-drop at v in
    take_all (m - at) (drop at v) (omega arith) ∙ sym (take_all (end - at) (drop at v) (omega arith)))
    (λ q. let h = ltb-false (length v) end q in let z : m ≡ end = omega arith in rw z)

-- a code that is there lies before the end
pub code_within : (ns : List ℕ) (c : Code) → Some c ≡ code_in ns → (c.nibbles ≤ length ns) × Run c
unfolding code_in whole
code_within ns c e =
    test_case (whole ns)
    (λ t.
    let is : c ≡ code_at ns = some_same (rw t at e) in
    subst (λ (k : Code). (k.nibbles ≤ length ns) × Run k) (sym is)
    (leb-true (code_at ns).nibbles (length ns) (and_true (leb (code_at ns).nibbles (length ns)) _ t).0, code-run ns))
    (λ t. absurd (none_some {x = c} (sym (rw t at e))))

module _ (b : List ℕ) (at end m w : ℕ) (e : m ≡ min end (2 * length b)) where
  part : take (m - at) (drop at (nibbles b)) ≡ take (end - at) (drop at (nibbles b))
  part = nearer_part (nibbles b) at end m (e ∙ ap (min end) (sym (length-nibbles b)))

  pub step_none : w ≤ 0 → None ≡ code_in (take (m - at) (drop at (nibbles b))) → None ≡ step_at b at end w
  unfolding step_at
  step_none h f = let g = f ∙ ap code_in part in rw (le-ltb 0 w h, ← g)

  module _ (c : Code) (f : Some c ≡ code_in (take (m - at) (drop at (nibbles b)))) where
    code_is : Some c ≡ code_in (take (end - at) (drop at (nibbles b)))
    code_is = f ∙ ap code_in part

    pub step_given : w ≤ 0 → Some (step c.byte c.origin (at + c.nibbles) (c.count - 1)) ≡ step_at b at end w
    unfolding step_at
    step_given h = rw (le-ltb 0 w h, ← code_is)

    pub step_inside : (at + c.nibbles ≤ end) × (1 ≤ c.count)
    step_inside =
        let ns = take (end - at) (drop at (nibbles b)) in
        let k = code_within ns c code_is in
        (omega (arith, k.0, k.1.0, length-take (end - at) (drop at (nibbles b))), k.1.1)

pub step_space : (b : List ℕ) (at end w : ℕ) → 0 < w → Some (step 32 Plain at (w - 1)) ≡ step_at b at end w
unfolding step_at
step_space b at end w h = rw (lt-ltb 0 w h)

end_step : (b : List ℕ) (at end : ℕ) → end ≤ at → step_at b at end 0 ≡ None
unfolding step_at
end_step b at end h =
    let ns = take (end - at) (drop at (nibbles b)) in
    rw (← code_end ns (omega (arith, length-take (end - at) (drop at (nibbles b)))))

-- ---- a valid body

module _ (b : List ℕ) (at len : ℕ) (valid : text_valid (take len (drop at (nibbles b))) ≡ true) (fits : at + len ≤ length (nibbles b)) where
  abbrev v : List ℕ
  v = nibbles b

  -- what is left behind i nibbles
  record Left (i : ℕ) : Type 0 where
    symbols : List Symbol
    text : laid (nibbles b) at i ++ symbols ≡ read_text (take len (drop at (nibbles b)))
    gives : Gives b (at + i) (at + len) 0 symbols

  left_none : (i : ℕ) → i ≤ len → len ≤ i → Left i
  left_none i h k = record {
    symbols = [];
    text = append-nil (laid v at i) ∙ laid_all v at len valid i h k;
    gives = gives_none b (at + len) (at + i) 0 (end_step b (at + i) (at + len) (omega arith));
  }

  left_one : (count i : ℕ) (p : Parsed (nibbles b) at len count i) (c : Code) → Some c ≡ code_in (take (at + len - (at + i)) (drop (at + i) (nibbles b)))
      → Left (i + c.nibbles) → Left i
  left_one count i p c e l =
      let run = (code_within (take (at + len - (at + i)) (drop (at + i) v)) c e).1 in
      let x = symbol_in c in
      let k = c.count - 1 in
      let more : c.count ≡ suc k = omega (arith, run.1) in
      let there : at + i + c.nibbles ≡ at + (i + c.nibbles) = omega arith in
      let rest : Gives b (at + i + c.nibbles) (at + len) k (replicate k x ++ l.symbols) =
      subst (λ (r : List Symbol). Gives b (at + i + c.nibbles) (at + len) k (r ++ l.symbols)) (sym (same_run k x (λ two. run.2 (omega (arith, more)))))
      (gives-spaces b (at + len) (at + i + c.nibbles) k l.symbols (subst (λ (q : ℕ). Gives b q (at + len) 0 l.symbols) (sym there) l.gives)) in
      record {
        symbols = x ∷ (replicate k x ++ l.symbols);
        text =
            ap (λ (r : List Symbol). laid v at i ++ (r ++ l.symbols)) (ap (λ (m : ℕ). replicate m x) (sym more))
            ∙ sym (append_assoc (laid v at i) (replicate c.count x) l.symbols)
            ∙ ap (λ (r : List Symbol). r ++ l.symbols) (sym (laid_code v at len valid fits count i p (at + len) (at + i) refl refl c e))
            ∙ l.text;
        gives =
            gives_one b (at + len) (at + i) 0 (step c.byte c.origin (at + i + c.nibbles) k) (replicate k x ++ l.symbols) (code_step b (at + i) (at + len) c e) rest;
      }

  left-from : (fuel count i : ℕ) → Parsed (nibbles b) at len count i → len - i ≤ fuel → Left i
  left-from zero count i p h = left_none i p.inside (omega arith)
  left-from (suc fuel) count i p h =
      test_case (ltb i len)
      (λ t.
      let c = code_at (take (at + len - (at + i)) (drop (at + i) v)) in
      let e = code_there v at len valid fits count i p (at + len) (at + i) refl refl (ltb-true i len t) in
      let inside = code_inside v at len valid fits count i p (at + len) (at + i) refl refl c e in
      left_one count i p c e
      (left-from fuel (count + c.count) (i + c.nibbles) (parse_more v at len valid fits count i p (at + len) (at + i) refl refl c e) (omega (arith, inside.0))))
      (λ t. left_none i p.inside (ltb-false i len t))

  body_gives : Gives b at (at + len) 0 (read_text (take len (drop at (nibbles b))))
  body_gives =
      let l = left-from len 0 0 (parse_none v at len) (omega arith) in
      let z : at + 0 ≡ at = omega arith in
      let e : l.symbols ≡ read_text (take len (drop at v)) = ap (λ (r : List Symbol). r ++ l.symbols) (laid_none v at) ∙ l.text in
      subst (λ (q : ℕ). Gives b q (at + len) 0 (read_text (take len (drop at v)))) z (subst (Gives b (at + 0) (at + len) 0) e l.gives)

-- ---- opening

no_text : (b : List ℕ) → Gives b 0 0 0 []
no_text b = gives_none b 0 0 0 (end_step b 0 0 (omega arith))

no_nibbles : 0 ≡ 0 + nibble_count []
unfolding write_text write_from
no_nibbles = refl

-- by the refusal, or its absence
opens_by : (marks : FlagTable) (b : List ℕ) (at end : ℕ) (r : Option Refusal) → opening_refusal marks b ≡ refusal_in r
    → Gives b at end 0 (displayed_by (refusal_in r) (ship_text (observation_of b)))
    → end ≡ at + nibble_count (displayed_by (refusal_in r) (ship_text (observation_of b))) → Opens marks b (numbers_of at end r)
unfolding displayed
opens_by marks b at end r e g n = record {
  refusal = sym e;
  gives = rw e g;
  apart = rw e n;
}

-- the report is refused
pub opens_refused : (marks : FlagTable) (b : List ℕ) (e : Refusal) → judge marks b ≡ Verdict.refused (refusal_of e) → Opens marks b (numbers_of 0 0 (Some e))
unfolding opening_refusal
opens_refused marks b e j = opens_by marks b 0 0 (Some e) (ap (opening_on marks) j) (no_text b) no_nibbles

module _ (marks : FlagTable) {b : List ℕ} {r : Report} (bs : Bytes b) (f : Found marks b 4 r) where
  pub opens_missing : r.held ≡ None → Opens marks b (numbers_of 0 0 (Some NoSuch))
  unfolding opening_refusal call_checks
  opens_missing h =
      opens_by marks b 0 0 (Some NoSuch)
      (ap (opening_on marks) f.judged ∙ first_fits (stands_check (observation_of b) 4) [] (ap not (absent marks bs f h))) (no_text b) no_nibbles

  pub opens_found : (h : Held) → r.held ≡ Some h → Opens marks b (numbers_of (h.place + 3) (h.place + 3 + h.al) None)
  unfolding opening_refusal call_checks
  opens_found h stands =
      let at = h.place + 3 in
      let k = reach marks bs f h stands in
      opens_by marks b at (at + h.al) None (ap (opening_on marks) f.judged ∙ stands_passes marks bs f h stands)
      (subst (λ (ns : List ℕ). Gives b at (at + h.al) 0 (read_text ns)) (content_is marks bs f h stands)
      (body_gives b at h.al (body_valid_lem marks bs f h stands) (omega (arith, k.0, length-nibbles b))))
      (ap (λ (n : ℕ). at + n) (al_is marks bs f h stands ∙ sym (read_count marks (observation_of b) (good marks bs f))))
