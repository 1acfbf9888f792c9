-- Fields of indicators as digits: put before others, and written.
-- Assumes nothing.
use Prim.Native.Nat.{ℕ, ◌+◌, ◌≤◌, ◌<◌}
use native.Mathlib.Omega.{arith}
use native.Mathlib.Numerals.{add-one}
use mathlib.Core.Path.{◌≡◌, refl, sym, ap, ap₂, ◌∙◌}
use mathlib.Core.Bool.{Bool, true, false, cond, ◌&&◌}
use mathlib.Core.List.{List, [], ◌∷◌, ◌++◌, append-nil, append_assoc}
use mathlib.Core.Option.{Option, none, some}
use lib.ListN.{length, take, set}
use lib.Seq.{take-suc-set}
use borrow.Author.Tests.{lt-ltb, le-ltb}
use Rattle.format.specs.Order.{Refusal, first}
use Rattle.format.specs.Field.{is_present}
use Rattle.format.specs.Flags.{FlagTable}
use Rattle.format.specs.Observation.{Observation}
use Rattle.format.specs.Indicators.{indicators, fields_where}
use Rattle.format.specs.Report.{observation_of, Verdict}
use Rattle.format.specs.Calls.{stands, value_at, data_missing, Quantity, counted, Answer, over}
use Rattle.format.specs.Whole.{wrote_by}
use Rattle.format.specs.Finding.{lost_indicators, found, find_checks, find_on, find}
use Rattle.laws.proofs.Order.{first_fits, first-nil, no_check}
use Rattle.std.specs.Prelude as std
use Rattle.std.specs.Prelude.{Ok, Err, Some, None, is_some}
use Rattle.format.specs.Reply.{refusal, refusal_of, by_number, answer_of}
use Rattle.format.specs.declared.Refusal as code
use Rattle.report.specs.declared.Report.{Report}
use Rattle.report.specs.Answers.{inspected}
use Rattle.report.specs.Found.{Accepted}
use Rattle.report.proofs.Outcomes.{judge_refused}

-- the six in their order, each by its test
pub six_listed : (s : Observation) (h b t v w d : Bool)
    → h ≡ is_present (value_at s 36) && data_missing s (37 ∷ [])
    → b ≡ is_present (value_at s 32) && data_missing s (31 ∷ [])
    → t ≡ is_present (value_at s 27) && data_missing s (28 ∷ 29 ∷ 30 ∷ 31 ∷ [])
    → v ≡ is_present (value_at s 21) && data_missing s (22 ∷ [])
    → w ≡ is_present (value_at s 19) && data_missing s (20 ∷ [])
    → d ≡ is_present (value_at s 17) && data_missing s (18 ∷ [])
    → (((((([] ++ cond d (17 ∷ []) []) ++ cond w (19 ∷ []) []) ++ cond v (21 ∷ []) []) ++ cond t (27 ∷ []) []) ++ cond b (32 ∷ []) []) ++ cond h (36 ∷ []) []) ≡ lost_indicators s
unfolding lost_indicators fields_where indicators
six_listed s h b t v w d eh eb et ev ew ed = rw (eh, eb, et, ev, ew, ed) (simp (append_assoc, append-nil))

-- one more behind them, in the first place that is free
pub put_behind : (l : List ℕ) (n i : ℕ) (t : Bool) → n < length l → t ≡ true → take (n + 1) (set l n i) ≡ take n l ++ cond t (i ∷ []) []
put_behind l n i t h e = rw (add-one, e) (take-suc-set l n i h)

pub none_behind : (xs : List ℕ) (i : ℕ) (t : Bool) → t ≡ false → xs ≡ xs ++ cond t (i ∷ []) []
none_behind xs i t e = rw e (sym (append-nil xs))

-- ---- the finding call

module _ (marks : FlagTable) (b out : List ℕ) (j : Accepted marks b) where
  find_by : (o : Option Refusal) → first (find_checks (observation_of b) out) ≡ o
      → find marks b out ≡ wrote_by o (counted Quantity.count (length (found (observation_of b))) ∷ []) (found (observation_of b)) out
  unfolding find
  find_by o e = rw (j, e)

  -- an output that is too short
  pub find-short : (xs : List ℕ) → xs ≡ found (observation_of b) → length out < length xs → record { answer = refusal 13 0; out = out } ≡ find marks b out
  unfolding find_checks
  find-short xs is h = sym (find_by (some (record { number = 13; place = 0 })) (first_fits _ [] (rw (← is) (lt-ltb (length out) (length xs) h))))

  -- all else
  pub find_done : (xs o : List ℕ) (n : ℕ) → xs ≡ found (observation_of b) → length xs ≡ n → n ≤ length out → o ≡ over xs out
      → record { answer = Answer.accepted (counted Quantity.count n ∷ []); out = o } ≡ find marks b out
  unfolding find_checks
  find_done xs o n is long h e =
      let f = find_by none (no_check _ [] (rw (← is) (le-ltb (length out) (length xs) (omega arith))) first-nil) in
      ap₂ (λ (m : ℕ) (x : List ℕ). record { answer = Answer.accepted (counted Quantity.count m ∷ []); out = x }) (sym long ∙ ap length is) (e ∙ ap (λ (l : List ℕ). over l out) is) ∙ sym f

-- a refused report
pub find_refused : (marks : FlagTable) (b out : List ℕ) (i : ℕ) (e : code.Refusal) → by_number {T = Report} (Err e) ≡ inspected marks b i
    → record { answer = answer_of (Err e); out = out } ≡ find marks b out
unfolding find
find_refused marks b out i e is = ap (λ (v : Verdict). find_on v out) (sym (judge_refused marks b i (refusal_of e) is))

-- where attachment 5 stands, and where it does not
pub found_hidden : (s : Observation) → stands 5 s.attachments ≡ true → [] ≡ found s
unfolding found
found_hidden s e = rw e

pub found-shown : (s : Observation) (xs : List ℕ) → stands 5 s.attachments ≡ false → xs ≡ lost_indicators s → xs ≡ found s
unfolding found
found-shown s xs e is = rw e is

-- whether it was found to stand
pub some_is : {T : Type 0} (x : std.Option T) → is_some x ≡ true → (h : T) × (x ≡ Some h)
some_is None e = absurd (cc)
some_is (Some h) e = (h, refl)

pub none_is : {T : Type 0} (x : std.Option T) → is_some x ≡ false → x ≡ None
none_is None e = refl
none_is (Some h) e = absurd (cc)
