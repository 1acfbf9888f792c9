-- FORMAT 6.2 and 6.3: what a call, and a list of calls, leaves of the buffer and of the outputs; the claim about a list.
use Rattle.std.specs.Prelude.{ℕ, ◌-◌, max, List, ◌++◌, map, length, drop, replicate}
use Rattle.format.specs.Order.{Refusal}
use Rattle.format.specs.Flags.{FlagTable}
use Rattle.format.specs.Observation.{Observation, packing, size}
use Rattle.format.specs.Report.{Verdict, refused, accepted, judge}
use Rattle.format.specs.Calls.{Call, Reading, reads, Answer, outputs_of, step}
use Rattle.format.specs.Machine.{Moved, Course, course}

abbrev pub zeros : ℕ → List ℕ
zeros n = replicate n 0

-- the buffer b, whose report ended at e, with the packing of s at its front: 0 from there to e, and b behind both ends
unfoldable pub layout : List ℕ → ℕ → Observation → List ℕ
layout b e s = packing s ++ (zeros (e - size s) ++ drop (max e (size s)) b)

-- what a call leaves: its answer, the buffer, its outputs
pub record After : Type 0 where
  pub answer : Answer
  pub buffer : List ℕ
  pub outs : List (List ℕ)

abbrev pub after : Answer → List ℕ → List (List ℕ) → After
after a b outs = record { answer = a; buffer = b; outs = outs }

-- what a step leaves of the buffer b, whose report ended at e; refused, it leaves b
abbrev pub buffer_after : Answer → List ℕ → ℕ → Observation → List ℕ
buffer_after (Answer.refused r) b e s = b
buffer_after (Answer.accepted gs) b e s = layout b e s

-- the report is judged before the call
abbrev pub effect_on : FlagTable → Verdict → List ℕ → Call → After
effect_on marks (refused r) b c = after (Answer.refused r) b (outputs_of c)
effect_on marks (accepted s) b c =
    let t = step marks (length b) s c in
    after t.answer (buffer_after t.answer b (size s) t.observation) t.outs

unfoldable pub effect : FlagTable → List ℕ → Call → After
effect marks b c = effect_on marks (judge marks b) b c

-- what an accepted answer of a set or clear has to be: that of the read r on the same buffer. Of a refusal it says nothing
abbrev pub as_read : FlagTable → List ℕ → Reading → Answer → Answer
as_read marks b r (Answer.refused x) = Answer.refused x
as_read marks b r (Answer.accepted gs) = (effect marks b (reads r)).answer

-- ---- a list of calls

-- an answer whole: with what the call leaves of its outputs
pub record Shown : Type 0 where
  pub answer : Answer
  pub outs : List (List ℕ)

abbrev pub shown : Answer → List (List ℕ) → Shown
shown a outs = record { answer = a; outs = outs }

-- the calls one after the other under one table, each on the buffer that the one before left: the state is the buffer
abbrev pub performing : FlagTable → List ℕ → Call → Moved (List ℕ) Shown
performing marks b c = let a = effect marks b c in record { answer = shown a.answer a.outs; state = a.buffer }

unfoldable pub calls : FlagTable → List ℕ → List Call → Course (List ℕ) Shown
calls marks b cs = course (performing marks) b cs

-- the plain machine's state in a list: its observation, and the longest end reached
pub record Standing : Type 0 where
  pub observation : Observation
  pub longest : ℕ

abbrev pub standing : Observation → ℕ → Standing
standing s e = record { observation = s; longest = e }

-- its step under a table, on a buffer of n bytes
abbrev pub stepping : FlagTable → ℕ → Standing → Call → Moved Standing Shown
stepping marks n m c =
    let t = step marks n m.observation c in
    record { answer = shown t.answer t.outs; state = standing t.observation (max m.longest (size t.observation)) }

unfoldable pub run : FlagTable → ℕ → Standing → List Call → Course Standing Shown
run marks n m cs = course (stepping marks n) m cs

-- the packing of the machine's observation, 0 to the longest end, and the bytes of the start
abbrev pub run_on : List ℕ → Course Standing Shown → Course (List ℕ) Shown
run_on b r = record { answers = r.answers; state = layout b r.state.longest r.state.observation }

abbrev pub refusals : Refusal → List Call → List Shown
refusals r cs = map (λ (c : Call). shown (Answer.refused r) (outputs_of c)) cs

-- demand 3 (FORMAT 10), what is claimed of a list: on an accepted report the machine's run, begun on that report's observation; on any other
-- buffer each call gives the refusal, and no byte changes. That the calls do what is claimed is the theorem of crate laws
abbrev pub claim_on : FlagTable → Verdict → List ℕ → List Call → Course (List ℕ) Shown
claim_on marks (refused r) b cs = record { answers = refusals r cs; state = b }
claim_on marks (accepted s) b cs = run_on b (run marks (length b) (standing s (size s)) cs)

unfoldable pub claim : FlagTable → List ℕ → List Call → Course (List ℕ) Shown
claim marks b cs = claim_on marks (judge marks b) b cs
