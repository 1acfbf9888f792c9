-- `replay::fetch_text` meets its contract.
-- Assumes nothing.
use Prim.Native.Nat.{ℕ}
use native.Mathlib.Omega.{arith}
use mathlib.Core.Path.{refl, ap, ◌∙◌}
use mathlib.Core.List.{List}
use Rattle.format.specs.Calls as call
use Rattle.format.specs.Calls.{Call, outputs_of}
use Rattle.script.specs.Script.{kinds}
use Rattle.script.proofs.Replay.{turn_cut, second_cut, outputs_full, turn_outputs}
use Rattle.replay.specs.Counts.{left_by, after_entry}
use Rattle.replay.proofs.fetch_text.Goals as goal

abbrev call_of : List ℕ → List ℕ → Call
call_of d e = call.fetches (call.fetch_text d e)

pub returns-in_err-middle : goal.returns-in_err-middle
unfolding kinds
returns-in_err-middle c =
    ap (left_by _ _) c.from_residual.ensures ∙ turn_cut _ _ c.args.script.now _ 11 _ c.requires.of_kind refl (omega (arith, c.in_err-middle.ensures))

pub returns-in_err-end : goal.returns-in_err-end
unfolding kinds
returns-in_err-end c =
    let args = c.args in
    ap (left_by _ _) c.from_residual-in_err-end.ensures
    ∙ second_cut args.table.now args.buffer.now args.script.now args.log.now 11 _ 0 call_of c.requires.of_kind refl c.in_ok-middle.ensures.1 c.in_err-end.ensures

pub returns-then-log-to : goal.returns-then-log-to
unfolding kinds outputs_of
returns-then-log-to c =
    let args = c.args in
    let e = c.in_ok-end.ensures in
    outputs_full args.table.now args.buffer.now args.script.now args.log.now 11 _ _ call_of c.requires.of_kind refl c.in_ok-middle.ensures.1 e.1 e.0
    (λ d e. refl) c.if-log-to.true

pub returns : goal.returns
unfolding kinds outputs_of
returns c =
    let args = c.args in
    let e = c.in_ok-end.ensures in
    let both = c.fetch_both-reply.ensures in
    ap (after_entry _ _) c.answered.ensures.1
    ∙ turn_outputs args.table.now args.buffer.now args.script.now args.log.now 11 _ _ call_of c.requires.of_kind refl c.in_ok-middle.ensures.1 e.1 e.0
    (λ d e. refl) _ _ _ c.if-log-to.false both.0 both.1 c.answered.ensures.0
