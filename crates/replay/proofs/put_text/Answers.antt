-- `replay::put_text` meets its contract.
-- Assumes nothing.
use Prim.Native.Nat.{ℕ}
use native.Mathlib.Omega.{arith}
use mathlib.Core.Path.{refl, ap, ap₂, ◌∙◌}
use mathlib.Core.List.{List}
use Rattle.format.specs.Calls as call
use Rattle.format.specs.Calls.{outputs_of}
use Rattle.script.specs.Script.{kinds}
use Rattle.script.proofs.Replay.{turn_cut, turn_plain, second_cut, out_is, origins_are, texts_taken, texts_whole}
use Rattle.replay.specs.Counts.{left_by, after_entry}
use Rattle.replay.proofs.put_text.Goals as goal

pub returns-in_err-middle : goal.returns-in_err-middle
unfolding kinds
returns-in_err-middle c =
    ap (left_by _ _) c.from_residual.ensures ∙ turn_cut _ _ c.args.script.now _ 10 _ c.requires.of_kind refl (omega (arith, c.in_err-middle.ensures))

pub returns-in_err-end : goal.returns-in_err-end
unfolding kinds
returns-in_err-end c =
    let args = c.args in
    ap (left_by _ _) c.from_residual-in_err-end.ensures
    ∙ second_cut args.table.now args.buffer.now args.script.now args.log.now 10 _ 0 (λ (d e : List ℕ). call.edits (call.put_text d e)) c.requires.of_kind refl
    c.in_ok-middle.ensures.1 c.in_err-end.ensures

pub returns : goal.returns
unfolding kinds outputs_of
returns c =
    let args = c.args in
    let pre = c.requires in
    let f : List ℕ → List ℕ → call.Call = λ d e. call.edits (call.put_text d e) in
    let m = c.in_ok-middle.ensures.1 in
    let e = c.in_ok-end.ensures in
    ap (after_entry _ _) c.answered.ensures.1
    ∙ turn_plain _ _ args.script.now _ 10 _ _ _ _ _ _ _ pre.of_kind refl refl c.put_text-reply.ensures.0 c.answered.ensures.0
    (ap₂ f (out_is args.table.now args.buffer.now args.script.now args.log.now 10 _ _ f pre.of_kind refl m e.1 e.0)
    (origins_are args.table.now args.buffer.now args.script.now args.log.now 10 _ _ f pre.of_kind refl m e.1 e.0))
    (texts_taken args.table.now args.buffer.now args.script.now args.log.now 10 _ _ f pre.of_kind refl m e.1 e.0)
    (texts_whole args.table.now args.buffer.now args.script.now args.log.now 10 _ _ f pre.of_kind refl m e.1 e.0) pre.room
