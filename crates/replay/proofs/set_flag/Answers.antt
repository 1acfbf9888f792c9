-- `replay::set_flag` meets its contract.
-- Assumes nothing.
use Prim.Native.Nat.{ℕ}
use mathlib.Core.Path.{refl, ap, ap₂, ◌∙◌}
use Rattle.format.specs.Calls as call
use Rattle.format.specs.Calls.{outputs_of}
use Rattle.script.specs.Script.{kinds}
use Rattle.script.proofs.Replay.{turn_cut, turn_plain}
use Rattle.replay.specs.Counts.{left_by, after_entry}
use Rattle.replay.proofs.set_flag.Goals as goal

pub returns-in_err-value : goal.returns-in_err-value
unfolding kinds
returns-in_err-value c =
    ap (left_by _ _) c.from_residual.ensures ∙ turn_cut _ _ c.args.script.now _ 5 _ c.requires.starts.of_kind refl c.in_err-value.ensures

pub returns : goal.returns
unfolding kinds outputs_of
returns c =
    let pre = c.requires in
    let value = c.in_ok-value.ensures in
    ap (after_entry _ _) c.answered.ensures.1
    ∙ turn_plain _ _ c.args.script.now _ 5 _ _ _ _ _ _ _ pre.starts.of_kind refl refl c.set_flag-reply.ensures.0 c.answered.ensures.0
    (ap₂ (λ (x y : ℕ). call.edits (call.set_flag x y)) pre.number value.1) refl value.0 pre.starts.room
