-- `replay::put` meets its contract.
-- Assumes nothing.
use Prim.Native.Nat.{ℕ}
use mathlib.Core.Path.{refl, ap, ap₂, ◌∙◌}
use mathlib.Core.List.{List}
use Rattle.format.specs.Calls as call
use Rattle.format.specs.Calls.{outputs_of}
use Rattle.script.specs.Script.{kinds}
use Rattle.script.proofs.Replay.{turn_cut, turn_plain, part-counted}
use Rattle.replay.specs.Counts.{left_by, after_entry}
use Rattle.replay.proofs.put.Goals as goal

pub returns-in_err-end : goal.returns-in_err-end
unfolding kinds
returns-in_err-end c =
    ap (left_by _ _) c.from_residual.ensures ∙ turn_cut _ _ c.args.script.now _ 7 _ c.requires.starts.of_kind refl c.in_err-end.ensures

pub returns : goal.returns
unfolding kinds outputs_of
returns c =
    let s = c.args.script.now in
    let pre = c.requires in
    let e = c.in_ok-end.ensures in
    ap (after_entry _ _) c.answered.ensures.1
    ∙ turn_plain _ _ s _ 7 _ _ _ _ _ _ _ pre.starts.of_kind refl refl c.put-reply.ensures c.answered.ensures.0
    (ap₂ (λ (x : ℕ) (d : List ℕ). call.edits (call.put x d)) pre.number (part-counted s 9 _ e.1)) e.1 (rw e.1 at e.0) pre.starts.room
