-- `replay::set_field` meets its contract.
-- Assumes nothing.
use mir.ValLaws.{to_z-of_z}
use mir.Syntax.{w64}
use Prim.Native.Nat.{ℕ}
use mathlib.Core.Path.{refl, ap, ap₂, ◌∙◌}
use lib.IntN.{ℤ}
use Rattle.numbers.specs.Words.{signed}
use Rattle.format.specs.Calls as call
use Rattle.format.specs.Calls.{outputs_of}
use Rattle.script.specs.Script.{kinds}
use Rattle.script.proofs.Replay.{turn_cut, turn_plain}
use Rattle.replay.specs.Counts.{left_by, after_entry}
use borrow.Author.Rules.{rules}
use Rattle.replay.proofs.set_field.Goals as goal

pub returns-in_err-second : goal.returns-in_err-second
unfolding kinds
returns-in_err-second c =
    ap (left_by _ _) c.from_residual.ensures ∙ turn_cut _ _ c.args.script.now _ 2 _ c.requires.starts.of_kind refl c.in_err-second.ensures

pub returns : goal.returns
unfolding kinds outputs_of
returns c =
    let pre = c.requires in
    let second = c.in_ok-second.ensures in
    ap (after_entry _ _) c.answered.ensures.1
    ∙ turn_plain _ _ c.args.script.now _ 2 _ _ _ _ _ _ _ pre.starts.of_kind refl refl c.set_field-reply.ensures.0 c.answered.ensures.0
    (ap₂ (λ (x : ℕ) (z : ℤ). call.edits (call.set_field x (record { 0 = z }))) pre.number
    (to_z-of_z w64 c.signed_of.result (search rules) ∙ c.signed_of.ensures ∙ ap signed second.1))
    refl second.0 pre.starts.room
