-- `replay::perform` meets its contract.
-- Assumes nothing.
use Prim.Native.Nat.{ℕ}
use mathlib.Core.Path.{refl, ap, ◌∙◌}
use Rattle.format.specs.Calls as call
use Rattle.format.specs.Calls.{outputs_of}
use Rattle.script.specs.Script.{kinds}
use Rattle.script.proofs.Scripts.{turn-idle, next_none}
use Rattle.script.proofs.Replay.{next_nowhere, turn_plain, entry-rest}
use Rattle.replay.specs.Counts.{left_by, after_entry, kind_number}
use Rattle.replay.proofs.perform.Goals as goal

pub returns-then-script-lt-ENTRY : goal.returns-then-script-lt-ENTRY
returns-then-script-lt-ENTRY c =
    let s = c.args.script.now in
    turn-idle _ _ s _ (next_nowhere _ s c.then-script-lt-ENTRY.either)

pub returns-in_err-kind : goal.returns-in_err-kind
returns-in_err-kind c =
    let s = c.args.script.now in
    ap (left_by _ _) c.from_residual.ensures ∙ turn-idle _ _ s _ (next_none _ s (entry-rest s (c.in_err-kind.ensures s)))

pub returns-in-ReadField : goal.returns-in-ReadField
unfolding kinds outputs_of
returns-in-ReadField c =
    ap (after_entry _ _) c.answered.ensures.1
    ∙ turn_plain _ _ c.args.script.now _ 1 _ _ _ _ _ _ _ (c.in_ok-kind.ensures ∙ ap kind_number c.in-ReadField.is) refl refl c.read_field.ensures c.answered.ensures.0
    (ap (λ (x : ℕ). call.reads (call.read_field x)) c.number_at-number.ensures) refl c.if-script-lt-ENTRY.false c.if-log-lt-ANSWER.false

pub returns-in-ClearField : goal.returns-in-ClearField
unfolding kinds outputs_of
returns-in-ClearField c =
    ap (after_entry _ _) c.answered-in-ClearField.ensures.1
    ∙ turn_plain _ _ c.args.script.now _ 3 _ _ _ _ _ _ _ (c.in_ok-kind.ensures ∙ ap kind_number c.in-ClearField.is) refl refl c.clear_field.ensures.0 c.answered-in-ClearField.ensures.0
    (ap (λ (x : ℕ). call.edits (call.clear_field x)) c.number_at-number.ensures) refl c.if-script-lt-ENTRY.false c.if-log-lt-ANSWER.false

pub returns-in-ReadFlag : goal.returns-in-ReadFlag
unfolding kinds outputs_of
returns-in-ReadFlag c =
    ap (after_entry _ _) c.answered-in-ReadFlag.ensures.1
    ∙ turn_plain _ _ c.args.script.now _ 4 _ _ _ _ _ _ _ (c.in_ok-kind.ensures ∙ ap kind_number c.in-ReadFlag.is) refl refl c.read_flag.ensures c.answered-in-ReadFlag.ensures.0
    (ap (λ (x : ℕ). call.reads (call.read_flag x)) c.number_at-number.ensures) refl c.if-script-lt-ENTRY.false c.if-log-lt-ANSWER.false

pub returns-in-ClearFlag : goal.returns-in-ClearFlag
unfolding kinds outputs_of
returns-in-ClearFlag c =
    ap (after_entry _ _) c.answered-in-ClearFlag.ensures.1
    ∙ turn_plain _ _ c.args.script.now _ 6 _ _ _ _ _ _ _ (c.in_ok-kind.ensures ∙ ap kind_number c.in-ClearFlag.is) refl refl c.clear_flag.ensures.0 c.answered-in-ClearFlag.ensures.0
    (ap (λ (x : ℕ). call.edits (call.clear_flag x)) c.number_at-number.ensures) refl c.if-script-lt-ENTRY.false c.if-log-lt-ANSWER.false

pub returns-in-Remove : goal.returns-in-Remove
unfolding kinds outputs_of
returns-in-Remove c =
    ap (after_entry _ _) c.answered-in-Remove.ensures.1
    ∙ turn_plain _ _ c.args.script.now _ 9 _ _ _ _ _ _ _ (c.in_ok-kind.ensures ∙ ap kind_number c.in-Remove.is) refl refl c.remove.ensures c.answered-in-Remove.ensures.0
    (ap (λ (x : ℕ). call.edits (call.remove x)) c.number_at-number.ensures) refl c.if-script-lt-ENTRY.false c.if-log-lt-ANSWER.false

pub returns-in-ClearWithIndicators : goal.returns-in-ClearWithIndicators
unfolding kinds outputs_of
returns-in-ClearWithIndicators c =
    ap (after_entry _ _) c.answered-in-ClearWithIndicators.ensures.1
    ∙ turn_plain _ _ c.args.script.now _ 12 _ _ _ _ _ _ _ (c.in_ok-kind.ensures ∙ ap kind_number c.in-ClearWithIndicators.is) refl refl c.clear.ensures.0 c.answered-in-ClearWithIndicators.ensures.0
    (ap (λ (x : ℕ). call.edits (call.clear_with_indicators x)) c.number_at-number.ensures) refl c.if-script-lt-ENTRY.false c.if-log-lt-ANSWER.false
