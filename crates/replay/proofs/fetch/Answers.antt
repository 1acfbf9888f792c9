-- `replay::fetch` meets its contract.
-- Assumes nothing.
use Prim.Native.Nat.{ℕ}
use native.Mathlib.Omega.{arith}
use mathlib.Core.Path.{refl, ap, ◌∙◌}
use mathlib.Core.List.{List}
use Rattle.format.specs.Calls as call
use Rattle.format.specs.Calls.{Call, outputs_of}
use Rattle.script.specs.Script.{kinds, number_at}
use Rattle.script.proofs.Replay.{turn_cut, output_full, turn_output}
use Rattle.replay.specs.Counts.{left_by, after_entry}
use Rattle.replay.proofs.fetch.Goals as goal

pub returns-in_err-end : goal.returns-in_err-end
unfolding kinds
returns-in_err-end c =
    ap (left_by _ _) c.from_residual.ensures ∙ turn_cut _ _ c.args.script.now _ 8 _ c.requires.starts.of_kind refl c.in_err-end.ensures

pub returns-then-log-lent : goal.returns-then-log-lent
unfolding kinds outputs_of
returns-then-log-lent c =
    let s = c.args.script.now in
    let f : List ℕ → Call = λ d. call.fetches (call.fetch (number_at s 1) d) in
    let e = c.in_ok-end.ensures in
    output_full _ _ s _ 8 9 _ f f c.requires.starts.of_kind refl (λ d. refl) e.1 e.0 (omega (arith, c.if-log-lent.true, c.requires.starts.room))

pub returns : goal.returns
unfolding kinds outputs_of
returns c =
    let s = c.args.script.now in
    let pre = c.requires in
    let e = c.in_ok-end.ensures in
    ap (after_entry _ _) c.answered.ensures.1
    ∙ turn_output _ _ s c.args.log.now 8 9 _ (λ (d : List ℕ). call.fetches (call.fetch (number_at s 1) d)) (λ (d : List ℕ). call.fetches (call.fetch c.args.number d))
    pre.starts.of_kind refl (λ d. refl) e.1 e.0 _ _ _ _ (omega (arith, c.if-log-lent.false, pre.starts.room))
    (ap {B = List ℕ → Call} (λ (x : ℕ) (d : List ℕ). call.fetches (call.fetch x d)) pre.number) c.copy.ensures
    c.fetch-reply.ensures c.answered.ensures.0
