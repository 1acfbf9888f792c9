-- `tail::walk_tail` meets its contract: what is still to be walked gives the answer, and what is still to be counted the count.
-- Assumes nothing.
use mathlib.Core.Path.{sym, ap, ◌∙◌}
use native.Mathlib.Omega.{arith}
use Rattle.format.specs.Reply.{by_number}
use Rattle.nibble.specs.declared.Header.{Header}
use Rattle.tail.proofs.Turns.{walk_pass}
use Rattle.tail.proofs.Checks.{passes}
use Rattle.tail.proofs.Count.{count_more, count_end}
use Rattle.tail.proofs.walk_tail.Goals as goal

pub passed-state-requires : goal.passed-state-requires
passed-state-requires c = walk_pass _ _ _ _ _ _ _ c.loop-state.invariant.walking _ (sym c.look.ensures ∙ ap by_number c.in_ok-header.was)

pub loop-state-smaller : goal.loop-state-smaller
loop-state-smaller c =
    let p = passes _ _ _ _ _ c.in_ok-header.header (sym c.look.ensures ∙ ap by_number c.in_ok-header.was) in
    rw c.passed-state.ensures (omega (arith, ap (λ (h : Header). h.body.at) p.read))

pub loop-state-preserved : goal.loop-state-preserved
loop-state-preserved c =
    rw c.passed-state.ensures (count_more _ _ _ _ c.loop-state.invariant c.loop-state-test.true _ (sym c.look.ensures ∙ ap by_number c.in_ok-header.was))

pub returns : goal.returns
returns c = count_end _ _ _ _ c.loop-state.invariant c.loop-state-test.false
