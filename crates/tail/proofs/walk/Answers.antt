-- `tail::walk` meets its contract: what is still to be walked gives the answer.
-- Assumes nothing.
use mathlib.Core.Path.{sym, ap, ◌∙◌}
use native.Mathlib.Omega.{arith}
use Rattle.format.specs.Reply.{by_number}
use Rattle.tail.proofs.Turns.{walk_pass, walk_end}
use Rattle.tail.proofs.walk.Goals as goal

pub passed-state-requires : goal.passed-state-requires
passed-state-requires c = walk_pass _ _ _ _ _ _ _ c.loop-index.invariant _ (sym c.look.ensures ∙ ap by_number c.in_ok-header.was)

pub returns : goal.returns
returns c = walk_end _ _ _ _ _ _ _ c.loop-index.invariant (omega arith)
