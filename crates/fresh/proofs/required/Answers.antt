-- `fresh::required` meets its contract.
-- Assumes nothing.
use mathlib.Core.Path.{ap, ◌∙◌}
use Rattle.format.specs.Reply.{by_number}
use Rattle.fresh.proofs.Five.{required_is}
use Rattle.fresh.proofs.required.Goals as goal

pub returns : goal.returns
returns c = ap by_number c.ok_or.ensures.value ∙ required_is _ _ _ (rw c.at.ensures at c.coded.ensures)
