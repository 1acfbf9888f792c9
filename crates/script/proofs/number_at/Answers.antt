-- `script::number_at` meets its contract.
-- Assumes nothing.
use mathlib.Core.Path.{◌∙◌}
use Rattle.script.proofs.Numbers.{read_number}
use Rattle.script.proofs.number_at.Goals as goal

pub returns : goal.returns
returns c = c.from_be_bytes.ensures ∙ read_number c.args.s.now c.args.i c.requires
