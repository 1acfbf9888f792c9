-- `card::Field::code` meets its contract: a field stands at its offset.
-- Assumes nothing.
use mathlib.Core.Path.{ap₂, ◌∙◌}
use Rattle.format.specs.Bits.{bit_field}
use Rattle.card.proofs.Numbers.{code_there}
use Rattle.card.proofs.Field.code.Goals as goal

pub returns : goal.returns
returns c =
    let f = c.args.self in
    c.read.ensures.0 ∙ ap₂ (bit_field c.args.buffer.now) c.place.ensures c.width.ensures ∙ code_there _ f.number f.low f.high
