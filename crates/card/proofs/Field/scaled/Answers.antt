-- `card::Field::scaled` meets its contract.
-- Assumes nothing.
use mathlib.Core.Path.{ap, ◌∙◌}
use Rattle.format.specs.Field.{Field, scaled_of}
use Rattle.card.proofs.Rows.{field_row}
use Rattle.card.proofs.Field.scaled.Goals as goal

pub returns : goal.returns
returns c =
    let f = c.args.self in
    c.scaled_in.ensures ∙ ap (λ (x : Field). scaled_of x c.args.code) (field_row f.number f.row f.row_of f.low f.high)
