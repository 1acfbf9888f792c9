-- `card::Field::coded` meets its contract.
-- Assumes nothing.
use mathlib.Core.Path.{ap, ◌∙◌}
use Rattle.format.specs.Field.{Field}
use Rattle.card.specs.Answers.{coding_of}
use Rattle.card.proofs.Rows.{field_row}
use Rattle.card.proofs.Field.coded.Goals as goal

pub returns : goal.returns
returns c =
    let f = c.args.self in
    c.coded_in.ensures ∙ ap (λ (x : Field). coding_of x c.args.value) (field_row f.number f.row f.row_of f.low f.high)
