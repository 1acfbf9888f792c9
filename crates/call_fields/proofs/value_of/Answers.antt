-- `call_fields::value_of` meets its contract.
-- Assumes nothing.
use mathlib.Core.Path.{ap, ◌∙◌}
use mathlib.Core.List.{[], ◌∷◌}
use Rattle.format.specs.Field.{Field, entry_of}
use Rattle.format.specs.Calls.{value_given}
use Rattle.card.proofs.Rows.{field_row}
use Rattle.call_fields.proofs.value_of.Goals as goal

pub returns : goal.returns
returns c =
    let f = c.args.field in
    c.value_in.ensures ∙ ap (λ (x : Field). value_given (entry_of x c.args.code) ∷ []) (field_row f.number c.row.result c.row.ensures f.low f.high)
