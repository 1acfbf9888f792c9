-- `lister_lines::put_lettered` meets its contract.
-- Assumes nothing.
use Rattle.std.proofs.Common.{[], ◌∷◌, ◌++◌, ap, subst, sym, ◌∙◌}
use Rattle.lister_lines.specs.Lines.{Room}
use Rattle.lister_lines.proofs.Puts.{room_behind, puts_both}
use Rattle.lister_lines.proofs.Lines.{lettered-line}
use Rattle.lister_lines.proofs.put_lettered.Goals as goal

pub put_number-requires : goal.put_number-requires
put_number-requires c =
    let whole = lettered-line c.args.letter.now c.args.number in
    room_behind c.args.lines.now (c.args.letter.now ++ (32 ∷ [])) _ (subst (Room c.args.lines.now) whole c.requires) _
    (puts_both _ _ _ _ _ c.push_str.ensures c.push_str-2.ensures)

pub returns : goal.returns
returns c =
    let whole = lettered-line c.args.letter.now c.args.number in
    puts_both _ _ _ _ _ (puts_both _ _ _ _ _ c.push_str.ensures c.push_str-2.ensures) c.put_number.ensures
    ∙ ap (λ l. c.args.lines.now ++ l) (sym whole)
