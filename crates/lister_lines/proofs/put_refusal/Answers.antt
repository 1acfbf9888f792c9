-- `lister_lines::put_refusal` meets its contract.
-- Assumes nothing.
use Rattle.std.proofs.Common.{[], ◌∷◌, ◌++◌, ap, subst, sym, ◌∙◌}
use Rattle.format.specs.Lister.{decimal}
use Rattle.lister_lines.specs.Lines.{Room}
use Rattle.lister_lines.proofs.Puts.{room_front, room_behind, puts_both}
use Rattle.lister_lines.proofs.Lines.{refusal-line}
use Rattle.lister_lines.proofs.put_refusal.Goals as goal

pub push_str-requires : goal.push_str-requires
push_str-requires c =
    let whole = refusal-line c.args.number c.args.place in
    room_front c.args.lines.now (82 ∷ 32 ∷ []) _ (subst (Room c.args.lines.now) whole c.requires)

pub put_number-requires : goal.put_number-requires
put_number-requires c =
    let whole = refusal-line c.args.number c.args.place in
    let behind =
    room_behind c.args.lines.now (82 ∷ 32 ∷ []) _ (subst (Room c.args.lines.now) whole c.requires) _ c.push_str.ensures in
    rw c.from.ensures (room_front c.push_str.new.self (decimal c.args.number ++ (32 ∷ [])) _ behind)

pub put_number-requires-2 : goal.put_number-requires-2
put_number-requires-2 c =
    let whole = refusal-line c.args.number c.args.place in
    let behind =
    room_behind c.args.lines.now (82 ∷ 32 ∷ []) _ (subst (Room c.args.lines.now) whole c.requires) _ c.push_str.ensures in
    room_behind c.push_str.new.self (decimal c.args.number ++ (32 ∷ [])) _ behind _ (rw c.from.ensures at c.put_number.ensures)

pub returns : goal.returns
returns c =
    let number = decimal c.args.number ++ (32 ∷ []) in
    let place = decimal c.args.place ++ (10 ∷ []) in
    puts_both c.args.lines.now _ _ (82 ∷ 32 ∷ []) (number ++ place) c.push_str.ensures
    (puts_both _ _ _ number place (rw c.from.ensures at c.put_number.ensures) c.put_number-2.ensures)
    ∙ ap (λ l. c.args.lines.now ++ l) (sym (refusal-line c.args.number c.args.place))
