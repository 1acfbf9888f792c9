-- `lister_lines::put_signed` meets its contract.
-- Assumes nothing.
use Rattle.std.proofs.Common.{rules, ◌≡◌, [], ◌∷◌, ◌++◌, to_z, of_z, w64, refl, ap, subst, sym, ◌∙◌}
use Rattle.lister_lines.specs.Lines.{Room}
use Rattle.lister_lines.proofs.Decimal.{negative_line, positive_line}
use Rattle.lister_lines.proofs.Puts.{room_front, room_behind, puts_both}
use Rattle.lister_lines.proofs.put_signed.Goals as goal

pub push-requires : goal.push-requires
push-requires c =
    let held : to_z w64 (of_z w64 c.args.number) ≡ c.args.number = search rules in
    let negative = negative_line c.args.number _ _ held refl c.if-number-lt0.true in
    room_front c.args.lines.now (45 ∷ []) _ (subst (Room c.args.lines.now) negative c.requires)

pub put_number-requires : goal.put_number-requires
put_number-requires c =
    let held : to_z w64 (of_z w64 c.args.number) ≡ c.args.number = search rules in
    let negative = negative_line c.args.number _ _ held c.unsigned_abs.ensures.value c.if-number-lt0.true in
    room_behind c.args.lines.now (45 ∷ []) _ (subst (Room c.args.lines.now) negative c.requires) _ c.push.ensures

pub returns-then-number-lt0 : goal.returns-then-number-lt0
returns-then-number-lt0 c =
    let held : to_z w64 (of_z w64 c.args.number) ≡ c.args.number = search rules in
    let negative = negative_line c.args.number _ _ held c.unsigned_abs.ensures.value c.if-number-lt0.true in
    puts_both _ _ _ _ _ c.push.ensures c.put_number.ensures ∙ ap (λ l. c.args.lines.now ++ l) (sym negative)

pub put_number-requires-2 : goal.put_number-requires-2
put_number-requires-2 c =
    let held : to_z w64 (of_z w64 c.args.number) ≡ c.args.number = search rules in
    subst (Room c.args.lines.now) (positive_line c.args.number _ _ held c.unsigned_abs-2.ensures.value c.if-number-lt0.false) c.requires

pub returns : goal.returns
returns c =
    let held : to_z w64 (of_z w64 c.args.number) ≡ c.args.number = search rules in
    let positive = positive_line c.args.number _ _ held c.unsigned_abs-2.ensures.value c.if-number-lt0.false in
    c.put_number-2.ensures ∙ ap (λ l. c.args.lines.now ++ l) (sym positive)
