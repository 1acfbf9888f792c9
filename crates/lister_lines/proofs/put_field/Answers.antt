-- `lister_lines::put_field` meets its contract.
-- Assumes nothing.
use Rattle.std.proofs.Common.{rules, ◌≡◌, [], ◌∷◌, ◌++◌, ℤ, to_z, of_z, w64, refl, ap, subst, sym, ◌∙◌}
use Rattle.format.specs.Field.{field_at}
use Rattle.format.specs.Lister.{decimal}
use Rattle.format.specs.declared.Scaled.{Scaled}
use Rattle.lister_lines.specs.Lines.{Room}
use Rattle.lister_lines.proofs.Puts.{room_front, room_behind, puts_both}
use Rattle.lister_lines.proofs.Lines.{field-line, no_line}
use Rattle.lister_lines.proofs.put_field.Goals as goal

pub returns-then-code-eq0 : goal.returns-then-code-eq0
returns-then-code-eq0 c = no_line c.args.field.number (field_at c.args.field.number) c.args.code _ c.if-code-eq0.true

pub put_number-requires : goal.put_number-requires
put_number-requires c =
    let whole = field-line c.args.field.number (field_at c.args.field.number) c.args.code _ c.if-code-eq0.false refl in
    room_front c.args.lines.now (decimal c.args.field.number ++ (32 ∷ [])) _ (subst (Room c.args.lines.now) whole c.requires)

pub put_signed-requires : goal.put_signed-requires
put_signed-requires c =
    let value : ℤ = to_z w64 (of_z w64 c.scaled.result.0) in
    let held : value ≡ c.scaled.result.0 = search rules in
    let whole = field-line c.args.field.number (field_at c.args.field.number) c.args.code value c.if-code-eq0.false (held ∙ ap (λ (v : Scaled). v.0) c.scaled.ensures) in
    room_behind c.args.lines.now (decimal c.args.field.number ++ (32 ∷ [])) _ (subst (Room c.args.lines.now) whole c.requires) _ c.put_number.ensures

pub returns : goal.returns
returns c =
    let value : ℤ = to_z w64 (of_z w64 c.scaled.result.0) in
    let held : value ≡ c.scaled.result.0 = search rules in
    let whole = field-line c.args.field.number (field_at c.args.field.number) c.args.code value c.if-code-eq0.false (held ∙ ap (λ (v : Scaled). v.0) c.scaled.ensures) in
    puts_both _ _ _ _ _ c.put_number.ensures c.put_signed.ensures ∙ ap (λ l. c.args.lines.now ++ l) (sym whole)
