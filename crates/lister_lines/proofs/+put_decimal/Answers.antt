-- `lister_lines::put_decimal` meets its contract.
-- Assumes nothing.
use Rattle.std.proofs.Common.{arith, ◌+◌, ◌/◌, ◌%◌, ◌<◌, [], ◌∷◌, ◌++◌, length, ap, subst, sym, ◌∙◌}
use Rattle.format.specs.Lister.{decimal}
use Rattle.lister_lines.specs.Lines.{Room}
use Rattle.lister_lines.proofs.Decimal.{decimal-one, decimal_more}
use Rattle.lister_lines.proofs.Puts.{room_front, room_behind, puts_both}
use Rattle.lister_lines.proofs.+put_decimal.Goals as goal

pub push-requires : goal.push-requires
push-requires t c = omega (arith, c.requires, ap length (decimal-one c.args.number c.if-number-lt10.true))

pub returns-then-number-lt10 : goal.returns-then-number-lt10
returns-then-number-lt10 t c = c.push.ensures ∙ ap (λ l. c.args.lines.now ++ l) (sym (decimal-one c.args.number c.if-number-lt10.true))

pub put_decimal-requires : goal.put_decimal-requires
put_decimal-requires t c =
    let n = c.args.number in
    let lines = c.args.lines.now in
    let less : n / 10 < t = omega (arith, c.decreases, c.if-number-lt10.false) in
    (less, room_front lines (decimal (n / 10)) ((48 + n % 10) ∷ []) (subst (Room lines) (decimal_more n c.if-number-lt10.false) c.requires))

pub push-requires-2 : goal.push-requires-2
push-requires-2 t c =
    let n = c.args.number in
    let lines = c.args.lines.now in
    room_behind lines (decimal (n / 10)) ((48 + n % 10) ∷ []) (subst (Room lines) (decimal_more n c.if-number-lt10.false) c.requires) _ c.put_decimal.ensures

pub returns : goal.returns
returns t c =
    puts_both _ _ _ _ _ c.put_decimal.ensures c.push-2.ensures
    ∙ ap (λ l. c.args.lines.now ++ l) (sym (decimal_more c.args.number c.if-number-lt10.false))
