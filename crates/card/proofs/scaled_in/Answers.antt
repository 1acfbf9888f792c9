-- `card::scaled_in` meets its contract: the sum of a coded number and a base fits 64 bits.
-- Assumes nothing.
use Prim.Native.Nat.{◌<◌}
use Rattle.card.proofs.Scale.{scaled_fits, scaled_is}
use borrow.Author.Rules.{rules}
use Rattle.card.proofs.scaled_in.Goals as goal

pub overflow_add-result : goal.overflow_add-result
overflow_add-result c =
    let small : c.args.code.0 < 65536 = search rules in
    scaled_fits c.args.code c.args.row c.base.result small c.base.ensures

pub returns : goal.returns
returns c =
    let small : c.args.code.0 < 65536 = search rules in
    scaled_is c.args.code c.args.row c.base.result small c.base.ensures
