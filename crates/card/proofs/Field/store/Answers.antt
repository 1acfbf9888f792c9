-- `card::Field::store` meets its contract: a field stands at its offset.
-- Assumes nothing.
use Rattle.format.specs.Bits.{Bytes}
use Rattle.laws.proofs.Results.{bytes_in}
use Rattle.card.proofs.Numbers.{carded_field, code_lt}
use borrow.Author.Rules.{rules}
use Rattle.card.proofs.Field.store.Goals as goal

pub write-requires-clause-v_bound : goal.write-requires-clause-v_bound
write-requires-clause-v_bound c =
    let f = c.args.self in
    rw (c.from.ensures, c.width.ensures) (code_lt f.number c.args.code.0 f.low f.high c.requires.1)

pub returns : goal.returns
returns c =
    let f = c.args.self in
    let before : Bytes c.args.buffer.now = search rules in
    carded_field _ _ f.number _ before (bytes_in _ c.type_inv.buffer) c.requires.0 f.low f.high c.requires.1
    (rw (c.place.ensures, c.width.ensures, c.from.ensures) at c.write.ensures.0) c.write.ensures.1
