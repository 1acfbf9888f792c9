-- `write_values::Passed::write_field` meets its contract.
-- Assumes nothing.
use Prim.Native.Nat.{◌<◌}
use Rattle.write_values.proofs.Codes.{written_one}
use borrow.Author.Rules.{rules}
use Rattle.write_values.proofs.Passed.write_field.Goals as goal

pub returns : goal.returns
returns c =
    let small : c.code-code.result.0 < 65536 = search rules in
    written_one c.args.self.lent.values.now c.args.self.lent.word c.args.i _ _ _ _ c.args.sum c.requires.2.place c.of_row-field.ensures small c.code-code.ensures.0 c.store.ensures
