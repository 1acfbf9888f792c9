-- `flags::sixteen` meets its contract.
-- Assumes nothing.
use Rattle.std.proofs.Common.{arith}
use Rattle.nibble.proofs.View.{packed_length}
use Rattle.flags.proofs.sixteen.Goals as goal

pub sixteen_packed-requires : goal.sixteen_packed-requires
sixteen_packed-requires c =
    let inside = rw c.if-c.true at c.requires.1 in
    (omega (arith, packed_length c.args.s.now), c.requires.2)
