-- `flags::gather` meets its contract.
-- Assumes nothing.
use Rattle.std.proofs.Common.{arith, rules}
use Rattle.flags.proofs.Body.{read_none, item_small, read_small, read_more, read_all}
use Rattle.flags.proofs.gather.Goals as goal

pub loop-nibble-init : goal.loop-nibble-init
loop-nibble-init c = read_none _

pub overflow_mul-w : goal.overflow_mul-w
overflow_mul-w c = omega (arith, read_small _ _ _ (omega arith) c.loop-nibble.invariant)

pub overflow_add-w : goal.overflow_add-w
overflow_add-w c = omega (arith, read_small _ _ _ (omega arith) c.loop-nibble.invariant, item_small _ c.args.at c.loop-nibble.nibble-index c.requires.0 (omega arith))

pub loop-nibble-preserved : goal.loop-nibble-preserved
loop-nibble-preserved c = read_more _ _ _ _ _ c.requires.0 c.requires.1 (omega arith) (search rules) c.loop-nibble.invariant

pub returns : goal.returns
returns c = read_all _ _ _ _ c.requires.1 (omega arith) c.loop-nibble.invariant
