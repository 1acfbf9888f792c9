-- `text_writer::put_rest` meets its contract.
-- Assumes nothing.
use native.Mathlib.Omega.{arith}
use mathlib.Core.Path.{ap}
use Rattle.format.specs.ShipText.{rest}
use Rattle.laws.proofs.Stores.{store_none, store_one, store_two, rest_is}
use Rattle.text_writer.proofs.put_rest.Goals as goal

pub returns-in-0 : goal.returns-in-0
unfolding rest
returns-in-0 c = store_none _ _ _ (ap rest c.in-0.is)

pub returns-in-1 : goal.returns-in-1
unfolding rest
returns-in-1 c = store_one _ _ _ _ _ (ap rest c.in-1.is) c.put.ensures

pub returns-in-2 : goal.returns-in-2
unfolding rest
returns-in-2 c = store_two _ _ _ _ _ _ _ (ap rest c.in-2.is) c.put-in-2.ensures c.put-in-2-2.ensures

pub returns-in_default : goal.returns-in_default
returns-in_default c = store_two _ _ _ _ _ _ _ (rest_is c.args.r (omega arith)) c.put-in_default.ensures c.put-in_default-2.ensures
