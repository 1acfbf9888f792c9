-- `nibble_copy::lay_bytes` meets its contract.
-- Assumes nothing.
use native.Mathlib.Omega.{arith}
use Rattle.nibble_edit.proofs.Stores.{byte_turn}
use Rattle.nibble_copy.proofs.lay_bytes.Goals as goal

pub loop-k-preserved : goal.loop-k-preserved
loop-k-preserved c =
    let a = c.args in
    let w = c.loop-k in
    byte_turn a.s.now w.s a.ns.now a.at a.j w.k _ (omega arith) (omega arith) (omega arith) (omega arith) (omega arith) (omega arith) w.invariant
