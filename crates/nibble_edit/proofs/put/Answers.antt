-- `nibble_edit::put` meets its contract.
-- Assumes nothing.
use native.Mathlib.Omega.{arith}
use borrow.Author.Rules.{rules}
use Rattle.nibble_edit.proofs.Stores.{high_put, low_put}
use Rattle.nibble_edit.proofs.put.Goals as goal

pub returns-then-at-eq0 : goal.returns-then-at-eq0
returns-then-at-eq0 c =
    let a = c.args in
    (high_put a.s.now a.at a.v (omega arith) c.if-at-eq0.true, search rules)

pub returns : goal.returns
returns c =
    let a = c.args in
    (low_put a.s.now a.at a.v (omega arith) c.if-at-eq0.false, search rules)
