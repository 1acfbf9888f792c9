-- `flags::sixteen_packed` meets its contract.
-- Assumes nothing.
use Rattle.flags.proofs.Body.{even_place, odd_place}
use Rattle.flags.proofs.sixteen_packed.Goals as goal

pub returns-then-at-eq0 : goal.returns-then-at-eq0
returns-then-at-eq0 c =
    let a = c.args in
    even_place a.s.now (λ i. (c.type_inv.s i).fits) a.at _ c.requires.0 c.if-at-eq0.true c.word-w.ensures

pub returns : goal.returns
returns c =
    let pre = c.requires in
    let word = c.word-w in
    let a = c.args in
    odd_place a.s.now (λ i. (c.type_inv.s i).fits) a.at _ _ pre.0 c.if-at-eq0.false word.ensures (c.from.ensures)
