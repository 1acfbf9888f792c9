-- `checks::check` meets its contract.
-- Assumes nothing.
use Rattle.checks.proofs.Card.{card_passed}
use Rattle.checks.proofs.check.Goals as goal

pub returns-then-faults-eq0 : goal.returns-then-faults-eq0
returns-then-faults-eq0 c =
    let a = c.word-a in
    let b = c.word-b in
    let w = c.word-c in
    let d = c.word-d in
    let e = c.word-e in
    rw c.checksum.ensures
    (card_passed c.args.buffer.now c.requires a.result b.result w.result d.result e.result a.ensures b.ensures w.ensures d.ensures e.ensures
    (c.faults.ensures c.if-faults-eq0.true))
