-- `report::inspect_tail` meets its contract.
-- Assumes nothing.
use Rattle.laws.proofs.Results.{bytes_in, err_by_number}
use mathlib.Core.Path.{ap, ◌∙◌}
use Rattle.laws.proofs.Nibbles.{length-nibbles, nibbles_lt}
use Rattle.tail.specs.declared.Tail.{Tail}
use Rattle.report.proofs.Outcomes.{tail_refused, tail_ended, attachment_refused, last_decides, end_within, report_is}
use native.Mathlib.Omega.{arith}
use Rattle.report.proofs.inspect_tail.Goals as goal

pub walk-requires : goal.walk-requires
walk-requires c = (nibbles_lt _ (bytes_in _ c.type_inv.buffer), omega (arith, length-nibbles c.args.buffer.now, c.requires.long), omega arith)

pub returns-in_err-tail : goal.returns-in_err-tail
returns-in_err-tail c =
    err_by_number _ _ c.from_residual.ensures.1
    ∙ attachment_refused _ _ _ c.requires _ (tail_refused _ _ _ _ c.count-count.ensures.0 _ c.in_err-tail.ensures)

pub last-requires : goal.last-requires
last-requires c =
    let t = tail_ended _ _ _ _ c.count-count.ensures.0 _ c.in_ok-tail.ensures in
    let within = end_within _ _ (bytes_in _ c.type_inv.buffer) c.requires.long t.0 in
    let end = ap (λ (x : Tail). x.end) t.1 in
    (omega (arith, end, within.0), omega (arith, end, within.1))

pub returns : goal.returns
returns c =
    let t = tail_ended _ _ _ _ c.count-count.ensures.0 _ c.in_ok-tail.ensures in
    c.last.ensures ∙ last_decides _ _ _ c.requires t.0 _ (report_is c.args.table.now _ _ _ c.count-count.ensures.0 _ t.1)
