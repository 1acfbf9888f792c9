-- `text_cost::costliest` meets its contract.
-- Assumes nothing.
use native.Mathlib.Omega.{arith}
use Rattle.text_cost.proofs.Returns.{too_many, text_short, marks_short, chosen}
use Rattle.text_cost.proofs.costliest.Goals as goal

pub returns-then-m-gt-MOST : goal.returns-then-m-gt-MOST
returns-then-m-gt-MOST c = too_many _ _ _ c.if-m-gt-MOST.true

pub returns-then-text-m : goal.returns-then-text-m
returns-then-text-m c = text_short _ _ _ c.if-m-gt-MOST.false c.if-text-m.true

pub returns-then-origins-m : goal.returns-then-origins-m
returns-then-origins-m c = marks_short _ _ _ c.if-m-gt-MOST.false c.if-text-m.false c.if-origins-m.true

pub returns : goal.returns
returns c =
    let marks = rw c.mark.ensures at c.put_bytes-2.ensures in
    chosen _ _ _ c.if-m-gt-MOST.false c.if-text-m.false c.if-origins-m.false _ (omega arith) _ _ c.put_bytes.ensures marks
