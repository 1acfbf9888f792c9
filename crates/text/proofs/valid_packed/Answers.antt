-- `text::valid_packed` meets its contract.
-- Assumes nothing.
use native.Mathlib.Omega.{arith}
use Prim.Native.Nat.{◌+◌, ◌/◌}
use Rattle.format.specs.ShipText.{end_from, at_end, text_valid}
use Rattle.laws.proofs.Nibbles.{length-nibbles}
use Rattle.text.proofs.Bodies.{rest, left_valid, left-even, left-odd}
use Rattle.text.proofs.valid_packed.Goals as goal

pub valid_from-requires : goal.valid_from-requires
valid_from-requires c =
    let args = c.args in
    let l = left-even _ _ _ c.requires c.if-at-eq0.true in
    (omega (arith, l.inside, length-nibbles (rest args.s.now (args.at / 2))), l.place)

pub returns-then-at-eq0 : goal.returns-then-at-eq0
returns-then-at-eq0 c = left_valid _ _ _ _ (left-even _ _ _ c.requires c.if-at-eq0.true) _ c.valid_from.ensures

pub returns-then-len-eq0 : goal.returns-then-len-eq0
unfolding text_valid end_from at_end
returns-then-len-eq0 c = rw c.if-len-eq0.true

pub valid_from-requires-2 : goal.valid_from-requires-2
valid_from-requires-2 c =
    let args = c.args in
    let l = left-odd _ _ _ c.requires c.if-at-eq0.false (omega arith) _ c.after.ensures in
    (omega (arith, l.inside, length-nibbles (rest args.s.now (args.at / 2 + 1))), l.place)

pub returns : goal.returns
returns c =
    left_valid _ _ _ _
    (left-odd _ _ _ c.requires c.if-at-eq0.false (omega arith) _ c.after.ensures)
    _ c.valid_from-2.ensures
