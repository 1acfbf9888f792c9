-- `text::valid` meets its contract.
-- Assumes nothing.
use native.Mathlib.Omega.{arith}
use borrow.Author.Rules.{rules}
use Rattle.laws.proofs.Nibbles.{length-nibbles}
use Rattle.text.proofs.Texts.{writable}
use Rattle.text.proofs.Bodies.{same_part}
use Rattle.text.proofs.valid.Goals as goal

pub valid_packed-requires : goal.valid_packed-requires
valid_packed-requires c = omega (arith, rw c.if-packed.true at c.requires.0, length-nibbles c.args.s.now)

pub returns-then-packed : goal.returns-then-packed
returns-then-packed c = rw c.if-packed.true (c.valid_packed.ensures, writable _ _ c.valid_packed.ensures)

pub slice_bounds-valid_spread-end : goal.slice_bounds-valid_spread-end
slice_bounds-valid_spread-end c = let within = rw c.if-packed.false at c.requires.0 in search (rules, within)

pub returns : goal.returns
returns c =
    let args = c.args in
    let part = rw (same_part args.s.now args.c.at args.len) at c.valid_spread.ensures in
    rw c.if-packed.false (part, writable _ _ part)
