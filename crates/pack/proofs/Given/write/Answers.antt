-- `pack::Given::write` meets its contract: the tail laid, the padding nibble cleared, the card written.
-- Assumes nothing.
use native.Mathlib.Omega.{arith}
use Rattle.laws.proofs.Attachments.{all_nibbles_lem}
use Rattle.laws.proofs.Results.{bytes_in}
use Rattle.pack.proofs.Outcomes.{few, short_out, written}
use Rattle.pack.proofs.Given.write.Goals as goal

pub returns-then-out-size : goal.returns-then-out-size
returns-then-out-size c marks p = short_out _ _ _ _ _ _ p c.if-out-size.true

pub lay-requires : goal.lay-requires
lay-requires c =
    let f = few _ _ _ c.args.self.rptin _ c.args.out.now c.requires.0.1 in
    (omega (arith, c.if-out-size.false), omega (arith, f.1), all_nibbles_lem _ c.requires.0.1.nibbles)

pub pad-requires : goal.pad-requires
pad-requires c =
    let f = few _ _ _ c.args.self.rptin _ c.args.out.now c.requires.0.1 in
    (omega (arith, c.if-out-size.false, c.lay.ensures.1), omega (arith, f.1))

pub write-requires : goal.write-requires
write-requires c =
    let f = few _ _ _ c.args.self.rptin _ c.args.out.now c.requires.0.1 in
    (omega (arith, c.if-out-size.false, c.lay.ensures.1, c.pad.ensures.1), omega (arith, f.0, c.requires.1))

pub returns : goal.returns
returns c marks p =
    written _ _ _ _ _ _ p c.lay.new.s c.pad.new.buffer c.write.new.buffer c.args.count c.if-out-size.false (bytes_in _ c.type_inv.out) c.requires.1
    c.lay.ensures.0 c.lay.ensures.1 c.pad.ensures.0 c.pad.ensures.1 c.write.ensures
