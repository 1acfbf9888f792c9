-- `fresh::write_fresh` meets its contract: code after code, then their checksum.
-- Assumes nothing.
use Rattle.card.proofs.Laid.{carded_then}
use Rattle.fresh.proofs.Five.{five_carded}
use Rattle.fresh.proofs.write_fresh.Goals as goal

pub returns : goal.returns
returns c =
    let to1 = rw c.at.ensures at c.store.ensures in
    let to2 = carded_then _ _ _ _ _ _ to1 (rw c.at-2.ensures at c.store-2.ensures) in
    let to3 = carded_then _ _ _ _ _ _ to2 (rw c.at-3.ensures at c.store-3.ensures) in
    let to6 = carded_then _ _ _ _ _ _ to3 (rw c.at-4.ensures at c.store-4.ensures) in
    let to7 = carded_then _ _ _ _ _ _ to6 (rw c.at-5.ensures at c.store-5.ensures) in
    five_carded c.args.codes c.args.out.now _ _ c.clear_card.ensures (carded_then _ _ _ _ _ _ to7 (rw c.sum.ensures at c.set_checksum.ensures))
