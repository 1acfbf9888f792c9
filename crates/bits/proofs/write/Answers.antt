-- `bits::write` meets its contract: the two bytes that are stored are those read, with v in the field's place.
-- Assumes nothing.
use Prim.Native.Nat.{ℕ}
use mathlib.Core.List.{List}
use borrow.Author.Rules.{rules}
use Rattle.bits.proofs.Window.{splice-pair, field_written}
use Rattle.bits.proofs.write.Goals as goal

pub returns : goal.returns
returns c =
    let a = c.args in
    let s : List ℕ = a.s.now in
    let t : List ℕ = c.store.new.s in
    let r = c.requires in
    let bits = splice-pair s t a.at a.width a.v c.patch-n.result (search rules) (search rules) r.two_bytes r.v_bound (cc) c.store.ensures in
    (bits, search rules, field_written s t a.at a.width a.v r.two_bytes r.v_bound bits)
