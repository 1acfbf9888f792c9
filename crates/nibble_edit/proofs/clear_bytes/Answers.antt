-- `nibble_edit::clear_bytes` meets its contract.
-- Assumes nothing.
use Prim.Native.Nat.{ℕ, ◌+◌, ◌-◌, ◌/◌}
use native.Mathlib.Omega.{arith}
use mathlib.Core.Path.{◌≡◌, sym, ap, ◌∙◌}
use lib.ListN.{length, take, drop, replicate, length-drop, length-replicate}
use lib.Seq.{length-take-le}
use Rattle.std.proofs.lemmas.Slice.{put_mid-paste}
use Rattle.format.specs.Nibbles.{nibbles}
use Rattle.nibble_edit.proofs.Stores.{bytes_cleared}
use Rattle.nibble_edit.proofs.clear_bytes.Goals as goal

pub returns : goal.returns
returns c =
    let a = c.args in
    let i : ℕ = a.at / 2 in
    let k : ℕ = i + a.n - i in
    let room : length (take k (drop i a.s.now)) ≡ k = length-take-le k (drop i a.s.now) (omega (arith, length-drop i a.s.now)) in
    let zeros : c.fill.new.self ≡ replicate a.n 0 = c.fill.ensures.after (λ y h. h) ∙ ap (λ (m : ℕ). replicate m 0) (room ∙ omega arith) in
    ap nibbles (put_mid-paste i k a.s.now c.fill.new.self (replicate a.n 0) a.n zeros (omega arith) (sym (length-replicate a.n 0)))
    ∙ bytes_cleared a.s.now i a.at a.n (omega arith)
