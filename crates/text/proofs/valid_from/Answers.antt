-- `text::valid_from` meets its contract.
-- Assumes nothing.
use Prim.Native.Nat.{ℕ, ◌-◌, ◌/◌, ◌<◌}
use native.Mathlib.Omega.{arith}
use mathlib.Core.Path.{◌≡◌, ap, sym, ◌∙◌}
use lib.Dec.{eqb}
use lib.ListN.{get_or, length-take}
use lib.Seq.{get_or-take}
use Rattle.laws.proofs.Nibbles.{length-nibbles}
use Rattle.text.specs.Rows.{next_state, byte_next, held}
use Rattle.text.proofs.Bodies.{left-held, left_none, left_half, left_byte}
use Rattle.text.proofs.Rows.{place-held}
use Rattle.text.proofs.valid_from.Goals as goal

pub loop-byte-init : goal.loop-byte-init
loop-byte-init c =
    let all : c.args.n - 0 ≡ c.args.n = omega arith in
    (rw all (left-held _ _ _ c.requires.1 (omega (arith, length-nibbles c.args.bytes.now, c.requires.0))), (place-held _ c.requires.1).0)

pub loop-byte-preserved : goal.loop-byte-preserved
loop-byte-preserved c =
    let l = c.loop-byte in
    let bytes = c.args.bytes.now in
    let next = c.after_byte-place.ensures in
    let front : l.byte-index < c.args.n / 2 = omega (arith, c.loop-byte-test.true, length-take (c.args.n / 2) bytes) in
    let byte = get_or-take (c.args.n / 2) bytes l.byte-index 0 front in (
      left_byte _ _ _ bytes l.byte-index l.invariant.0 (omega arith) (omega arith) _ _ (next.1 ∙ ap (byte_next (held l.place)) byte) (omega arith),
      next.0,
    )

pub returns-then-n-eq0 : goal.returns-then-n-eq0
returns-then-n-eq0 c = ap (λ (p : ℕ). eqb p 4) (left_none _ _ _ _ c.loop-byte.invariant.0 (omega (arith, c.if-n-eq0.true, c.loop-byte-test.false, length-take (c.args.n / 2) c.args.bytes.now, c.requires.0)))

pub returns : goal.returns
returns c =
    let l = c.loop-byte in
    let bytes = c.args.bytes.now in
    let done : l.byte-index ≡ c.args.n / 2 = omega (arith, l.auto.byte-index-end, c.loop-byte-test.false, length-take (c.args.n / 2) bytes, c.requires.0) in
    let byte = ap (λ (i : ℕ). next_state (held l.place) (get_or bytes i 0 / 16)) (sym done) in
    ap (λ (p : ℕ). eqb p 4) (left_half _ _ _ bytes l.byte-index l.invariant.0 (omega arith) (omega arith) _ (c.after.ensures ∙ byte))
