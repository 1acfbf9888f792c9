-- `write_values::Passed::write_run` meets its contract: one field after the other.
-- Assumes nothing.
use Prim.Native.Nat.{ℕ}
use native.Mathlib.Omega.{arith}
use mathlib.Core.Path.{◌≡◌, subst}
use Rattle.card.proofs.Rows.{row_in}
use Rattle.write_values.specs.Lent.{CodesWritten}
use Rattle.write_values.proofs.Codes.{written_none, written_then}
use Rattle.write_values.proofs.Passed.write_run.Goals as goal

pub loop-j-init : goal.loop-j-init
loop-j-init g c = written_none c.args.self.lent.values.now c.args.self.lent.word c.args.i c.args.buffer.now c.args.sum

pub write_field-total-requires : goal.write_field-total-requires
write_field-total-requires g c = (
  omega (arith, c.requires.0),
  omega (arith, c.requires.1, c.requires.2.places, c.loop-j.invariant.fields.sums.small),
  row_in c.args.i g.row.N c.loop-j.j c.args.rows c.requires.2 c.loop-j-test.true,
)

pub loop-j-preserved : goal.loop-j-preserved
loop-j-preserved g c = written_then c.loop-j.invariant c.write_field-total.ensures

pub returns : goal.returns
returns g c =
    let e : c.loop-j.j ≡ g.row.N = omega arith in
    subst (λ (n : ℕ). CodesWritten c.args.self.lent.values.now c.args.self.lent.word c.args.i n c.args.buffer.now c.loop-j.buffer c.args.sum c.loop-j.total) e
    c.loop-j.invariant
