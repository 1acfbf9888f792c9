-- `write_values::Passed::write_front` meets its contract: the runs are the first 24 fields.
-- Assumes nothing.
use Rattle.write_values.proofs.Codes.{written_then}
use Rattle.write_values.proofs.Passed.write_front.Goals as goal

pub returns : goal.returns
returns c =
    let r1 = written_then c.write_run-sum.ensures c.write_run-sum-2.ensures in
    let r2 = written_then r1 c.write_run-sum-3.ensures in
    let r3 = written_then r2 c.write_run-sum-4.ensures in
    let r4 = written_then r3 c.write_run-sum-5.ensures in
    let r5 = written_then r4 c.write_run-sum-6.ensures in
    let r6 = written_then r5 c.write_run-sum-7.ensures in
    let r7 = written_then r6 c.write_run-sum-8.ensures in
    let r8 = written_then r7 c.write_run-sum-9.ensures in
    let r9 = written_then r8 c.write_run-sum-10.ensures in
    let r10 = written_then r9 c.write_run-sum-11.ensures in
    written_then r10 c.write_run.ensures

pub shape_of-buffer : goal.shape_of-buffer
shape_of-buffer c = (returns c).long
