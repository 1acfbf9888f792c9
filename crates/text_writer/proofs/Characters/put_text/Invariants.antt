-- `text_writer::Characters::put_text` meets its contract.
-- Assumes nothing.
use Prim.Native.Nat.{◌-◌, ◌≤◌}
use lib.ListN.{length}
use Rattle.text_writer.proofs.Writer.{Writing}
use Rattle.text_writer.proofs.Characters.put_text.Given as goal

abbrev pub invariant-loop-byte : goal.invariant-loop-byte
invariant-loop-byte l = (1 ≤ l.placed.next) × Writing l.symbols l.initial.out l.placed.at (l.placed.next - 1) (length l.yielded) l.out
