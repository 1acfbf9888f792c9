-- `text_writer::Codes::put_symbol` meets its contract.
-- Assumes nothing.
use Prim.Native.Nat.{◌-◌}
use native.Mathlib.Omega.{arith}
use mathlib.Core.Path.{◌≡◌}
use mathlib.Core.Bool.{false}
use borrow.Author.Rules.{rules}
use Rattle.format.specs.ShipText.{symbol_of, is_space}
use Rattle.laws.proofs.ShipText.{run_length}
use Rattle.text_writer.proofs.Writer.{no_space, symbol_space, symbol_code, symbol_alone}
use Rattle.text_writer.proofs.Codes.put_symbol.Goals as goal
use Rattle.text_writer.proofs.Codes.put_symbol.Goals.{then-byte-eq32+else-origin-eq0, else-byte-eq32}

pub returns-then-origin-eq0 : goal.returns-then-origin-eq0
returns-then-origin-eq0 c = symbol_space _ _ _ _ _ _ (search rules) c.if-byte-eq32.true c.if-origin-eq0.true

pub returns-then-next-eq1 : goal.returns-then-next-eq1
returns-then-next-eq1 c =
    let joined : is_space (symbol_of c.args.byte c.args.origin) ≡ false =
    no_space _ _ (λ e f. elim c.if-byte-eq32.branch [ then-byte-eq32+else-origin-eq0 w ↦ absurd (w.if-origin-eq0.false f) | else-byte-eq32 w ↦ absurd (w.if-byte-eq32.false e) ]) in
    symbol_alone _ _ _ _ joined _ c.entry_of-entry.ensures.1 _ _ _ c.if-next-eq1.true c.put_entry-end.ensures

pub put_entry-end-requires-2 : goal.put_entry-end-requires-2
put_entry-end-requires-2 c =
    (omega (arith, c.put_run-start.ensures.0, run_length (c.args.placed.next - 1)), c.entry_of-entry.ensures.0)

pub returns : goal.returns
returns c =
    let joined : is_space (symbol_of c.args.byte c.args.origin) ≡ false =
    no_space _ _ (λ e f. elim c.if-byte-eq32.branch [ then-byte-eq32+else-origin-eq0 w ↦ absurd (w.if-origin-eq0.false f) | else-byte-eq32 w ↦ absurd (w.if-byte-eq32.false e) ]) in
    symbol_code _ _ _ _ joined _ c.entry_of-entry.ensures.1 _ _ _ _ _ c.put_run-start.ensures c.put_entry-end-2.ensures
