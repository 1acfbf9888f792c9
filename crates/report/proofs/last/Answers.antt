-- `report::last` meets its contract: the end is inside where it is odd.
-- Assumes nothing.
use native.Mathlib.Omega.{arith}
use mathlib.Core.Path.{sym, ◌∙◌}
use borrow.Author.Tests.{eq-eqb, ne_eqb}
use Rattle.laws.proofs.Nibbles.{length-nibbles}
use Rattle.report.proofs.Padding.{last_read, last_missing}
use Rattle.report.proofs.last.Goals as goal

pub nibble-requires : goal.nibble-requires
nibble-requires c = c.requires.1

pub returns-then-nibble-ne0 : goal.returns-then-nibble-ne0
returns-then-nibble-ne0 c =
    let read = last_read _ _ _ c.nibble.ensures _ _ c.in-Some.is in
    rw (eq-eqb _ _ c.if-report-eq1.true, ne_eqb _ _ (λ e. c.if-nibble-ne0.true (read ∙ e)))

pub returns-else-nibble-ne0 : goal.returns-else-nibble-ne0
returns-else-nibble-ne0 c =
    let read = last_read _ _ _ c.nibble.ensures _ _ c.in-Some.is in
    rw (eq-eqb _ _ c.if-report-eq1.true, eq-eqb _ _ (sym read ∙ c.if-nibble-ne0.false))

pub returns-in_default : goal.returns-in_default
returns-in_default c =
    let a = c.args in
    let missing = last_missing _ _ _ c.nibble.ensures c.in_default.is in
    absurd (omega (arith, missing, length-nibbles a.buffer.now, c.requires.0, c.if-report-eq1.true))

pub returns-else-report-eq1 : goal.returns-else-report-eq1
returns-else-report-eq1 c = rw (ne_eqb _ _ c.if-report-eq1.false)
