-- `write_values::Passed::code` meets its contract.
-- Assumes nothing.
use native.Mathlib.Omega.{arith}
use Prim.Native.Nat.{◌-◌}
use mathlib.Core.Path.{◌≡◌, sym, ap, ◌∙◌}
use mathlib.Core.Bool.{true, false}
use lib.ListN.{get_or}
use lib.IntN.{ℤ, pos}
use Rattle.std.specs.Prelude.{Option, unwrap_or}
use Rattle.format.specs.Field.{Field, field_at, scaled, coded_of, coded, in_range, code_of}
use Rattle.format.specs.Whole.{bit_at}
use Rattle.format.specs.declared.Coded.{Coded}
use Rattle.laws.proofs.Fields.{coded_range}
use Rattle.card.proofs.Laid.{coding_some}
use Rattle.write_values.proofs.Codes.{code_number, given_fits}
use Rattle.write_values.proofs.Tests.{coding_here, fits_present}
use borrow.Author.Rules.{rules}
use Rattle.write_values.proofs.Passed.code.Goals as goal

pub returns-then-not-holds : goal.returns-then-not-holds
unfolding code_of
returns-then-not-holds c =
    let lent = c.args.self.lent in
    let f = c.args.field in
    let b : bit_at lent.word f.number ≡ false = sym c.holds.ensures ∙ c.if-not-holds.true in
    (rw b at (code_number lent.values.now lent.word lent.long f.number f.low f.high), omega arith)

pub returns : goal.returns
unfolding code_of
returns c =
    let lent = c.args.self.lent in
    let k = c.args.field.number in
    let f : Field = field_at k in
    let value : ℤ = get_or lent.values.now (k - 1) (pos 0) in
    let b : bit_at lent.word k ≡ true = sym c.holds.ensures ∙ c.if-not-holds.false in
    let i : in_range f (scaled value) ≡ true = fits_present _ _ b (given_fits lent.values.now lent.word lent.long k c.args.field.low c.args.field.high c.args.self.fair) in
    let g = coding_here k value c.coded.result (search rules) c.coded.ensures ∙ coding_some f (scaled value) i in
    let e : c.unwrap_or.result ≡ coded_of f (scaled value) = c.unwrap_or.ensures ∙ ap (λ (o : Option Coded). unwrap_or o (coded 0)) g in
    (ap (λ (x : Coded). x.0) e ∙ rw b at (code_number lent.values.now lent.word lent.long k c.args.field.low c.args.field.high), rw e (coded_range f (scaled value) i).1)
