-- `checks::walk` meets its contract.
-- Assumes nothing.
use Prim.Native.Nat.{ℕ, ◌+◌, ◌-◌, ◌<◌}
use native.Mathlib.Omega.{arith}
use mathlib.Core.Path.{◌≡◌, refl, sym, ap₂, ◌∙◌}
use Rattle.std.proofs.lemmas.Result.{err_from_is_err_and}
use Rattle.checks.specs.Walk.{code_check}
use Rattle.checks.proofs.Turns.{left, rest_at, refused_at, passed_at, walk_end}
use borrow.Author.Rules.{rules}
use Rattle.checks.proofs.walk.Goals as goal

pub loop-number-init : goal.loop-number-init
loop-number-init c = (omega arith, omega arith, refl)

pub returns-in_err-refusal : goal.returns-in_err-refusal
returns-in_err-refusal c =
    let p = err_from_is_err_and c.from_residual.result c.from_residual.ensures.1 in
    let code = rw c.at-field.ensures at c.code-code.ensures in
    rw (p.1, p.2)
    (refused_at c.args.buffer.now c.loop-number.number (omega arith) (omega arith) _
    (c.in_err-refusal.ensures ∙ ap₂ code_check c.at-field.ensures code) c.loop-number.invariant.2)

pub overflow_add-sum : goal.overflow_add-sum
overflow_add-sum c =
    let small : c.code-code.result.0 < 65536 = search rules in
    omega (arith, small)

pub loop-number-preserved : goal.loop-number-preserved
loop-number-preserved c =
    let small : c.code-code.result.0 < 65536 = search rules in
    let b = c.args.buffer.now in
    let k : ℕ = c.loop-number.number in
    let code = rw c.at-field.ensures at c.code-code.ensures in
    let passed : left b (k + 1 - 1) ≡ left b (k - 1) =
    sym (passed_at b k (omega arith) (omega arith) (c.in_ok-refusal.ensures ∙ ap₂ code_check c.at-field.ensures code)) in (
      omega (arith, small),
      omega (arith, rest_at b k (omega arith) (omega arith), code),
      passed ∙ c.loop-number.invariant.2,
    )

pub returns : goal.returns
returns c =
    let l = c.loop-number in
    walk_end c.args.buffer.now (l.number - 1) l.sum _ (omega arith) l.invariant.2 l.invariant.1 c.remainder.ensures.0
