-- `write_values::Lent::refuse` meets its contract.
-- Assumes nothing.
use Prim.Native.Nat.{ℕ, ◌+◌, ◌-◌}
use native.Mathlib.Omega.{arith}
use mathlib.Core.Path.{◌≡◌, ap, ◌∙◌}
use mathlib.Core.List.{List}
use lib.IntN.{ℤ}
use Rattle.std.specs.Prelude.{Result}
use Rattle.format.specs.Reply.{by_number, refusal_of}
use Rattle.format.specs.declared.Refusal.{Refusal}
use Rattle.write_values.specs.Lent.{check_at, refusal_at}
use Rattle.card.proofs.Runs.{sum_one}
use Rattle.write_values.proofs.Tests.{number_in, number_added, refusal_le}
use Rattle.write_values.proofs.Lent.refuse.Goals as goal

-- the number of the field at place i
number_here : (values : List ℤ) (word i k : ℕ) (r : Result Unit Refusal) → k ≡ i + 1 → by_number r ≡ check_at values word (k - 1)
    → number_in (by_number r) ≡ refusal_at values word i
number_here values word i k r at e =
    let place : k - 1 ≡ i = omega arith in
    number_added values word i r (rw place at e)

pub returns-in-Ok : goal.returns-in-Ok
returns-in-Ok c =
    let a = c.args in
    let e = number_here a.self.values.now a.self.word a.i _ c.refusal.result c.of_row.ensures c.refusal.ensures in
    let none : 0 ≡ refusal_at a.self.values.now a.self.word a.i = rw c.in-Ok.is at e in
    sum_one {g = refusal_at a.self.values.now a.self.word} a.i a.sum _ (omega (arith, none)) (refusal_le a.self.values.now a.self.word a.i)

pub returns-in-Err : goal.returns-in-Err
returns-in-Err c =
    let a = c.args in
    let e = number_here a.self.values.now a.self.word a.i _ c.refusal.result c.of_row.ensures c.refusal.ensures in
    let given : (refusal_of c.in-Err.refusal).number ≡ refusal_at a.self.values.now a.self.word a.i = rw c.in-Err.is at e in
    sum_one {g = refusal_at a.self.values.now a.self.word} a.i a.sum _ (ap (λ (n : ℕ). a.sum + n) (c.from.ensures ∙ c.number.ensures ∙ given))
    (refusal_le a.self.values.now a.self.word a.i)
