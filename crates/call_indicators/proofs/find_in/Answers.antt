-- `call_indicators::find_in` meets its contract.
-- Assumes nothing.
use Prim.Native.Nat.{ℕ}
use mathlib.Core.Path.{◌≡◌, refl, sym, ap₂, ◌∙◌}
use mathlib.Core.List.{List, [], ◌++◌}
use lib.ListN.{length, drop}
use borrow.Author.Rules.{rules}
use lib.Seq.{length-take-le}
use native.Mathlib.Omega.{arith}
use Rattle.laws.proofs.Results.{bytes_in}
use Rattle.laws.proofs.Report.{passes}
use Rattle.report.proofs.Found.{found_by, absent, present}
use Rattle.call_indicators.proofs.Lists.{find-short, find_done, found_hidden, found-shown, some_is, none_is}
use Rattle.call_indicators.proofs.find_in.Goals as goal

pub returns-then-is_some : goal.returns-then-is_some
returns-then-is_some c marks j =
    let held = some_is _ (sym c.is_some.ensures ∙ c.if-is_some.true) in
    find_done marks _ _ j [] _ 0 (found_hidden _ (present marks (bytes_in _ c.type_inv.buffer) (found_by c.requires.1 j) held.0 held.1)) refl (omega arith) refl

pub lost_indicators-lost-requires : goal.lost_indicators-lost-requires
lost_indicators-lost-requires c = (passes _ _ _ c.requires.1.judged).0.long

pub returns-then-out-lost : goal.returns-then-out-lost
returns-then-out-lost c marks j =
    let lost = c.lost_indicators-lost in
    let six : length lost.result.fields ≡ 6 = search rules in
    let none = none_is _ (sym c.is_some.ensures ∙ c.if-is_some.false) in
    find-short marks _ _ j _ (found-shown _ _ (absent marks (bytes_in _ c.type_inv.buffer) (found_by c.requires.1 j) none) lost.ensures.0)
    (omega (arith, length-take-le lost.result.count lost.result.fields (omega arith)))

pub returns : goal.returns
returns c marks j =
    let lost = c.lost_indicators-lost in
    let six : length lost.result.fields ≡ 6 = search rules in
    let none = none_is _ (sym c.is_some.ensures ∙ c.if-is_some.false) in
    let long = length-take-le lost.result.count lost.result.fields (omega arith) in
    find_done marks _ _ j _ _ _ (found-shown _ _ (absent marks (bytes_in _ c.type_inv.buffer) (found_by c.requires.1 j) none) lost.ensures.0) long c.if-out-lost.false
    (ap₂ (λ (xs : List ℕ) (n : ℕ). xs ++ drop n c.args.out.now) c.copy_from_slice.ensures.after (sym long))
