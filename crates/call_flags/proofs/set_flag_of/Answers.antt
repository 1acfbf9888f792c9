-- `call_flags::set_flag_of` meets its contract.
-- Assumes nothing.
use mathlib.Core.Path.{refl, ap}
use mathlib.Core.Bool.{not}
use mathlib.Core.List.{[], ◌∷◌}
use native.Mathlib.Omega.{arith}
use Rattle.format.specs.Bits.{Bytes}
use Rattle.laws.proofs.Results.{bytes_in}
use Rattle.laws.proofs.Order.{between_in, number_passes, first-nil, no_check}
use Rattle.laws.proofs.Effects.{number_refuses}
use Rattle.format.specs.Calls.{edits, set_flag, flag_number_check, flag_value_check, call_checks, outputs_of}
use Rattle.report.proofs.Found.{missing}
use Rattle.call_flags.proofs.Flags.{in_ten, value_passes, value_refuses, body_within, flag_set}
use borrow.Author.Rules.{rules}
use Rattle.call_flags.proofs.set_flag_of.Goals as goal

pub returns-then-not-within : goal.returns-then-not-within
unfolding call_checks outputs_of
returns-then-not-within c =
    number_refuses _ _ _ (edits (set_flag c.args.flag c.args.value)) (bytes_in _ c.type_inv.buffer) c.requires.judged 1 14 c.args.flag _ refl _ c.within.ensures
    (ap not c.if-not-within.true)

pub in_range-requires : goal.in_range-requires
in_range-requires c = between_in 1 14 c.args.flag _ c.within.ensures (ap not c.if-not-within.false)

pub returns-then-not-in_range : goal.returns-then-not-in_range
returns-then-not-in_range c =
    value_refuses _ _ (bytes_in _ c.type_inv.buffer) _ c.requires c.args.flag c.args.value _ _ c.within.ensures (ap not c.if-not-within.false)
    c.in_range.ensures (ap not c.if-not-in_range.true)

pub returns-in_default : goal.returns-in_default
unfolding call_checks outputs_of
returns-in_default c =
    let flag = c.args.flag in
    let value = c.args.value in
    let marks = c.args.table.now in
    missing marks (bytes_in _ c.type_inv.buffer) c.requires (edits (set_flag flag value)) (flag_number_check flag ∷ flag_value_check marks flag value ∷ []) refl
    (no_check (flag_number_check flag) (flag_value_check marks flag value ∷ []) (number_passes 1 14 flag _ c.within.ensures (ap not c.if-not-within.false))
    (no_check (flag_value_check marks flag value) [] (value_passes marks flag value _ c.in_range.ensures (ap not c.if-not-in_range.false)) first-nil))
    c.in_default.is

pub store_flag-requires : goal.store_flag-requires
store_flag-requires c =
    let before : Bytes c.args.buffer.now = search rules in
    let within = body_within _ _ before _ c.requires _ c.in-Some.is in
    let flag = between_in 1 14 c.args.flag _ c.within.ensures (ap not c.if-not-within.false) in
    let value = in_ten c.args.table.now c.args.flag c.args.value _ c.in_range.ensures (ap not c.if-not-in_range.false) in
    (within.0, omega (arith, within.1), flag.0, flag.1, omega (arith, value.1))

pub returns : goal.returns
returns c =
    let before : Bytes c.args.buffer.now = search rules in
    flag_set _ _ before _ c.requires _ c.in-Some.is c.args.flag _ c.within.ensures (ap not c.if-not-within.false) _ c.store_flag.ensures.2 _ c.told.ensures
    _ (bytes_in _ c.type_inv.buffer) c.store_flag.ensures.1 c.args.value c.store_flag.ensures.0 _ c.in_range.ensures (ap not c.if-not-in_range.false)
