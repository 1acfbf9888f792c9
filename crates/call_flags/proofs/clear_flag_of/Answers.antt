-- `call_flags::clear_flag_of` meets its contract.
-- Assumes nothing.
use mathlib.Core.Path.{refl, ap}
use mathlib.Core.Bool.{not}
use mathlib.Core.List.{[], ◌∷◌}
use native.Mathlib.Omega.{arith}
use Rattle.format.specs.Bits.{Bytes}
use Rattle.laws.proofs.Results.{bytes_in}
use Rattle.laws.proofs.Order.{between_in, number_passes, first-nil, no_check}
use Rattle.laws.proofs.Effects.{number_refuses}
use Rattle.format.specs.Calls.{edits, clear_flag, flag_number_check, call_checks, outputs_of}
use Rattle.report.proofs.Found.{missing, found_by}
use Rattle.call_flags.proofs.Flags.{body_within, flag_cleared}
use borrow.Author.Rules.{rules}
use Rattle.call_flags.proofs.clear_flag_of.Goals as goal

pub returns-then-not-within : goal.returns-then-not-within
unfolding call_checks outputs_of
returns-then-not-within c marks j =
    number_refuses _ _ _ (edits (clear_flag c.args.flag)) (bytes_in _ c.type_inv.buffer) j 1 14 c.args.flag _ refl _ c.within.ensures (ap not c.if-not-within.true)

pub returns-in_default : goal.returns-in_default
unfolding call_checks outputs_of
returns-in_default c marks j =
    missing marks (bytes_in _ c.type_inv.buffer) (found_by c.requires.1 j) (edits (clear_flag c.args.flag)) (flag_number_check c.args.flag ∷ []) refl
    (no_check (flag_number_check c.args.flag) [] (number_passes 1 14 c.args.flag _ c.within.ensures (ap not c.if-not-within.false)) first-nil) c.in_default.is

pub store_flag-requires : goal.store_flag-requires
store_flag-requires c =
    let before : Bytes c.args.buffer.now = search rules in
    let within = body_within _ _ before _ c.requires.1 _ c.in-Some.is in
    let flag = between_in 1 14 c.args.flag _ c.within.ensures (ap not c.if-not-within.false) in
    (within.0, omega (arith, within.1), flag.0, flag.1, omega arith)

pub returns : goal.returns
returns c marks j =
    let before : Bytes c.args.buffer.now = search rules in
    flag_cleared _ _ before _ (found_by c.requires.1 j) _ c.in-Some.is c.args.flag _ c.within.ensures (ap not c.if-not-within.false) _ c.store_flag.ensures.2 _
    c.told.ensures _ (bytes_in _ c.type_inv.buffer) c.store_flag.ensures.1 _ c.store_flag.ensures.0 refl
