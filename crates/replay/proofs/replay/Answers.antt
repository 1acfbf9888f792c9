-- `replay::replay` meets its contract.
-- Assumes nothing.
use native.Mathlib.Omega.{arith}
use mathlib.Core.Path.{refl, ◌∙◌}
use Rattle.laws.proofs.Results.{bytes_in}
use Rattle.script.proofs.Scripts.{kept_start}
use Rattle.script.proofs.Replay.{kept_parts, turn_counted, parts_end}
use borrow.Author.Rules.{rules}
use Rattle.replay.proofs.replay.Goals as goal

pub loop-entry-init : goal.loop-entry-init
loop-entry-init c = (kept_start _ _ _ _, refl, bytes_in _ c.type_inv.buffer)

pub returns : goal.returns
returns c = parts_end _ _ _ _ _ _ _ _ _ c.loop-entry.invariant.0 _ c.in_default.ensures refl c.loop-entry.invariant.2

pub overflow_add-all : goal.overflow_add-all
overflow_add-all c =
    let k = kept_parts _ _ _ _ _ _ _ _ _ c.loop-entry.invariant.0 _ c.in-Some.ensures in let w = k.within in let m = k.counted in search rules

pub overflow_add-all-in-Some : goal.overflow_add-all-in-Some
overflow_add-all-in-Some c =
    let k = kept_parts _ _ _ _ _ _ _ _ _ c.loop-entry.invariant.0 _ c.in-Some.ensures in let w = k.within in search rules

pub overflow_add-all-in-Some-2 : goal.overflow_add-all-in-Some-2
overflow_add-all-in-Some-2 c =
    let k = kept_parts _ _ _ _ _ _ _ _ _ c.loop-entry.invariant.0 _ c.in-Some.ensures in
    let w = k.room in let l = k.log_length in search rules

pub loop-entry-smaller : goal.loop-entry-smaller
loop-entry-smaller c =
    let k = kept_parts _ _ _ _ _ _ _ _ _ c.loop-entry.invariant.0 _ c.in-Some.ensures in
    let w = k.within in omega (arith, turn_counted _ _ _ _ _ _ _ _ _ c.loop-entry.invariant.0 _ c.in-Some.ensures)

pub loop-entry-preserved : goal.loop-entry-preserved
loop-entry-preserved c =
    (kept_parts _ _ _ _ _ _ _ _ _ c.loop-entry.invariant.0 _ c.in-Some.ensures, c.perform.auto.buffer ∙ c.loop-entry.invariant.1, c.loop-entry.invariant.2)
