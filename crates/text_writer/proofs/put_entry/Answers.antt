-- `text_writer::put_entry` meets its contract.
-- Assumes nothing.
use Prim.Native.Nat.{ℕ, ◌+◌, ◌/◌, ◌%◌}
use native.Mathlib.Omega.{arith}
use mathlib.Core.Path.{refl, ap}
use lib.ListN.{length-set}
use Rattle.text_writer.proofs.Entries.{entry_some, entry-short, entry_long}
use Rattle.text_writer.proofs.put_entry.Goals as goal

pub returns-then-out-e : goal.returns-then-out-e
returns-then-out-e c = (ap (λ (k : ℕ). c.args.at + k) c.requires.1, λ r. absurd (omega (arith, c.if-out-e.true)))

pub bounds-out-at : goal.bounds-out-at
bounds-out-at c = omega (arith, c.if-out-e.false, entry_some c.args.w c.requires.1)

pub overflow_sub-out : goal.overflow_sub-out
overflow_sub-out c = omega (arith, entry_some c.args.w c.requires.1)

pub bounds-out-e : goal.bounds-out-e
bounds-out-e c =
    let args = c.args in
    omega (arith, c.if-out-e.false, entry_some args.w c.requires.1, length-set args.out.now args.at (args.w / 16 % 16))

pub returns-then-w-lt12288 : goal.returns-then-w-lt12288
returns-then-w-lt12288 c =
    let args = c.args in
    (ap (λ (k : ℕ). args.at + k) c.requires.1, λ _. entry-short args.w c.requires.1 _ _ _ _ c.if-w-lt12288.true refl refl)

pub returns : goal.returns
returns c =
    let args = c.args in
    (ap (λ (k : ℕ). args.at + k) c.requires.1, λ _. entry_long args.w c.requires.1 _ _ _ _ _ c.if-w-lt12288.false refl refl refl)
