-- `call_flags::store_flag` meets its contract.
-- Assumes nothing.
use Prim.Native.Nat.{ℕ, ◌+◌, ◌-◌, ◌/◌, ◌%◌}
use mathlib.Core.Path.{◌≡◌, ap, ◌∙◌}
use mathlib.Core.List.{List}
use lib.ListN.{take, drop, set}
use Rattle.format.specs.Nibbles.{nibbles}
use Rattle.format.specs.Flags.{quality_code}
use Rattle.laws.proofs.Nibbles.{length-nibbles, nibbles_lt}
use Rattle.call_flags.proofs.Flags.{flag_stored}
use native.Mathlib.Omega.{arith}
use borrow.Author.Rules.{rules}
use Rattle.call_flags.proofs.store_flag.Goals as goal

pub quality-quality-requires : goal.quality-quality-requires
quality-quality-requires c =
    let stored = c.exchange-former.new.buffer in
    (nibbles_lt stored (search rules), omega (arith, length-nibbles stored, c.exchange-former.ensures.1), omega arith)

pub returns : goal.returns
returns c =
    let ns = nibbles c.args.buffer.now in
    let at = c.args.place + 3 in
    let flag = c.args.flag in
    let value = c.args.value in
    let code = c.quality-quality.result in
    let first : nibbles c.exchange-former.new.buffer ≡ set ns (at + (flag - 1)) value = c.exchange-former.ensures.0 in
    let second : nibbles c.put.new.s ≡ set (set ns (at + (flag - 1)) value) (at + 14) (code / 16) = c.put.ensures.0 ∙ ap (λ (l : List ℕ). set l (at + 14) (code / 16)) first in
    let third : nibbles c.put-2.new.s ≡ set (set (set ns (at + (flag - 1)) value) (at + 14) (code / 16)) (at + 15) (code % 16) =
    c.put-2.ensures.0 ∙ ap (λ (l : List ℕ). set l (at + 15) (code % 16)) second in
    let coded : code ≡ quality_code (take 14 (drop at (set ns (at + (flag - 1)) value))) =
    c.quality-quality.ensures ∙ ap (λ (l : List ℕ). quality_code (take 14 (drop at l))) first in (
      third ∙ flag_stored ns at flag value (omega (arith, length-nibbles c.args.buffer.now, c.requires.0)) c.requires.2 c.requires.3 code coded,
      c.put-2.ensures.1 ∙ c.put.ensures.1 ∙ c.exchange-former.ensures.1,
      c.exchange-former.ensures.2,
    )
