-- `call_fields::replace` meets its contract.
-- Assumes nothing.
use Prim.Native.Nat.{ℕ, ◌<◌}
use mathlib.Core.Path.{subst, ◌∙◌}
use lib.ListN.{set}
use Rattle.format.specs.Report.{numbers_of}
use Rattle.laws.proofs.Report.{passes}
use Rattle.card.specs.Answers.{Carded}
use Rattle.card.proofs.Laid.{carded_then}
use Rattle.call_fields.proofs.Values.{new_checksum}
use native.Mathlib.Omega.{arith}
use borrow.Author.Rules.{rules}
use Rattle.call_fields.proofs.replace.Goals as goal

pub checksum-sum-requires : goal.checksum-sum-requires
checksum-sum-requires c = (passes _ _ _ c.requires.0.1).0.long

pub exchange-former-requires : goal.exchange-former-requires
exchange-former-requires c = ((passes _ _ _ c.requires.0.1).0.long, c.requires.1)

pub set_checksum-requires : goal.set_checksum-requires
set_checksum-requires c = omega (arith, c.exchange-former.ensures.0.long, (passes _ _ _ c.requires.0.1).0.long)

pub returns : goal.returns
returns c =
    let f = c.args.field in
    let exchanged = c.exchange-former in
    let small : exchanged.result.0 < 65536 = search rules in
    let sum = new_checksum _ _ f.number (c.checksum-sum.ensures.0 ∙ (passes _ _ _ c.requires.0.1).0.sum) f.low f.high exchanged.result c.args.code exchanged.ensures.1 small in (
      subst (λ (n : ℕ). Carded c.args.buffer.now c.set_checksum.new.s (set (set (numbers_of c.args.buffer.now) f.number c.args.code.0) 47 n)) sum
          (carded_then _ _ _ _ 47 _ exchanged.ensures.0 c.set_checksum.ensures),
      exchanged.ensures.1,
    )
