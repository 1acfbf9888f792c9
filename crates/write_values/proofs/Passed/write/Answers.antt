-- `write_values::Passed::write` meets its contract: the fields, then the checksum, the count and RPTIN.
-- Assumes nothing.
use Prim.Native.Nat.{ℕ, ◌%◌}
use mathlib.Core.Path.{subst}
use mathlib.Core.List.{List, [], ◌∷◌, ◌++◌}
use Rattle.format.specs.Report.{numbers_of}
use Rattle.format.specs.Observation.{checksum}
use Rattle.card.specs.Answers.{Carded}
use Rattle.card.proofs.Laid.{carded_then}
use Rattle.write_values.specs.Lent.{codes_given, fielded}
use Rattle.write_values.proofs.Codes.{given-length, carded_whole}
use Rattle.write_values.proofs.Passed.write.Goals as goal

pub returns : goal.returns
unfolding checksum
returns c =
    let s : List ℕ = c.args.buffer.now in
    let cs : List ℕ = codes_given c.args.self.lent.values.now c.args.self.lent.word in
    let sum : ℕ = c.write_fields-sum.result in
    let a₁ = carded_then s c.write_fields-sum.new.buffer c.set_checksum.new.s (fielded (numbers_of s) cs 46) 47 (sum % 255) c.write_fields-sum.ensures.0 c.set_checksum.ensures in
    let a₂ = carded_then s c.set_checksum.new.s c.set_count.new.s _ 48 c.args.count a₁ c.set_count.ensures in
    let a₃ = carded_then s c.set_count.new.s c.set_rptin.new.s _ 0 c.args.rptin a₂ c.set_rptin.ensures in
    subst (λ (m : ℕ). Carded s c.set_rptin.new.s (c.args.rptin ∷ (cs ++ (m % 255 ∷ c.args.count ∷ [])))) c.write_fields-sum.ensures.1
    (carded_whole s c.set_rptin.new.s cs (sum % 255) c.args.count c.args.rptin (given-length c.args.self.lent.values.now c.args.self.lent.word c.args.self.lent.long) a₃)
