-- `call_fetches::deck_set` meets its contract.
-- Assumes nothing.
use mir.Syntax.{w64}
use mir.ValLaws.{to_z-of_z}
use borrow.Author.Rules.{rules}
use mathlib.Core.Path.{ap, ◌∙◌}
use Rattle.numbers.specs.Words.{unsigned}
use Rattle.laws.proofs.Report.{passes}
use Rattle.call_fetches.proofs.Fetches.{no_source, a_source}
use Rattle.call_fetches.proofs.deck_set.Goals as goal

pub code-code-requires : goal.code-code-requires
code-code-requires c = (passes _ _ _ c.requires.1).0.long

pub returns-then-is_missing : goal.returns-then-is_missing
returns-then-is_missing c = no_source _ _ (rw c.at-field.ensures at c.code-code.ensures) _ c.is_missing.ensures c.if-is_missing.true

pub returns : goal.returns
returns c =
    let source = c.unsigned_of.ensures ∙ ap unsigned (to_z-of_z w64 _ (search rules)) in
    a_source _ _ (rw c.at-field.ensures at c.code-code.ensures) _ c.is_missing.ensures c.if-is_missing.false _ _ _
    (rw c.at-field.ensures at c.scaled-source.ensures) source c.source_set.ensures
