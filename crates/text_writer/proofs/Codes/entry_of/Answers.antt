-- `text_writer::Codes::entry_of` meets its contract.
-- Assumes nothing.
use borrow.Author.Rules.{rules}
use Rattle.text_writer.proofs.Entries.{entry_plain, entry_original}
use Rattle.text_writer.proofs.Codes.entry_of.Goals as goal

pub returns-then-origin-eq0 : goal.returns-then-origin-eq0
returns-then-origin-eq0 c = entry_plain _ _ _ c.args.self.formed (search rules) c.if-origin-eq0.true

pub returns : goal.returns
returns c = entry_original _ _ _ (search rules) c.if-origin-eq0.false
