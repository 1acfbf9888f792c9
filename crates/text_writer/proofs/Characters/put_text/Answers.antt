-- `text_writer::Characters::put_text` meets its contract.
-- Assumes nothing.
use native.Mathlib.Omega.{arith}
use mathlib.Core.Path.{sym, ◌∙◌}
use mathlib.Core.List.{[], ◌∷◌}
use lib.ListN.{length-append}
use borrow.Author.Rules.{rules}
use Rattle.std.proofs.lemmas.Slice.Zip.{zip_turn, zip_end}
use Rattle.text_writer.proofs.Writer.{fit_pairs, writing_unfit, writing_none, writing_more, writing_long, writing_end}
use Rattle.text_writer.proofs.Characters.put_text.Goals as goal

pub returns-then-not-all_admitted : goal.returns-then-not-all_admitted
returns-then-not-all_admitted c = writing_unfit _ _ _ (sym c.if-not-all_admitted.true ∙ c.all_admitted.ensures ∙ fit_pairs _ _ c.args.symbols.even)

pub loop-byte-init : goal.loop-byte-init
loop-byte-init c =
    (omega arith, writing_none _ _ (record { size = c.requires; fit = sym c.if-not-all_admitted.false ∙ c.all_admitted.ensures ∙ fit_pairs _ _ c.args.symbols.even }))

pub returns-then-placed-gt-LONGEST : goal.returns-then-placed-gt-LONGEST
returns-then-placed-gt-LONGEST c =
    let args = c.args in
    let turn =
    zip_turn args.symbols.bytes.now args.symbols.origins.now c.loop-byte.yielded c.into_iter-byte-iterator.result c.loop-byte.byte-iterator c.next.new.self _
    (search rules) (search rules) c.loop-byte.yielded_by _ c.in-Some.is c.next.ensures.steps in
    writing_long _ _ _ _ _ _ _ _ _ c.loop-byte.invariant.1 turn.0 _ _ (turn.2 0) (turn.3 0) (search rules) args.self c.put_symbol-placed.ensures c.if-placed-gt-LONGEST.true

pub loop-byte-preserved : goal.loop-byte-preserved
loop-byte-preserved c =
    let args = c.args in
    let turn =
    zip_turn args.symbols.bytes.now args.symbols.origins.now c.loop-byte.yielded c.into_iter-byte-iterator.result c.loop-byte.byte-iterator c.next.new.self _
    (search rules) (search rules) c.loop-byte.yielded_by _ c.in-Some.is c.next.ensures.steps in
    rw (length-append c.loop-byte.yielded ((c.in-Some.byte, c.in-Some.origin) ∷ []))
    (writing_more _ _ _ _ _ _ _ _ _ c.loop-byte.invariant.1 turn.0 _ _ (turn.2 0) (turn.3 0) (search rules) args.self c.put_symbol-placed.ensures c.if-placed-gt-LONGEST.false)

pub returns : goal.returns
returns c =
    let args = c.args in
    let inv = c.loop-byte.invariant.1 in
    let done =
    zip_end args.symbols.bytes.now args.symbols.origins.now c.loop-byte.yielded c.into_iter-byte-iterator.result c.loop-byte.byte-iterator c.next.new.self _
    (search rules) (search rules) c.loop-byte.yielded_by c.in-None.is c.next.ensures.steps in
    writing_end _ _ _ _ _ _ inv (omega (arith, done, args.symbols.even))
