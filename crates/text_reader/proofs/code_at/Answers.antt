-- `text_reader::code_at` meets its contract.
-- Assumes nothing.
use native.Mathlib.Omega.{arith}
use mathlib.Core.Path.{◌∙◌}
use Rattle.text_reader.proofs.Reading.{part_length, part-first, part_at, code_end, code-digit, code_space, code_one, code-run, code-pair, code-blank, code_two, code_escape}
use Rattle.text_reader.proofs.code_at.Goals as goal

pub returns-then-end-at : goal.returns-then-end-at
returns-then-end-at c =
    let args = c.args in
    let long = part_length args.s.now args.at args.end c.requires in
    code_end _ (omega (arith, long))

pub returns-then-n-lt10 : goal.returns-then-n-lt10
returns-then-n-lt10 c =
    let args = c.args in
    let long = part_length args.s.now args.at args.end c.requires in
    c.coded.ensures ∙ code-digit _ _ (part-first args.s.now args.at args.end c.requires (omega arith) _ c.packed_at-n.ensures.0) (omega (arith, long)) c.if-n-lt10.true

pub returns-then-n-eq10 : goal.returns-then-n-eq10
returns-then-n-eq10 c =
    let args = c.args in
    let long = part_length args.s.now args.at args.end c.requires in
    c.coded-then-n-eq10.ensures ∙ code_space _ _ (part-first args.s.now args.at args.end c.requires (omega arith) _ c.packed_at-n.ensures.0) (omega (arith, long)) c.if-n-eq10.true

pub returns-then-end-at-lt2 : goal.returns-then-end-at-lt2
returns-then-end-at-lt2 c =
    let args = c.args in
    let long = part_length args.s.now args.at args.end c.requires in
    code_one _ _ (part-first args.s.now args.at args.end c.requires (omega arith) _ c.packed_at-n.ensures.0) (omega (arith, long)) c.if-n-lt10.false c.if-n-eq10.false (omega (arith, long))

pub returns-then-n-eq11 : goal.returns-then-n-eq11
returns-then-n-eq11 c =
    let args = c.args in
    let long = part_length args.s.now args.at args.end c.requires in
    c.coded-then-n-eq11.ensures ∙ code-run _ _ (part-first args.s.now args.at args.end c.requires (omega arith) _ c.packed_at-n.ensures.0) (omega (arith, long)) c.if-n-lt10.false c.if-n-eq10.false _
    (part_at args.s.now args.at args.end c.requires 1 (omega arith) _ c.packed_at-m.ensures.0) (omega (arith, long)) c.if-n-eq11.true

pub returns-in_err-byte : goal.returns-in_err-byte
returns-in_err-byte c =
    let args = c.args in
    let long = part_length args.s.now args.at args.end c.requires in
    c.from_residual.ensures ∙ code-blank _ _ (part-first args.s.now args.at args.end c.requires (omega arith) _ c.packed_at-n.ensures.0) (omega (arith, long)) c.if-n-lt10.false c.if-n-eq10.false _
    (part_at args.s.now args.at args.end c.requires 1 (omega arith) _ c.packed_at-m.ensures.0) (omega (arith, long)) c.if-n-eq11.false c.if-n-lt15.true c.in_err-byte.ensures

pub returns-then-n-lt15 : goal.returns-then-n-lt15
returns-then-n-lt15 c =
    let args = c.args in
    let long = part_length args.s.now args.at args.end c.requires in
    c.coded-then-n-lt15.ensures ∙ code-pair _ _ (part-first args.s.now args.at args.end c.requires (omega arith) _ c.packed_at-n.ensures.0) (omega (arith, long)) c.if-n-lt10.false c.if-n-eq10.false _
    (part_at args.s.now args.at args.end c.requires 1 (omega arith) _ c.packed_at-m.ensures.0) (omega (arith, long)) c.if-n-eq11.false c.if-n-lt15.true _ c.in_ok-byte.ensures

pub returns-then-end-at-lt3 : goal.returns-then-end-at-lt3
returns-then-end-at-lt3 c =
    let args = c.args in
    let long = part_length args.s.now args.at args.end c.requires in
    code_two _ _ (part-first args.s.now args.at args.end c.requires (omega arith) _ c.packed_at-n.ensures.0) (omega (arith, long)) c.if-n-lt10.false c.if-n-eq10.false _
    (part_at args.s.now args.at args.end c.requires 1 (omega arith) _ c.packed_at-m.ensures.0) (omega (arith, long)) c.if-n-eq11.false c.if-n-lt15.false (omega (arith, long))

pub returns : goal.returns
returns c =
    let args = c.args in
    let long = part_length args.s.now args.at args.end c.requires in
    c.coded-2.ensures ∙ code_escape _ _ (part-first args.s.now args.at args.end c.requires (omega arith) _ c.packed_at-n.ensures.0) (omega (arith, long)) c.if-n-lt10.false c.if-n-eq10.false _
    (part_at args.s.now args.at args.end c.requires 1 (omega arith) _ c.packed_at-m.ensures.0) (omega (arith, long)) c.if-n-eq11.false c.if-n-lt15.false _
    (part_at args.s.now args.at args.end c.requires 2 (omega arith) _ c.packed_at-l.ensures.0) (omega (arith, long))
