-- `call_puts::put_text_found` meets its contract.
-- Assumes nothing.
use native.Mathlib.Omega.{arith}
use borrow.Author.Rules.{rules}
use mathlib.Core.Path.{sym, ◌∙◌}
use lib.Seq.{length-take-le}
use Rattle.format.specs.Bits.{Bytes}
use Rattle.laws.proofs.Results.{bytes_in, err_is}
use Rattle.report.proofs.Found.{found_by}
use Rattle.call_puts.proofs.Puts.{text_unpaired, text_refused, text_byte, text_empty, text_within, text_fine_at, text_done, text_full}
use Rattle.call_puts.proofs.put_text_found.Goals as goal

pub returns-then-text-origins : goal.returns-then-text-origins
returns-then-text-origins c marks a =
    let bytes : Bytes c.args.buffer.now = search (rules, bytes_in) in
    text_unpaired _ bytes (found_by c.requires.1 a) _ _ (omega arith)

pub returns-in_err-count : goal.returns-in_err-count
returns-in_err-count c marks a =
    let bytes : Bytes c.args.buffer.now = search (rules, bytes_in) in
    let refused = text_refused _ bytes (found_by c.requires.1 a) _ _ (omega arith) c.write.ensures _ c.in_err-count.was in
    rw (err_is _ _ c.from_residual.ensures.1) refused

pub returns-then-count-eq0 : goal.returns-then-count-eq0
returns-then-count-eq0 c marks a =
    let bytes : Bytes c.args.buffer.now = search (rules, bytes_in) in
    text_empty _ bytes (found_by c.requires.1 a) _ _ (omega arith) c.write.ensures c.in_ok-count.was c.if-count-eq0.true

pub slice_bounds-nibbles-end : goal.slice_bounds-nibbles-end
slice_bounds-nibbles-end c =
    let bytes : Bytes c.args.buffer.now = search (rules, bytes_in) in
    text_within _ bytes c.requires.1 _ _ (omega arith) c.write.ensures c.in_ok-count.was

pub slice_bounds-put_nibbles-end : goal.slice_bounds-put_nibbles-end
slice_bounds-put_nibbles-end c =
    let bytes : Bytes c.args.buffer.now = search (rules, bytes_in) in
    sym (length-take-le _ _ (text_within _ bytes c.requires.1 _ _ (omega arith) c.write.ensures c.in_ok-count.was))

pub put_nibbles-requires : goal.put_nibbles-requires
put_nibbles-requires c =
    let bytes : Bytes c.args.buffer.now = search (rules, bytes_in) in
    let fine = text_fine_at _ bytes c.requires.1 _ _ (omega arith) c.write.ensures c.in_ok-count.was c.if-count-eq0.false in
    record { marks = _; found = c.requires.1; fine = fine }

pub overflow_cast-result : goal.overflow_cast-result
overflow_cast-result c =
    let bytes : Bytes c.args.buffer.now = search (rules, bytes_in) in
    omega (arith, text_byte _ bytes c.requires.1 _ _ (omega arith) c.write.ensures c.in_ok-count.was)

pub returns-in_err-put_nibbles : goal.returns-in_err-put_nibbles
returns-in_err-put_nibbles c marks a =
    let bytes : Bytes c.args.buffer.now = search (rules, bytes_in) in
    let put = c.put_nibbles.ensures in
    let full = text_full _ bytes (found_by c.requires.1 a) _ _ (omega arith) c.write.ensures c.in_ok-count.was c.if-count-eq0.false put.1 in
    rw (err_is _ _ c.from_residual-in_err-put_nibbles.ensures.1) (full _ (sym c.in_err-put_nibbles.was ∙ put.0))

pub returns : goal.returns
returns c marks a =
    let bytes : Bytes c.args.buffer.now = search (rules, bytes_in) in
    let put = c.put_nibbles.ensures in
    let done = text_done _ bytes (found_by c.requires.1 a) _ _ (omega arith) c.write.ensures c.in_ok-count.was c.if-count-eq0.false put.1 in
    done _ (sym c.in_ok-put_nibbles.was ∙ put.0)
