-- `lister_lines::lines_of` meets its contract: the lines of each outcome have room.
-- Assumes nothing.
use Rattle.std.proofs.Common.{rules, arith, ◌<◌, ◌^◌, sym, ap, ◌∙◌}
use Rattle.format.specs.Flags.{FlagTable, all_yes}
use Rattle.format.specs.Reply.{refusal_of, by_number}
use Rattle.report.specs.Answers.{inspected}
use Rattle.lister_lines.proofs.Puts.{puts_first, room_first}
use Rattle.lister_lines.proofs.Lines.{refused_lists, refused_short, fine_lists, fine_long, fine_short}
use Rattle.lister_lines.proofs.lines_of.Goals as goal

pub checksum-checksum-requires : goal.checksum-checksum-requires
checksum-checksum-requires c =
    let seen = c.inspect.ensures ∙ ap (λ (marks : FlagTable). inspected marks c.args.buffer.now 0) c.all_yes.ensures.0 in
    fine_long all_yes c.args.buffer.now c.in-Ok.report (sym (ap by_number c.in-Ok.is) ∙ seen)

pub put_observation-requires : goal.put_observation-requires
put_observation-requires c =
    let seen = c.inspect.ensures ∙ ap (λ (marks : FlagTable). inspected marks c.args.buffer.now 0) c.all_yes.ensures.0 in
    let fine = sym (ap by_number c.in-Ok.is) ∙ seen in
    let small : c.in-Ok.report.count < 2 ^ 64 = search rules in (
      fine_long all_yes c.args.buffer.now c.in-Ok.report fine,
      room_first _ _ c.new-lines.ensures (fine_short all_yes c.args.buffer.now c.in-Ok.report fine _ c.checksum-checksum.ensures.0 small),
    )

pub put_refusal-requires : goal.put_refusal-requires
put_refusal-requires c = room_first _ _ c.new-lines.ensures (refused_short c.number.result c.place.result (omega arith) (omega arith))

pub returns-in-Ok : goal.returns-in-Ok
returns-in-Ok c =
    let seen = c.inspect.ensures ∙ ap (λ (marks : FlagTable). inspected marks c.args.buffer.now 0) c.all_yes.ensures.0 in
    let fine = sym (ap by_number c.in-Ok.is) ∙ seen in
    puts_first _ _ _ _ c.new-lines.ensures c.put_observation.ensures
    (fine_lists all_yes c.args.buffer.now c.in-Ok.report fine _ c.checksum-checksum.ensures.0)

pub returns-in-Err : goal.returns-in-Err
returns-in-Err c =
    let seen = c.inspect.ensures ∙ ap (λ (marks : FlagTable). inspected marks c.args.buffer.now 0) c.all_yes.ensures.0 in
    let refused = sym (ap by_number c.in-Err.is) ∙ seen in
    puts_first _ _ _ _ c.new-lines.ensures c.put_refusal.ensures
    (refused_lists all_yes c.args.buffer.now (refusal_of c.in-Err.refusal) _ _ c.number.ensures c.place.ensures refused)
