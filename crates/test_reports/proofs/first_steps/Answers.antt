-- Each step is one of a reader that stands behind the step before.
use Rattle.std.proofs.Common.{◌≡◌, rules}
use Rattle.text_display.specs.Steps.{step_at}
use Rattle.test_reports.specs.FirstThree.{stands_behind}
use Rattle.test_reports.proofs.FirstThree.{three_in_turn}
use Rattle.test_reports.proofs.first_steps.Goals as goal

pub returns : goal.returns
returns c =
    let b = c.args.report.now in
    let start = c.open-start.result in
    let first = c.behind-behind_first.result in
    let second = c.behind-behind_second.result in
    let refusal : c.moved-last.result.refusal ≡ start.refusal = search rules in
    let one : c.next-first.result ≡ step_at b start.at start.end 0 = search rules in
    let two : c.next-second.result ≡ step_at b first.at start.end first.spaces = search rules in
    let twice : second ≡ stands_behind c.next-second.result first.at = search rules in
    let three : c.next-third.result ≡ step_at b second.at start.end second.spaces = search rules in
    three_in_turn c.args.table.now b start.at start.end start.refusal c.open-start.ensures.2 _ first second refusal
    one c.behind-behind_first.ensures two twice three
