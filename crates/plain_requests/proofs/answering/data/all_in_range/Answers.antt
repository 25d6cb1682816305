use Rattle.plain_requests.proofs.Common.{sym, ◌∙◌}
use Rattle.plain_requests.proofs.RegionSteps.{range_passed}
use Rattle.plain_requests.proofs.answering.data.all_in_range.Goals as goal

pub loop-done-preserved : goal.loop-done-preserved
loop-done-preserved c = c.loop-done.invariant ∙ range_passed c.args.ranges.now c.args.word c.loop-done.done c.args.count c.loop-done-test.true (sym c.in_range.ensures ∙ c.if-not-in_range.false)
