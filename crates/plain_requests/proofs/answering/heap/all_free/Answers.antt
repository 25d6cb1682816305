use Rattle.plain_requests.proofs.Common.{sym, ◌∙◌}
use Rattle.plain_requests.proofs.RegionSteps.{free_passed}
use Rattle.plain_requests.proofs.answering.heap.all_free.Goals as goal

pub loop-done-preserved : goal.loop-done-preserved
loop-done-preserved c = c.loop-done.invariant ∙ free_passed c.args.blocks.now c.args.unit c.loop-done.done c.args.units c.loop-done-test.true (sym c.in_block.ensures ∙ c.if-in_block.false)
