use Rattle.plain_requests.proofs.Common.{◌+◌, ap, ◌∙◌, is_none, get}
use Rattle.plain_requests.proofs.FreeInodes.{find-passed}
use Rattle.plain_requests.proofs.answering.making.least_free.Goals as goal

pub loop-below-preserved : goal.loop-below-preserved
loop-below-preserved c =
    c.loop-below.invariant ∙ find-passed (λ i. is_none (get c.args.s.now.nodes i)) (c.loop-below.below + 1) c.loop-below.below c.args.s.now.shape.inodes c.loop-below-test.true (ap is_none c.in-Some.ensures)
