use Rattle.plain_requests.proofs.Common.{arith, get, node_blocks}
use Rattle.plain_requests.proofs.Room.{left_all, left_more}
use Rattle.plain_requests.proofs.answering.room.free_count.Goals as goal

pub loop-below-preserved : goal.loop-below-preserved
loop-below-preserved c = left_more (λ i. node_blocks c.args.s.now i (get c.args.s.now.nodes i)) c.loop-below.below _ _ _ _ c.loop-below.invariant c.in_ok-used.ensures c.saturating_sub-left-in-loop-below.ensures

pub returns : goal.returns
returns c = left_all c.args.s.now c.loop-below.below _ (omega arith) (omega arith) c.loop-below.invariant
