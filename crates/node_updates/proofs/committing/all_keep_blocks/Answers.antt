use Rattle.request_ends.proofs.Common.{arith}
use Rattle.node_updates.proofs.Several.{all_keep, keep_next}
use Rattle.node_updates.proofs.committing.all_keep_blocks.Goals as goal

pub loop-change-preserved : goal.loop-change-preserved
loop-change-preserved c = record { kept = keep_next c.args.changes.now c.loop-change.change-index c.change-item.result c.loop-change-test.true c.change-item.is (c.keeps_blocks.ensures.keeps c.if-not-keeps_blocks.false) c.loop-change.invariant.kept }

pub returns : goal.returns
returns c = λ is d on. all_keep c.args.changes.now c.loop-change.change-index (omega (arith, c.loop-change-test.false)) c.loop-change.invariant.kept d on
