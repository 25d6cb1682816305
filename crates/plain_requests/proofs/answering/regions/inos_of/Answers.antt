use Rattle.plain_requests.proofs.Common.{Txn}
use Rattle.plain_requests.proofs.RegionSteps.{mapped_more}
use Rattle.plain_requests.proofs.answering.regions.inos_of.Goals as goal

pub loop-txn-preserved : goal.loop-txn-preserved
loop-txn-preserved c = mapped_more (λ (t : Txn). t.ino) c.args.txns.now c.loop-txn.txn-index _ c.loop-txn.inos.items c.push.new.self.items c.loop-txn-test.true c.txn-item.is c.loop-txn.invariant c.in_ok-push.ensures.items
