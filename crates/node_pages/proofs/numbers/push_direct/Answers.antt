use Rattle.node_pages.proofs.Common.{arith, numbers}
use Rattle.node_pages.proofs.Listed.{block_next}
use Rattle.node_pages.proofs.numbers.push_direct.Goals as goal

pub loop-p-preserved : goal.loop-p-preserved
loop-p-preserved c =
    let inv = c.loop-p.invariant in
    record {
      from = omega (arith, inv.from);
      to = omega (arith, c.loop-p-test.true);
      found = λ n is. block_next (numbers c.args.blocks.now.items) n c.args.first c.loop-p.p c.loop-p.blocks.items c.push.new.self.items _ inv.from (inv.found n is) c.in_ok-push.ensures.items (is c.loop-p.p inv.from c.loop-p-test.true);
    }
