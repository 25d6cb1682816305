use Rattle.std.proofs.Common.{◌+◌, ◌%◌, refl}
use Rattle.work_gen.specs.Requests.{rising}
use Rattle.work_gen.proofs.Rising.{one_more}
use Rattle.work_gen.proofs.bytes.rising_bytes.Goals as goal

pub loop-preserved : goal.loop-preserved
loop-preserved c =
    one_more c.loop.bytes.items c.push.new.self.items (rising c.args.first c.args.count) c.loop.byte ((c.loop.byte + 1) % 256) c.args.count c.loop.counter
    c.loop.invariant c.loop-test.true c.in_ok-push.ensures.items refl
