use Rattle.frame_pool.proofs.Victims.{never_past, read_first, read_pinned, read_victim}
use Rattle.frame_pool.proofs.frame_pool.FramePool.victim.Goals as goal

pub loop-passed-init : goal.loop-passed-init
loop-passed-init c = read_first c.args.self.now c.index.result.now c.index.ensures

pub loop-passed-preserved : goal.loop-passed-preserved
loop-passed-preserved c = read_pinned c.args.self.now c.loop-passed._passed c.loop-passed.k c.index-frame.result.now c.loop-passed.invariant c.loop-passed-test.true c.index-frame.ensures c.if-not-frame.false

pub unreachable-requires : goal.unreachable-requires
unreachable-requires c =
    let p = c.args.self.now in
    never_past p.frames.items p.count c.loop-passed._passed c.loop-passed.k p.once c.loop-passed.invariant.passed c.loop-passed-test.false c.requires.most

pub returns-then-not-frame : goal.returns-then-not-frame
returns-then-not-frame c = read_victim c.args.self.now c.loop-passed._passed c.loop-passed.k c.index-frame.result.now c.loop-passed.invariant c.loop-passed-test.true c.index-frame.ensures c.if-not-frame.true
