use Rattle.frame_pool.proofs.Victims.{Reached}
use Rattle.frame_pool.proofs.frame_pool.FramePool.victim.Given as goal

abbrev pub invariant-loop-passed : goal.invariant-loop-passed
invariant-loop-passed l = Reached l.self l._passed l.k
