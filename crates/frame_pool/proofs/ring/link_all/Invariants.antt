use Rattle.frame_pool.specs.Frames.{older_at, younger_at}
use Rattle.frame_pool.specs.Rings.{KeepsFrames}
use Rattle.frame_pool.proofs.Ranges.{AreLinked}
use Rattle.frame_pool.proofs.ring.link_all.Given as goal

abbrev pub invariant-loop-k : goal.invariant-loop-k
invariant-loop-k l = KeepsFrames l.initial.frames l.frames × AreLinked (older_at l.frames) (younger_at l.frames) l.k
