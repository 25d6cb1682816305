use Rattle.std.proofs.Common.{◌≡◌, subst, arith}
use Rattle.frame_pool.specs.Frames.{older_at, younger_at}
use Rattle.frame_pool.proofs.Ranges.{AreLinked, range_ring}
use Rattle.frame_pool.proofs.ring.link_all.Goals as goal

pub returns-clause-ring : goal.returns-clause-ring
returns-clause-ring c =
    let n : c.loop-k.k ≡ c.args.knot = omega (arith, c.loop-k-test.false, c.loop-k.auto.k-end) in
    range_ring c.loop-k.frames c.join-2.new.frames c.args.knot (subst (AreLinked (older_at c.loop-k.frames) (younger_at c.loop-k.frames)) n c.loop-k.invariant.1) c.join-2.ensures.joins
