use Rattle.std.proofs.Common.{arith}
use Rattle.frame_pool.proofs.Lent.{keeps_then}
use Rattle.frame_pool.proofs.Moves.{is_last}
use Rattle.frame_pool.proofs.ring.put_last.Goals as goal

pub returns-clause-ring : goal.returns-clause-ring
returns-clause-ring c = λ xs out. is_last c.args.knot c.args.k xs c.args.frames.now c.join.new.frames c.join-2.new.frames out c.join.ensures.joins c.join-2.ensures.joins

pub returns-clause-same : goal.returns-clause-same
returns-clause-same c = keeps_then _ _ _ c.join.ensures.same c.join-2.ensures.same

pub join-requires-2-clause-first : goal.join-requires-2-clause-first
join-requires-2-clause-first c = omega (arith, c.join.ensures.same.size, c.requires.size, c.requires.within)
