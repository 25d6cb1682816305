use Rattle.std.proofs.Common.{arith}
use Rattle.frame_pool.proofs.Moves.{older_near, younger_near}
use Rattle.frame_pool.proofs.ring.move_first.Goals as goal

pub take_out-requires-clause-within : goal.take_out-requires-clause-within
take_out-requires-clause-within c = omega (arith, c.requires.within, c.requires.size)

pub take_out-requires-clause-older : goal.take_out-requires-clause-older
take_out-requires-clause-older c = omega (arith, older_near c.args.knot c.args.k c.args.frames.now c.requires.ring c.requires.once c.requires.within, c.requires.size)

pub take_out-requires-clause-younger : goal.take_out-requires-clause-younger
take_out-requires-clause-younger c = omega (arith, younger_near c.args.knot c.args.k c.args.frames.now c.requires.ring c.requires.once c.requires.within, c.requires.size)
