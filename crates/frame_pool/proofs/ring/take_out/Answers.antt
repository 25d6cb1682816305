use Rattle.frame_pool.proofs.Moves.{is_out}
use Rattle.frame_pool.proofs.ring.take_out.Goals as goal

pub returns-clause-out : goal.returns-clause-out
returns-clause-out c = λ n ring once less. is_out n c.args.k c.args.frames.now c.join.new.frames ring once less c.join.ensures.joins
