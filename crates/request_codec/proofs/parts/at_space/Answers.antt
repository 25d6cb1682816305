use Rattle.request_codec.proofs.Cuts.{no_space, first_space}
use Rattle.request_codec.proofs.parts.at_space.Goals as goal

pub returns-in_err-at : goal.returns-in_err-at
returns-in_err-at c = rw c.from_residual.ensures (no_space c.args.text.now c.in_err-at.ensures)

pub returns : goal.returns
returns c = first_space c.args.text.now c.in_ok-at.at c.in_ok-at.ensures.0 c.in_ok-at.ensures.1
