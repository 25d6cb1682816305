use Rattle.request_codec.proofs.Cuts.{no_path_first, other_first}
use Rattle.request_codec.proofs.parts.path_at_front.Goals as goal

pub returns-in_err-path : goal.returns-in_err-path
returns-in_err-path c = rw c.from_residual.ensures (no_path_first c.args.text.now c.in_err-path.ensures)

pub returns-else-is_path : goal.returns-else-is_path
returns-else-is_path c = other_first c.args.text.now c.in_ok-path.path.now c.in_ok-path.rest.now c.in_ok-path.ensures (λ is. cc (c.if-is_path.ensures.1 is))
