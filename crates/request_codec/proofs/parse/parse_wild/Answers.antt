use Rattle.request_codec.proofs.Meanings.{no_wild}
use Rattle.request_codec.proofs.parse.parse_wild.Goals as goal

pub returns-in_err-at : goal.returns-in_err-at
returns-in_err-at c = rw c.from_residual.ensures (no_wild c.args.text.now c.in_err-at.ensures)
