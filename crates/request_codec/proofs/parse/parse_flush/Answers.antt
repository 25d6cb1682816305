use Rattle.request_codec.proofs.Meanings.{no_flush}
use Rattle.request_codec.proofs.parse.parse_flush.Goals as goal

pub returns-in_err-count : goal.returns-in_err-count
returns-in_err-count c = rw c.from_residual.ensures (no_flush c.args.text.now c.in_err-count.ensures)
