use Rattle.request_codec.proofs.Meanings.{no_arm}
use Rattle.request_codec.proofs.parse.parse_arm.Goals as goal

pub returns-in_err-step : goal.returns-in_err-step
returns-in_err-step c = rw c.from_residual.ensures (no_arm c.args.text.now c.in_err-step.ensures)
