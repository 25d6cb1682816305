use Rattle.request_codec.proofs.Runs.{woven}
use Rattle.request_codec.proofs.hex_text.run_digits.Goals as goal

pub returns : goal.returns
returns c = rw (c.high_digits.ensures, c.low_digits.ensures) (woven c.args.run c.fits-run.0)
