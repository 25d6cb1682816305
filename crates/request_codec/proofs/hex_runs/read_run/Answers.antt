use Rattle.std.proofs.Common.{arith}
use Rattle.request_codec.proofs.HexRuns.{run_read_by}
use Rattle.request_codec.proofs.hex_runs.read_run.Goals as goal

pub returns : goal.returns
returns c = run_read_by _ _ _ _ (omega (arith, c.requires)) (omega (arith, c.requires)) (omega (arith, c.requires)) (omega (arith, c.requires)) c.args.digits _ c.fits-digits.0 c.fits-digits.1 c.lesser-values.ensures.lanes c.lesser-values.ensures.each
