use Rattle.std.proofs.Common.{arith, refl}
use Rattle.request_codec.proofs.Runs.{run_more}
use Rattle.request_codec.proofs.hex_text.encode_runs.Goals as goal

pub runs-preserved : goal.runs-preserved
runs-preserved c = record {
  within = omega arith;
  front = run_more c.args.input.now c.runs.output _ c.runs.done _ (omega arith) (omega arith) c.run_digits-digits.ensures refl c.runs.invariant.front;
}
