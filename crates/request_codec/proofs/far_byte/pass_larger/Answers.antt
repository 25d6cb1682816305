use Rattle.std.proofs.Common.{arith, refl}
use Rattle.request_codec.proofs.FarSteps.{run_passed}
use Rattle.request_codec.proofs.far_byte.pass_larger.Goals as goal

pub runs-preserved : goal.runs-preserved
runs-preserved c = record {
  within = omega arith;
  passed = run_passed c.args.byte c.args.bytes.now _ c.runs.at 256 _ c.least_of_run.ensures (c.are_larger.ensures c.if-not-are_larger.false) refl c.runs.invariant.passed;
}
