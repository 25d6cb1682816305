use Rattle.std.proofs.Common.{◌+◌, arith, refl}
use Rattle.std.proofs.lemmas.Simd.{length-put_chunk}
use Rattle.request_codec.proofs.HexRuns.{run_decoded, runs_none}
use Rattle.request_codec.proofs.hex_runs.decode_many.Goals as goal

pub runs-init : goal.runs-init
runs-init c = record { runs = refl; decoded = runs_none c.args.digits.now c.args.out.now }

pub runs-preserved : goal.runs-preserved
runs-preserved c =
    let digits = c.args.digits.now in
    let done = c.runs.done in
    let low = c.lesser-least in
    let high = c.larger-largest in
    let low2 = c.lesser-least-in-runs in
    let high2 = c.larger-largest-in-runs in
    let first = run_decoded digits c.runs.out c.runs.least c.runs.largest _ _ c.joined.result low.result high.result done (omega (arith, c.runs.invariant.runs)) c.read_run.ensures c.joined.ensures.lanes c.joined.ensures.bytes low.ensures.lanes low.ensures.each high.ensures.lanes high.ensures.each c.runs.invariant.decoded (done + 16) refl in
    record {
      runs = omega (arith, c.runs.invariant.runs);
      decoded = run_decoded digits _ low.result high.result _ _ c.joined-in-runs.result low2.result high2.result (done + 16) (omega (arith, c.runs.invariant.runs, length-put_chunk done c.runs.out c.joined.result)) c.read_run-in-runs.ensures c.joined-in-runs.ensures.lanes c.joined-in-runs.ensures.bytes low2.ensures.lanes low2.ensures.each high2.ensures.lanes high2.ensures.each first _ (omega arith);
    }
