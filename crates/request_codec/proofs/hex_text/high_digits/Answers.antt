use Rattle.std.proofs.Common.{◌/◌, arith}
use Rattle.std.proofs.lemmas.Simd.{zip2_splat}
use Rattle.request_codec.proofs.Runs.{down, high_ok, looked_up}
use Rattle.request_codec.proofs.hex_text.high_digits.Goals as goal

pub swizzle : goal.swizzle
swizzle c = high_ok c.args.run c.fits-run

pub returns : goal.returns
returns c =
    let run = c.args.run in
    looked_up (λ x. x / 16) run _ c.fits-run (zip2_splat down run 16 4 c.fits-run.0) (λ x h. omega arith)
