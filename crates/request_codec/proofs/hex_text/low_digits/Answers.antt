use Rattle.std.proofs.Common.{bit_and, slice_index, map, arith, ◌∙◌}
use Rattle.std.proofs.lemmas.Nat.{and_le_r, and_mask}
use Rattle.std.proofs.lemmas.Simd.{zip2_splat}
use Rattle.hex.specs.Hex.{lower_digits}
use Rattle.request_codec.proofs.Runs.{low_ok, looked_up}
use Rattle.request_codec.proofs.hex_text.low_digits.Goals as goal

pub swizzle : goal.swizzle
swizzle c = low_ok c.args.run c.fits-run

pub returns : goal.returns
returns c =
    let run = c.args.run in
    looked_up (λ x. bit_and x 15) run _ c.fits-run (zip2_splat bit_and run 16 15 c.fits-run.0) (λ x h. omega (arith, and_le_r x 15))
    ∙ (λ i. map (λ x. slice_index lower_digits (and_mask x 4 i)) run)
