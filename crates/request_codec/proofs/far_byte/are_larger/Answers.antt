use Rattle.std.proofs.Common.{arith, leb, sym, ◌∙◌, w8}
use Rattle.std.proofs.lemmas.Bool.{eqb-true}
use Rattle.std.proofs.lemmas.Simd.{bitmask_splat}
use Rattle.request_codec.proofs.FarSteps.{all_larger}
use Rattle.request_codec.proofs.far_byte.are_larger.Goals as goal

pub returns : goal.returns
returns c = λ told j below.
    let mask = bitmask_splat w8 leb c.args.least 32 c.args.byte c.fits-least.0 (omega arith) in
    all_larger c.args.byte c.args.least c.fits-least.0 (sym mask ∙ eqb-true _ _ told) j below
