use Rattle.std.proofs.Common.{◌==◌, ap, sym, ◌∙◌, w8}
use Rattle.std.specs.Int.{w64, trailing_zeros}
use Rattle.std.proofs.lemmas.Simd.{bitmask_splat, length-chunk}
use lib.Lanes.{chunk}
use Rattle.request_codec.proofs.FarSteps.{first_marked, none_marked}
use Rattle.request_codec.proofs.NearEnds.{positive}
use Rattle.request_codec.proofs.byte_step.first_of.Goals as goal

pub returns-then-places-eq0 : goal.returns-then-places-eq0
returns-then-places-eq0 g c =
    let n = g.row.N in
    let run = chunk c.args.at n c.args.bytes.now in
    let mask = bitmask_splat w8 (λ a b. a == b) run n c.args.byte (length-chunk c.args.at n c.args.bytes.now c.requires.within) c.requires.few in
    none_marked c.args.byte c.args.at n c.args.bytes.now c.requires.within (sym mask ∙ c.if-places-eq0.true)

pub returns : goal.returns
returns g c =
    let n = g.row.N in
    let run = chunk c.args.at n c.args.bytes.now in
    let mask = bitmask_splat w8 (λ a b. a == b) run n c.args.byte (length-chunk c.args.at n c.args.bytes.now c.requires.within) c.requires.few in
    first_marked c.args.byte c.args.at n c.args.bytes.now _ c.requires.few c.requires.within (positive _ _ mask c.if-places-eq0.false) (ap (trailing_zeros w64) mask)
