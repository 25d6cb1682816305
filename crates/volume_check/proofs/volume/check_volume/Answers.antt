use Rattle.volume_check.proofs.Looking.{refused_err}
use Rattle.volume_check.proofs.Common.{err_from_is_err_and}
use Rattle.rio_model.specs.VolumeFails.{FailsVolume}
use Rattle.volume_check.proofs.volume.check_volume.Goals as goal

pub returns-in_err-census-clause-refused : goal.returns-in_err-census-clause-refused
returns-in_err-census-clause-refused g c =
    let s = g.V.Blocks.seen c.args.v.now in
    let p = err_from_is_err_and c.from_residual.result c.from_residual.ensures.1 in
    refused_err (FailsVolume s.words s.count) (FailsVolume s.words s.count) c.look_at_volume.result c.from_residual.result _ p.0 c.in_err-census.was p.1 p.2 (λ rule b h. h) c.look_at_volume.ensures.refused
