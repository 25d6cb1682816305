use Rattle.vista_region.proofs.Common.{◌/◌, ap, arith, refl, ◌+◌}
use Rattle.vista_region.proofs.data.data_span.Goals as goal

pub returns : goal.returns
returns c =
    record {
      place = ap (λ x. x + c.args.off / 8) c.data_place.ensures;
      count = refl;
      within = omega (arith, c.if-not-ends_within.ensures, c.data_place.ensures);
      inside = c.if-not-ends_within.ensures;
    }
