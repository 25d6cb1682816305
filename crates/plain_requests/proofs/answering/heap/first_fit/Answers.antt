use Rattle.plain_requests.proofs.Common.{◌+◌, sym, ap, ◌∙◌, ◌&&◌}
use Rattle.std.specs.Prelude.{nat_le}
use Rattle.rio_requests.specs.RegionAnswers.{all_free}
use Rattle.plain_requests.proofs.FreeInodes.{find-passed}
use Rattle.plain_requests.proofs.answering.heap.first_fit.Goals as goal

pub loop-unit-preserved : goal.loop-unit-preserved
loop-unit-preserved c =
    c.loop-unit.invariant ∙ find-passed (λ t. nat_le (t + c.args.units) c.units_in-all.result && all_free c.args.region.now.blocks t c.args.units) c.loop-unit.unit c.loop-unit.unit c.units_in-all.result c.loop-unit-test.true (ap (λ bs. nat_le (c.loop-unit.unit + c.args.units) c.units_in-all.result && all_free bs c.loop-unit.unit c.args.units) (sym c.as_slice.ensures) ∙ sym c.fits.ensures ∙ c.if-fits.false)
