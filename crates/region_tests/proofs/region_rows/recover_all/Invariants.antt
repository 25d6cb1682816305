use Rattle.rio_model.specs.Undo.{IsRegion}
use Rattle.region_tests.proofs.region_rows.recover_all.Given as goal

abbrev pub invariant-loop-row : goal.invariant-loop-row
invariant-loop-row g l =
    let R = g.R.RegionWords in
    record {
      ready : R.ready l.r;
      region : IsRegion (R.count l.r) (R.words l.r);
    }
