use Rattle.rio_model.specs.Undo.{IsRegion}
use Rattle.region_tests.specs.TestRegions.{Sound}
use Rattle.region_tests.proofs.region_rows.make_rows.Given as goal

abbrev pub invariant-loop-row : goal.invariant-loop-row
invariant-loop-row g l =
    let R = g.R.RegionWords in
    record {
      ready : R.ready l.r;
      sound : Sound l.table 7 (R.count l.r) (R.words l.r);
      region : IsRegion (R.count l.r) (R.words l.r);
    }
