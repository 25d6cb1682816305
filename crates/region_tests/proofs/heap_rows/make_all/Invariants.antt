use Rattle.region_tests.specs.TestRegions.{IsHeap}
use Rattle.region_tests.proofs.heap_rows.make_all.Given as goal

abbrev pub invariant-loop-row : goal.invariant-loop-row
invariant-loop-row g l =
    let R = g.R.RegionWords in
    record {
      ready : R.ready l.r;
      heap : IsHeap (R.count l.r) (R.words l.r);
    }
