use Rattle.rio_model.specs.Undo.{IsRegion}
use Rattle.test_objects.specs.FaultyRegions.{FaultyReady, faulty_content}
use Rattle.region_tests.proofs.covering_tests.with_saved.Given as goal

abbrev pub invariant-loop-first : goal.invariant-loop-first
invariant-loop-first l = record {
  ready : FaultyReady l.r;
  region : IsRegion l.r.count (faulty_content l.r);
}
