use Rattle.rio_model.specs.Undo.{IsRegion}
use Rattle.test_objects.specs.FaultyRegions.{FaultyReady, faulty_content}
use Rattle.region_tests.proofs.undo_cut_tests.cut_tries.Given as goal

abbrev pub invariant-loop-t : goal.invariant-loop-t
invariant-loop-t g l = record {
  ready : FaultyReady l.r;
  region : IsRegion l.r.count (faulty_content l.r);
}
