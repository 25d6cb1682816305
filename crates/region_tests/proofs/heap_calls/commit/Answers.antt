use Rattle.region_tests.proofs.TestHeaps.{kept}
use Rattle.region_tests.proofs.heap_calls.commit.Goals as goal

pub returns-clause-heap : goal.returns-clause-heap
returns-clause-heap g c =
    let R = g.R.RegionWords in
    kept (R.count c.args.r.now) (R.count c.args.r.now) (R.count c.drop_all.new.r) (R.words c.args.r.now) (R.words c.drop_all.new.r) c.requires.heap c.in_ok-drop_all.ensures.ok c.drop_all.ensures.region
