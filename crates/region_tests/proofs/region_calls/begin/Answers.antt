use Rattle.region_tests.proofs.TestTables.{begun}
use Rattle.region_tests.proofs.region_calls.begin.Goals as goal

pub returns-in-Ok : goal.returns-in-Ok
returns-in-Ok g c = record { sound = begun c.args.table.now c.begin.new.self 7 (g.R.RegionWords.count c.args._r.now) (g.R.RegionWords.words c.args._r.now) c.in-Ok.ensures.ok.0 c.in-Ok.ensures.ok.1 c.requires.sound }
