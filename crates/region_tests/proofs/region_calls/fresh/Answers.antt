use Rattle.region_tests.proofs.TestTables.{fresh_sound}
use Rattle.region_tests.proofs.region_calls.fresh.Goals as goal

pub returns-clause-sound : goal.returns-clause-sound
returns-clause-sound c = fresh_sound c.args._table.now 7 c.args.pages c.in_ok-r.r c.in_ok-r.ensures.fresh
