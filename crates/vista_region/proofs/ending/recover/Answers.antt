use Rattle.vista_region.proofs.Outcomes.{held_records}
use Rattle.vista_region.proofs.ending.recover.Goals as goal

pub returns-clause-held : goal.returns-clause-held
returns-clause-held g c = held_records (g.R.RegionWords.count c.args.r.now) (g.R.RegionWords.words c.args.r.now) c.in_ok-head.head c.requires.region c.in_ok-head.ensures.value
