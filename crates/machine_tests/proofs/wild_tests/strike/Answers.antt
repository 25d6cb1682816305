use Rattle.machine_tests.proofs.CachePlaces.{place_within}
use Rattle.machine_tests.proofs.wild_tests.strike.Goals as goal

pub wild-requires-clause-place : goal.wild-requires-clause-place
wild-requires-clause-place g c = place_within _ (g.M.Machine.run c.args.v.now.machine) _ c.args.at.0 c.requires.sound (g.met.M.Machine.protected_words c.args.v.now.machine) c.requires.place

pub returns-clause-walks : goal.returns-clause-walks
returns-clause-walks g c = rw c.wild.ensures.seen c.requires.walks
