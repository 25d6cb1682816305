use Rattle.std.proofs.Common.{◌∙◌, ap}
use Rattle.machine_tests.proofs.CachePlaces.{place_within}
use Rattle.machine_tests.proofs.wild_tests.arm.Goals as goal

pub arm-requires-clause-place : goal.arm-requires-clause-place
arm-requires-clause-place g c = place_within _ (g.M.Machine.run c.args.v.now.machine) _ c.args.at.0 c.requires.sound (g.met.M.Machine.protected_words c.args.v.now.machine) c.requires.place

pub returns-clause-walks : goal.returns-clause-walks
returns-clause-walks g c = rw c.arm.ensures.seen c.requires.walks

pub returns-clause-idle : goal.returns-clause-idle
returns-clause-idle g c = ap (λ k. k.updating) c.arm.ensures.kept ∙ c.requires.idle
