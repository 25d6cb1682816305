use Rattle.std.proofs.Common.{◌∙◌}
use Rattle.machine_tests.proofs.wild_tests.fetch.Goals as goal

pub returns-clause-idle : goal.returns-clause-idle
returns-clause-idle g c = (g.met.V.Volume.passes_keeps _ _ c.word.ensures.passes).updating ∙ c.requires.idle
