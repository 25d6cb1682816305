use Rattle.std.proofs.Common.{◌∙◌}
use Rattle.machine_tests.proofs.ahead_tests.write_ahead.Goals as goal

pub returns-clause-idle : goal.returns-clause-idle
returns-clause-idle g c = c.write_ahead.ensures.passes.updating ∙ c.requires.idle
