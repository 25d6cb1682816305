use Rattle.machine_tests.proofs.TwoEntries.{two_named}
use Rattle.machine_tests.proofs.shadow_tests.update.Goals as goal

pub returns-clause-two : goal.returns-clause-two
returns-clause-two g c = two_named (g.M.Machine.contents c.open_update.new.m) (g.M.Machine.contents c.commit.new.m) (g.M.Machine.run c.open_update.new.m) (g.M.Machine.run c.commit.new.m) c.in_ok-open_update.ensures.two c.in_ok-commit.ensures.coherent c.in_ok-commit.ensures.names c.in_ok-commit.ensures.closed c.in_ok-commit.ensures.ends.steps.scratch_count
