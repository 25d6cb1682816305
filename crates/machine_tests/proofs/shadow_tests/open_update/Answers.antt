use Rattle.machine_tests.proofs.TwoEntries.{two_named}
use Rattle.machine_tests.proofs.shadow_tests.open_update.Goals as goal

pub returns-in_err-begin-clause-two : goal.returns-in_err-begin-clause-two
returns-in_err-begin-clause-two g c = two_named (g.M.Machine.contents c.args.m.now) (g.M.Machine.contents c.begin.new.m) (g.M.Machine.run c.args.m.now) (g.M.Machine.run c.begin.new.m) c.requires.two c.in_err-begin.ensures.coherent c.in_err-begin.ensures.names c.in_err-begin.ensures.closed c.in_err-begin.ensures.ends.steps.scratch_count

pub shadow_both-requires-clause-two : goal.shadow_both-requires-clause-two
shadow_both-requires-clause-two g c = two_named (g.M.Machine.contents c.args.m.now) (g.M.Machine.contents c.begin.new.m) (g.M.Machine.run c.args.m.now) (g.M.Machine.run c.begin.new.m) c.requires.two c.in_ok-begin.ensures.coherent c.in_ok-begin.ensures.names c.in_ok-begin.ensures.closed c.in_ok-begin.ensures.ends.steps.scratch_count
