use Rattle.machine_tests.proofs.TwoEntries.{two_named}
use Rattle.machine_tests.proofs.shadow_tests.update_and_undo.Goals as goal

pub returns-in_err-undo-clause-two : goal.returns-in_err-undo-clause-two
returns-in_err-undo-clause-two g c = two_named (g.M.Machine.contents c.open_update.new.m) (g.M.Machine.contents c.undo.new.m) (g.M.Machine.run c.open_update.new.m) (g.M.Machine.run c.undo.new.m) c.in_ok-open_update.ensures.two c.in_err-undo.ensures.coherent c.in_err-undo.ensures.names c.in_err-undo.ensures.closed c.in_err-undo.ensures.ends.steps.scratch_count

pub returns-clause-two : goal.returns-clause-two
returns-clause-two g c = two_named (g.M.Machine.contents c.open_update.new.m) (g.M.Machine.contents c.undo.new.m) (g.M.Machine.run c.open_update.new.m) (g.M.Machine.run c.undo.new.m) c.in_ok-open_update.ensures.two c.in_ok-undo.ensures.coherent c.in_ok-undo.ensures.names c.in_ok-undo.ensures.closed c.in_ok-undo.ensures.ends.steps.scratch_count
