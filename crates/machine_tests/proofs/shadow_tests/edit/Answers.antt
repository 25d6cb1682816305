use Rattle.std.proofs.Common.{arith}
use Rattle.machine_tests.proofs.TwoEntries.{two_edited}
use Rattle.machine_tests.proofs.shadow_tests.edit.Goals as goal

pub returns-clause-two : goal.returns-clause-two
returns-clause-two g c = two_edited (g.M.Machine.contents c.args.m.now) (g.M.Machine.contents c.put_word.new.m) (g.M.Machine.run c.args.m.now) (g.M.Machine.run c.put_word.new.m) c.args.k 0 c.args.v c.requires.two c.requires.entry (omega arith) c.in_ok-put_word.ensures.stored c.in_ok-put_word.ensures.ends.steps.scratch_count
