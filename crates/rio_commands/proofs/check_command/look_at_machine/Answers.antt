use Rattle.rio_commands.proofs.Checking.{examined_failed}
use Rattle.rio_commands.proofs.check_command.look_at_machine.Goals as goal

pub returns-in-Ok-clause-examined : goal.returns-in-Ok-clause-examined
returns-in-Ok-clause-examined g c = record { examines = c.in-Ok.ensures.settled c.requires.header c.requires.settled }

pub returns-in-Err-clause-examined : goal.returns-in-Err-clause-examined
returns-in-Err-clause-examined g c = examined_failed _ _ _ _ _ _ _ c.unexamined.ensures c.requires.running c.in-Err.ensures.untouched.run c.in-Err.ensures.unexamined
