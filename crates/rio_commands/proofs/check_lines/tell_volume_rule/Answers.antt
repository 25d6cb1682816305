use Rattle.rio_commands.proofs.Telling.{told_line}
use Rattle.rio_commands.proofs.check_lines.tell_volume_rule.Goals as goal

pub returns-in-Ok-clause-line : goal.returns-in-Ok-clause-line
returns-in-Ok-clause-line g c = told_line (rw (c.from.ensures, c.from-2.ensures) at c.send_volume_rule.ensures)

pub returns-in-Err-clause-line : goal.returns-in-Err-clause-line
returns-in-Err-clause-line g c = told_line (rw (c.from.ensures, c.from-2.ensures) at c.send_volume_rule.ensures)
