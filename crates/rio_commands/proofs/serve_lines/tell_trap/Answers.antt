use Rattle.rio_commands.proofs.Telling.{told_line}
use Rattle.rio_commands.proofs.serve_lines.tell_trap.Goals as goal

pub returns-in-Ok-clause-line : goal.returns-in-Ok-clause-line
returns-in-Ok-clause-line g c = told_line (rw c.from.ensures at c.send_trap.ensures)

pub returns-in-Err-clause-line : goal.returns-in-Err-clause-line
returns-in-Err-clause-line g c = told_line (rw c.from.ensures at c.send_trap.ensures)
