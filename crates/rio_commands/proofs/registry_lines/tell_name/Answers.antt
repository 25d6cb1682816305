use Rattle.rio_commands.proofs.Telling.{told_line}
use Rattle.rio_commands.proofs.registry_lines.tell_name.Goals as goal

pub returns-in-Err-clause-line : goal.returns-in-Err-clause-line
returns-in-Err-clause-line g c = told_line (rw c.as_bytes.ensures.value at c.send_name.ensures)
