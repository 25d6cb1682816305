use Rattle.rio_commands.proofs.serve_lines.tell_loop.Goals as goal

pub returns-in-Memory-clause-line : goal.returns-in-Memory-clause-line
returns-in-Memory-clause-line g c = rw c.in-Memory.is c.say.ensures.line

pub returns-in-SourceFault-clause-line : goal.returns-in-SourceFault-clause-line
returns-in-SourceFault-clause-line g c = rw c.in-SourceFault.is c.say-in-SourceFault.ensures.line

pub returns-in-Stopped-clause-line : goal.returns-in-Stopped-clause-line
returns-in-Stopped-clause-line g c = rw c.in-Stopped.is c.tell_stop.ensures.line

pub returns-in-InputLimit-clause-line : goal.returns-in-InputLimit-clause-line
returns-in-InputLimit-clause-line g c = rw c.in-InputLimit.is c.say-in-InputLimit.ensures.line
