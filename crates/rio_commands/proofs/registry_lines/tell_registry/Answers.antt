use Rattle.rio_commands.proofs.registry_lines.tell_registry.Goals as goal

pub returns-in-Absent-clause-line : goal.returns-in-Absent-clause-line
returns-in-Absent-clause-line g c = rw c.in-Absent.is c.tell_name.ensures.line

pub returns-in-HostFault-clause-line : goal.returns-in-HostFault-clause-line
returns-in-HostFault-clause-line g c = rw c.in-HostFault.is c.tell_name-in-HostFault.ensures.line

pub returns-in-Memory-clause-line : goal.returns-in-Memory-clause-line
returns-in-Memory-clause-line g c = rw c.in-Memory.is c.say.ensures.line
