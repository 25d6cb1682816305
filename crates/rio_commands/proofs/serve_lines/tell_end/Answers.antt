use Rattle.rio_commands.proofs.serve_lines.tell_end.Goals as goal

pub returns-in-Worked-clause-line : goal.returns-in-Worked-clause-line
returns-in-Worked-clause-line g c = rw c.in-Worked.is c.tell_served.ensures.line

pub returns-in-BadImage-clause-line : goal.returns-in-BadImage-clause-line
returns-in-BadImage-clause-line g c = rw c.in-BadImage.is c.tell_rule.ensures.line

pub returns-in-BadVolume-clause-line : goal.returns-in-BadVolume-clause-line
returns-in-BadVolume-clause-line g c = rw c.in-BadVolume.is c.tell_volume_rule.ensures.line

pub returns-in-BootFault-clause-line : goal.returns-in-BootFault-clause-line
returns-in-BootFault-clause-line g c = rw c.in-BootFault.is c.say.ensures.line

pub returns-in-Memory-clause-line : goal.returns-in-Memory-clause-line
returns-in-Memory-clause-line g c = rw c.in-Memory.is c.say-in-Memory.ensures.line

pub returns-in-Absent-clause-line : goal.returns-in-Absent-clause-line
returns-in-Absent-clause-line g c = rw c.in-Absent.is (rw c.file_name.ensures at c.tell_name.ensures.line)

pub returns-in-HostFault-clause-line : goal.returns-in-HostFault-clause-line
returns-in-HostFault-clause-line g c = rw c.in-HostFault.is (rw c.file_name-in-HostFault.ensures at c.tell_name-in-HostFault.ensures.line)

pub returns-in-Unsaved-clause-line : goal.returns-in-Unsaved-clause-line
returns-in-Unsaved-clause-line g c = rw c.in-Unsaved.is c.tell_name-in-Unsaved.ensures.line

pub returns-in-BootStopped-clause-line : goal.returns-in-BootStopped-clause-line
returns-in-BootStopped-clause-line g c = rw c.in-BootStopped.is c.tell_stop.ensures.line
