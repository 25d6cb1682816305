use Rattle.rio_commands.proofs.check_lines.tell_check.Goals as goal

pub returns-in-Sound-clause-line : goal.returns-in-Sound-clause-line
returns-in-Sound-clause-line g c = rw c.in-Sound.is c.tell_census.ensures.line

pub returns-in-BadImage-clause-line : goal.returns-in-BadImage-clause-line
returns-in-BadImage-clause-line g c = rw c.in-BadImage.is c.tell_rule.ensures.line

pub returns-in-BadVolume-clause-line : goal.returns-in-BadVolume-clause-line
returns-in-BadVolume-clause-line g c = rw c.in-BadVolume.is c.tell_volume_rule.ensures.line

pub returns-in-Absent-clause-line : goal.returns-in-Absent-clause-line
returns-in-Absent-clause-line g c = rw c.in-Absent.is (rw c.file_name.ensures at c.tell_name.ensures.line)

pub returns-in-HostFault-clause-line : goal.returns-in-HostFault-clause-line
returns-in-HostFault-clause-line g c = rw c.in-HostFault.is (rw c.file_name-in-HostFault.ensures at c.tell_name-in-HostFault.ensures.line)

pub returns-in-Memory-clause-line : goal.returns-in-Memory-clause-line
returns-in-Memory-clause-line g c = rw c.in-Memory.is c.say.ensures.line
