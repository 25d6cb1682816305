use Rattle.test_servers.proofs.FreshMachineDisks.{disk_made, disk_unfailing}
use Rattle.test_servers.proofs.fresh_machine.fresh_disk.Goals as goal

pub returns-clause-fresh : goal.returns-clause-fresh
returns-clause-fresh c = let e = c.in_ok-words.ensures in disk_made _ _ _ _ c.requires e.value e.superblock e.marked c.deref.ensures.value c.from_words.ensures

pub returns-clause-unfailing : goal.returns-clause-unfailing
returns-clause-unfailing c = disk_unfailing _ _ c.from_words.ensures
