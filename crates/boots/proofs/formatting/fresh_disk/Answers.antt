use Rattle.boots.proofs.FreshDisks.{disk_made, disk_words}
use Rattle.boots.proofs.formatting.fresh_disk.Goals as goal

pub returns-clause-fresh : goal.returns-clause-fresh
returns-clause-fresh c = let e = c.in_ok-words.ensures in disk_made _ _ _ _ c.requires e.value e.superblock e.marked c.deref.ensures.value c.from_words.ensures

pub returns-clause-made : goal.returns-clause-made
returns-clause-made c = disk_words _ _ _ _ _ c.in_ok-words.ensures.value c.deref.ensures.value c.from_words.ensures
