use Rattle.block_disk.proofs.FileBlocks.{block_stored}
use Rattle.block_disk.proofs.host_disk.put_over.Goals as goal

pub returns : goal.returns
returns c = record { words = block_stored _ _ _ _ c.copy_from_slice.ensures.after c.requires.from c.requires.within }
