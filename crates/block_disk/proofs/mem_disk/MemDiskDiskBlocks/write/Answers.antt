use Rattle.block_disk.specs.MemDisks.{state_of}
use Rattle.block_disk.proofs.Failing.{called, wrote}
use Rattle.block_disk.proofs.mem_disk.MemDiskDiskBlocks.write.Goals as goal

pub returns-in-Ok-clause-cause : goal.returns-in-Ok-clause-cause
returns-in-Ok-clause-cause c = wrote _ _ (state_of c.begin.new.self) _ _ _ c.put.ensures (called _ _ _ c.in-Ok.ensures.state c.in-Ok.ensures.fails c.in-Ok.ensures.cause)

pub returns-in-Err-clause-cause : goal.returns-in-Err-clause-cause
returns-in-Err-clause-cause c = wrote _ _ (state_of c.begin.new.self) _ _ _ c.put_torn.ensures (called _ _ _ c.in-Err.ensures.state c.in-Err.ensures.fails c.in-Err.ensures.cause)
