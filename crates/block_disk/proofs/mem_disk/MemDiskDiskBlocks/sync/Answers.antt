use Rattle.block_disk.specs.MemDisks.{state_of}
use Rattle.block_disk.proofs.Failing.{called, handed_on, went_on}
use Rattle.block_disk.proofs.mem_disk.MemDiskDiskBlocks.sync.Goals as goal

pub returns-in_err-begin-clause-cause : goal.returns-in_err-begin-clause-cause
returns-in_err-begin-clause-cause c = let inner = called _ _ _ c.in_err-begin.ensures.state c.in_err-begin.ensures.fails c.in_err-begin.ensures.cause in handed_on _ _ _ inner.last inner.cause

pub returns-clause-cause : goal.returns-clause-cause
returns-clause-cause c = let inner = called _ _ _ c.in_ok-begin.ensures.state c.in_ok-begin.ensures.fails c.in_ok-begin.ensures.cause in record { last = went_on _ (state_of c.begin.new.self) _ c.settle.ensures inner.last; cause = tt }
