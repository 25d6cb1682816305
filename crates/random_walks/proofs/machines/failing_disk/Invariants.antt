use Rattle.block_disk.specs.MemDisks.{state_of}
use Rattle.test_servers.specs.FreshMachines.{IsFreshDisk}
use Rattle.random_walks.proofs.machines.failing_disk.Given as goal

-- it has the fresh volume
abbrev pub invariant-loop-n : goal.invariant-loop-n
invariant-loop-n l = record { disk : IsFreshDisk l.fn.shape (state_of l.disk).blocks (state_of l.disk).pending }
