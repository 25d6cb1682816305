use Rattle.std.proofs.Common.{◌≡◌, ◌+◌, length, take}
use Rattle.phys_memory.proofs.phys_mem.PhysMem.of_words.Given as goal

-- the words before this one are written
abbrev pub invariant-loop-at : goal.invariant-loop-at
invariant-loop-at l = (l.block.words ≡ take l.at l.words) × (l.at + l.block.left ≡ length l.words) × (l.lease.ptr ≡ l.block.ptr) × (l.lease.count ≡ length l.words) × (l.lease.alloc ≡ l.alloc)
