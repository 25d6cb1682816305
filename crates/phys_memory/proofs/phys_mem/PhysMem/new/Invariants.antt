use Rattle.std.proofs.Common.{◌≡◌, ◌*◌, ◌+◌, replicate}
use Rattle.phys_memory.proofs.phys_mem.PhysMem.new.Given as goal

-- the words before this one are written
abbrev pub invariant-loop-at : goal.invariant-loop-at
invariant-loop-at l = (l.block.words ≡ replicate l.at 0) × (l.at + l.block.left ≡ l.len) × (l.lease.ptr ≡ l.block.ptr) × (l.lease.count ≡ l.len) × (l.lease.alloc ≡ l.alloc) × (l.len ≡ 512 * l.pages)
