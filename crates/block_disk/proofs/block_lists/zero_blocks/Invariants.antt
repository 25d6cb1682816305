use Rattle.std.proofs.Common.{◌≡◌, replicate}
use Rattle.block_disk.specs.BlockLists.{rows}
use Rattle.block_disk.proofs.block_lists.zero_blocks.Given as goal

abbrev pub invariant-loop : goal.invariant-loop
invariant-loop l = rows l.all.items ≡ replicate l.counter (replicate 512 0)
