use Rattle.std.proofs.Common.{◌≡◌}
use Rattle.block_disk.specs.BlockLists.{rows}
use Rattle.block_disk.proofs.WordBlocks.{blocks_below}
use Rattle.block_disk.proofs.block_lists.word_blocks.Given as goal

abbrev pub invariant-loop-b : goal.invariant-loop-b
invariant-loop-b l = rows l.all.items ≡ blocks_below l.words l.b
