use Rattle.std.proofs.Common.{◌≡◌, length}
use Rattle.block_disk.specs.MemDisks.{state_of}
use Rattle.test_objects.specs.Covers.{AreBlocks, blocks_by}
use Rattle.test_objects.proofs.standing.covered_words.Given as goal

abbrev pub invariant-loop-b : goal.invariant-loop-b
invariant-loop-b l = record {
  disk : (state_of l.disk).blocks ≡ (state_of l.initial.disk).blocks;
  room : length l.room.items ≡ 512;
  count : length l.found.items ≡ 32768;
  found : AreBlocks (blocks_by l.shadows l.words (state_of l.initial.disk).blocks) l.b l.found.items;
}
