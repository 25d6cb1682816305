use Rattle.std.specs.Prelude.{◌≡◌, length}
use Rattle.block_disk.specs.MemDisks.{state_of}
use Rattle.part_tests.proofs.mem_disk_tests.make_all.Given as goal

abbrev pub invariant-loop-row : goal.invariant-loop-row
invariant-loop-row g l = record {
  blocks : length (state_of l.disk).blocks ≡ 2;
  room : length l.room.items ≡ 512;
}
