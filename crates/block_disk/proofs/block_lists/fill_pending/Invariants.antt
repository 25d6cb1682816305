use Rattle.std.proofs.Common.{replicate}
use Rattle.block_disk.specs.BlockLists.{AreWhole, rows}
use Rattle.block_disk.proofs.Replacing.{ReplacedFirst}
use Rattle.block_disk.proofs.block_lists.fill_pending.Given as goal

abbrev pub invariant-loop-i : goal.invariant-loop-i
invariant-loop-i l = record {
  replaced : ReplacedFirst l.i l.numbers (λ b. replicate 512 l.word) (rows l.initial.blocks.items) (rows l.blocks.items);
  whole : AreWhole (rows l.blocks.items);
}
