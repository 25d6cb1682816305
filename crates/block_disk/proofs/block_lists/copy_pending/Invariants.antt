use Rattle.rio_base.specs.Disks.{block_at}
use Rattle.block_disk.specs.BlockLists.{AreWhole, rows}
use Rattle.block_disk.proofs.Replacing.{ReplacedFirst}
use Rattle.block_disk.proofs.block_lists.copy_pending.Given as goal

abbrev pub invariant-loop-i : goal.invariant-loop-i
invariant-loop-i l = record {
  replaced : ReplacedFirst l.i l.numbers (block_at (rows l.from)) (rows l.initial.to.items) (rows l.to.items);
  whole : AreWhole (rows l.to.items);
}
