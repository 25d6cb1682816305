use Rattle.std.proofs.Common.{ap, length, subst, sym, ◌∙◌}
use Rattle.block_disk.specs.BlockLists.{AreWhole}
use Rattle.rio_base.proofs.WordBlocks.{blocks_many}
use Rattle.block_disk.proofs.WordBlocks.{blocks_whole}
use Rattle.block_disk.proofs.mem_disk.MemDisk.from_words.Goals as goal

pub invariant_of-result-clause-marks : goal.invariant_of-result-clause-marks
invariant_of-result-clause-marks c = c.in_ok-pending.ensures.count ∙ sym (ap length c.in_ok-blocks.ensures ∙ blocks_many c.args.words.now)

pub invariant_of-result-clause-whole : goal.invariant_of-result-clause-whole
invariant_of-result-clause-whole c = subst AreWhole (sym c.in_ok-blocks.ensures) (blocks_whole c.args.words.now)

pub invariant_of-result-clause-synced_whole : goal.invariant_of-result-clause-synced_whole
invariant_of-result-clause-synced_whole c = subst AreWhole (sym c.in_ok-synced.ensures) (blocks_whole c.args.words.now)
