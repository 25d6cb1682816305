use Rattle.std.proofs.Common.{ap, ◌∙◌}
use Rattle.block_disk.specs.BlockLists.{rows}
use Rattle.block_disk.specs.MemDisks.{MemDiskState}
use Rattle.block_disk.specs.declared.mem_disk.MemDisk.{MemDisk}
use Rattle.block_disk.proofs.Replacing.{restored_all}
use Rattle.block_disk.proofs.mem_disk.MemDisk.after_crash.Goals.{in-AsRead, in-AsSynced, in-Filled}
use Rattle.block_disk.proofs.mem_disk.MemDisk.after_crash.Goals as goal

pub returns-clause-synced : goal.returns-clause-synced
returns-clause-synced c = elim c.match-choice.branch [
  | in-AsRead w ↦ λ e. absurd (cc)
  | in-AsSynced w ↦ λ e.
      let replaced = rw w.deref.ensures.value at w.copy_pending.ensures.replaced in
      ap (λ (s : MemDiskState). s.blocks) c.settle.ensures ∙ ap (λ (d : MemDisk). rows d.blocks.items) w.self-is
      ∙ restored_all _ _ _ _ replaced c.args.self.now.synced_count c.args.self.now.settled
  | in-Filled w ↦ λ e. absurd (cc)
]
