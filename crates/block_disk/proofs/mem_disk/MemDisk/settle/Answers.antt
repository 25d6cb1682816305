use Rattle.std.proofs.Common.{◌≡◌, length, replicate, false, ap, refl, ◌∙◌}
use Rattle.block_disk.specs.BlockLists.{rows}
use Rattle.block_disk.proofs.Replacing.{synced_all}
use Rattle.block_disk.proofs.mem_disk.MemDisk.settle.Goals as goal

pub returns : goal.returns
returns c =
    let replaced = rw c.deref.ensures.value at c.copy_pending.ensures.replaced in
    let synced : rows c.copy_pending.new.to.items ≡ rows c.args.self.now.blocks.items = synced_all _ _ _ _ replaced c.args.self.now.synced_count c.args.self.now.settled in
    let pending : c.clear.new.self.marks.items ≡ replicate (length (rows c.args.self.now.blocks.items)) false = c.clear.ensures ∙ ap (λ n. replicate n false) c.args.self.now.marks in
    rw (synced, pending) refl
