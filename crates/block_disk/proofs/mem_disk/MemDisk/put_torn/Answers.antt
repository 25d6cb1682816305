use Rattle.std.proofs.Common.{ℕ, Bool, List, length, set, true, ◌∙◌, ap, subst, sym}
use Rattle.std.proofs.lemmas.List.{length-set}
use Rattle.rio_base.specs.Disks.{block_at}
use Rattle.block_disk.specs.BlockLists.{AreSettled, AreWhole, rows, torn_words}
use Rattle.block_disk.proofs.Replacing.{set_whole, settled_set}
use Rattle.block_disk.proofs.Rows.{torn_length}
use Rattle.block_disk.proofs.mem_disk.MemDisk.put_torn.Goals as goal

pub invariant_of-self-clause-marks : goal.invariant_of-self-clause-marks
invariant_of-self-clause-marks c =
    let disk = c.args.self.now in
    ap length c.mark.ensures ∙ length-set disk.pending.marks.items c.args.b.0 true ∙ disk.marks ∙ sym (ap length c.tear_block.ensures ∙ length-set (rows disk.blocks.items) c.args.b.0 (torn_words c.args.from.now (block_at (rows disk.blocks.items) c.args.b.0)))

pub invariant_of-self-clause-whole : goal.invariant_of-self-clause-whole
invariant_of-self-clause-whole c = subst AreWhole (sym c.tear_block.ensures) (set_whole _ _ _ c.args.self.now.whole (torn_length _ _ c.requires.words (c.args.self.now.whole _ c.requires.block)))

pub invariant_of-self-clause-settled : goal.invariant_of-self-clause-settled
invariant_of-self-clause-settled c =
    let disk = c.args.self.now in
    subst (λ (pending : List Bool). AreSettled pending (rows c.tear_block.new.blocks.items) (rows disk.synced.items)) (sym c.mark.ensures)
    (subst (λ (blocks : List (List ℕ)). AreSettled (set disk.pending.marks.items c.args.b.0 true) blocks (rows disk.synced.items)) (sym c.tear_block.ensures) (settled_set disk.pending.marks.items (rows disk.blocks.items) (rows disk.synced.items) c.args.b.0 (torn_words c.args.from.now (block_at (rows disk.blocks.items) c.args.b.0)) disk.marks disk.settled))
