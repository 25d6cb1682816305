use Rattle.std.proofs.Common.{ap, ◌∙◌}
use Rattle.block_disk.specs.MemDisks.{MemDiskState}
use Rattle.rio_base.specs.Disks.{DiskContents, is_pending}
use Rattle.dump_area.proofs.Holding.{clear_marks}
use Rattle.part_tests.proofs.dump_rig.put.Goals as goal

pub put_on-came-requires-clause-settled : goal.put_on-came-requires-clause-settled
put_on-came-requires-clause-settled c = λ b.
    ap (λ (d : DiskContents). is_pending d.pending b) c.new-blocks.ensures.contents
    ∙ ap (λ (s : MemDiskState). is_pending s.pending b) c.after_crash.ensures.crashed.rest
    ∙ clear_marks _ b
