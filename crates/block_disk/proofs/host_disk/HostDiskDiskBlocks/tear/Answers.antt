use Rattle.std.proofs.Common.{arith}
use Rattle.block_disk.specs.HostDisks.{count_marks}
use Rattle.block_disk.proofs.host_disk.HostDiskDiskBlocks.tear.Goals as goal

pub mark-requires : goal.mark-requires
mark-requires g c = omega (arith, c.requires.block, count_marks _ _ c.args.self.now.marks)
