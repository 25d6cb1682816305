use Rattle.std.proofs.Common.{length, ap, arith}
use Rattle.block_disk.specs.HostDisks.{whole_blocks}
use Rattle.block_disk.proofs.HostDiskRules.{none_failed}
use Rattle.block_disk.proofs.host_disk.HostDiskDiskBlocks.read.Goals as goal

pub copy_from_slice-requires : goal.copy_from_slice-requires
copy_from_slice-requires g c = omega (arith, c.requires.room, c.args.into.now.ok.0, ap length c.frame.ensures, whole_blocks c.args.self.now.words.items c.args.b.0 c.requires.block)

pub returns-clause-cause : goal.returns-clause-cause
returns-clause-cause g c = none_failed _
