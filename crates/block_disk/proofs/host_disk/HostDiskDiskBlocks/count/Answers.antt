use Rattle.std.proofs.Common.{arith}
use Rattle.rio_base.proofs.WordBlocks.{blocks_many}
use Rattle.block_disk.proofs.host_disk.HostDiskDiskBlocks.count.Goals as goal

pub returns : goal.returns
returns g c = omega (arith, blocks_many c.args.self.now.words.items, c.len.ensures, c.args.self.now.words.ok.0)
