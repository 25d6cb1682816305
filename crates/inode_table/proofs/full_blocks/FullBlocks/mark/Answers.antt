use Rattle.std.proofs.Common.{refl}
use Rattle.inode_table.proofs.PassedBlocks.{marked}
use Rattle.inode_table.proofs.full_blocks.FullBlocks.mark.Goals as goal

pub returns : goal.returns
returns c = λ shape f knows used. marked shape c.args.self.now _ f c.args.k refl knows used
