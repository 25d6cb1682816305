use Rattle.std.proofs.Common.{refl}
use Rattle.inode_table.proofs.Numbers.{says_inode}
use Rattle.inode_table.proofs.reading.inode_of.Goals as goal

pub returns : goal.returns
returns c = λ f i run. says_inode c.args.words.now _ f i run refl refl c.direct_of.ensures c.low_half.ensures c.low_half-2.ensures
