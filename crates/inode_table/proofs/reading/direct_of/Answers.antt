use Rattle.std.proofs.Common.{arith}
use Rattle.inode_table.proofs.Numbers.{numbers_next}
use Rattle.inode_table.proofs.reading.direct_of.Goals as goal

pub loop-k-preserved : goal.loop-k-preserved
loop-k-preserved c = numbers_next c.args.words.now c.loop-k.direct c.loop-k.k _ _ (omega arith) (omega arith) c.low_half.ensures c.high_half.ensures c.loop-k.invariant
