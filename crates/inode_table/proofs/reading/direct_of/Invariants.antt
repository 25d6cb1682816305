use Rattle.inode_table.proofs.Numbers.{NumbersOf}
use Rattle.inode_table.proofs.reading.direct_of.Given as goal

abbrev pub invariant-loop-k : goal.invariant-loop-k
invariant-loop-k l = NumbersOf l.words l.direct l.k
