use Rattle.inode_table.proofs.Numbers.{FrontOf}
use Rattle.inode_table.proofs.storing.words_of.Given as goal

abbrev pub invariant-loop-k : goal.invariant-loop-k
invariant-loop-k l = FrontOf l.inode l.words l.k
