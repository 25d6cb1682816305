use Rattle.inode_table.proofs.Used.{KindsPass}
use Rattle.inode_table.proofs.finding.first_of_page.Given as goal

-- the first k inodes are used
abbrev pub invariant-loop-k : goal.invariant-loop-k
invariant-loop-k l = KindsPass l.words l.k
