use Rattle.volume_check.proofs.Common.{ℕ, ◌+◌, ◌<◌}
use Rattle.volume_check.specs.InodeRules.{InodeKeeps}
use Rattle.volume_check.proofs.inode_rules.least_breaking.Given as goal

-- the first k inodes keep the rule
abbrev pub invariant-loop-k : goal.invariant-loop-k
invariant-loop-k l = (j : ℕ) → j < l.k → InodeKeeps l.rule l.inodes (j + 1)
