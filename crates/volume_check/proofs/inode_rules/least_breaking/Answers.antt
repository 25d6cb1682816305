use Rattle.volume_check.proofs.Common.{arith, refl}
use Rattle.std.proofs.Common.{below_more}
use Rattle.volume_check.specs.InodeRules.{InodeKeeps}
use Rattle.volume_check.proofs.Bools.{never}
use Rattle.volume_check.proofs.KindRules.{none_found, one_found}
use Rattle.volume_check.proofs.inode_rules.least_breaking.Goals as goal

pub returns-then-not-keeps : goal.returns-then-not-keeps
returns-then-not-keeps c = one_found c.args.inodes.now.shape (InodeKeeps c.args.rule c.args.inodes.now) _ c.loop-k.k refl c.loop-k-test.true c.loop-k.invariant (λ at. never (c.keeps.ensures.1 at) c.if-not-keeps.true)

pub loop-k-preserved : goal.loop-k-preserved
loop-k-preserved c = below_more _ _ c.loop-k.invariant (c.keeps.ensures.0 c.if-not-keeps.false)

pub returns : goal.returns
returns c = none_found c.args.inodes.now.shape (InodeKeeps c.args.rule c.args.inodes.now) (λ k less. c.loop-k.invariant k (omega (arith, less, c.loop-k-test.false)))
