use Rattle.volume_check.proofs.Common.{ℕ, arith, false, slice_index_or}
use Rattle.volume_check.specs.Inodes.{said}
use Rattle.volume_check.specs.Tree.{InTree}
use Rattle.volume_check.specs.declared.name_counts.NameCount.TheVariants.{No}
use Rattle.volume_check.proofs.Bools.{never}
use Rattle.volume_check.proofs.LookOn.{keep_all, keep_more, keep_none, next_ino}
use Rattle.volume_check.proofs.tree.least_loose.Goals as goal

pub loop-k-init : goal.loop-k-init
loop-k-init c = keep_none c.args.inodes.now.shape (λ (i : ℕ). InTree (said c.args.inodes.now i 0) i (slice_index_or c.args.counts.now i No) (slice_index_or c.args.reached.now i false))

pub loop-k-preserved : goal.loop-k-preserved
loop-k-preserved c = keep_more c.args.inodes.now.shape (λ (i : ℕ). InTree (said c.args.inodes.now i 0) i (slice_index_or c.args.counts.now i No) (slice_index_or c.args.reached.now i false)) c.loop-k.k c.loop-k.invariant (c.is_in_tree.ensures.0 c.if-not-is_in_tree.false)

pub returns-then-not-is_in_tree : goal.returns-then-not-is_in_tree
returns-then-not-is_in_tree c = (
  next_ino c.args.inodes.now.shape c.loop-k.k c.loop-k-test.true,
  λ h. never (c.is_in_tree.ensures.1 h) c.if-not-is_in_tree.true,
  λ j ino less. c.loop-k.invariant j ino (omega (arith, less)),
)

pub returns : goal.returns
returns c = keep_all c.args.inodes.now.shape (λ (i : ℕ). InTree (said c.args.inodes.now i 0) i (slice_index_or c.args.counts.now i No) (slice_index_or c.args.reached.now i false)) c.loop-k.k c.loop-k-test.false c.loop-k.invariant
