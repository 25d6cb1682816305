use Rattle.std.proofs.Common.{false}
use Rattle.std.specs.Prelude.{slice_index_or}
use Rattle.volume_check.specs.Inodes.{said}
use Rattle.volume_check.specs.Tree.{InTree}
use Rattle.volume_check.specs.declared.name_counts.NameCount.TheVariants.{No}
use Rattle.volume_check.proofs.LookOn.{KeepTo}
use Rattle.volume_check.proofs.tree.least_loose.Given as goal

abbrev pub invariant-loop-k : goal.invariant-loop-k
invariant-loop-k l = KeepTo l.inodes.shape (λ i. InTree (said l.inodes i 0) i (slice_index_or l.counts i No) (slice_index_or l.reached i false)) l.k
