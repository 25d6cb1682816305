use Rattle.volume_check.proofs.Common.{◌+◌}
use Rattle.volume_check.specs.Claims.{Claimed, IsBefore}
use Rattle.volume_check.specs.Inodes.{layout_of}
use Rattle.volume_check.proofs.Looking.{LooksOn}
use Rattle.volume_check.proofs.owners.find_owners.Given as goal

-- the blocks of the first k nodes have their owners
abbrev pub invariant-loop-k : goal.invariant-loop-k
invariant-loop-k g l = record {
  looked : LooksOn g.V.Blocks.seen g.V.Blocks.health g.V.Blocks.sound g.V.Blocks.passes l.fn.v l.v;
  claimed : Claimed (layout_of (g.V.Blocks.seen l.fn.v) l.inodes) (IsBefore (layout_of (g.V.Blocks.seen l.fn.v) l.inodes) (l.k + 1) 0) l.owners.items l.least;
}
