use Rattle.rio_base.specs.Frames.{HasRead, LooksShaped}
use Rattle.std.proofs.Common.{◌+◌, ◌-◌, ◌≡◌, ◌%◌, ◌≤◌}
use Rattle.rio_base.specs.BlockSets.{CachesBy}
use Rattle.inode_table.specs.Inodes.{AreUsed, IsMetadata}
use Rattle.inode_table.proofs.finding.least_free.Given as goal

-- all inodes before `first` are used
abbrev pub invariant-loop-first : goal.invariant-loop-first
invariant-loop-first g l =
    let seen = g.V.Blocks.seen in
    record {
      used : AreUsed (seen l.fn.v).words 1 (l.first - 1);
      from : 1 ≤ l.first;
      start : l.first % 32 ≡ 1;
      read : HasRead g.V.Blocks.seen g.V.Blocks.health g.V.Blocks.sound g.V.Blocks.passes (LooksShaped l.shape) l.fn.v l.v ⊥ ⊥;
      caches : CachesBy (IsMetadata l.shape) (seen l.fn.v) (seen l.v);
    }

abbrev pub decreases-loop-first : goal.decreases-loop-first
decreases-loop-first g l = l.shape.inodes + 33 - l.first
