use Rattle.rio_base.specs.Frames.{HasRead, LooksShaped}
use Rattle.std.proofs.Common.{◌-◌, ◌≤◌}
use Rattle.rio_base.specs.BlockSets.{CachesBy}
use Rattle.inode_table.specs.Inodes.{IsMetadata, KnowsFull}
use Rattle.inode_table.proofs.PassedBlocks.{UsedBefore}
use Rattle.inode_table.proofs.full_blocks.least_free_past_full.Given as goal

-- all inodes before block k are used
abbrev pub invariant-loop-k : goal.invariant-loop-k
invariant-loop-k g l =
    let seen = g.V.Blocks.seen in
    record {
      used : UsedBefore l.shape (seen l.fn.v).words l.k;
      most : l.k ≤ 1024;
      known : KnowsFull l.shape l.full (seen l.fn.v).words;
      read : HasRead g.V.Blocks.seen g.V.Blocks.health g.V.Blocks.sound g.V.Blocks.passes (LooksShaped l.shape) l.fn.v l.v ⊥ ⊥;
      caches : CachesBy (IsMetadata l.shape) (seen l.fn.v) (seen l.v);
    }

abbrev pub decreases-loop-k : goal.decreases-loop-k
decreases-loop-k g l = 1025 - l.k
