use Rattle.rio_base.specs.Frames.{HasRead, LooksShaped}
use Rattle.std.proofs.Common.{None}
use Rattle.rio_base.specs.Blocks.{Caches}
use Rattle.rio_base.specs.Layout.{inode_block}
use Rattle.inode_table.specs.Inodes.{AreUsed}
use Rattle.inode_table.proofs.finding.first_of_words.Given as goal

-- the first n inodes are used
abbrev pub invariant-loop-n : goal.invariant-loop-n
invariant-loop-n g l =
    let seen = g.V.Blocks.seen in
    record {
      used : AreUsed (seen l.fn.v).words l.fn.first.0 l.n;
      read : HasRead g.V.Blocks.seen g.V.Blocks.health g.V.Blocks.sound g.V.Blocks.passes (LooksShaped l.shape) l.fn.v l.v ⊥ ⊥;
      caches : Caches (seen l.fn.v) (seen l.v) (inode_block l.fn.first.0) None;
    }
