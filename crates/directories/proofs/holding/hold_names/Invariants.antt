use Rattle.rio_model.specs.VolumeReady.{LooksNamed}
use Rattle.rio_base.specs.Frames.{HasRead}
use Rattle.directories.proofs.Common.{◌≡◌, map, range_with_len, held_of, IsInode}
use Rattle.std.specs.FinMap.{empty}
use Rattle.directories.specs.Reading.{CanReadDir}
use Rattle.directories.proofs.HeldRows.{put_rows, row_of}
use Rattle.directories.proofs.holding.hold_names.Given as goal

-- the rows of the slots before this one are put
abbrev pub invariant-loop-slot : goal.invariant-loop-slot
invariant-loop-slot g l =
    let seen = g.V.Blocks.seen in
    record {
      rows : l.names ≡ put_rows empty (map (row_of (held_of l.shape (seen l.fn.v).words l.dir.0)) (range_with_len 0 l.slot));
      read : HasRead g.V.Blocks.seen g.V.Blocks.health g.V.Blocks.sound g.V.Blocks.passes (LooksNamed l.shape) l.fn.v l.v ⊥ ⊥;
      can : CanReadDir l.shape (seen l.v) l.dir.0;
      inode : IsInode (seen l.v).words l.dir.0 l.inode;
    }
