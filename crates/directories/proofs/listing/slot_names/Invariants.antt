use Rattle.rio_base.specs.Frames.{HasRead}
use Rattle.directories.proofs.Common.{◌≡◌, ◌*◌, ◌/◌, map, min, range_with_len, entry_name, held_of, LooksUp, IsInode}
use Rattle.directories.specs.Reading.{CanReadDir}
use Rattle.directories.proofs.listing.slot_names.Given as goal

-- the names of the first p pages are there
abbrev pub invariant-loop-p : goal.invariant-loop-p
invariant-loop-p g l =
    let seen = g.V.Blocks.seen in
    record {
      names : l.names ≡ map (entry_name (held_of l.shape (seen l.fn.v).words l.dir.0)) (range_with_len 0 (min (64 * l.p) (l.inode.size / 64)));
      read : HasRead g.V.Blocks.seen g.V.Blocks.health g.V.Blocks.sound g.V.Blocks.passes (LooksUp l.shape) l.fn.v l.v ⊥ ⊥;
      can : CanReadDir l.shape (seen l.v) l.dir.0;
      inode : IsInode (seen l.v).words l.dir.0 l.inode;
    }
