use Rattle.rio_base.specs.Frames.{HasRead}
use Rattle.directories.proofs.Common.{◌≢◌, ◌*◌, ◌/◌, ◌<◌, ℕ, entry_name, held_of, LooksUp, IsInode}
use Rattle.directories.specs.Reading.{CanReadDir}
use Rattle.directories.proofs.finding.find_in_pages.Given as goal

-- no entry of the first p pages has the name
abbrev pub invariant-loop-p : goal.invariant-loop-p
invariant-loop-p g l =
    let seen = g.V.Blocks.seen in
    let h = held_of l.shape (seen l.fn.v).words l.dir.0 in
    record {
      none : (j : ℕ) → 64 * j < h.size → j / 64 < l.p → entry_name h j ≢ l.name;
      read : HasRead g.V.Blocks.seen g.V.Blocks.health g.V.Blocks.sound g.V.Blocks.passes (LooksUp l.shape) l.fn.v l.v ⊥ ⊥;
      can : CanReadDir l.shape (seen l.v) l.dir.0;
      inode : IsInode (seen l.v).words l.dir.0 l.inode;
    }
