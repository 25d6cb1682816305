use Rattle.std.proofs.Common.{◌≡◌, ◌≤◌}
use Rattle.std.specs.Prelude.{filter}
use Rattle.std.specs.List.{range_with_len}
use Rattle.rio_base.specs.Blocks.{Looks}
use Rattle.rio_base.specs.BlockSets.{CachesBy}
use Rattle.rio_base.specs.Shapes.{HasShape}
use Rattle.inode_table.specs.Inodes.{IsMetadata}
use Rattle.region_recovery.specs.RegionLists.{ino_numbers, is_region}
use Rattle.region_recovery.proofs.listing.list_regions.Given as goal

-- the regions among the first n inodes are listed
abbrev pub invariant-loop-n : goal.invariant-loop-n
invariant-loop-n g l =
    let seen = g.V.Blocks.seen in
    let health = g.V.Blocks.health in
    record {
      listed : ino_numbers l.regions.items ≡ filter (is_region l.shape (seen l.fn.v).words) (range_with_len 1 l.n);
      sound : g.V.Blocks.sound l.v;
      looks : Looks (seen l.fn.v) (seen l.v);
      shape : HasShape l.shape (seen l.v);
      caches : CachesBy (IsMetadata l.shape) (seen l.fn.v) (seen l.v);
      passes : g.V.Blocks.passes l.fn.v l.v;
      later : (health l.fn.v).faults ≤ (health l.v).faults;
      running : (health l.v).stopped ≡ (health l.fn.v).stopped;
    }
