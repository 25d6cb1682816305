use Rattle.std.proofs.Common.{◌≡◌, ◌≤◌, ◌*◌, ◌-◌, ◌++◌}
use Rattle.rio_base.specs.Frames.{Stays}
use Rattle.rio_model.specs.Undo.{IsRegion, live}
use Rattle.rio_model.specs.Heap.{blocks_from, heap_blocks, units_of}
use Rattle.recov_alloc.proofs.listing.blocks.Given as goal

abbrev pub invariant-loop-next : goal.invariant-loop-next
invariant-loop-next g l =
    let R = g.R.RegionWords in
    record {
      words : R.words l.r ≡ R.words l.fn.r;
      region : IsRegion (R.count l.r) (R.words l.r);
      pages : l.pages ≡ R.words l.fn.r 2;
      most : l.next ≤ 64 * l.pages;
      found : heap_blocks (live (R.words l.fn.r)) (units_of (R.words l.fn.r)) ≡ l.found.items ++ blocks_from (live (R.words l.fn.r)) l.next (64 * l.pages - l.next);
      stays : Stays R.keeps_rest R.ready R.count R.health R.below l.fn.r l.r;
      later : (R.health l.fn.r).faults ≤ (R.health l.r).faults;
      running : (R.health l.r).stopped ≡ (R.health l.fn.r).stopped;
    }

abbrev pub decreases-loop-next : goal.decreases-loop-next
decreases-loop-next g l = 64 * l.pages - l.next
