use Rattle.std.proofs.Common.{◌≡◌, ◌≤◌}
use Rattle.rio_base.specs.Frames.{Stays}
use Rattle.rio_model.specs.Undo.{IsRegion, Undoes}
use Rattle.undo_list.proofs.rewinding.rewind.Given as goal

abbrev pub invariant-loop-head : goal.invariant-loop-head
invariant-loop-head g l =
    let R = g.R.RegionWords in
    record {
      undo : l.header.undo ≡ R.words l.r 1;
      head : l.head ≡ R.words l.r 3;
      region : IsRegion (R.count l.r) (R.words l.r);
      before : Undoes (R.count l.fn.r) (R.words l.fn.r) (R.words l.r);
      stays : Stays R.keeps_rest R.ready R.count R.health R.below l.fn.r l.r;
      later : (R.health l.fn.r).faults ≤ (R.health l.r).faults;
      running : (R.health l.r).stopped ≡ (R.health l.fn.r).stopped;
    }

abbrev pub decreases-loop-head : goal.decreases-loop-head
decreases-loop-head g l = l.head
