use Rattle.std.proofs.Common.{◌≡◌, ◌≤◌, ◌-◌}
use Rattle.rio_base.specs.Frames.{Stays}
use Rattle.rio_model.specs.Undo.{CoversAll, IsRegion, undo_records}
use Rattle.undo_list.proofs.covering.covered_from_head.Given as goal

abbrev pub invariant-loop-done : goal.invariant-loop-done
invariant-loop-done g l =
    let R = g.R.RegionWords in
    record {
      within : l.done ≤ l.count;
      words : R.words l.r ≡ R.words l.fn.r;
      region : IsRegion (R.count l.r) (R.words l.r);
      front : CoversAll (undo_records (R.words l.fn.r)) l.place l.done;
      stays : Stays R.keeps_rest R.ready R.count R.health R.below l.fn.r l.r;
      later : (R.health l.fn.r).faults ≤ (R.health l.r).faults;
      running : (R.health l.r).stopped ≡ (R.health l.fn.r).stopped;
    }

abbrev pub decreases-loop-done : goal.decreases-loop-done
decreases-loop-done g l = l.count - l.done
