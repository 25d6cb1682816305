use Rattle.std.proofs.Common.{◌≡◌, ◌≤◌}
use Rattle.rio_base.specs.Frames.{Stays}
use Rattle.rio_model.specs.Undo.{IsRegion, undo_records}
use Rattle.undo_list.proofs.MarkedRecords.{Marking}
use Rattle.undo_list.proofs.covering.covers_marking.Given as goal

abbrev pub invariant-records : goal.invariant-records
invariant-records g l =
    let R = g.R.RegionWords in
    record {
      words : R.words l.r ≡ R.words l.fn.r;
      region : IsRegion (R.count l.r) (R.words l.r);
      marking : Marking (R.words l.r) (undo_records (R.words l.fn.r)) l.saved l.span l.marks l.done;
      stays : Stays R.keeps_rest R.ready R.count R.health R.below l.fn.r l.r;
      later : (R.health l.fn.r).faults ≤ (R.health l.r).faults;
      running : (R.health l.r).stopped ≡ (R.health l.fn.r).stopped;
    }

abbrev pub decreases-records : goal.decreases-records
decreases-records g l = l.saved.older
