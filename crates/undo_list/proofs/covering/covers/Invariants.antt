use Rattle.std.proofs.Common.{◌≡◌, ◌≤◌, List}
use Rattle.rio_base.specs.Frames.{Stays}
use Rattle.rio_model.specs.Undo.{IsRegion, UndoRecord, undo_records}
use Rattle.undo_list.specs.Records.{IsChain}
use Rattle.undo_list.proofs.Covers.{Leaves}
use Rattle.undo_list.proofs.covering.covers.Given as goal

abbrev pub invariant-loop-head : goal.invariant-loop-head
invariant-loop-head g l =
    let R = g.R.RegionWords in
    record {
      words : R.words l.r ≡ R.words l.fn.r;
      region : IsRegion (R.count l.r) (R.words l.r);
      chain : (rs : List UndoRecord) × IsChain (R.words l.r) l.head rs × Leaves (undo_records (R.words l.fn.r)) rs l.place l.count l.left;
      stays : Stays R.keeps_rest R.ready R.count R.health R.below l.fn.r l.r;
      later : (R.health l.fn.r).faults ≤ (R.health l.r).faults;
      running : (R.health l.r).stopped ≡ (R.health l.fn.r).stopped;
    }

abbrev pub decreases-loop-head : goal.decreases-loop-head
decreases-loop-head g l = l.head
