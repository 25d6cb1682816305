use Rattle.std.proofs.Common.{◌≡◌, ◌≤◌, ◌-◌}
use Rattle.rio_base.specs.Frames.{Stays}
use Rattle.undo_list.specs.Stages.{copied}
use Rattle.undo_list.proofs.runs.copy_by_runs.Given as goal

abbrev pub invariant-loop-done : goal.invariant-loop-done
invariant-loop-done g l =
    let R = g.R.RegionWords in
    record {
      within : l.done ≤ l.n;
      words : R.words l.r ≡ copied (R.words l.fn.r) l.from l.to l.done;
      stays : Stays R.keeps_rest R.ready R.count R.health R.below l.fn.r l.r;
      later : (R.health l.fn.r).faults ≤ (R.health l.r).faults;
      running : (R.health l.r).stopped ≡ (R.health l.fn.r).stopped;
    }

abbrev pub decreases-loop-done : goal.decreases-loop-done
decreases-loop-done g l = l.n - l.done
