use Rattle.std.proofs.Common.{◌≡◌, ◌≤◌, ◌*◌, ◌-◌}
use Rattle.rio_base.specs.Frames.{Stays}
use Rattle.rio_model.specs.Undo.{IsRegion, live}
use Rattle.recov_alloc.specs.Scans.{Before}
use Rattle.recov_alloc.proofs.fitting.fit_from.Given as goal

abbrev pub invariant-loop-page : goal.invariant-loop-page
invariant-loop-page g l =
    let R = g.R.RegionWords in
    record {
      words : R.words l.r ≡ R.words l.fn.r;
      region : IsRegion (R.count l.r) (R.words l.r);
      seen : Before (live (R.words l.fn.r)) l.units (64 * l.page) l.run;
      pages : l.pages ≡ R.words l.fn.r 2;
      within : l.page ≤ l.pages;
      stays : Stays R.keeps_rest R.ready R.count R.health R.below l.fn.r l.r;
      later : (R.health l.fn.r).faults ≤ (R.health l.r).faults;
      running : (R.health l.r).stopped ≡ (R.health l.fn.r).stopped;
    }

abbrev pub decreases-loop-page : goal.decreases-loop-page
decreases-loop-page g l = l.pages - l.page
