use Rattle.std.proofs.Common.{◌≤◌, ◌-◌}
use Rattle.recov_alloc.specs.Scans.{AllFull}
use Rattle.recov_alloc.proofs.fitting.past_eights.Given as goal

abbrev pub invariant-loop-page : goal.invariant-loop-page
invariant-loop-page l = record {
  low : l.from ≤ l.page;
  high : l.page ≤ l.count;
  full : AllFull l.words l.from l.page;
}

abbrev pub decreases-loop-page : goal.decreases-loop-page
decreases-loop-page l = l.count - l.page
