use Rattle.std.proofs.Common.{◌+◌, ◌-◌, ◌*◌, ◌≤◌, ◌<◌, ℕ}
use Rattle.rio_base.specs.Regions.{AreWords}
use Rattle.recov_alloc.specs.Scans.{Before}
use Rattle.recov_alloc.proofs.fitting.look_in_run.Given as goal

abbrev pub invariant-loop-i : goal.invariant-loop-i
invariant-loop-i l = record {
  most : l.i ≤ l.count;
  small : l.run < l.units;
  within : l.run ≤ 64 * (l.page + l.i);
  seen : (f : ℕ → ℕ) → AreWords f (2 * l.page) (2 * l.count) l.words → Before f l.units (64 * l.page) l.before → Before f l.units (64 * (l.page + l.i)) l.run;
}

abbrev pub decreases-loop-i : goal.decreases-loop-i
decreases-loop-i l = l.count - l.i
