use Rattle.cached_pages.proofs.Common.{◌≡◌, ◌≤◌, ◌-◌, length}
use Rattle.std.specs.Prelude.{take}
use Rattle.cached_pages.proofs.early.are_same.Given as goal

abbrev pub invariant-runs : goal.invariant-runs
invariant-runs l = record {
  within : l.at ≤ length l.a;
  same : take l.at l.a ≡ take l.at l.b;
}

abbrev pub decreases-runs : goal.decreases-runs
decreases-runs l = length l.a - l.at
