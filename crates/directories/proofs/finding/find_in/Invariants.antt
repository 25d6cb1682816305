use Rattle.directories.proofs.Common.{◌≢◌, ◌-◌, ◌<◌, ◌≤◌, ℕ, slice_index}
use Rattle.directories.specs.Entries.{name_in}
use Rattle.directories.proofs.finding.find_in.Given as goal

-- none of the first entries has the name
abbrev pub invariant-loop-from : goal.invariant-loop-from
invariant-loop-from l = record {
  within : l.from ≤ l.count;
  none : (j : ℕ) → j < l.from → name_in (slice_index l.words) j ≢ l.name;
}

abbrev pub decreases-loop-from : goal.decreases-loop-from
decreases-loop-from l = l.count - l.from
