use Rattle.directories.proofs.Common.{◌≢◌, ◌-◌, ◌<◌, ◌≤◌, ℕ, slice_index}
use Rattle.directories.specs.Entries.{name_in}
use Rattle.directories.proofs.finding.past_fours.Given as goal

-- none of the entries up to k has the name
abbrev pub invariant-loop-k : goal.invariant-loop-k
invariant-loop-k l = record {
  low : l.from ≤ l.k;
  high : l.k ≤ l.count;
  none : (j : ℕ) → l.from ≤ j → j < l.k → name_in (slice_index l.words) j ≢ l.name;
}

abbrev pub decreases-loop-k : goal.decreases-loop-k
decreases-loop-k l = l.count - l.k
