use Rattle.std.proofs.Common.{◌-◌, ◌≤◌, length, slice_index}
use Rattle.volume_check.proofs.RecordWalks.{Walked}
use Rattle.volume_check.proofs.region_records.are_records.Given as goal

abbrev pub invariant-loop-newest : goal.invariant-loop-newest
invariant-loop-newest l = record {
  within : l.end ≤ length l.front - 512;
  walked : Walked (slice_index l.front) l.places l.newest l.end;
}

abbrev pub decreases-loop-newest : goal.decreases-loop-newest
decreases-loop-newest l = length l.front - l.end
