use Rattle.volume_check.proofs.Common.{◌≡◌, ◌≤◌, ◌==◌}
use Rattle.volume_check.specs.Inodes.{said}
use Rattle.volume_check.proofs.Counts.{counted}
use Rattle.volume_check.proofs.census.count_kind.Given as goal

abbrev pub invariant-loop-k : goal.invariant-loop-k
invariant-loop-k l = record {
  few : l.count ≤ l.k;
  is : l.count ≡ counted (λ i. said l.inodes i 0 == l.kind) l.k;
}
