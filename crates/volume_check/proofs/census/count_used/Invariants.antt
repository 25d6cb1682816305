use Rattle.volume_check.proofs.Common.{◌≡◌, ◌≤◌, ◌*◌, map, range_with_len}
use Rattle.std.specs.Prelude.{sum}
use Rattle.volume_check.specs.Inodes.{said_blocks}
use Rattle.volume_check.proofs.census.count_used.Given as goal

abbrev pub invariant-loop-k : goal.invariant-loop-k
invariant-loop-k l = record {
  few : l.used ≤ 2048 * l.k;
  is : l.used ≡ sum (map (said_blocks l.inodes) (range_with_len 1 l.k));
}
