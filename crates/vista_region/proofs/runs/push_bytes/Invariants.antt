use Rattle.vista_region.proofs.Common.{◌≡◌, ◌≤◌, ◌+◌, ◌-◌, ◌++◌, Stays, bytes_in, IsRegion, live}
use Rattle.vista_region.proofs.runs.push_bytes.Given as goal

-- the bytes up to `at` are read
abbrev pub invariant-loop-at : goal.invariant-loop-at
invariant-loop-at g l =
    let R = g.R.RegionWords in
    record {
      low : l.off ≤ l.at;
      high : l.at ≤ l.end;
      bytes : l.out.items ≡ l.fn.out.items ++ bytes_in (λ w. live (R.words l.fn.r) (l.place + w)) l.off (l.at - l.off);
      words : R.words l.r ≡ R.words l.fn.r;
      region : IsRegion (R.count l.r) (R.words l.r);
      stays : Stays R.keeps_rest R.ready R.count R.health R.below l.fn.r l.r;
      later : (R.health l.fn.r).faults ≤ (R.health l.r).faults;
      running : (R.health l.r).stopped ≡ (R.health l.fn.r).stopped;
    }

abbrev pub decreases-loop-at : goal.decreases-loop-at
decreases-loop-at g l = l.end - l.at
