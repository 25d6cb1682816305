use Rattle.vista_region.proofs.Common.{◌≡◌, ◌≤◌, ◌-◌, Stays, IsRegion, Puts, words_of}
use Rattle.vista_region.proofs.runs.put_bytes.Given as goal

-- the first `done` words are stored
abbrev pub invariant-loop-done : goal.invariant-loop-done
invariant-loop-done g l =
    let R = g.R.RegionWords in
    record {
      within : l.done ≤ l.words;
      region : IsRegion (R.count l.r) (R.words l.r);
      puts : Puts (R.count l.fn.r) (R.words l.fn.r) (R.words l.r) l.place l.done (words_of l.bytes);
      stays : Stays R.keeps_rest R.ready R.count R.health R.below l.fn.r l.r;
      later : (R.health l.fn.r).faults ≤ (R.health l.r).faults;
      running : (R.health l.r).stopped ≡ (R.health l.fn.r).stopped;
    }

abbrev pub decreases-loop-done : goal.decreases-loop-done
decreases-loop-done g l = l.words - l.done
