use Rattle.std.proofs.Common.{◌≡◌, ◌≤◌, ◌-◌, cond}
use Rattle.rio_base.specs.Frames.{Stays}
use Rattle.rio_model.specs.Undo.{IsRegion, Keeps, live}
use Rattle.recov_alloc.proofs.MarksLaws.{MarksUnits}
use Rattle.recov_alloc.proofs.marking.mark_block.Given as goal

abbrev pub invariant-loop-next : goal.invariant-loop-next
invariant-loop-next g l =
    let R = g.R.RegionWords in
    record {
      low : l.at ≤ l.next;
      most : l.next ≤ l.end;
      region : IsRegion (R.count l.r) (R.words l.r);
      marked : MarksUnits (live (R.words l.fn.r)) (live (R.words l.r)) l.at l.next (cond l.on 1 0);
      keeps : Keeps (R.count l.fn.r) (R.words l.fn.r) (R.words l.r);
      stays : Stays R.keeps_rest R.ready R.count R.health R.below l.fn.r l.r;
      later : (R.health l.fn.r).faults ≤ (R.health l.r).faults;
      running : (R.health l.r).stopped ≡ (R.health l.fn.r).stopped;
    }

abbrev pub decreases-loop-next : goal.decreases-loop-next
decreases-loop-next g l = l.end - l.next
