use Rattle.request_ends.proofs.Common.{◌≡◌, ◌+◌, ◌*◌, ◌≤◌, true, CachesBy, Looks, Firm, Goes}
use Rattle.node_updates.specs.Changes.{BitmapTouched, IsTouchedBy}
use Rattle.node_updates.proofs.Several.{TouchedTo}
use Rattle.node_updates.proofs.committing.touch_changes.Given as goal

abbrev pub invariant-loop-change : goal.invariant-loop-change
invariant-loop-change g l =
    let seen = g.V.Blocks.seen in
    let kept = g.V.Volume.kept in
    let health = g.V.Blocks.health in
    record {
      bitmap : BitmapTouched (kept l.v) l.changes;
      done : TouchedTo (kept l.v) l.changes l.change-index;
      most : (kept l.v).touches ≤ 1 + 4 * l.change-index;
      looks : Looks (seen l.fn.v) (seen l.v);
      standing : (kept l.v).standing ≡ (kept l.fn.v).standing;
      firm : Firm (kept l.fn.v) (kept l.v);
      caches : CachesBy (IsTouchedBy l.changes) (seen l.fn.v) (seen l.v);
      in_update : (kept l.v).updating ≡ true;
      goes : Goes (health l.fn.v) (g.V.Volume.below l.fn.v) (health l.v) (g.V.Volume.below l.v);
      later : (health l.fn.v).faults ≤ (health l.v).faults;
      running : (health l.v).stopped ≡ (health l.fn.v).stopped;
      sound : g.V.Blocks.sound l.v;
    }
