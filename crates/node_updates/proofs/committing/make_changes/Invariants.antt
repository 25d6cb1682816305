use Rattle.request_ends.proofs.Common.{◌≡◌, ◌≤◌, true, drop, map, CachesBy, BlockWords, HasShape, Firm, Goes}
use Rattle.rio_base.specs.Volume.{SameUpdate}
use Rattle.node_updates.specs.Changes.{AllApplied, IsTouchedBy, change_update}
use Rattle.node_updates.proofs.committing.make_changes.Given as goal

abbrev pub invariant-loop-change : goal.invariant-loop-change
invariant-loop-change g l =
    let seen = g.V.Blocks.seen in
    let kept = g.V.Volume.kept in
    let health = g.V.Blocks.health in
    record {
      made : (h : BlockWords) → AllApplied l.shape (map change_update (drop l.change-index l.changes)) (seen l.v).words h → AllApplied l.shape (map change_update l.changes) (seen l.fn.v).words h;
      update : SameUpdate (kept l.fn.v) (kept l.v);
      in_update : (kept l.v).updating ≡ true;
      standing : (kept l.v).standing ≡ (kept l.fn.v).standing;
      firm : Firm (kept l.fn.v) (kept l.v);
      shape : HasShape l.shape (seen l.v);
      caches : CachesBy (IsTouchedBy l.changes) (seen l.fn.v) (seen l.v);
      goes : Goes (health l.fn.v) (g.V.Volume.below l.fn.v) (health l.v) (g.V.Volume.below l.v);
      later : (health l.fn.v).faults ≤ (health l.v).faults;
      running : (health l.v).stopped ≡ (health l.fn.v).stopped;
      sound : g.V.Blocks.sound l.v;
    }
