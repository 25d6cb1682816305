use Rattle.request_ends.proofs.Common.{◌≡◌, ◌≤◌, false, FirmOutside, SameOutside, Drops, Goes}
use Rattle.node_updates.specs.Changes.{IsFreed}
use Rattle.node_updates.proofs.Forgotten.{ForgottenTo}
use Rattle.node_updates.proofs.committing.forget_freed.Given as goal

abbrev pub invariant-loop-change : goal.invariant-loop-change
invariant-loop-change g l =
    let seen = g.V.Blocks.seen in
    let kept = g.V.Volume.kept in
    let health = g.V.Blocks.health in
    record {
      forgotten : ForgottenTo (seen l.v) l.changes l.change-index;
      words : SameOutside (IsFreed l.changes) (seen l.fn.v).words (seen l.v).words;
      standing : SameOutside (IsFreed l.changes) (kept l.fn.v).standing (kept l.v).standing;
      firm : FirmOutside (IsFreed l.changes) (kept l.fn.v) (kept l.v);
      count : (seen l.v).count ≡ (seen l.fn.v).count;
      drops : Drops (seen l.fn.v) (seen l.v);
      idle : (kept l.v).updating ≡ false;
      goes : Goes (health l.fn.v) (g.V.Volume.below l.fn.v) (health l.v) (g.V.Volume.below l.v);
      later : (health l.fn.v).faults ≤ (health l.v).faults;
      running : (health l.v).stopped ≡ (health l.fn.v).stopped;
      sound : g.V.Blocks.sound l.v;
    }
