use Rattle.request_ends.proofs.Common.{◌≡◌, ◌<◌, ◌≤◌, ℕ, false, slice_index, Contains, FirmOutside, SameOutside, Drops, Goes, numbers}
use Rattle.node_updates.proofs.committing.forget_blocks.Given as goal

abbrev pub invariant-loop-t : goal.invariant-loop-t
invariant-loop-t g l =
    let seen = g.V.Blocks.seen in
    let kept = g.V.Volume.kept in
    let health = g.V.Blocks.health in
    record {
      forgotten : (s : ℕ) → s < l.t → (seen l.v).cached (slice_index (numbers l.blocks) s) ≡ false;
      words : SameOutside (Contains (numbers l.blocks)) (seen l.fn.v).words (seen l.v).words;
      standing : SameOutside (Contains (numbers l.blocks)) (kept l.fn.v).standing (kept l.v).standing;
      firm : FirmOutside (Contains (numbers l.blocks)) (kept l.fn.v) (kept l.v);
      count : (seen l.v).count ≡ (seen l.fn.v).count;
      drops : Drops (seen l.fn.v) (seen l.v);
      idle : (kept l.v).updating ≡ false;
      goes : Goes (health l.fn.v) (g.V.Volume.below l.fn.v) (health l.v) (g.V.Volume.below l.v);
      later : (health l.fn.v).faults ≤ (health l.v).faults;
      running : (health l.v).stopped ≡ (health l.fn.v).stopped;
      sound : g.V.Blocks.sound l.v;
    }
