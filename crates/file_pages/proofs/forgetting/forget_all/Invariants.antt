use Rattle.file_pages.proofs.Common.{◌≡◌, ◌<◌, ◌≤◌, ℕ, false, slice_index, Contains, Goes, numbers}
use Rattle.node_pages.specs.Staging.{Beside}
use Rattle.file_pages.proofs.forgetting.forget_all.Given as goal

abbrev pub invariant-loop-t : goal.invariant-loop-t
invariant-loop-t g l =
    let seen = g.V.Blocks.seen in
    let kept = g.V.Volume.kept in
    let health = g.V.Blocks.health in
    record {
      forgotten : (s : ℕ) → s < l.t → (seen l.v).cached (slice_index (numbers l.blocks) s) ≡ false;
      beside : Beside (Contains (numbers l.blocks)) (seen l.fn.v) (kept l.fn.v) (seen l.v) (kept l.v);
      idle : (kept l.v).updating ≡ false;
      goes : Goes (health l.fn.v) (g.V.Volume.below l.fn.v) (health l.v) (g.V.Volume.below l.v);
      later : (health l.fn.v).faults ≤ (health l.v).faults;
      running : (health l.v).stopped ≡ (health l.fn.v).stopped;
      sound : g.V.Blocks.sound l.v;
    }
