use Rattle.node_pages.proofs.Common.{◌≡◌, ◌≤◌, false, Contains, Goes, numbers}
use Rattle.node_pages.specs.Staging.{Beside, Zeroed, taken_name}
use Rattle.node_pages.proofs.staging.stage_blocks.Given as goal

abbrev pub invariant-loop-t : goal.invariant-loop-t
invariant-loop-t g l =
    let seen = g.V.Blocks.seen in
    let kept = g.V.Volume.kept in
    let health = g.V.Blocks.health in
    record {
      zeroed : Zeroed (numbers l.taken) (taken_name l.file.0 l.kind l.first l.count l.len) l.t (seen l.v) (kept l.v);
      beside : Beside (Contains (numbers l.taken)) (seen l.fn.v) (kept l.fn.v) (seen l.v) (kept l.v);
      idle : (kept l.v).updating ≡ false;
      goes : Goes (health l.fn.v) (g.V.Volume.below l.fn.v) (health l.v) (g.V.Volume.below l.v);
      later : (health l.fn.v).faults ≤ (health l.v).faults;
      running : (health l.v).stopped ≡ (health l.fn.v).stopped;
      sound : g.V.Blocks.sound l.v;
    }
