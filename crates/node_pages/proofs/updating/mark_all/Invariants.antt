use Rattle.node_pages.proofs.Common.{◌≡◌, ◌≤◌, None, Caches, HasShape, Goes, Firm, SameUpdate, numbers}
use Rattle.block_alloc.specs.Words.{bit_of}
use Rattle.node_pages.specs.Updating.{SetsBits}
use Rattle.node_pages.proofs.updating.mark_all.Given as goal

abbrev pub invariant-loop-t : goal.invariant-loop-t
invariant-loop-t g l =
    let seen = g.V.Blocks.seen in
    let kept = g.V.Volume.kept in
    let health = g.V.Blocks.health in
    record {
      bits : SetsBits l.shape (seen l.fn.v).words (seen l.v).words (numbers l.blocks) l.t (bit_of l.used);
      update : SameUpdate (kept l.fn.v) (kept l.v);
      standing : (kept l.v).standing ≡ (kept l.fn.v).standing;
      firm : Firm (kept l.fn.v) (kept l.v);
      shape : HasShape l.shape (seen l.v);
      caches : Caches (seen l.fn.v) (seen l.v) 1 None;
      goes : Goes (health l.fn.v) (g.V.Volume.below l.fn.v) (health l.v) (g.V.Volume.below l.v);
      later : (health l.fn.v).faults ≤ (health l.v).faults;
      running : (health l.v).stopped ≡ (health l.fn.v).stopped;
      sound : g.V.Blocks.sound l.v;
    }
