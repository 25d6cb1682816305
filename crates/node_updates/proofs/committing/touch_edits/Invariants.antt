use Rattle.request_ends.proofs.Common.{◌≡◌, ◌+◌, ◌<◌, ◌≤◌, ℕ, None, true, slice_index, CachesBy, Looks, Firm, Goes}
use Rattle.directories.specs.Plans.{InThreeBlocks}
use Rattle.node_pages.specs.Updating.{IsEdited}
use Rattle.node_updates.specs.Changes.{edited_blocks}
use Rattle.node_updates.proofs.Several.{three_touched}
use Rattle.node_updates.proofs.committing.touch_edits.Given as goal

abbrev pub invariant-loop-t : goal.invariant-loop-t
invariant-loop-t g l =
    let seen = g.V.Blocks.seen in
    let kept = g.V.Volume.kept in
    let health = g.V.Blocks.health in
    record {
      done : (s : ℕ) → s < l.t → (kept l.v).touched (slice_index (edited_blocks l.edits) s) ≡ true;
      most : (h : InThreeBlocks l.edits) → (kept l.v).touches ≤ (kept l.fn.v).touches + three_touched l.edits h (kept l.v);
      more : (b : ℕ) → (kept l.fn.v).touched b ≡ true → (kept l.v).touched b ≡ true;
      looks : Looks (seen l.fn.v) (seen l.v);
      standing : (kept l.v).standing ≡ (kept l.fn.v).standing;
      firm : Firm (kept l.fn.v) (kept l.v);
      caches : CachesBy (λ b name. IsEdited l.edits b × (name ≡ None)) (seen l.fn.v) (seen l.v);
      in_update : (kept l.v).updating ≡ true;
      goes : Goes (health l.fn.v) (g.V.Volume.below l.fn.v) (health l.v) (g.V.Volume.below l.v);
      later : (health l.fn.v).faults ≤ (health l.v).faults;
      running : (health l.v).stopped ≡ (health l.fn.v).stopped;
      sound : g.V.Blocks.sound l.v;
    }
