use Rattle.directories.proofs.Common.{◌≡◌, ◌+◌, ◌<◌, ◌≤◌, ℕ, true, slice_index_or, None, CachesBy, Looks, HasShape, Firm, IsEdited, Edit}
use Rattle.directories.specs.Plans.{InThreeBlocks}
use Rattle.directories_tests.proofs.OpenPlans.{of_three}
use Rattle.directories_tests.proofs.dirs.touch_edits.Given as goal

abbrev pub invariant-loop-t : goal.invariant-loop-t
invariant-loop-t g l =
    let seen = g.V.Blocks.seen in
    let kept = g.V.Volume.kept in
    record {
      touched : (q : ℕ) (d : Edit) → q < l.t → (kept l.v).touched (slice_index_or l.edits q d).block.0 ≡ true;
      more : (b : ℕ) → (kept l.fn.v).touched b ≡ true → (kept l.v).touched b ≡ true;
      count : (few : InThreeBlocks l.edits) → (kept l.v).touches ≤ (kept l.fn.v).touches + of_three l.edits few (kept l.v).touched;
      looks : Looks (seen l.fn.v) (seen l.v);
      firm : Firm (kept l.fn.v) (kept l.v);
      shape : HasShape l.shape (seen l.v);
      caches : CachesBy (λ b name. IsEdited l.edits b × (name ≡ None)) (seen l.fn.v) (seen l.v);
      in_update : (kept l.v).updating ≡ true;
      sound : g.V.Blocks.sound l.v;
    }
