-- A change that is prepared after its directory was read, told of the volume as it was before.
use Rattle.directories.proofs.Common.{◌≡◌, ℕ, ◌+◌, ◌*◌, ◌/◌, ◌%◌, ◌<◌, List, subst, VolumeShape, BlockWords, Health, Seen, Below, Kept, Passes, LooksUp, leaves_looked, leaves_trans, ready_left, AtPage, placed_at, volume_layout, LeavesInUse, Ready}
use Rattle.std.specs.Prelude.{slice_index}
use Rattle.directories.specs.Contents.{GoesInto}
use Rattle.directories.specs.declared.storing.EntryWords.{EntryWords}

pub ready_on : (shape : VolumeShape) (s t : Health) (o n : Below) (x z : Seen) (k l : Kept) → Ready shape x k → LooksUp shape x z → Passes s o k t n l → Ready shape z l
ready_on shape s t o n x z k l ready looks passes = ready_left shape x k z l ready (leaves_looked shape s t o n x z k l ready looks passes)

pub leaves_on : (shape : VolumeShape) (s t : Health) (o n : Below) (x z : Seen) (k l : Kept) (y : Seen) (j : Kept) → Ready shape x k → LooksUp shape x z → Passes s o k t n l → LeavesInUse (volume_layout shape z.words) z l y j → LeavesInUse (volume_layout shape x.words) x k y j
leaves_on shape s t o n x z k l y j ready looks passes leaves = leaves_trans shape x k z l y j ready (leaves_looked shape s t o n x z k l ready looks passes) leaves

pub into_back : (shape : VolumeShape) (x z : Seen) (d slot : ℕ) (e : EntryWords) → LooksUp shape x z → GoesInto (placed_at z.words d) slot e → GoesInto (placed_at x.words d) slot e
into_back shape x z d slot e looks into = subst (λ (f : BlockWords). GoesInto (placed_at f d) slot e) looks.looks.words into

pub moved_back : (shape : VolumeShape) (x z : Seen) (d from last : ℕ) (words : List ℕ) → from ≡ last → LooksUp shape x z → ((t : ℕ) → t < 8 → slice_index words t ≡ z.words ((placed_at z.words d).block (AtPage (from / 64))) (8 * (from % 64) + t)) → (t : ℕ) → t < 8 → slice_index words t ≡ x.words ((placed_at x.words d).block (AtPage (last / 64))) (8 * (last % 64) + t)
moved_back shape x z d from last words at looks is t few = subst (λ a. slice_index words t ≡ x.words ((placed_at x.words d).block (AtPage (a / 64))) (8 * (a % 64) + t)) at (subst (λ (f : BlockWords). slice_index words t ≡ f ((placed_at f d).block (AtPage (from / 64))) (8 * (from % 64) + t)) looks.looks.words (is t few))
