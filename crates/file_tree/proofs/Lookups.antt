-- Look-ups over blocks alone: what holds after them, of calls one after the other, and what that says of a volume.
use Rattle.request_ends.specs.Reading.{ReadsSome}
use Rattle.directories.specs.Reading.{CanReadRows}
use Rattle.request_ends.proofs.Common.{◌≡◌, ◌<◌, ℕ, None, Err, Result, VolFail, refl, subst, can_look_up, held_of, inode_block, Below, BlockWords, Health, Kept, Looks, Passes, Seen, VolumeShape, HasShape, State, AllNamed, ReadsAs, volume_layout}
use Rattle.rio_base.specs.Blocks.{Caches}
use Rattle.node_pages.proofs.LookingUpRules.{looked_inode, named_on}
use Rattle.node_pages.specs.LookingUp.{LooksUp}
use Rattle.region_view.proofs.UsedInodes.{used_ino}
use Rattle.request_ends.specs.Ends.{CanServe}
use Rattle.request_ends.specs.Failures.{Refuses, fail_of_vol}
use Rattle.request_ends.specs.declared.failures.FileFail.{FileFail}
use Rattle.file_tree.proofs.LookedAt.{unrefused_on}
use Rattle.request_ends.proofs.Failed.{unrefused_vol}
use Rattle.request_ends.proofs.Unchanged.{can_again, leaves_read}

pub named_then : (shape : VolumeShape) (f g : BlockWords) (z : Seen) → g ≡ f → AllNamed (volume_layout shape g) z → AllNamed (volume_layout shape f) z
named_then shape f g z same h = subst (λ w. AllNamed (volume_layout shape w) z) same h

pub reads_then : (shape : VolumeShape) (f g : BlockWords) → f ≡ g → (s : State) × ReadsAs shape f s → (s : State) × ReadsAs shape g s
reads_then shape f g same h = (h.0, subst (λ w. ReadsAs shape w h.0) same h.1)

-- a volume that was looked at serves as before
pub can_looked : (shape : VolumeShape) (s t : Health) (o n : Below) (x y : Seen) (k j : Kept) → CanServe shape x k → Looks x y → HasShape shape y → AllNamed (volume_layout shape x.words) y → Passes s o k t n j → CanServe shape y j
can_looked shape s t o n x y k j can looks has_shape named passes = can_again shape x k y j can (leaves_read shape s t o n x y k j can.ready looks has_shape named passes) looks.words

-- where the blocks read as some state, any directory can be read
pub rows_read : {shape : VolumeShape} {x : Seen} → ReadsSome shape x → CanReadRows shape x
rows_read h = record { has_shape = h.has_shape; mapped = h.reads.mapped; named = h.named; entries = h.reads.entries }

-- an inode was read
pub inode_looked : (shape : VolumeShape) (x y : Seen) (i : ℕ) (s : State) → HasShape shape x → AllNamed (volume_layout shape x.words) x → ReadsAs shape x.words s → 0 < (held_of shape x.words i).kind → Looks x y → Caches x y (inode_block i) None → HasShape shape y × AllNamed (volume_layout shape x.words) y
inode_looked shape x y i s has_shape named reads used looks caches =
    let call : LooksUp shape x y = looked_inode shape x y i (can_look_up shape x has_shape reads.mapped named) (used_ino shape x.words i used) looks caches in
    (call.still.has_shape, named_on shape x y reads.mapped named call)

-- a failure of the volume is no refusal
pub refuses_vol : {T : Type 0} (number : ℕ) (why : Type 0) (q : Result T FileFail) (e : VolFail) (d : FileFail) → q ≡ Err d → d ≡ fail_of_vol e → Refuses q number why
refuses_vol number why q e d qd de = unrefused_on number why q q d d qd qd refl (unrefused_vol q e d qd de)
