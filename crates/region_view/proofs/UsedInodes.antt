-- An inode that is used: it is one of the volume's, and what it holds is what it is placed as.
use Rattle.region_view.proofs.Common.{Bool, ap, arith, cond, false, refl, true, ℕ, ◌&&◌, ◌<◌, ◌≡◌, nat_tests, None, nat_le, can_look_up, leaves_looked, LeavesInUse, Ready, BlockWords, Caches, Health, Looks, Seen, IsIno, inode_block, Below, Kept, Passes, VolumeShape, Held, held, held_of, nothing, held_ino, placed_at, volume_layout}
use Rattle.node_pages.proofs.LookingUpRules.{looked_inode}

-- what it holds is of its kind
pub kind_held : (shape : VolumeShape) (f : BlockWords) (i : ℕ) → IsIno shape i → (held_of shape f i).kind ≡ (placed_at f i).kind
kind_held shape f i ino = ap (λ (h : Held). h.kind) (held_ino (volume_layout shape f) f i ino)

-- it is one of the volume's
pub used_ino : (shape : VolumeShape) (f : BlockWords) (i : ℕ) → 0 < (held_of shape f i).kind → IsIno shape i
used_ino shape f i used = by (nat_le 1 i && nat_le i shape.inodes) refl used
  where
    by : (t : Bool) → (nat_le 1 i && nat_le i shape.inodes) ≡ t → 0 < (cond t (held f (placed_at f i)) nothing).kind → IsIno shape i
    by true test u = record { from = grind (arith, nat_tests, test); to = grind (arith, nat_tests, test) }
    by false test u = absurd (omega (arith, u))

-- it is read, and what is in use stays
pub leaves_inode : (shape : VolumeShape) (s t : Health) (o n : Below) (x y : Seen) (k j : Kept) (i : ℕ) → Ready shape x k → 0 < (held_of shape x.words i).kind → Looks x y → Caches x y (inode_block i) None → Passes s o k t n j → LeavesInUse (volume_layout shape x.words) x k y j
leaves_inode shape s t o n x y k j i ready used looks caches passes = leaves_looked shape s t o n x y k j ready (looked_inode shape x y i (can_look_up shape x ready.order.has_shape ready.order.mapped ready.order.named) (used_ino shape x.words i used) looks caches) passes
