-- The least free inode that is found in the blocks is the one that the state has.
use Rattle.request_ends.proofs.Common.{◌≡◌, ◌≢◌, ℕ, zero, suc, ◌+◌, ◌-◌, ◌<◌, ◌≤◌, ◌⊎◌, Bool, true, false, cond, refl, ap, ◌∙◌, arith, inl, inr, None, Some, range_with_len, get, cases_eq, VolumeShape, CachesBy, BlockWords, Health, Looks, Seen, IsIno, inode_kind, HasShape, Below, Kept, Passes, State, held_of, volume_layout, reads_none, ReadsAs, LeavesInUse, Ready}
use Rattle.rio_model.specs.States.{least_free}
use Rattle.std.specs.Prelude.{find, is_none}
use Rattle.inode_table.specs.Inodes.{AreUsed, IsMetadata}
use Rattle.node_updates.proofs.Steps.{all_touched}
use Rattle.request_ends.proofs.Unchanged.{leaves_read}
use Rattle.file_tree.proofs.FreeFound.{used_node, free_held}

find_none : (p : ℕ → Bool) (n a : ℕ) → ((i : ℕ) → a ≤ i → i < a + n → p i ≡ false) → find p (range_with_len a n) ≡ None
find_none p zero a none = refl
find_none p (suc n) a none =
    ap (λ b. cond b (Some a) (find p (range_with_len (a + 1) n))) (none a (omega arith) (omega arith))
    ∙ find_none p n (a + 1) (λ i from to. none i (omega (arith, from)) (omega (arith, to)))

find_first : (p : ℕ → Bool) (n a i : ℕ) → a ≤ i → i < a + n → p i ≡ true → ((k : ℕ) → a ≤ k → k < i → p k ≡ false) → find p (range_with_len a n) ≡ Some i
find_first p zero a i from to here below = absurd (omega (arith, from, to))
find_first p (suc n) a i from to here below = by (cases_eq a i) (λ off. find_first p n (a + 1) i (omega (arith, from, off)) (omega (arith, to)) here (λ k low high. below k (omega (arith, low)) high))
  where
    by : (a ≡ i) ⊎ (a ≢ i) → (a ≢ i → find p (range_with_len (a + 1) n) ≡ Some i) → find p (range_with_len a (suc n)) ≡ Some i
    by (inl same) rest = ap (λ b. cond b (Some a) (find p (range_with_len (a + 1) n))) (ap p same ∙ here) ∙ ap Some same
    by (inr off) rest = ap (λ b. cond b (Some a) (find p (range_with_len (a + 1) n))) (below a (omega arith) (omega (arith, from, off))) ∙ rest off

free_node : (shape : VolumeShape) (f : BlockWords) (s : State) (i : ℕ) → ReadsAs shape f s → IsIno shape i → inode_kind f i ≡ 0 → is_none (get s.nodes i) ≡ true
free_node shape f s i reads ino free = ap is_none (reads.reads.nodes i ∙ reads_none (held_of shape f i) (free_held shape f i ino free))

pub least_none : (shape : VolumeShape) (f : BlockWords) (s : State) → ReadsAs shape f s → AreUsed f 1 shape.inodes → least_free s ≡ None
least_none shape f s reads used =
    ap (λ (sh : VolumeShape). find (λ i. is_none (get s.nodes i)) (range_with_len 1 sh.inodes)) reads.sizes
    ∙ find_none (λ i. is_none (get s.nodes i)) shape.inodes 1 (λ i from to. used_node shape f s i reads (record { from = from; to = omega (arith, to) }) (used.each i from to))

pub least_some : (shape : VolumeShape) (f : BlockWords) (s : State) (i : ℕ) → ReadsAs shape f s → IsIno shape i → inode_kind f i ≡ 0 → AreUsed f 1 (i - 1) → least_free s ≡ Some i
least_some shape f s i reads ino free used =
    let from = ino.from in
    let to = ino.to in
    ap (λ (sh : VolumeShape). find (λ k. is_none (get s.nodes k)) (range_with_len 1 sh.inodes)) reads.sizes
    ∙ find_first (λ k. is_none (get s.nodes k)) shape.inodes 1 i from (omega (arith, to)) (free_node shape f s i reads ino free) (λ k low high. used_node shape f s k reads (record { from = low; to = omega (arith, high, to) }) (used.each k low (omega (arith, low, high))))

-- the look for it leaves all that is in use
pub leaves_found : (shape : VolumeShape) (s t : Health) (o n : Below) (x y : Seen) (k j : Kept) → Ready shape x k → Looks x y → HasShape shape y → CachesBy (IsMetadata shape) x y → Passes s o k t n j → LeavesInUse (volume_layout shape x.words) x k y j
leaves_found shape s t o n x y k j ready looks has_shape caches passes = leaves_read shape s t o n x y k j ready looks has_shape (all_touched (volume_layout shape x.words) (IsMetadata shape) x y ready.order.mapped.laid (λ c name low. (low.1, inl low.0)) caches ready.order.named) passes
