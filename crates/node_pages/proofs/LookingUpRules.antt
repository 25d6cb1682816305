-- Looking up block numbers composes, and leaves the names of cached pages right.
use Rattle.node_pages.proofs.Common.{◌≡◌, ℕ, ◌<◌, ◌⊎◌, true, refl, sym, ap, subst, ◌∙◌, arith, inl, inr, cases_eq, VolumeShape, CachesBy, caches_by_one, Caches, CanName, Looks, SamePage, Seen, IsIno, inode_block, HasShape, reserved, Slot, AtTable, HasSlot, placed_at, Layout, volume_layout, Owns, inode_low, numbered_of, AllNamed, Bears, BearsOwn, IsMapped, IsNumbered}
use Rattle.std.proofs.Common.{None}
use Rattle.rio_base.proofs.BlockSets.{caches_by_refl, caches_by_trans}
use Rattle.rio_base.proofs.BlockRules.{metadata, still_unnamed}
use Rattle.rio_base.proofs.Rules.{looks_refl, looks_trans}
use Rattle.node_pages.specs.LookingUp.{CanLookUp, LooksUp, TablesUnnamed}

-- a volume whose cached pages bear their names can be looked up in
pub can_look_up : (shape : VolumeShape) (x : Seen) → HasShape shape x → IsMapped shape x.words → AllNamed (volume_layout shape x.words) x → CanLookUp shape x
can_look_up shape x h mapped named = record {
  has_shape = h;
  numbered = numbered_of shape x.words mapped;
  unnamed = record { each = λ i k own on. named.each i own.ino (AtTable k) own.slot on };
}

pub look_refl : (shape : VolumeShape) (x : Seen) → CanLookUp shape x → LooksUp shape x x
look_refl shape x h = record { looks = looks_refl x; still = h; caches = caches_by_refl _ x }

pub look_trans : (shape : VolumeShape) (x y z : Seen) → LooksUp shape x y → LooksUp shape y z → LooksUp shape x z
look_trans shape x y z h k = record {
  looks = looks_trans x y z h.looks k.looks;
  still = k.still;
  caches = caches_by_trans _ x y z h.caches (subst (λ f. CachesBy (BearsOwn (volume_layout shape f)) y z) h.looks.words k.caches);
}

-- ---- one block read as metadata: a reserved one, or a table

unnamed_on : (l : Layout) (x y : Seen) (b : ℕ) → TablesUnnamed l x → Caches x y b None → TablesUnnamed l y
unnamed_on l x y b h k = record {
  each = λ i t own on. elim (cases_eq ((l.node i).block (AtTable t)) b) [
    | inl same ↦ here i t own same (k.named (subst (λ c. y.cached c ≡ true) same on))
    | inr away ↦ let was = k.others _ away on in was.1 ∙ h.each i t own was.0
  ];
}
  where
    here : (i t : ℕ) → Owns l i (AtTable t) → (l.node i).block (AtTable t) ≡ b → ((x.cached b ≡ true) × (y.names b ≡ x.names b)) ⊎ (y.names b ≡ None) → y.names ((l.node i).block (AtTable t)) ≡ None
    here i t own same (inl kept) = ap y.names same ∙ kept.1 ∙ ap x.names (sym same) ∙ h.each i t own (subst (λ c. x.cached c ≡ true) (sym same) kept.0)
    here i t own same (inr none) = ap y.names same ∙ none

looked_at : (shape : VolumeShape) (x y : Seen) (b : ℕ) → CanLookUp shape x → Looks x y → Caches x y b None → BearsOwn (volume_layout shape x.words) b None → LooksUp shape x y
looked_at shape x y b h looks k own = record {
  looks = looks;
  still = record {
    has_shape = still_unnamed shape x y b h.has_shape looks.count k;
    numbered = subst (IsNumbered shape) (sym looks.words) h.numbered;
    unnamed = subst (λ f. TablesUnnamed (volume_layout shape f) y) (sym looks.words) (unnamed_on _ x y b h.unnamed k);
  };
  caches = caches_by_one _ x y b None k own;
}

pub looked_low : (shape : VolumeShape) (x y : Seen) (b : ℕ) → CanLookUp shape x → b < reserved shape → Looks x y → Caches x y b None → LooksUp shape x y
looked_low shape x y b h low looks k = looked_at shape x y b h looks k (inl (low, refl))

-- inode i
pub looked_inode : (shape : VolumeShape) (x y : Seen) (i : ℕ) → CanLookUp shape x → IsIno shape i → Looks x y → Caches x y (inode_block i) None → LooksUp shape x y
looked_inode shape x y i h ino = looked_low shape x y (inode_block i) h (inode_low shape i h.has_shape.sizes ino)

pub can_inode : (shape : VolumeShape) (x : Seen) (i : ℕ) → CanLookUp shape x → IsIno shape i → CanName x (inode_block i) None
can_inode shape x i h ino = metadata shape x (inode_block i) h.has_shape (inode_low shape i h.has_shape.sizes ino)

-- and a table of node i
pub looked_table : (shape : VolumeShape) (x y : Seen) (i k b : ℕ) → CanLookUp shape x → Owns (volume_layout shape x.words) i (AtTable k) → b ≡ (placed_at x.words i).block (AtTable k) → Looks x y → Caches x y b None → LooksUp shape x y
looked_table shape x y i k b h own is looks c = looked_at shape x y b h looks c (inr (i, AtTable k, own, sym is, refl))

pub can_table : (shape : VolumeShape) (x : Seen) (i k : ℕ) → CanLookUp shape x → Owns (volume_layout shape x.words) i (AtTable k) → CanName x ((placed_at x.words i).block (AtTable k)) None
can_table shape x i k h own = record { in_range = tt; agrees = λ on. subst (λ name. SamePage name None) (sym (h.unnamed.each i k own on)) tt }

-- ---- where no block counts twice, all names stay right

-- a block has one slot, so a name that some node lets it bear is the name of its slot
pub named_on : (shape : VolumeShape) (x y : Seen) → IsMapped shape x.words → AllNamed (volume_layout shape x.words) x → LooksUp shape x y → AllNamed (volume_layout shape x.words) y
named_on shape x y mapped named h = record { each = λ i ino s has on. by i ino s has (h.caches.each _ on) }
  where
    l : Layout
    l = volume_layout shape x.words

    by : (i : ℕ) → IsIno shape i → (s : Slot) → HasSlot (l.node i) s → ((x.cached ((l.node i).block s) ≡ true) × (y.names ((l.node i).block s) ≡ x.names ((l.node i).block s))) ⊎ BearsOwn l ((l.node i).block s) (y.names ((l.node i).block s)) → Bears i (l.node i) s (y.names ((l.node i).block s))
    by i ino s has (inl kept) = subst (Bears i (l.node i) s) (sym kept.1) (named.each i ino s has kept.0)
    by i ino s has (inr (inl low)) = absurd (let from = (mapped.laid.numbers.each i ino s has).0 in let under = low.0 in omega (arith, from, under))
    by i ino s has (inr (inr (j, t, own, at, bears))) = let one = mapped.laid.once.each j i t s own (record { ino = ino; slot = has }) at in subst (λ u. Bears i (l.node i) u (y.names ((l.node i).block s))) one.1 (subst (λ z. Bears z (l.node z) t (y.names ((l.node i).block s))) one.0 bears)
