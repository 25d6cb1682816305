-- Changes that are made in one update: what they may cache, and that no block which they free is in use afterwards.
use Rattle.request_ends.proofs.Common.{◌≡◌, ℕ, zero, suc, ◌<◌, ◌≤◌, ◌⊎◌, List, [], ◌∷◌, map, sym, subst, ◌∙◌, arith, inl, inr, None, Contains, PageName, VolumeShape, used_bit, BlockWords, IsIno, reserved, numbers, IsFree, Owned, volume_layout, inode_low, owned_below, IsMapped, bitmap_bits, IsEdited}
use Rattle.std.specs.Prelude.{Option}
use Rattle.rio_model.proofs.LowestBlocks.{decided}
use Rattle.rio_model.proofs.PlacedRules.{has_bit}
use Rattle.node_updates.specs.Changes.{AllApplied, IsFreed, IsTouchedBy, change_update}
use Rattle.node_updates.specs.declared.changes.NodeChange.{NodeChange}
use Rattle.node_updates.proofs.Steps.{MayBeMetadata}

-- a change that is prepared over blocks y: it edits blocks that bear no name, takes free blocks, and frees such as are in use
pub record Fits (shape : VolumeShape) (y : BlockWords) (c : NodeChange) : Type 0 where
  pub ino : IsIno shape c.ino.0
  pub touched : (b : ℕ) → IsEdited c.edits b → MayBeMetadata (volume_layout shape y) b
  pub takes : (b : ℕ) → Contains (numbers c.taken) b → IsFree (volume_layout shape y) b
  pub frees : (b : ℕ) → Contains (numbers c.freed) b → Owned (volume_layout shape y) b

abbrev pub AllFit : VolumeShape → BlockWords → List NodeChange → Type 0
AllFit shape y [] = Unit {0}
AllFit shape y (c ∷ changes) = Fits shape y c × AllFit shape y changes

pub fits_of : (shape : VolumeShape) (y : BlockWords) (changes : List NodeChange) (c : NodeChange) → AllFit shape y changes → Contains changes c → Fits shape y c
fits_of shape y [] c all (t, few, at) = absurd (omega (arith, few))
fits_of shape y (d ∷ changes) c all (zero, few, at) = subst (Fits shape y) at all.0
fits_of shape y (d ∷ changes) c all (suc t, few, at) = fits_of shape y changes c all.1 (t, omega (arith, few), at)

-- ---- what may be cached

pub may_touch : (shape : VolumeShape) (y : BlockWords) (changes : List NodeChange) → IsMapped shape y → AllFit shape y changes → (b : ℕ) (name : Option PageName) → IsTouchedBy changes b name → (name ≡ None) × MayBeMetadata (volume_layout shape y) b
may_touch shape y changes mapped all b name (inl one, none) = (none, inl (omega (arith, one)))
may_touch shape y changes mapped all b name (inr (c, on, inl inode), none) = (none, inl (subst (λ x. x < reserved shape) (sym inode) (inode_low shape c.ino.0 mapped.laid.shape_fits (fits_of shape y changes c all on).ino)))
may_touch shape y changes mapped all b name (inr (c, on, inr edited), none) = (none, (fits_of shape y changes c all on).touched b edited)

-- ---- freed blocks

-- a block that is in use before: it is taken by no change
in_use : (shape : VolumeShape) (y : BlockWords) (c : NodeChange) (b : ℕ) → Fits shape y c → Owned (volume_layout shape y) b → Contains (numbers c.taken) b → ⊥
in_use shape y c b fits own taken = (fits.takes b taken).free own

bit_stays : (shape : VolumeShape) (y f g : BlockWords) (changes : List NodeChange) (b : ℕ) → AllFit shape y changes → AllApplied shape (map change_update changes) f g → Owned (volume_layout shape y) b → b < bitmap_bits shape → used_bit shape f b ≡ 0 → used_bit shape g b ≡ 0
bit_stays shape y f g [] b all is own below zero_bit = subst (λ (w : BlockWords). used_bit shape w b ≡ 0) (sym is) zero_bit
bit_stays shape y f g (c ∷ changes) b all (h, a, rest) own below zero_bit = bit_stays shape y h g changes b all.1 rest own below (now (decided (numbers c.freed) b))
  where
    now : Contains (numbers c.freed) b ⊎ (Contains (numbers c.freed) b → ⊥) → used_bit shape h b ≡ 0
    now (inl on) = a.freed b on
    now (inr none) = a.others b below (in_use shape y c b all.0 own) none ∙ zero_bit

bit_freed : (shape : VolumeShape) (y f g : BlockWords) (changes : List NodeChange) (c : NodeChange) (b : ℕ) → AllFit shape y changes → AllApplied shape (map change_update changes) f g → Contains changes c → Contains (numbers c.freed) b → b < bitmap_bits shape → used_bit shape g b ≡ 0
bit_freed shape y f g [] c b all is (t, few, at) freed below = absurd (omega (arith, few))
bit_freed shape y f g (d ∷ changes) c b all (h, a, rest) (zero, few, at) freed below =
    let on = subst (λ (x : NodeChange). Contains (numbers x.freed) b) (sym at) freed in
    bit_stays shape y h g changes b all.1 rest (all.0.frees b on) below (a.freed b on)
bit_freed shape y f g (d ∷ changes) c b all (h, a, rest) (suc t, few, at) freed below = bit_freed shape y h g changes c b all.1 rest (t, omega (arith, few), at) freed below

pub freed_out : (shape : VolumeShape) (y g : BlockWords) (changes : List NodeChange) → IsMapped shape y → IsMapped shape g → AllFit shape y changes → AllApplied shape (map change_update changes) y g → (b : ℕ) → IsFreed changes b → Owned (volume_layout shape g) b → ⊥
freed_out shape y g changes before mapped all applied b (c, on, freed) own =
    let fits = fits_of shape y changes c all on in
    let within = owned_below (volume_layout shape y) b before.laid.numbers (fits.frees b freed) in
    let low = bit_freed shape y y g changes c b all applied on freed (has_bit shape b mapped.laid.shape_fits within) in
    let high = mapped.marks.counts b own in
    omega (arith, low, high)

pub freed_above : (shape : VolumeShape) (y : BlockWords) (changes : List NodeChange) → IsMapped shape y → AllFit shape y changes → (b : ℕ) → IsFreed changes b → reserved shape ≤ b
freed_above shape y changes mapped all b (c, on, freed) =
    let own = (fits_of shape y changes c all on).frees b freed in
    subst (λ x. reserved shape ≤ x) own.is (mapped.laid.numbers.each own.node own.owns.ino own.slot own.owns.slot).0
