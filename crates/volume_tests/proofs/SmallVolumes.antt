-- Small volumes: the root has one page, in block 3, inode 2 has its pages in the blocks from 4 on, and no other block is in use.
-- They keep the rules 1 to 7, also with other words in the blocks from 3 on.
use Rattle.rio_model.proofs.Common.{BlockWords, IsIno, ap, arith, bit_at, cases_eq, cond, inl, inr, refl, subst, sym, used_bit, ℕ, ◌%◌, ◌+◌, ◌-◌, ◌/◌, ◌<◌, ◌∙◌, ◌≡◌, ◌≢◌, ◌≤◌, ◌⊎◌}
use Rattle.rio_base.specs.Bitmap.{bitmap_block}
use Rattle.rio_base.specs.Layout.{HasSuperblock, direct_number, half, indirect_number, inode_kind, inode_size, inode_word}
use Rattle.rio_base.specs.Shapes.{IsServed, more_bitmap}
use Rattle.rio_base.specs.Volume.{put}
use Rattle.rio_model.specs.Placed.{AtPage, AtTable, IsFree, Owned, Owns, Slot, Within, number_at}
use Rattle.rio_model.specs.Sizes.{pages}
use Rattle.rio_model.specs.VolumeRules.{IsLaid, IsMapped, SizeFits, bitmap_bits}
use Rattle.rio_model.proofs.PlacedRules.{cases_lt, has_bit}
use Rattle.rio_model.proofs.WordRules.{put_other}
use Rattle.volume_tests.proofs.FileVolume.{file_layout, file_shape, reserved_is, slot_block}

pub file_served : IsServed file_shape
file_served = record {
  version = refl;
  sizes = record { version = inl refl; inodes_from = omega arith; inodes_to = omega arith; inode_blocks = refl; blocks_from = omega arith; blocks_second = λ e. absurd (omega (arith, e)); blocks_to = omega arith };
}

-- ---- two inodes

-- an inode without blocks: it is free, or a file of no bytes
abbrev pub IsBare : BlockWords → ℕ → Type 0
IsBare f i = (inode_kind f i ≡ 0) ⊎ ((inode_kind f i ≡ 2) × (inode_size f i ≡ 0))

-- the root has so many bytes, inode 2 this kind k and z bytes, and no other has a block
pub record HasTwo (f : BlockWords) (root k z : ℕ) : Type 0 where
  pub root_kind : inode_kind f 1 ≡ 1
  pub root_size : inode_size f 1 ≡ root
  pub kind : inode_kind f 2 ≡ k
  pub size : inode_size f 2 ≡ z
  pub others : (i : ℕ) → 2 < i → i ≤ 32 → IsBare f i

-- the root has at least one entry and at most a page of them, and inode 2 is a file or a region that has room on the volume
pub record Fits (root k z : ℕ) : Type 0 where
  pub some : 0 < root
  pub one_page : root ≤ 4096
  pub whole : root % 64 ≡ 0
  pub known : (k ≡ 2) ⊎ (k ≡ 3)
  pub sized : SizeFits k z
  pub room : z ≤ 49152

-- slot s of inode i is a page of inode 2
pub record IsPage (z i : ℕ) (s : Slot) : Type 0 where
  pub node : i ≡ 2
  pub page : ℕ
  pub slot : s ≡ AtPage page
  pub within : page < pages z

-- the slots that count
abbrev pub SlotOf : ℕ → ℕ → Slot → Type 0
SlotOf z i s = ((i ≡ 1) × (s ≡ AtPage 0)) ⊎ IsPage z i s

no_table : (z t : ℕ) → z ≤ 49152 → Within z (AtTable t) → ⊥
no_table z t small w = elim (cases_lt 24 (pages z)) [
  | inl many ↦ (let more : 24 < (z + 4095) / 4096 = many.0 in omega (arith, more, small))
  | inr few ↦ (let none : t < 0 = subst (λ b. t < cond b 1 0) few.1 w in omega (arith, none))
]

-- a node of at most one page has no other slot
pub one_page_slot : (root : ℕ) (s : Slot) → root ≤ 4096 → Within root s → s ≡ AtPage 0
one_page_slot root (AtPage p) small w = let less : p < (root + 4095) / 4096 = w in let e : p ≡ 0 = omega (arith, less, small) in ap AtPage e
one_page_slot root (AtTable t) small w = absurd (no_table root t (omega (arith, small)) w)

pub two_slots : (f : BlockWords) (root k z i : ℕ) (s : Slot) → HasTwo f root k z → root ≤ 4096 → z ≤ 49152 → Owns (file_layout f) i s → SlotOf z i s
two_slots f root k z i s h small room own = by (cases_eq i 1) (cases_eq i 2)
  where
    in_node : (s : Slot) → i ≡ 2 → Within z s → IsPage z i s
    in_node (AtPage p) e w = record { node = e; page = p; slot = refl; within = w }
    in_node (AtTable t) e w = absurd (no_table z t room w)

    none : (s : Slot) → Within 0 s → ⊥
    none (AtPage p) w = let less : p < 0 = w in omega (arith, less)
    none (AtTable t) w = let less : t < 0 = w in omega (arith, less)

    bare : IsBare f i → ⊥
    bare (inl free) = let used = own.slot.used in let some : 0 < 0 = subst (λ x. 0 < x) free used in omega (arith, some)
    bare (inr empty) = none s (subst (λ x. Within x s) empty.1 own.slot.within)

    by : (i ≡ 1) ⊎ (i ≢ 1) → (i ≡ 2) ⊎ (i ≢ 2) → SlotOf z i s
    by (inl e) d = inl (e, one_page_slot root s small (subst (λ x. Within x s) (ap (inode_size f) e ∙ h.root_size) own.slot.within))
    by (inr a) (inl e) = inr (in_node s e (subst (λ x. Within x s) (ap (inode_size f) e ∙ h.size) own.slot.within))
    by (inr a) (inr b) = absurd (bare (let from = own.ino.from in h.others i (omega (arith, from, a, b)) own.ino.to))

pub two_root : (f : BlockWords) (root k z : ℕ) → HasTwo f root k z → 0 < root → Owns (file_layout f) 1 (AtPage 0)
two_root f root k z h some = record {
  ino = record { from = omega arith; to = omega arith };
  slot = record { used = subst (λ x. 0 < x) (sym h.root_kind) (omega arith); within = subst (λ x. 0 < (x + 4095) / 4096) (sym h.root_size) (omega (arith, some)) };
}

pub two_page : (f : BlockWords) (root k z p : ℕ) → HasTwo f root k z → 0 < k → p < pages z → Owns (file_layout f) 2 (AtPage p)
two_page f root k z p h some within = record {
  ino = record { from = omega arith; to = omega arith };
  slot = record { used = subst (λ x. 0 < x) (sym h.kind) some; within = subst (λ x. p < (x + 4095) / 4096) (sym h.size) within };
}

-- ---- their blocks

-- the root lies in block 3, and inode 2 in the blocks from 4 on
pub record InOrder (f : BlockWords) (z : ℕ) : Type 0 where
  pub root : direct_number f 1 0 ≡ 3
  pub each : (p : ℕ) → p < pages z → direct_number f 2 p ≡ 4 + p

-- one of the first 24 pages is numbered in the inode
pub direct_block : (f : BlockWords) (i p : ℕ) → p < 24 → ((file_layout f).node i).block (AtPage p) ≡ direct_number f i p
unfolding number_at
direct_block f i p few = elim (cases_lt p 24) [
  | inl less ↦ ap (λ b. cond b (direct_number f i p) (half (f (indirect_number f i) ((p - 24) / 2)) p)) less.1
  | inr more ↦ absurd (let past = more.0 in omega (arith, few, past))
]

page_few : (p z : ℕ) → z ≤ 49152 → p < pages z → p < 12
page_few p z room within = let less : p < (z + 4095) / 4096 = within in omega (arith, less, room)

pub order_root : (f : BlockWords) (z : ℕ) → InOrder f z → ((file_layout f).node 1).block (AtPage 0) ≡ 3
order_root f z o = direct_block f 1 0 (omega arith) ∙ o.root

pub order_page : (f : BlockWords) (z p : ℕ) → InOrder f z → z ≤ 49152 → p < pages z → ((file_layout f).node 2).block (AtPage p) ≡ 4 + p
order_page f z p o room within = direct_block f 2 p (let few = page_few p z room within in omega (arith, few)) ∙ o.each p within

-- the block of a slot that counts
root_is : (f : BlockWords) (z i : ℕ) (s : Slot) → InOrder f z → (i ≡ 1) × (s ≡ AtPage 0) → ((file_layout f).node i).block s ≡ 3
root_is f z i s o e = slot_block f i 1 s (AtPage 0) e.0 e.1 ∙ order_root f z o

page_is : (f : BlockWords) (z i : ℕ) (s : Slot) → InOrder f z → z ≤ 49152 → (x : IsPage z i s) → ((file_layout f).node i).block s ≡ 4 + x.page
page_is f z i s o room x = slot_block f i 2 s (AtPage x.page) x.node x.slot ∙ order_page f z x.page o room x.within

-- ---- the rules 3 to 6

-- what an inode is
abbrev IsSort : BlockWords → ℕ → ℕ → ℕ → ℕ → Type 0
IsSort f root k z i = ((inode_kind f i ≡ 1) × (inode_size f i ≡ root)) ⊎ (((inode_kind f i ≡ k) × (inode_size f i ≡ z)) ⊎ IsBare f i)

sort : (f : BlockWords) (root k z i : ℕ) → HasTwo f root k z → IsIno file_shape i → IsSort f root k z i
sort f root k z i h ino = by (cases_eq i 1) (cases_eq i 2)
  where
    by : (i ≡ 1) ⊎ (i ≢ 1) → (i ≡ 2) ⊎ (i ≢ 2) → IsSort f root k z i
    by (inl e) d = inl (ap (inode_kind f) e ∙ h.root_kind, ap (inode_size f) e ∙ h.root_size)
    by (inr a) (inl e) = inr (inl (ap (inode_kind f) e ∙ h.kind, ap (inode_size f) e ∙ h.size))
    by (inr a) (inr b) = inr (inr (let from = ino.from in h.others i (omega (arith, from, a, b)) ino.to))

kind_most : (f : BlockWords) (root k z i : ℕ) → Fits root k z → IsSort f root k z i → inode_kind f i ≤ 3
kind_most f root k z i fits (inl (kind, size)) = omega (arith, kind)
kind_most f root k z i fits (inr (inl (kind, size))) = elim fits.known [ inl two ↦ omega (arith, kind, two) | inr three ↦ omega (arith, kind, three) ]
kind_most f root k z i fits (inr (inr (inl free))) = omega (arith, free)
kind_most f root k z i fits (inr (inr (inr (kind, size)))) = omega (arith, kind)

size_fits : (f : BlockWords) (root k z i : ℕ) → Fits root k z → IsSort f root k z i → 0 < inode_kind f i → SizeFits (inode_kind f i) (inode_size f i)
size_fits f root k z i fits (inl (kind, size)) used = record { most = (let few = fits.one_page in omega (arith, size, few)); directory = λ e. ap (λ x. x % 64) size ∙ fits.whole; region = λ e. absurd (omega (arith, kind, e)); region_pages = λ e. absurd (omega (arith, kind, e)) }
size_fits f root k z i fits (inr (inl (kind, size))) used = subst (λ x. SizeFits x (inode_size f i)) (sym kind) (subst (λ x. SizeFits k x) (sym size) fits.sized)
size_fits f root k z i fits (inr (inr (inl free))) used = absurd (omega (arith, free, used))
size_fits f root k z i fits (inr (inr (inr (kind, size)))) used = record { most = omega (arith, size); directory = λ e. absurd (omega (arith, kind, e)); region = λ e. absurd (omega (arith, kind, e)); region_pages = λ e. absurd (omega (arith, kind, e)) }

-- a block that counts
pub small_owned : (f : BlockWords) (root k z b : ℕ) → HasTwo f root k z → InOrder f z → Fits root k z → Owned (file_layout f) b → (3 ≤ b) × (b < 4 + pages z)
small_owned f root k z b h o fits own = by (two_slots f root k z own.node own.slot h fits.one_page fits.room own.owns)
  where
    by : SlotOf z own.node own.slot → (3 ≤ b) × (b < 4 + pages z)
    by (inl e) = let at = sym own.is ∙ root_is f z _ _ o e in (omega (arith, at), omega (arith, at))
    by (inr x) = let at = sym own.is ∙ page_is f z _ _ o fits.room x in let within = x.within in (omega (arith, at), omega (arith, at, within))

owned_at : (f : BlockWords) (i : ℕ) (s : Slot) → Owns (file_layout f) i s → Owned (file_layout f) (((file_layout f).node i).block s)
owned_at f i s own = record { node = i; slot = s; owns = own; is = refl }

pub small_laid : (f : BlockWords) (root k z : ℕ) → HasTwo f root k z → InOrder f z → Fits root k z → IsLaid (file_layout f)
small_laid f root k z h o fits = record {
  shape_fits = file_served.sizes;
  kinds = record { each = λ i ino. (kind_most f root k z i fits (sort f root k z i h ino), λ e. subst (λ x. inode_kind f x ≡ 1) (sym e) h.root_kind) };
  sizes = record { each = λ i ino used. size_fits f root k z i fits (sort f root k z i h ino) used };
  numbers = record {
    each = λ i ino s has. let at = small_owned f root k z _ h o fits (owned_at f i s (record { ino = ino; slot = has })) in let low = at.0 in let high = at.1 in (omega (arith, low, reserved_is), below _ high);
  };
  once = record { each = λ i j s t a b e. apart i j s t (two_slots f root k z i s h fits.one_page fits.room a) (two_slots f root k z j t h fits.one_page fits.room b) e };
}
  where
    below : (b : ℕ) → b < 4 + pages z → b < 16
    below b less = let high : b < 4 + (z + 4095) / 4096 = less in let room = fits.room in omega (arith, high, room)

    apart : (i j : ℕ) (s t : Slot) → SlotOf z i s → SlotOf z j t → ((file_layout f).node i).block s ≡ ((file_layout f).node j).block t → (i ≡ j) × (s ≡ t)
    apart i j s t (inl a) (inl b) e = (a.0 ∙ sym b.0, a.1 ∙ sym b.1)
    apart i j s t (inl a) (inr y) e = let is : 3 ≡ 4 + y.page = sym (root_is f z i s o a) ∙ e ∙ page_is f z j t o fits.room y in absurd (omega (arith, is))
    apart i j s t (inr x) (inl b) e = let is : 4 + x.page ≡ 3 = sym (page_is f z i s o fits.room x) ∙ e ∙ root_is f z j t o b in absurd (omega (arith, is))
    apart i j s t (inr x) (inr y) e =
        let is : 4 + x.page ≡ 4 + y.page = sym (page_is f z i s o fits.room x) ∙ e ∙ page_is f z j t o fits.room y in
        let same : x.page ≡ y.page = omega (arith, is) in
        (x.node ∙ sym y.node, x.slot ∙ ap AtPage same ∙ sym y.slot)

-- ---- the rules 1 to 7

-- the superblock says the shape, and the blocks in use are marked, and no other
pub record IsSmall (f : BlockWords) (root k z : ℕ) : Type 0 where
  pub superblock : HasSuperblock f file_shape
  pub two : HasTwo f root k z
  pub order : InOrder f z
  pub marked : (b : ℕ) → b < 4 + pages z → used_bit file_shape f b ≡ 1
  pub unmarked : (b : ℕ) → 4 + pages z ≤ b → b < bitmap_bits file_shape → used_bit file_shape f b ≡ 0

root_counts : (f : BlockWords) (root k z : ℕ) → HasTwo f root k z → InOrder f z → 0 < root → Owned (file_layout f) 3
root_counts f root k z h o some = record { node = 1; slot = AtPage 0; owns = two_root f root k z h some; is = order_root f z o }

page_counts : (f : BlockWords) (root k z p : ℕ) → HasTwo f root k z → InOrder f z → Fits root k z → p < pages z → Owned (file_layout f) (4 + p)
page_counts f root k z p h o fits within = record {
  node = 2;
  slot = AtPage p;
  owns = two_page f root k z p h (elim fits.known [ inl two ↦ omega (arith, two) | inr three ↦ omega (arith, three) ]) within;
  is = order_page f z p o fits.room within;
}

free_past : (f : BlockWords) (root k z b : ℕ) → HasTwo f root k z → InOrder f z → Fits root k z → IsFree (file_layout f) b → 4 + pages z ≤ b
free_past f root k z b h o fits none = elim (cases_lt b (4 + pages z)) [
  | inr past ↦ past.0
  | inl low ↦ absurd (by low.0 (cases_eq b 3))
]
  where
    by : b < 4 + pages z → (b ≡ 3) ⊎ (b ≢ 3) → ⊥
    by less (inl e) = none.free (subst (Owned (file_layout f)) (sym e) (root_counts f root k z h o fits.some))
    by less (inr off) =
        let from = none.from in
        let past : 4 ≤ b = omega (arith, from, off, reserved_is) in
        let is : 4 + (b - 4) ≡ b = omega (arith, past) in
        none.free (subst (Owned (file_layout f)) is (page_counts f root k z (b - 4) h o fits (omega (arith, less, past))))

pub small_mapped : (f : BlockWords) (root k z : ℕ) → IsSmall f root k z → Fits root k z → IsMapped file_shape f
small_mapped f root k z h fits = record {
  superblock = record { sizes = file_served.sizes; words = h.superblock };
  reserved_marked = record {
    marked = λ b low. h.marked b (omega (arith, low, reserved_is));
    past = λ b past within. h.unmarked b (let room = fits.room in omega (arith, past, room)) within;
  };
  laid = small_laid f root k z h.two h.order fits;
  marks = record {
    counts = λ b own. h.marked b (small_owned f root k z b h.two h.order fits own).1;
    free = λ b none. h.unmarked b (free_past f root k z b h.two h.order fits none) (has_bit file_shape b file_served.sizes none.to);
  };
}

-- ---- a word changed

pub bits_at : (b : ℕ) → b < bitmap_bits file_shape → bitmap_block file_shape b ≡ 1
unfolding bitmap_block more_bitmap
bits_at b within = elim (cases_lt b 32768) [
  | inl few ↦ ap (λ t. cond t 1 (1 + 32 / 32 + b / 32768)) few.1
  | inr many ↦ absurd (let past = many.0 in omega (arith, within, past))
]

-- in another block than the bitmap's
pub bits_off : (f : BlockWords) (c w v b : ℕ) → c ≢ 1 → b < bitmap_bits file_shape → used_bit file_shape (put f c w v) b ≡ used_bit file_shape f b
bits_off f c w v b off within = ap (λ x. bit_at x (b % 64)) (put_other f c w v _ _ (λ e. off (sym e ∙ bits_at b within)))

pub superblock_off : (f : BlockWords) (c w v : ℕ) → 0 ≢ c → HasSuperblock f file_shape → HasSuperblock (put f c w v) file_shape
superblock_off f c w v off h = record {
  magic = put_other f c w v 0 0 off ∙ h.magic;
  version = put_other f c w v 0 1 off ∙ h.version;
  blocks = put_other f c w v 0 2 off ∙ h.blocks;
  inodes = put_other f c w v 0 3 off ∙ h.inodes;
}

-- behind the inodes: all these rules stay
pub small_put : (f : BlockWords) (root k z c w v : ℕ) → 3 ≤ c → z ≤ 49152 → IsSmall f root k z → IsSmall (put f c w v) root k z
small_put f root k z c w v past room h = record {
  superblock = superblock_off f c w v (λ e. omega (arith, past, e)) h.superblock;
  two = record {
    root_kind = two 0 ∙ h.two.root_kind;
    root_size = two 1 ∙ h.two.root_size;
    kind = two 16 ∙ h.two.kind;
    size = two 17 ∙ h.two.size;
    others = λ i from to. elim (h.two.others i from to) [
      | inl free ↦ inl (off i 0 to ∙ free)
      | inr empty ↦ inr (off i 0 to ∙ empty.0, off i 1 to ∙ empty.1)
    ];
  };
  order = record { root = ap (λ x. half x 0) (two 2) ∙ h.order.root; each = λ p within. ap (λ x. half x p) (two (16 + (2 + p / 2))) ∙ h.order.each p within };
  marked = λ b low. bits_off f c w v b (λ e. omega (arith, past, e)) (low_bit b low) ∙ h.marked b low;
  unmarked = λ b from within. bits_off f c w v b (λ e. omega (arith, past, e)) within ∙ h.unmarked b from within;
}
  where
    two : (x : ℕ) → put f c w v 2 x ≡ f 2 x
    two x = put_other f c w v 2 x (λ e. omega (arith, past, e))

    off : (i x : ℕ) → i ≤ 32 → inode_word (put f c w v) i x ≡ inode_word f i x
    off i x to = put_other f c w v _ _ (λ e. omega (arith, past, to, e))

    low_bit : (b : ℕ) → b < 4 + pages z → b < bitmap_bits file_shape
    low_bit b low = let less : b < 4 + (z + 4095) / 4096 = low in omega (arith, less, room)
