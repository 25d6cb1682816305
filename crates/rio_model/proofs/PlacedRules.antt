-- Laws of layouts: the inode and the tables alone say which block is which, so blocks that agree on them say one layout.
use Rattle.rio_model.proofs.Common.{nat_lt, if◌then◌else◌, sum, range_with_len, VolumeShape, BlockWords, IsIno, inode_block, inode_word, reserved, ◌≡◌, ℕ, ◌+◌, ◌-◌, ◌/◌, ◌%◌, ◌<◌, ◌≤◌, ◌==◌, ◌⊎◌, true, false, cond, refl, sym, ap, subst, ◌∙◌, arith, inl, inr, bit_at, nat_tests, used_bit}
use Rattle.std.specs.Prelude.{◌≡◌, ℕ, ◌-◌, ◌/◌, ◌<◌, ◌≤◌, ◌==◌, map}
use Rattle.rio_base.specs.Layout.{inode_kind, inode_size, direct_number, indirect_number, half}
use Rattle.rio_base.specs.Shapes.{IsShape, more_bitmap}
use Rattle.rio_model.specs.Sizes.{pages, blocks_for}
use Rattle.rio_base.specs.Bitmap.{bitmap_block}
use Rattle.rio_model.specs.NodeChanges.{IsBitmap}
use Rattle.rio_model.specs.Placed.{Slot, AtPage, AtTable, Placed, Within, HasSlot, number_at, Lies, placed_at, Layout, volume_layout, Owns, Owned, IsFree, Agrees, SamePlaced}
use Rattle.rio_model.specs.VolumeRules.{SuperblockRule, bitmap_bits, ReservedRule, SizeFits, NumberRule, MarkRule, IsNumbered, IsLaid, IsMapped, NodeFits}

-- blocks say this layout
pub record Lays (l : Layout) (f : BlockWords) : Type 0 where
  pub each : (i : ℕ) → IsIno l.shape i → Lies f i (l.node i)

-- how many blocks count: for one node, and for all
abbrev pub placed_blocks : Placed → ℕ
placed_blocks n = if nat_lt 0 n.kind then blocks_for n.size else 0

abbrev pub layout_blocks : Layout → ℕ
layout_blocks l = sum (map (λ i. placed_blocks (l.node i)) (range_with_len 1 l.shape.inodes))

-- the layout with one node in another way
abbrev pub with_placed : Layout → ℕ → Placed → Layout
with_placed l i n = record l { node = λ j. if j == i then n else l.node j }

-- ---- slots

pub page_page : (p q : ℕ) → AtPage p ≡ AtPage q → p ≡ q
page_page p q e = cc

pub table_table : (p q : ℕ) → AtTable p ≡ AtTable q → p ≡ q
table_table p q e = cc

pub table_page : (t p : ℕ) → AtTable t ≡ AtPage p → ⊥
table_page t p e = cc

pub cases_lt : (a b : ℕ) → ((a < b) × (nat_lt a b ≡ true)) ⊎ ((b ≤ a) × (nat_lt a b ≡ false))
cases_lt a b = grind (arith, nat_tests)

-- the indirect block counts where a page is numbered in it
pub first_table : (n : Placed) (p : ℕ) → HasSlot n (AtPage p) → 24 ≤ p → HasSlot n (AtTable 0)
first_table n p h past = record { used = h.used; within = subst (λ b. 0 < cond b 1 0) (sym many) (omega arith) }
  where
    many : nat_lt 24 (pages n.size) ≡ true
    many = let within : p < pages n.size = h.within in grind (arith, nat_tests, within, past)

within_same : (a b : ℕ) (s : Slot) → a ≡ b → Within a s → Within b s
within_same a b s e w = subst (λ (x : ℕ). Within x s) e w

pub has_same : (n m : Placed) (s : Slot) → SamePlaced n m → HasSlot n s → HasSlot m s
has_same n m s h o = record { used = omega (arith, h.kind, o.used); within = within_same n.size m.size s (sym (h.size o.used)) o.within }

pub has_back : (n m : Placed) (s : Slot) → SamePlaced n m → HasSlot m s → HasSlot n s
has_back n m s h o = let used : 0 < n.kind = omega (arith, h.kind, o.used) in record { used = used; within = within_same m.size n.size s (h.size used) o.within }

-- ---- the numbers of one inode

page_number : (f g : BlockWords) (i : ℕ) (s t : ℕ → ℕ) (p : ℕ) → ((w : ℕ) → w < 16 → inode_word g i w ≡ inode_word f i w) → (24 ≤ p → (w : ℕ) → g (t 0) w ≡ f (s 0) w) → number_at g i t (AtPage p) ≡ number_at f i s (AtPage p)
unfolding number_at
page_number f g i s t p words table = elim (cases_lt p 24) [
  | inl few ↦ ap (λ b. cond b (direct_number g i p) (half (g (t 0) ((p - 24) / 2)) p)) few.1 ∙ ap (λ w. half w p) (words (2 + p / 2) (omega (arith, few.0))) ∙ sym (ap (λ b. cond b (direct_number f i p) (half (f (s 0) ((p - 24) / 2)) p)) few.1)
  | inr many ↦ ap (λ b. cond b (direct_number g i p) (half (g (t 0) ((p - 24) / 2)) p)) many.1 ∙ ap (λ w. half w p) (table many.0 ((p - 24) / 2)) ∙ sym (ap (λ b. cond b (direct_number f i p) (half (f (s 0) ((p - 24) / 2)) p)) many.1)
]

table_number : (f g : BlockWords) (i : ℕ) (s t : ℕ → ℕ) (k : ℕ) → ((w : ℕ) → w < 16 → inode_word g i w ≡ inode_word f i w) → number_at g i t (AtTable k) ≡ number_at f i s (AtTable k)
unfolding number_at
table_number f g i s t k words = ap (λ w. half w 0) (words 14 (omega arith))

-- a direct number, a number of a table, and a table's own, where they stand
pub direct_of : (f : BlockWords) (i : ℕ) (n : Placed) (p : ℕ) → Lies f i n → p < 24 → HasSlot n (AtPage p) → direct_number f i p ≡ n.block (AtPage p)
unfolding number_at
direct_of f i n p h few has = elim (cases_lt p 24) [
  | inl in_inode ↦ sym (ap (λ b. cond b (direct_number f i p) (half (f (n.block (AtTable 0)) ((p - 24) / 2)) p)) in_inode.1) ∙ h.blocks (AtPage p) has
  | inr past ↦ absurd (let more = past.0 in omega (arith, more, few))
]

pub later_of : (f : BlockWords) (i : ℕ) (n : Placed) (p : ℕ) → Lies f i n → 24 ≤ p → HasSlot n (AtPage p) → half (f (n.block (AtTable 0)) ((p - 24) / 2)) p ≡ n.block (AtPage p)
unfolding number_at
later_of f i n p h past has = elim (cases_lt p 24) [
  | inl few ↦ absurd (let less = few.0 in omega (arith, less, past))
  | inr many ↦ sym (ap (λ b. cond b (direct_number f i p) (half (f (n.block (AtTable 0)) ((p - 24) / 2)) p)) many.1) ∙ h.blocks (AtPage p) has
]

pub table_of : (f : BlockWords) (i : ℕ) (n : Placed) (k : ℕ) → Lies f i n → HasSlot n (AtTable k) → indirect_number f i ≡ n.block (AtTable k)
unfolding number_at
table_of f i n k h has = h.blocks (AtTable k) has

-- and an inode says what its numbers say
pub lies_of : (f : BlockWords) (i : ℕ) (n : Placed) → inode_kind f i ≡ n.kind → inode_size f i ≡ n.size → ((p : ℕ) → p < 24 → HasSlot n (AtPage p) → direct_number f i p ≡ n.block (AtPage p)) → ((k : ℕ) → HasSlot n (AtTable k) → indirect_number f i ≡ n.block (AtTable k)) → ((p : ℕ) → 24 ≤ p → HasSlot n (AtPage p) → half (f (n.block (AtTable 0)) ((p - 24) / 2)) p ≡ n.block (AtPage p)) → Lies f i n
unfolding number_at
lies_of f i n kind size direct tab later = record { kind = kind; size = λ used. size; blocks = number }
  where
    number : (s : Slot) → HasSlot n s → number_at f i (λ k. n.block (AtTable k)) s ≡ n.block s
    number (AtPage p) has = elim (cases_lt p 24) [
      | inl few ↦ ap (λ b. cond b (direct_number f i p) (half (f (n.block (AtTable 0)) ((p - 24) / 2)) p)) few.1 ∙ direct p few.0 has
      | inr many ↦ ap (λ b. cond b (direct_number f i p) (half (f (n.block (AtTable 0)) ((p - 24) / 2)) p)) many.1 ∙ later p many.0 has
    ]
    number (AtTable k) has = tab k has

-- ---- one inode in two lists of blocks

-- the inode and its tables are the same in both
pub lies_agree : (f g : BlockWords) (i : ℕ) (n : Placed) → Lies f i n → ((w : ℕ) → w < 16 → inode_word g i w ≡ inode_word f i w) → ((k : ℕ) → HasSlot n (AtTable k) → (w : ℕ) → g (n.block (AtTable k)) w ≡ f (n.block (AtTable k)) w) → Lies g i n
lies_agree f g i n h words tabs = record {
  kind = words 0 (omega arith) ∙ h.kind;
  size = λ used. words 1 (omega arith) ∙ h.size used;
  blocks = number;
}
  where
    number : (s : Slot) → HasSlot n s → number_at g i (λ k. n.block (AtTable k)) s ≡ n.block s
    number (AtPage p) has = page_number f g i _ _ p words (λ past. tabs 0 (first_table n p has past)) ∙ h.blocks (AtPage p) has
    number (AtTable k) has = table_number f g i _ _ k words ∙ h.blocks (AtTable k) has

-- what an inode says is what it was said to say
pub lies_same : (f : BlockWords) (i : ℕ) (n : Placed) → Lies f i n → SamePlaced n (placed_at f i)
lies_same f i n h = record { kind = h.kind; size = h.size; blocks = number }
  where
    first : (p : ℕ) → HasSlot n (AtPage p) → 24 ≤ p → number_at f i (λ _. 0) (AtTable 0) ≡ n.block (AtTable 0)
    first p has past = table_number f f i _ _ 0 (λ w few. refl) ∙ h.blocks (AtTable 0) (first_table n p has past)

    number : (s : Slot) → HasSlot n s → number_at f i (λ k. number_at f i (λ _. 0) (AtTable k)) s ≡ n.block s
    number (AtPage p) has = page_number f f i _ _ p (λ w few. refl) (λ past w. ap (λ b. f b w) (first p has past)) ∙ h.blocks (AtPage p) has
    number (AtTable k) has = table_number f f i _ _ k (λ w few. refl) ∙ h.blocks (AtTable k) has

pub lies_self : (f : BlockWords) (i : ℕ) → Lies f i (placed_at f i)
lies_self f i = record { kind = refl; size = λ used. refl; blocks = number }
  where
    number : (s : Slot) → HasSlot (placed_at f i) s → number_at f i (λ k. (placed_at f i).block (AtTable k)) s ≡ (placed_at f i).block s
    number (AtPage p) has = page_number f f i _ _ p (λ w few. refl) (λ past w. ap (λ b. f b w) (table_number f f i _ _ 0 (λ v few. refl)))
    number (AtTable k) has = table_number f f i _ _ k (λ w few. refl)

pub lays_self : (shape : VolumeShape) (f : BlockWords) → Lays (volume_layout shape f) f
lays_self shape f = record { each = λ i ino. lies_self f i }

-- ---- all inodes

pub record SameLayout (l m : Layout) : Type 0 where
  pub shape : m.shape ≡ l.shape
  pub each : (i : ℕ) → IsIno l.shape i → SamePlaced (l.node i) (m.node i)

pub layout_refl : (l : Layout) → SameLayout l l
layout_refl l = record { shape = refl; each = λ i ino. record { kind = refl; size = λ u. refl; blocks = λ s has. refl } }

pub lays_same : (l : Layout) (f : BlockWords) → Lays l f → SameLayout l (volume_layout l.shape f)
lays_same l f h = record { shape = refl; each = λ i ino. lies_same f i (l.node i) (h.each i ino) }

pub owns_back : (l m : Layout) (i : ℕ) (s : Slot) → SameLayout l m → Owns m i s → Owns l i s
owns_back l m i s e h = let ino : IsIno l.shape i = subst (λ sh. IsIno sh i) e.shape h.ino in record { ino = ino; slot = has_back _ _ s (e.each i ino) h.slot }

pub owned_back : (l m : Layout) (b : ℕ) → SameLayout l m → Owned m b → Owned l b
owned_back l m b e h = let own = owns_back l m h.node h.slot e h.owns in record { node = h.node; slot = h.slot; owns = own; is = sym ((e.each h.node own.ino).blocks h.slot own.slot) ∙ h.is }

pub owned_on : (l m : Layout) (b : ℕ) → SameLayout l m → Owned l b → Owned m b
owned_on l m b e h = record {
  node = h.node;
  slot = h.slot;
  owns = record { ino = subst (λ sh. IsIno sh h.node) (sym e.shape) h.owns.ino; slot = has_same _ _ h.slot (e.each h.node h.owns.ino) h.owns.slot };
  is = (e.each h.node h.owns.ino).blocks h.slot h.owns.slot ∙ h.is;
}

pub root_ino : (shape : VolumeShape) → IsShape shape → IsIno shape 1
root_ino shape h = record { from = omega arith; to = omega arith }

-- ---- the rules 3 to 6, node by node

pub node_fits : (l : Layout) (i : ℕ) → IsLaid l → IsIno l.shape i → NodeFits l.shape (l.node i)
node_fits l i h ino = record {
  kind = (h.kinds.each i ino).0;
  size = h.sizes.each i ino;
  from = λ s has. (h.numbers.each i ino s has).0;
  to = λ s has. (h.numbers.each i ino s has).1;
  apart = λ s t hs ht e. (h.once.each i i s t (record { ino = ino; slot = hs }) (record { ino = ino; slot = ht }) e).1;
}

pub laid_by_nodes : (l : Layout) → IsShape l.shape → (l.node 1).kind ≡ 1 → ((i : ℕ) → IsIno l.shape i → NodeFits l.shape (l.node i)) → ((i j : ℕ) (s t : Slot) → Owns l i s → Owns l j t → (l.node i).block s ≡ (l.node j).block t → i ≡ j) → IsLaid l
laid_by_nodes l shape root each apart = record {
  shape_fits = shape;
  kinds = record { each = λ i ino. ((each i ino).kind, λ e. subst (λ x. (l.node x).kind ≡ 1) (sym e) root) };
  sizes = record { each = λ i ino. (each i ino).size };
  numbers = record { each = λ i ino s has. ((each i ino).from s has, (each i ino).to s has) };
  once = record { each = λ i j s t oi oj e. (apart i j s t oi oj e, slots i j s t oi oj e (apart i j s t oi oj e)) };
}
  where
    slots : (i j : ℕ) (s t : Slot) → Owns l i s → Owns l j t → (l.node i).block s ≡ (l.node j).block t → i ≡ j → s ≡ t
    slots i j s t oi oj e same = (each j oj.ino).apart s t (subst (λ x. HasSlot (l.node x) s) same oi.slot) oj.slot (sym (ap (λ x. (l.node x).block s) same) ∙ e)

size_fits_same : (k j s t : ℕ) → k ≡ j → s ≡ t → SizeFits k s → SizeFits j t
size_fits_same k j s t e h fits = subst (λ x. SizeFits x t) e (subst (λ x. SizeFits k x) h fits)

fits_same : (shape : VolumeShape) (n m : Placed) → SamePlaced n m → NodeFits shape n → NodeFits shape m
fits_same shape n m e h = record {
  kind = subst (λ k. k ≤ 3) (sym e.kind) h.kind;
  size = λ used. let was : 0 < n.kind = omega (arith, e.kind, used) in size_fits_same n.kind m.kind n.size m.size (sym e.kind) (sym (e.size was)) (h.size was);
  from = λ s has. subst (λ b. reserved shape ≤ b) (sym (e.blocks s (has_back n m s e has))) (h.from s (has_back n m s e has));
  to = λ s has. subst (λ b. b < shape.blocks) (sym (e.blocks s (has_back n m s e has))) (h.to s (has_back n m s e has));
  apart = λ s t hs ht same. h.apart s t (has_back n m s e hs) (has_back n m t e ht) (sym (e.blocks s (has_back n m s e hs)) ∙ same ∙ e.blocks t (has_back n m t e ht));
}

pub laid_same : (l m : Layout) → SameLayout l m → IsLaid l → IsLaid m
laid_same l m e h = laid_by_nodes m (subst IsShape (sym e.shape) h.shape_fits) ((e.each 1 (root_ino l.shape h.shape_fits)).kind ∙ (h.kinds.each 1 (root_ino l.shape h.shape_fits)).1 refl)
    (λ i ino. let was : IsIno l.shape i = subst (λ sh. IsIno sh i) e.shape ino in subst (λ sh. NodeFits sh (m.node i)) (sym e.shape) (fits_same l.shape _ _ (e.each i was) (node_fits l i h was)))
    (λ i j s t a b same. let oa = owns_back l m i s e a in let ob = owns_back l m j t e b in (h.once.each i j s t oa ob (sym ((e.each i oa.ino).blocks s oa.slot) ∙ same ∙ (e.each j ob.ino).blocks t ob.slot)).0)

-- ---- the bitmap

pub bits_low : (shape : VolumeShape) (b : ℕ) → b < bitmap_bits shape → bitmap_block shape b < reserved shape
unfolding bitmap_block
bits_low shape b within = elim (cases_lt b 32768) [
  | inl few ↦ (let less = few.1 in subst (λ t. cond t 1 (1 + shape.inodes / 32 + b / 32768) < reserved shape) (sym less) (omega arith))
  | inr many ↦ (let more = many.1 in let past = many.0 in subst (λ t. cond t 1 (1 + shape.inodes / 32 + b / 32768) < reserved shape) (sym more) (omega (arith, past, within)))
]

-- blocks below the last one have a bit
pub has_bit : (shape : VolumeShape) (b : ℕ) → IsShape shape → b < shape.blocks → b < bitmap_bits shape
has_bit shape b h within = let most = h.blocks_to in omega (arith, within, most)

pub reserved_below : (shape : VolumeShape) → IsShape shape → reserved shape ≤ shape.blocks
unfolding more_bitmap
reserved_below shape h = elim h.version [
  | inl one ↦ (let from = h.blocks_from in let t : (shape.version == 2) ≡ false = grind (arith, nat_tests, one) in subst (λ b. 2 + shape.inodes / 32 + cond b 7 0 ≤ shape.blocks) (sym t) (omega (arith, from)))
  | inr two ↦ (let from = h.blocks_second two in let t : (shape.version == 2) ≡ true = grind (arith, nat_tests, two) in subst (λ b. 2 + shape.inodes / 32 + cond b 7 0 ≤ shape.blocks) (sym t) (omega (arith, from)))
]

pub reserved_same : (shape : VolumeShape) (f g : BlockWords) → IsShape shape → ((b : ℕ) → b < bitmap_bits shape → used_bit shape g b ≡ used_bit shape f b) → ReservedRule shape f → ReservedRule shape g
reserved_same shape f g h bits k = record {
  marked = λ b low. bits b (has_bit shape b h (let most = reserved_below shape h in omega (arith, low, most))) ∙ k.marked b low;
  past = λ b past within. bits b within ∙ k.past b past within;
}

pub owned_below : (l : Layout) (b : ℕ) → NumberRule l → Owned l b → b < l.shape.blocks
owned_below l b h own = subst (λ x. x < l.shape.blocks) own.is (h.each own.node own.owns.ino own.slot own.owns.slot).1

pub marks_same : (l m : Layout) (f g : BlockWords) → SameLayout l m → IsLaid l → ((b : ℕ) → b < bitmap_bits l.shape → used_bit l.shape g b ≡ used_bit l.shape f b) → MarkRule l f → MarkRule m g
marks_same l m f g e h bits k = record {
  counts = λ b own. let was = owned_back l m b e own in subst (λ sh. used_bit sh g b ≡ 1) (sym e.shape) (bits b (has_bit l.shape b h.shape_fits (owned_below l b h.numbers was)) ∙ k.counts b was);
  free = λ b free. let was = free_back b free in subst (λ sh. used_bit sh g b ≡ 0) (sym e.shape) (bits b (has_bit l.shape b h.shape_fits was.to) ∙ k.free b was);
}
  where
    free_back : (b : ℕ) → IsFree m b → IsFree l b
    free_back b h = record { from = subst (λ sh. reserved sh ≤ b) e.shape h.from; to = subst (λ (sh : VolumeShape). b < sh.blocks) e.shape h.to; free = λ own. h.free (owned_on l m b e own) }

-- ---- where things lie

pub inode_low : (shape : VolumeShape) (i : ℕ) → IsShape shape → IsIno shape i → inode_block i < reserved shape
inode_low shape i h ino = omega (arith, h.inode_blocks, ino.from, ino.to)

-- no inode, no superblock and no block of a node is one of the bitmap
pub inode_no_bitmap : (shape : VolumeShape) (i : ℕ) → IsShape shape → IsIno shape i → IsBitmap shape (inode_block i) → ⊥
inode_no_bitmap shape i h ino (inl one) = omega (arith, one)
inode_no_bitmap shape i h ino (inr more) = let low = more.0 in omega (arith, h.inode_blocks, ino.from, ino.to, low)

pub superblock_no_bitmap : (shape : VolumeShape) → IsBitmap shape 0 → ⊥
superblock_no_bitmap shape (inl one) = omega (arith, one)
superblock_no_bitmap shape (inr more) = let low = more.0 in omega (arith, low)

pub above_no_bitmap : (shape : VolumeShape) (b : ℕ) → reserved shape ≤ b → IsBitmap shape b → ⊥
above_no_bitmap shape b above (inl one) = omega (arith, one, above)
above_no_bitmap shape b above (inr more) = let high = more.1 in omega (arith, high, above)

-- ---- the rules together

pub numbered_of : (shape : VolumeShape) (f : BlockWords) → IsMapped shape f → IsNumbered shape f
numbered_of shape f h = record { superblock = h.superblock; reserved_marked = h.reserved_marked; kinds = h.laid.kinds; sizes = h.laid.sizes; numbers = h.laid.numbers }

-- blocks that say a layout keep the rules where it does
pub mapped_by : (l : Layout) (f : BlockWords) → SuperblockRule l.shape f → ReservedRule l.shape f → IsLaid l → Lays l f → MarkRule l f → IsMapped l.shape f
mapped_by l f top marked laid lays marks = record {
  superblock = top;
  reserved_marked = marked;
  laid = laid_same l _ (lays_same l f lays) laid;
  marks = marks_same l _ f f (lays_same l f lays) laid (λ b within. refl) marks;
}

-- ---- the same blocks in use

pub lays_agree : (l : Layout) (f g : BlockWords) → IsShape l.shape → Lays l f → Agrees l f g → Lays l g
lays_agree l f g h k a = record { each = λ i ino. lies_agree f g i (l.node i) (k.each i ino) (λ w few. a.low _ _ (inode_low l.shape i h ino)) (λ t has w. a.owned i (AtTable t) (record { ino = ino; slot = has }) w) }

pub bits_agree : (l : Layout) (f g : BlockWords) → Agrees l f g → (b : ℕ) → b < bitmap_bits l.shape → used_bit l.shape g b ≡ used_bit l.shape f b
bits_agree l f g a b within = ap (λ w. bit_at w (b % 64)) (a.low _ _ (bits_low l.shape b within))

pub superblock_agree : (l : Layout) (f g : BlockWords) → Agrees l f g → SuperblockRule l.shape f → SuperblockRule l.shape g
superblock_agree l f g a h = record { sizes = h.sizes; words = record { magic = top 0 ∙ h.words.magic; version = top 1 ∙ h.words.version; blocks = top 2 ∙ h.words.blocks; inodes = top 3 ∙ h.words.inodes } }
  where
    top : (w : ℕ) → g 0 w ≡ f 0 w
    top w = a.low 0 w (omega arith)

pub mapped_agree : (shape : VolumeShape) (f g : BlockWords) → IsMapped shape f → Agrees (volume_layout shape f) f g → IsMapped shape g
mapped_agree shape f g h a =
    let l = volume_layout shape f in
    mapped_by l g (superblock_agree l f g a h.superblock) (reserved_same shape f g h.superblock.sizes (bits_agree l f g a) h.reserved_marked) h.laid (lays_agree l f g h.superblock.sizes (lays_self shape f) a) (marks_same l l f g (layout_refl l) h.laid (bits_agree l f g a) h.marks)
