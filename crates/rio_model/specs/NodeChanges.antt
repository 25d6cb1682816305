-- One node of a volume changed: what becomes of its inode, of its blocks and of their bits.
use Rattle.std.specs.Prelude.{◌≡◌, ◌≢◌, ℕ, ◌+◌, ◌-◌, ◌/◌, ◌<◌, ◌≤◌, ◌⊎◌, nat_lt, if◌then◌else◌, List, length, slice_index, take}
use Rattle.rio_base.specs.declared.places.VolumeShape.{VolumeShape}
use Rattle.rio_base.specs.Bitmap.{free_blocks, used_bit}
use Rattle.rio_base.specs.Blocks.{BlockWords}
use Rattle.rio_base.specs.Layout.{IsIno, inode_block, inode_place}
use Rattle.rio_base.specs.Shapes.{reserved}
use Rattle.rio_base.specs.NodeKinds.{dir_kind, file_kind}
use Rattle.rio_model.specs.Held.{held_of, held_bytes}
use Rattle.rio_model.specs.Placed.{Slot, AtPage, AtTable, Placed, HasSlot, Lies, Layout, IsFree}
use Rattle.rio_model.specs.Sizes.{pages, tables, largest_size}
use Rattle.rio_model.specs.VolumeRules.{bitmap_bits, IsMapped, NodeFits}

-- ---- one node

-- no slot of a node that counts has this block
abbrev pub Without : Placed → ℕ → Type 0
Without n b = (s : Slot) → HasSlot n s → n.block s ≢ b

-- a block of the bitmap
abbrev pub IsBitmap : VolumeShape → ℕ → Type 0
IsBitmap shape b = (b ≡ 1) ⊎ ((2 + shape.inodes / 32 ≤ b) × (b < reserved shape))

-- a block that node i may have next: one that it has, or a free one
abbrev pub Available : Layout → ℕ → ℕ → Type 0
Available l i b = ((s : Slot) × HasSlot (l.node i) s × ((l.node i).block s ≡ b)) ⊎ IsFree l b

-- node i was n and is m; no word differs but its inode's, the bitmap's and those of its blocks
pub record Replaces (shape : VolumeShape) (f g : BlockWords) (i : ℕ) (n m : Placed) : Type 0 where
  pub lies : Lies g i m
  pub beside : (w : ℕ) → (w < inode_place i) ⊎ (inode_place i + 16 ≤ w) → g (inode_block i) w ≡ f (inode_block i) w
  pub elsewhere : (b w : ℕ) → (IsBitmap shape b → ⊥) → b ≢ inode_block i → Without n b → Without m b → g b w ≡ f b w

-- the blocks that it gained are marked, those that it lost are not, and all other bits stay
pub record BitsFollow (shape : VolumeShape) (f g : BlockWords) (n m : Placed) : Type 0 where
  pub gained : (s : Slot) → HasSlot m s → Without n (m.block s) → used_bit shape g (m.block s) ≡ 1
  pub lost : (s : Slot) → HasSlot n s → Without m (n.block s) → used_bit shape g (n.block s) ≡ 0
  pub kept : (s t : Slot) → HasSlot n s → HasSlot m t → n.block s ≡ m.block t → used_bit shape g (n.block s) ≡ used_bit shape f (n.block s)
  pub others : (b : ℕ) → b < bitmap_bits shape → Without n b → Without m b → used_bit shape g b ≡ used_bit shape f b

-- a change of node i after which the rules hold
pub record Change (l : Layout) (f g : BlockWords) (i : ℕ) (m : Placed) : Type 0 where
  pub ino : IsIno l.shape i
  pub does : Replaces l.shape f g i (l.node i) m
  pub bits : BitsFollow l.shape f g (l.node i) m
  pub fits : NodeFits l.shape m
  pub root : i ≡ 1 → m.kind ≡ dir_kind
  pub from : (s : Slot) → HasSlot m s → Available l i (m.block s)

-- ---- growth and shrinking

-- a slot of the grown node: the block that it had, or the next of those taken. Pages come first, a new table is the last
abbrev pub grown_block : Placed → ℕ → List ℕ → Slot → ℕ
grown_block n size taken (AtPage p) = if nat_lt p (pages n.size) then n.block (AtPage p) else slice_index taken (p - pages n.size)
grown_block n size taken (AtTable k) = if nat_lt k (tables n.size) then n.block (AtTable k) else slice_index taken (pages size - pages n.size)

-- a node that has grown to a size by taking these blocks
abbrev pub grown : Placed → ℕ → List ℕ → Placed
grown n size taken = record { kind = n.kind; size = size; block = grown_block n size taken }

-- blocks that a node may take to grow to a size: as many as it wants, all free, none twice
pub record Takes (l : Layout) (n : Placed) (size : ℕ) (taken : List ℕ) : Type 0 where
  pub grows : n.size ≤ size
  pub most : size ≤ largest_size
  pub count : length taken ≡ (pages size - pages n.size) + (tables size - tables n.size)
  pub free : (k : ℕ) → k < length taken → IsFree l (slice_index taken k)
  pub apart : (j k : ℕ) → j < length taken → k < length taken → slice_index taken j ≡ slice_index taken k → j ≡ k

-- a node that has shrunk keeps its first blocks
abbrev pub shrunk : Placed → ℕ → Placed
shrunk n size = record { kind = n.kind; size = size; block = n.block }

-- ---- which blocks are taken

-- these are the lowest free blocks, however many
abbrev pub AreLowest : VolumeShape → BlockWords → List ℕ → Type 0
AreLowest shape f taken = (n : ℕ) × (taken ≡ take n (free_blocks shape f))

-- the blocks that were free in f and are used in g are the lowest that were free: where one is used, each lower one is
pub record UsesLowest (shape : VolumeShape) (f g : BlockWords) : Type 0 where
  pub each : (b c : ℕ) → c < b → b < shape.blocks → used_bit shape f b ≡ 0 → used_bit shape g b ≡ 1 → used_bit shape f c ≡ 0 → used_bit shape g c ≡ 1

-- ---- a file

-- file i holds these bytes, the rules 1 to 7 hold, every other node holds what it held, and the blocks that are used beside
-- those of f are the lowest that were free
pub record SetsFile (shape : VolumeShape) (f g : BlockWords) (i : ℕ) (bytes : List ℕ) : Type 0 where
  pub mapped : IsMapped shape g
  pub kind : (held_of shape g i).kind ≡ file_kind
  pub own : held_bytes (held_of shape g i) ≡ bytes
  pub others : (j : ℕ) → j ≢ i → held_of shape g j ≡ held_of shape f j
  pub lowest : UsesLowest shape f g
