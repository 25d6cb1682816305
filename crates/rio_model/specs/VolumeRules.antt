-- The rules of a volume, each a relation of its own, in the order in which they are looked at. A rule may suppose those
-- before it.
use Rattle.std.specs.Prelude.{◌≡◌, ◌≢◌, ℕ, ◌+◌, ◌*◌, ◌/◌, ◌%◌, ◌<◌, ◌≤◌, List, None, Some, Ok}
use Rattle.std.specs.FinMap.{get}
use Rattle.rio_base.specs.declared.places.VolumeShape.{VolumeShape}
use Rattle.rio_base.specs.Bitmap.{used_bit}
use Rattle.rio_base.specs.Blocks.{BlockWords}
use Rattle.rio_base.specs.Layout.{HasSuperblock, IsIno}
use Rattle.rio_base.specs.Shapes.{IsShape, reserved, more_bitmap}
use Rattle.rio_base.specs.NodeKinds.{dir_kind, region_kind}
use Rattle.rio_model.specs.declared.state.State.{State}
use Rattle.rio_model.specs.Heap.{IsSoundRegion}
use Rattle.rio_model.specs.Held.{Held, entry_ino, entry_name, HasEntry}
use Rattle.rio_model.specs.Paths.{IsName, walk}
use Rattle.rio_model.specs.Placed.{Slot, Placed, HasSlot, Layout, volume_layout, Owns, Owned, IsFree}
use Rattle.rio_model.specs.Sizes.{largest_size}

-- ---- superblock and bitmap

-- rule 1: the superblock says the shape, and the shape is one that a volume may have
pub record SuperblockRule (shape : VolumeShape) (f : BlockWords) : Type 0 where
  pub sizes : IsShape shape
  pub words : HasSuperblock f shape

-- how many blocks have a bit
abbrev pub bitmap_bits : VolumeShape → ℕ
bitmap_bits shape = 32768 * (1 + more_bitmap shape)

-- rule 2: all reserved blocks are marked, and no bit past the last block is
pub record ReservedRule (shape : VolumeShape) (f : BlockWords) : Type 0 where
  pub marked : (b : ℕ) → b < reserved shape → used_bit shape f b ≡ 1
  pub past : (b : ℕ) → shape.blocks ≤ b → b < bitmap_bits shape → used_bit shape f b ≡ 0

-- ---- inodes and block numbers

-- the kind is known, and inode 1 is a directory
abbrev pub KindAt : Layout → ℕ → Type 0
KindAt l i = ((l.node i).kind ≤ region_kind) × (i ≡ 1 → (l.node i).kind ≡ dir_kind)

-- rule 3: of each inode
pub record KindRule (l : Layout) : Type 0 where
  pub each : (i : ℕ) → IsIno l.shape i → KindAt l i

-- a node of this kind may have this size
pub record SizeFits (kind size : ℕ) : Type 0 where
  pub most : size ≤ largest_size
  pub directory : kind ≡ dir_kind → size % 64 ≡ 0
  pub region : kind ≡ region_kind → size % 4096 ≡ 0
  pub region_pages : kind ≡ region_kind → 16384 ≤ size

-- the size of a used inode is one that its kind may have
abbrev pub SizeAt : Layout → ℕ → Type 0
SizeAt l i = 0 < (l.node i).kind → SizeFits (l.node i).kind (l.node i).size

-- rule 4: of each inode
pub record SizeRule (l : Layout) : Type 0 where
  pub each : (i : ℕ) → IsIno l.shape i → SizeAt l i

-- each block number that counts, of a page or of a table, is of a block past the reserved ones
abbrev pub NumberAt : Layout → ℕ → Type 0
NumberAt l i = (s : Slot) → HasSlot (l.node i) s → (reserved l.shape ≤ (l.node i).block s) × ((l.node i).block s < l.shape.blocks)

-- rule 5: of each inode
pub record NumberRule (l : Layout) : Type 0 where
  pub each : (i : ℕ) → IsIno l.shape i → NumberAt l i

-- rule 6: no block counts twice
pub record OnceRule (l : Layout) : Type 0 where
  pub each : (i j : ℕ) (s t : Slot) → Owns l i s → Owns l j t → (l.node i).block s ≡ (l.node j).block t → (i ≡ j) × (s ≡ t)

-- rule 7: a block past the reserved ones is marked exactly where it counts
pub record MarkRule (l : Layout) (f : BlockWords) : Type 0 where
  pub counts : (b : ℕ) → Owned l b → used_bit l.shape f b ≡ 1
  pub free : (b : ℕ) → IsFree l b → used_bit l.shape f b ≡ 0

-- ---- directories

-- each entry of a directory has a name that a path may have, and the number of a used inode
abbrev pub EntryAt : (ℕ → Held) → ℕ → Type 0
EntryAt held d = (j : ℕ) → HasEntry held d j → IsName (entry_name (held d) j) × (0 < (held (entry_ino (held d) j)).kind)

-- rule 8: of each directory
pub record EntryRule (held : ℕ → Held) : Type 0 where
  pub each : (d : ℕ) → EntryAt held d

-- no two entries of a directory have one name
abbrev pub ApartAt : (ℕ → Held) → ℕ → Type 0
ApartAt held d = (j k : ℕ) → HasEntry held d j → HasEntry held d k → entry_name (held d) j ≡ entry_name (held d) k → j ≡ k

-- rule 9: of each directory
pub record NamesApartRule (held : ℕ → Held) : Type 0 where
  pub each : (d : ℕ) → ApartAt held d

-- rule 10, by the rows of names that the entries are: the root has no name, each other node has exactly one, and is reached
-- from the root
pub record TreeRule (s : State) : Type 0 where
  pub root : (d : ℕ) (name : List ℕ) → get s.names (d, name) ≢ Some 1
  pub one : (c d : ℕ) (a b : List ℕ) (i : ℕ) → get s.names (c, a) ≡ Some i → get s.names (d, b) ≡ Some i → (c ≡ d) × (a ≡ b)
  pub reached : (i : ℕ) → get s.nodes i ≢ None → (names : List (List ℕ)) × (walk s 1 names ≡ Ok i)

-- ---- regions

-- a region's words keep the format, and its heap map is of blocks alone once the undo records are put back
abbrev pub RegionAt : (ℕ → Held) → ℕ → Type 0
RegionAt held i = (held i).kind ≡ region_kind → IsSoundRegion ((held i).size / 8) (held i).word

-- rule 11: of each region
pub record RegionRule (held : ℕ → Held) : Type 0 where
  pub each : (i : ℕ) → RegionAt held i

-- ---- rules together

-- rules 1 to 5: which block numbers count is known, and they are numbers of blocks
pub record IsNumbered (shape : VolumeShape) (f : BlockWords) : Type 0 where
  pub superblock : SuperblockRule shape f
  pub reserved_marked : ReservedRule shape f
  pub kinds : KindRule (volume_layout shape f)
  pub sizes : SizeRule (volume_layout shape f)
  pub numbers : NumberRule (volume_layout shape f)

-- rules 3 to 6 of a layout
pub record IsLaid (l : Layout) : Type 0 where
  pub shape_fits : IsShape l.shape
  pub kinds : KindRule l
  pub sizes : SizeRule l
  pub numbers : NumberRule l
  pub once : OnceRule l

-- rules 1 to 7: the bitmap has exactly the reserved blocks and those that count
pub record IsMapped (shape : VolumeShape) (f : BlockWords) : Type 0 where
  pub superblock : SuperblockRule shape f
  pub reserved_marked : ReservedRule shape f
  pub laid : IsLaid (volume_layout shape f)
  pub marks : MarkRule (volume_layout shape f) f

-- what the rules 3 to 6 ask of one node alone
pub record NodeFits (shape : VolumeShape) (n : Placed) : Type 0 where
  pub kind : n.kind ≤ region_kind
  pub size : 0 < n.kind → SizeFits n.kind n.size
  pub from : (s : Slot) → HasSlot n s → reserved shape ≤ n.block s
  pub to : (s : Slot) → HasSlot n s → n.block s < shape.blocks
  pub apart : (s t : Slot) → HasSlot n s → HasSlot n t → n.block s ≡ n.block t → s ≡ t
