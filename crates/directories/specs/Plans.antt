-- A change of a directory that is prepared, what it makes of the directory, and when it may be made.
use Rattle.std.specs.Prelude.{◌≡◌, ℕ, ◌<◌, ◌⊎◌, true, false, None, List, length, map, slice_index, take}
use Rattle.std.specs.List.{Contains}
use Rattle.rio_base.specs.declared.places.VolumeShape.{VolumeShape}
use Rattle.rio_base.specs.Bitmap.{free_blocks}
use Rattle.rio_base.specs.Blocks.{BlockWords, Seen}
use Rattle.rio_base.specs.Volume.{Kept}
use Rattle.rio_base.specs.NodeKinds.{dir_kind}
use Rattle.rio_model.specs.Held.{Held, held, held_of}
use Rattle.rio_model.specs.NodeChanges.{Available}
use Rattle.rio_model.specs.Placed.{Slot, Placed, HasSlot, placed_at, volume_layout, IsFree, SamePlaced}
use Rattle.rio_model.specs.Updates.{Turns, Update, edited}
use Rattle.block_alloc.specs.Bitmap.{numbers}
use Rattle.node_pages.specs.declared.changes.Edit.{Edit}
use Rattle.node_pages.specs.Changes.{Apart, node_update, wanted_blocks, word_edit}
use Rattle.directories.specs.declared.changes.DirChange.{DirChange}

-- the update that it is
abbrev pub dir_update : DirChange → Update
dir_update c = node_update c.dir.0 c.inode c.edits c.taken c.freed

-- the blocks of a node have the same words
abbrev pub SameBlocks : Placed → BlockWords → BlockWords → Type 0
SameBlocks m f g = (s : Slot) → HasSlot m s → (w : ℕ) → g (m.block s) w ≡ f (m.block s) w

-- ---- what can be made in an update

-- the edits are in three blocks at most: a table and two pages
pub record InThreeBlocks (edits : List Edit) : Type 0 where
  pub table : ℕ
  pub first : ℕ
  pub second : ℕ
  pub each : (e : Edit) → Contains edits e → (e.block.0 ≡ table) ⊎ (e.block.0 ≡ first) ⊎ (e.block.0 ≡ second)

-- ---- what is prepared

-- blocks that a plan takes: the lowest free ones, none twice
pub record TakesLowest (shape : VolumeShape) (f : BlockWords) (size len : ℕ) (taken : List ℕ) : Type 0 where
  pub lowest : taken ≡ take (wanted_blocks size len) (free_blocks shape f)
  pub free : (t : ℕ) → t < length taken → IsFree (volume_layout shape f) (slice_index taken t)
  pub once : Apart taken

-- a change of directory d that is prepared over blocks f. It may be made on any blocks in which inode d still lies as it
-- did, and the blocks that the directory is to have read as they do now; other nodes may have changed since. No block of it
-- is loose, and a cached one has no name
pub record PlansDir (shape : VolumeShape) (f : BlockWords) (y : Seen) (j : Kept) (d : ℕ) (becomes : Held → Held → Type 0) (c : DirChange) : Type 0 where
  pub dir : c.dir.0 ≡ d
  pub node : Placed
  pub holds : Held
  pub turns : Turns shape (placed_at f d) node (dir_update c)
  pub from : (s : Slot) → HasSlot node s → Available (volume_layout shape f) d (node.block s)
  pub takes : TakesLowest shape f (placed_at f d).size node.size (numbers c.taken)
  pub made : (g : BlockWords) → SameBlocks node y.words g → held (edited g (map word_edit c.edits)) node ≡ holds
  pub was_dir : (placed_at f d).kind ≡ dir_kind
  pub is_dir : node.kind ≡ dir_kind
  pub does : becomes (held_of shape f d) holds
  pub words : (e : Edit) → Contains c.edits e → e.word < 512
  pub few : InThreeBlocks c.edits
  pub firm : (s : Slot) → HasSlot node s → j.loose (node.block s) ≡ false
  pub unnamed : (s : Slot) → HasSlot node s → y.cached (node.block s) ≡ true → y.names (node.block s) ≡ None

-- ---- a plan may be made long after it was prepared, and other plans before it in the same update

-- a plan of directory d, which was n and is to be m, may be made on blocks g: the directory lies as it did, the blocks that
-- it is to have read as they did in f, and are its own or free
pub record MayBeMade (shape : VolumeShape) (n m : Placed) (d : ℕ) (f g : BlockWords) : Type 0 where
  pub lies : SamePlaced n (placed_at g d)
  pub same : SameBlocks m f g
  pub from : (s : Slot) → HasSlot m s → Available (volume_layout shape g) d (m.block s)
