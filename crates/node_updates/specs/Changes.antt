-- Changes of nodes that one update makes together.
use Rattle.std.specs.Prelude.{◌≡◌, ℕ, ◌≤◌, ◌⊎◌, true, List, [], ◌∷◌, length, map, Option, None}
use Rattle.std.specs.List.{Contains}
use Rattle.directories.specs.declared.changes.DirChange.{DirChange}
use Rattle.rio_base.specs.declared.places.Block.{Block}
use Rattle.rio_base.specs.declared.places.Ino.{Ino}
use Rattle.rio_base.specs.declared.places.PageName.{PageName}
use Rattle.rio_base.specs.declared.places.VolumeShape.{VolumeShape}
use Rattle.rio_base.specs.Blocks.{BlockWords, Seen}
use Rattle.rio_base.specs.Layout.{IsIno, inode_block}
use Rattle.rio_base.specs.Volume.{Kept}
use Rattle.rio_base.specs.NodeKinds.{free_kind}
use Rattle.block_alloc.specs.Bitmap.{numbers}
use Rattle.node_pages.specs.declared.changes.Edit.{Edit}
use Rattle.node_pages.specs.declared.changes.SizeChange.{SizeChange}
use Rattle.node_pages.specs.Changes.{node_update}
use Rattle.node_pages.specs.Updating.{CanUpdate, IsEdited}
use Rattle.rio_model.specs.Updates.{Applied, Update}
use Rattle.directories.specs.Plans.{InThreeBlocks}
use Rattle.node_updates.specs.declared.changes.NodeChange.{NodeChange}

-- the update that it is
abbrev pub change_update : NodeChange → Update
change_update c = node_update c.ino.0 c.inode c.edits c.taken c.freed

-- the blocks of edits, in their order
abbrev pub edited_blocks : List Edit → List ℕ
edited_blocks edits = map (λ e. e.block.0) edits

-- g is f with updates made one after the other
abbrev pub AllApplied : VolumeShape → List Update → BlockWords → BlockWords → Type 0
AllApplied shape [] f g = g ≡ f
AllApplied shape (u ∷ updates) f g = (h : BlockWords) × Applied shape u f h × AllApplied shape updates h g

-- what an update asks of a change that is made in it
pub record MakesFit (shape : VolumeShape) (c : NodeChange) : Type 0 where
  pub ino : IsIno shape c.ino.0
  pub can : CanUpdate shape c.edits (numbers c.taken) (numbers c.freed)

-- and what is asked before its blocks are touched: its edits are in three blocks at most, that may be asked for as metadata
pub record CanMakeNode (shape : VolumeShape) (x : Seen) (c : NodeChange) : Type 0 where
  pub fits : MakesFit shape c
  pub few : InThreeBlocks c.edits
  pub unnamed : (e : Edit) → Contains c.edits e → x.cached e.block.0 ≡ true → x.names e.block.0 ≡ None

-- three changes at most, so that an update touches 13 blocks of 16: the bitmap, three inodes, and the blocks of edits
pub record CanCommit (shape : VolumeShape) (x : Seen) (changes : List NodeChange) : Type 0 where
  pub few : length changes ≤ 3
  pub each : (c : NodeChange) → Contains changes c → CanMakeNode shape x c

-- the blocks that an update touches, which are cached without a name: the bitmap's, the inodes', and those of edits
abbrev pub IsTouchedBy : List NodeChange → ℕ → Option PageName → Type 0
IsTouchedBy changes b name = ((b ≡ 1) ⊎ ((c : NodeChange) × Contains changes c × ((b ≡ inode_block c.ino.0) ⊎ IsEdited c.edits b))) × (name ≡ None)

-- the blocks that changes free
abbrev pub IsFreed : List NodeChange → ℕ → Type 0
IsFreed changes b = (c : NodeChange) × Contains changes c × Contains (numbers c.freed) b

-- a change takes no block and frees none
abbrev pub KeepsBlocks : NodeChange → Type 0
KeepsBlocks c = (c.taken ≡ []) × (c.freed ≡ [])

-- the bitmap's block is touched, where a change takes or frees blocks
abbrev pub BitmapTouched : Kept → List NodeChange → Type 0
BitmapTouched k changes = (c : NodeChange) → Contains changes c → (KeepsBlocks c → ⊥) → k.touched 1 ≡ true

-- all blocks of a change are touched
pub record ChangeTouched (k : Kept) (c : NodeChange) : Type 0 where
  pub bitmap : (KeepsBlocks c → ⊥) → k.touched 1 ≡ true
  pub inode : k.touched (inode_block c.ino.0) ≡ true
  pub edited : (e : Edit) → Contains c.edits e → k.touched e.block.0 ≡ true

-- all blocks of changes
abbrev pub AllTouched : Kept → List NodeChange → Type 0
AllTouched k changes = (c : NodeChange) → Contains changes c → ChangeTouched k c

-- ---- single changes

-- a directory's
abbrev pub of_dir : DirChange → NodeChange
of_dir c = record { ino = c.dir; inode = c.inode; edits = c.edits; taken = c.taken; freed = c.freed }

-- a change of a node's size
abbrev pub of_size : Ino → SizeChange → NodeChange
of_size i c = record { ino = i; inode = c.inode; edits = c.edits; taken = c.taken; freed = c.freed }

-- a new node of this kind, without bytes
pub record IsMade (i kind : ℕ) (c : NodeChange) : Type 0 where
  pub ino : c.ino.0 ≡ i
  pub kind_is : c.inode.kind ≡ kind
  pub size : c.inode.size ≡ 0
  pub edits : c.edits ≡ []
  pub taken : c.taken ≡ []
  pub freed : c.freed ≡ []

-- a node that goes, and these blocks with it
pub record IsGone (i : ℕ) (blocks : List Block) (c : NodeChange) : Type 0 where
  pub ino : c.ino.0 ≡ i
  pub kind_is : c.inode.kind ≡ free_kind
  pub size : c.inode.size ≡ 0
  pub edits : c.edits ≡ []
  pub taken : c.taken ≡ []
  pub freed : c.freed ≡ blocks
