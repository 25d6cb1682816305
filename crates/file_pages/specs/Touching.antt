-- What an update touches, before a change of size is made in it.
use Rattle.std.specs.Prelude.{◌≡◌, ℕ, true, [], List, None}
use Rattle.std.specs.List.{Contains}
use Rattle.rio_base.specs.Layout.{inode_block}
use Rattle.rio_base.specs.Volume.{Kept}
use Rattle.node_pages.specs.declared.changes.Edit.{Edit}
use Rattle.node_pages.specs.declared.changes.SizeChange.{SizeChange}
use Rattle.rio_base.specs.declared.places.VolumeShape.{VolumeShape}
use Rattle.rio_base.specs.Blocks.{Seen}
use Rattle.block_alloc.specs.Bitmap.{numbers}
use Rattle.node_pages.specs.Updating.{CanUpdate}

-- a change takes no block and frees none
abbrev pub KeepsBlocks : SizeChange → Type 0
KeepsBlocks c = (c.taken ≡ []) × (c.freed ≡ [])

-- the bitmap's block is touched, where a change takes or frees blocks
abbrev pub BitmapTouched : Kept → SizeChange → Type 0
BitmapTouched k c = (KeepsBlocks c → ⊥) → k.touched 1 ≡ true

-- all blocks of a change of inode i are touched
pub record ChangeTouched (k : Kept) (i : ℕ) (c : SizeChange) : Type 0 where
  pub bitmap : BitmapTouched k c
  pub inode : k.touched (inode_block i) ≡ true
  pub edited : (e : Edit) → Contains c.edits e → k.touched e.block.0 ≡ true

-- edits that are all in one block
abbrev pub InOneBlock : List Edit → Type 0
InOneBlock edits = (d e : Edit) → Contains edits d → Contains edits e → d.block.0 ≡ e.block.0

-- a change of size that can be made in an update: it edits one table, which may be asked for as metadata
pub record CanChange (shape : VolumeShape) (y : Seen) (c : SizeChange) : Type 0 where
  pub makes : CanUpdate shape c.edits (numbers c.taken) (numbers c.freed)
  pub one : InOneBlock c.edits
  pub unnamed : (e : Edit) → Contains c.edits e → y.cached e.block.0 ≡ true → y.names e.block.0 ≡ None
