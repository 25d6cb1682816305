-- The update of a node's blocks, while it is made, and which blocks its edits are in.
use Rattle.std.specs.Prelude.{◌≡◌, ◌≢◌, ℕ, ◌+◌, ◌<◌, ◌≤◌, ◌⊎◌, true, List, slice_index, slice_index_or, Option, None}
use Rattle.std.specs.List.{Contains}
use Rattle.rio_base.specs.declared.places.PageName.{PageName}
use Rattle.rio_base.specs.declared.places.VolumeShape.{VolumeShape}
use Rattle.rio_base.specs.Bitmap.{used_bit}
use Rattle.rio_base.specs.Blocks.{BlockWords}
use Rattle.rio_base.specs.Layout.{inode_block}
use Rattle.rio_base.specs.Shapes.{reserved}
use Rattle.rio_base.specs.Volume.{Kept}
use Rattle.rio_model.specs.Placed.{AtTable, Layout, Owns, IsFree}
use Rattle.node_pages.specs.declared.changes.Edit.{Edit}

-- edits that can be made in an update, of words of blocks past the reserved ones, and blocks that can be marked and unmarked
-- beside them
pub record CanUpdate (shape : VolumeShape) (edits : List Edit) (gained lost : List ℕ) : Type 0 where
  pub words : (e : Edit) → Contains edits e → e.word < 512
  pub from : (e : Edit) → Contains edits e → reserved shape ≤ e.block.0
  pub to : (e : Edit) → Contains edits e → e.block.0 < shape.blocks
  pub taken : (b : ℕ) → Contains gained b → b < shape.blocks
  pub freed : (b : ℕ) → Contains lost b → b < shape.blocks
  pub apart : (b : ℕ) → Contains gained b → Contains lost b → ⊥

-- the first n edits are of one block, word behind word, and make these of its words
pub record IsEditRun (edits : List Edit) (values : List ℕ) (n : ℕ) : Type 0 where
  pub block : (t : ℕ) (d : Edit) → t < n → (slice_index_or edits t d).block.0 ≡ (slice_index_or edits 0 d).block.0
  pub word : (t : ℕ) (d : Edit) → t < n → (slice_index_or edits t d).word ≡ (slice_index_or edits 0 d).word + t
  pub value : (t : ℕ) (d : Edit) → t < n → (slice_index_or edits t d).value ≡ slice_index values t

-- the block of an edit
abbrev pub IsEdited : List Edit → ℕ → Type 0
IsEdited edits b = (e : Edit) × Contains edits e × (e.block.0 ≡ b)

-- the blocks that an update of inode i touches, which are cached without a name: the bitmap's, the inode's, and those of its
-- edits
abbrev pub IsUpdated : ℕ → List Edit → ℕ → Option PageName → Type 0
IsUpdated i edits b name = ((b ≡ 1) ⊎ (b ≡ inode_block i) ⊎ IsEdited edits b) × (name ≡ None)

-- all of them are touched
pub record IsTouched (k : Kept) (i : ℕ) (edits : List Edit) : Type 0 where
  pub bitmap : k.touched 1 ≡ true
  pub inode : k.touched (inode_block i) ≡ true
  pub edited : (e : Edit) → Contains edits e → k.touched e.block.0 ≡ true

-- the bits of the first n of these blocks are so, and nothing else differs
pub record SetsBits (shape : VolumeShape) (f g : BlockWords) (blocks : List ℕ) (n bit : ℕ) : Type 0 where
  pub elsewhere : (b w : ℕ) → b ≢ 1 → g b w ≡ f b w
  pub set : (t : ℕ) → t < n → used_bit shape g (slice_index blocks t) ≡ bit
  pub others : (b : ℕ) → ((t : ℕ) → t < n → slice_index blocks t ≢ b) → used_bit shape g b ≡ used_bit shape f b

-- ---- an update of inode i: what it caches has no name

-- a block of an edit is free, or a table of node i
abbrev pub TableOrFree : Layout → ℕ → List Edit → Type 0
TableOrFree l i edits = (b : ℕ) → IsEdited edits b → IsFree l b ⊎ ((k : ℕ) × Owns l i (AtTable k) × ((l.node i).block (AtTable k) ≡ b))
