-- A fresh volume: its blocks, which are the superblock, the marks of the reserved blocks and an empty root directory, and
-- the state that it stands for.
use Rattle.std.specs.Prelude.{◌≡◌, ℕ, ◌<◌, ◌≤◌, []}
use Rattle.std.specs.FinMap.{empty, insert}
use Rattle.rio_base.specs.declared.places.VolumeShape.{VolumeShape}
use Rattle.rio_base.specs.Bitmap.{used_bit}
use Rattle.rio_base.specs.Blocks.{BlockWords}
use Rattle.rio_base.specs.Layout.{inode_kind, inode_size}
use Rattle.rio_base.specs.Shapes.{reserved}
use Rattle.rio_base.specs.NodeKinds.{free_kind}
use Rattle.rio_model.specs.VolumeRules.{SuperblockRule, bitmap_bits}
use Rattle.rio_model.specs.declared.node.Node.TheVariants.{Dir}
use Rattle.rio_model.specs.declared.state.State.{State}

-- ---- the blocks

pub record IsFreshVolume (shape : VolumeShape) (f : BlockWords) : Type 0 where
  pub superblock : SuperblockRule shape f
  pub low : (b : ℕ) → b < reserved shape → used_bit shape f b ≡ 1
  pub high : (b : ℕ) → reserved shape ≤ b → b < bitmap_bits shape → used_bit shape f b ≡ 0
  pub root_kind : inode_kind f 1 ≡ 1
  pub root_size : inode_size f 1 ≡ 0
  pub others : (i : ℕ) → 1 < i → i ≤ shape.inodes → inode_kind f i ≡ free_kind

-- ---- the state: the root directory alone

abbrev pub fresh_state : VolumeShape → ℕ → ℕ → State
fresh_state shape pages scratch = record { names = empty; nodes = insert empty 1 Dir; txns = []; shape = shape; pages = pages; scratch = scratch }
