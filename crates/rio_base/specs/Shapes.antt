-- The sizes of a volume, and what of it is reserved.
use Rattle.std.specs.Prelude.{◌≡◌, ℕ, ◌+◌, ◌/◌, ◌%◌, ◌<◌, ◌≤◌, ◌==◌, ◌⊎◌, if◌then◌else◌, true, None}
use Rattle.rio_base.specs.declared.places.VolumeShape.{VolumeShape}
use Rattle.rio_base.specs.Blocks.{Seen}

-- sizes that a volume may have, of those with at most 32,768 blocks and inodes
pub record IsShape (shape : VolumeShape) : Type 0 where
  pub version : (shape.version ≡ 1) ⊎ (shape.version ≡ 2)
  pub inodes_from : 32 ≤ shape.inodes
  pub inodes_to : shape.inodes ≤ 32768
  pub inode_blocks : shape.inodes % 32 ≡ 0
  pub blocks_from : 3 + shape.inodes / 32 ≤ shape.blocks
  pub blocks_second : shape.version ≡ 2 → 9 + shape.inodes / 32 ≤ shape.blocks
  pub blocks_to : shape.blocks ≤ 32768

-- the shapes that are served: version 1 alone
pub record IsServed (shape : VolumeShape) : Type 0 where
  pub version : shape.version ≡ 1
  pub sizes : IsShape shape

-- how many blocks of the bitmap there are beside block 1: none in version 1, seven in version 2
unfoldable pub more_bitmap : VolumeShape → ℕ
more_bitmap shape = if shape.version == 2 then 7 else 0

-- superblock, bitmap and inodes: so many blocks from block 0 on
abbrev pub reserved : VolumeShape → ℕ
reserved shape = 2 + shape.inodes / 32 + more_bitmap shape

-- the volume has this shape, and no cached page of a reserved block bears a name
pub record HasShape (shape : VolumeShape) (s : Seen) : Type 0 where
  pub sizes : IsShape shape
  pub count : s.count ≡ shape.blocks
  pub unnamed : (b : ℕ) → b < reserved shape → s.cached b ≡ true → s.names b ≡ None
