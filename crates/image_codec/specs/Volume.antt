-- The fresh volume: its superblock, its bitmap and its root directory.
use Rattle.std.specs.Prelude.{◌==◌, ℕ, ◌+◌, ◌-◌, ◌*◌, ◌/◌, ◌%◌, ◌^◌, min, List, map, slice_index, if◌then◌else◌}
use Rattle.std.specs.List.{range_with_len}
use Rattle.rio_base.specs.declared.places.VolumeShape.{VolumeShape}
use Rattle.rio_base.specs.Blocks.{BlockWords}
use Rattle.rio_base.specs.Layout.{volume_magic}
use Rattle.rio_base.specs.Shapes.{reserved}

-- word w of block b, where the blocks lie one after the other
abbrev pub block_words : List ℕ → BlockWords
block_words words b w = slice_index words (512 * b + w)

abbrev pub fresh_shape : ℕ → ℕ → VolumeShape
fresh_shape blocks inodes = record { version = 1; blocks = blocks; inodes = inodes }

abbrev pub superblock_word : ℕ → ℕ → ℕ → ℕ
superblock_word blocks inodes w =
    if w == 0 then volume_magic else if w == 1 then 1 else if w == 2 then blocks else if w == 3 then inodes else 0

-- word w of a bitmap whose first count blocks are used: a 1 for each of them that is among the 64 blocks from 64 * w on
abbrev pub bitmap_word : ℕ → ℕ → ℕ
bitmap_word count w = 2 ^ min 64 (count - 64 * w) - 1

-- word w of block b of a fresh volume. Inode 1, which is first in block 2, has kind 1, a directory, and size 0
abbrev pub fresh_volume_word : ℕ → ℕ → ℕ → ℕ → ℕ
fresh_volume_word blocks inodes b w =
    if b == 0 then superblock_word blocks inodes w
    else if b == 1 then bitmap_word (reserved (fresh_shape blocks inodes)) w
    else if b == 2 then (if w == 0 then 1 else 0)
    else 0

abbrev pub fresh_volume_words : ℕ → ℕ → List ℕ
fresh_volume_words blocks inodes = map (λ i. fresh_volume_word blocks inodes (i / 512) (i % 512)) (range_with_len 0 (512 * blocks))
