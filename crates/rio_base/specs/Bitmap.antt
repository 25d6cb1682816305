-- The bitmap of a volume: which of its blocks are free.
use Rattle.std.specs.Prelude.{ℕ, ◌+◌, ◌/◌, ◌%◌, Bool, ◌==◌, nat_lt, if◌then◌else◌, List}
use Rattle.std.specs.List.{filter, range_with_len}
use Rattle.std.specs.Int.{bit_at}
use Rattle.rio_base.specs.declared.places.VolumeShape.{VolumeShape}
use Rattle.rio_base.specs.Blocks.{BlockWords}

-- the block of the bitmap that has the bit of block b. Block 1 has those of the first 32,768 blocks, which are all that
-- version 1 has. The seven further ones of version 2 lie behind the inodes
unfoldable pub bitmap_block : VolumeShape → ℕ → ℕ
bitmap_block shape b = if nat_lt b 32768 then 1 else 1 + shape.inodes / 32 + b / 32768

-- the bit of block b, 1 for used: bit b % 64 of word b / 64, counted in its block of the bitmap
abbrev pub used_bit : VolumeShape → BlockWords → ℕ → ℕ
used_bit shape words b = bit_at (words (bitmap_block shape b) (b % 32768 / 64)) (b % 64)

abbrev pub is_free : VolumeShape → BlockWords → ℕ → Bool
is_free shape words b = used_bit shape words b == 0

-- the free blocks, lowest first
abbrev pub free_blocks : VolumeShape → BlockWords → List ℕ
free_blocks shape words = filter (is_free shape words) (range_with_len 0 shape.blocks)
