-- Where a volume keeps its superblock and its inodes.
use Rattle.std.specs.Prelude.{◌≡◌, ℕ, ◌+◌, ◌-◌, ◌*◌, ◌/◌, ◌%◌, ◌^◌, ◌≤◌, ◌==◌, if◌then◌else◌, codes}
use Rattle.rio_base.specs.declared.places.VolumeShape.{VolumeShape}
use Rattle.rio_base.specs.Blocks.{BlockWords}
use Rattle.rio_base.specs.Image.{text_word}

-- ---- the superblock, which is block 0

-- the word whose bytes are the text RIOVOLUM
abbrev pub volume_magic : ℕ
volume_magic = text_word (codes "RIOVOLUM")

-- its first four words. The others are not looked at
pub record HasSuperblock (words : BlockWords) (shape : VolumeShape) : Type 0 where
  pub magic : words 0 0 ≡ volume_magic
  pub version : words 0 1 ≡ shape.version
  pub blocks : words 0 2 ≡ shape.blocks
  pub inodes : words 0 3 ≡ shape.inodes

-- ---- inodes. An inode has 16 words, a block has 32 inodes, and they are counted from 1

pub record IsIno (shape : VolumeShape) (i : ℕ) : Type 0 where
  pub from : 1 ≤ i
  pub to : i ≤ shape.inodes

-- the block of inode i
abbrev pub inode_block : ℕ → ℕ
inode_block i = 2 + (i - 1) / 32

-- its first word in that block
abbrev pub inode_place : ℕ → ℕ
inode_place i = 16 * ((i - 1) % 32)

-- word w of inode i
abbrev pub inode_word : BlockWords → ℕ → ℕ → ℕ
inode_word words i w = words (inode_block i) (inode_place i + w)

-- 0 for a free inode, 1 for a directory, 2 for a file, 3 for a region
abbrev pub inode_kind : BlockWords → ℕ → ℕ
inode_kind words i = inode_word words i 0

-- in bytes
abbrev pub inode_size : BlockWords → ℕ → ℕ
inode_size words i = inode_word words i 1

-- block numbers stand two in a word, number n of a list in the low half where n is even, and else in the high half
unfoldable pub half : ℕ → ℕ → ℕ
half word n = if n % 2 == 0 then word % 2 ^ 32 else word / 2 ^ 32 % 2 ^ 32

-- the block of page p, one of the first 24
abbrev pub direct_number : BlockWords → ℕ → ℕ → ℕ
direct_number words i p = half (inode_word words i (2 + p / 2)) p

-- the indirect block, which has the numbers of further pages. The high half of its word is not looked at
abbrev pub indirect_number : BlockWords → ℕ → ℕ
indirect_number words i = half (inode_word words i 14) 0

-- the double indirect block of version 2, which has the numbers of further indirect blocks
abbrev pub double_number : BlockWords → ℕ → ℕ
double_number words i = half (inode_word words i 15) 0
