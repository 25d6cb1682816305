-- An inode and its 16 words, and what is known of blocks of inodes.
use Rattle.std.specs.Prelude.{◌≡◌, ℕ, ◌+◌, ◌-◌, ◌*◌, ◌^◌, ◌<◌, ◌≤◌, ◌==◌, ◌≢◌, ◌/◌, nat_lt, if◌then◌else◌, Option, Some, None, List, map, slice_index}
use Rattle.std.specs.List.{range_with_len}
use Rattle.rio_base.specs.declared.places.Ino.{Ino}
use Rattle.rio_base.specs.declared.places.VolumeShape.{VolumeShape}
use Rattle.rio_base.specs.Blocks.{BlockWords}
use Rattle.rio_base.specs.Shapes.{reserved}
use Rattle.rio_base.specs.declared.places.PageName.{PageName}
use Rattle.rio_base.specs.Layout.{IsIno, inode_kind, inode_size, direct_number, indirect_number, double_number}
use Rattle.inode_table.specs.declared.inode.Inode.{Inode}
use Rattle.inode_table.specs.declared.full_blocks.FullBlocks.{FullBlocks}

-- the blocks say this inode
pub record IsInode (words : BlockWords) (i : ℕ) (n : Inode) : Type 0 where
  pub kind : n.kind ≡ inode_kind words i
  pub size : n.size ≡ inode_size words i
  pub direct : (p : ℕ) → p < 24 → slice_index n.direct p ≡ direct_number words i p
  pub indirect : n.indirect ≡ indirect_number words i
  pub double : n.double ≡ double_number words i

-- two block numbers in one word, the first in the low half
abbrev pub pair_word : ℕ → ℕ → ℕ
pair_word low high = low + 2 ^ 32 * high

-- word w of an inode: kind, size, twelve words of two direct numbers each, the indirect and the double indirect number
abbrev pub word_of_inode : Inode → ℕ → ℕ
word_of_inode n w =
    if w == 0 then n.kind else
    if w == 1 then n.size else
    if nat_lt w 14 then pair_word (slice_index n.direct (2 * (w - 2))) (slice_index n.direct (2 * (w - 2) + 1)) else
    if w == 14 then n.indirect else
    n.double

-- all of them
unfoldable pub inode_words : Inode → List ℕ
inode_words n = map (word_of_inode n) (range_with_len 0 16)

-- inodes first to first + count - 1 are used
pub record AreUsed (words : BlockWords) (first count : ℕ) : Type 0 where
  pub each : (i : ℕ) → first ≤ i → i < first + count → 0 < inode_kind words i

-- the least free inode of a volume, or that it has none
abbrev pub FindsFree : VolumeShape → BlockWords → Option Ino → Type 0
FindsFree shape words None = AreUsed words 1 shape.inodes
FindsFree shape words (Some i) = IsIno shape i.0 × (inode_kind words i.0 ≡ 0) × AreUsed words 1 (i.0 - 1)

-- the least free inode of the 32 of a block, from inode `first` on, by its place there; or that the first `count` are used
abbrev pub FindsBelow : BlockWords → ℕ → ℕ → Option ℕ → Type 0
FindsBelow words first count None = AreUsed words first count
FindsBelow words first count (Some k) = (k < count) × (inode_kind words (first + k) ≡ 0) × AreUsed words first k

-- a reserved block is cached without a name
abbrev pub IsMetadata : VolumeShape → ℕ → Option PageName → Type 0
IsMetadata shape b name = (b < reserved shape) × (name ≡ None)

-- ---- blocks of inodes

-- each inode in a block that is marked is used
pub record KnowsFull (shape : VolumeShape) (full : FullBlocks) (f : BlockWords) : Type 0 where
  pub each : (i : ℕ) → IsIno shape i → slice_index full.marks ((i - 1) / 32) ≢ 0 → 0 < inode_kind f i

-- inodes that are used in f are so in g, but for inode i
abbrev pub StayUsed : VolumeShape → ℕ → BlockWords → BlockWords → Type 0
StayUsed shape i f g = (j : ℕ) → IsIno shape j → j ≢ i → 0 < inode_kind f j → 0 < inode_kind g j
