-- The inodes of a volume, as they are held in memory while its rules are looked at.
use Rattle.std.specs.Prelude.{◌≡◌, ℕ, ◌+◌, ◌-◌, ◌*◌, ◌<◌, ◌≤◌, nat_lt, if◌then◌else◌, slice_index}
use Rattle.rio_base.specs.Blocks.{Seen}
use Rattle.rio_base.specs.Layout.{IsIno, inode_word}
use Rattle.rio_base.specs.Shapes.{IsServed}
use Rattle.rio_model.specs.Placed.{Layout, volume_layout}
use Rattle.rio_model.specs.Sizes.{blocks_for, largest_size}
use Rattle.volume_check.specs.declared.inodes.Inodes.{Inodes}

-- word w of inode i
abbrev pub said : Inodes → ℕ → ℕ → ℕ
said n i w = slice_index n.words.items (16 * (i - 1) + w)

-- the inodes are those of a volume, of a shape that is served
pub record HasInodes (s : Seen) (n : Inodes) : Type 0 where
  pub served : IsServed n.shape
  pub count : s.count ≡ n.shape.blocks
  pub each : (i w : ℕ) → IsIno n.shape i → w < 16 → said n i w ≡ inode_word s.words i w

-- where the nodes of this volume lie
abbrev pub layout_of : Seen → Inodes → Layout
layout_of s n = volume_layout n.shape s.words

-- the size of each used inode is one that its kind may have, as far as it is bounded
abbrev pub SizesFit : Inodes → Type 0
SizesFit n = (i : ℕ) → IsIno n.shape i → 0 < said n i 0 → said n i 1 ≤ largest_size

-- how many blocks inode i has: none where it is free
abbrev pub said_blocks : Inodes → ℕ → ℕ
said_blocks n i = if nat_lt 0 (said n i 0) then blocks_for (said n i 1) else 0
