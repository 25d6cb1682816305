-- What each inode holds, wherever its blocks lie: its kind, its size and its words. Files, directories and regions are read
-- from this, and none of them knows a block.
use Rattle.std.specs.Prelude.{◌≡◌, ℕ, ◌+◌, ◌*◌, ◌/◌, ◌%◌, ◌^◌, ◌<◌, ◌&&◌, nat_lt, nat_le, if◌then◌else◌, List, map, slice_index}
use Rattle.std.specs.List.{range_with_len}
use Rattle.std.specs.Int.{w64, to_le_bytes}
use Rattle.std.proofs.Common.{true, cond, ap, arith}
use Rattle.std.proofs.lemmas.Bool.Decides.{nat_tests}
use Rattle.rio_base.specs.declared.places.VolumeShape.{VolumeShape}
use Rattle.rio_base.specs.Blocks.{BlockWords}
use Rattle.rio_base.specs.Layout.{IsIno}
use Rattle.rio_base.specs.NodeKinds.{dir_kind}
use Rattle.rio_model.specs.Placed.{AtPage, Placed, Layout, volume_layout}

-- words past the size are 0 here, whatever stands there
pub record Held : Type 0 where
  pub kind : ℕ
  pub size : ℕ
  pub word : ℕ → ℕ

-- word y of a node: word y % 512 of page y / 512
abbrev pub word_in : BlockWords → Placed → ℕ → ℕ
word_in f n y = if nat_lt 0 n.kind && nat_lt (8 * y) n.size then f (n.block (AtPage (y / 512))) (y % 512) else 0

abbrev pub held : BlockWords → Placed → Held
held f n = record { kind = n.kind; size = if nat_lt 0 n.kind then n.size else 0; word = word_in f n }

abbrev pub nothing : Held
nothing = record { kind = 0; size = 0; word = λ _. 0 }

-- what each inode holds by a layout; a number that is no inode's holds nothing
abbrev pub held_in : Layout → BlockWords → ℕ → Held
held_in l f i = if nat_le 1 i && nat_le i l.shape.inodes then held f (l.node i) else nothing

-- what it holds by the blocks alone
abbrev pub held_of : VolumeShape → BlockWords → ℕ → Held
held_of shape f = held_in (volume_layout shape f) f

-- ---- bytes

-- byte t of a word, the lowest first
unfoldable pub byte_of : ℕ → ℕ → ℕ
byte_of w t = slice_index (to_le_bytes w64 w) t

abbrev pub byte_in : (ℕ → ℕ) → ℕ → ℕ
byte_in word x = byte_of (word (x / 8)) (x % 8)

-- so many bytes, from byte x on
abbrev pub bytes_in : (ℕ → ℕ) → ℕ → ℕ → List ℕ
bytes_in word x count = map (byte_in word) (range_with_len x count)

-- all bytes of a file
abbrev pub held_bytes : Held → List ℕ
held_bytes h = bytes_in h.word 0 h.size

-- ---- entries of a directory: eight words each. Word 0 has the inode in its low half and the length of the name in the
-- next byte, the others have the bytes of the name

abbrev pub entry_ino : Held → ℕ → ℕ
entry_ino h j = h.word (8 * j) % 2 ^ 32

abbrev pub entry_length : Held → ℕ → ℕ
entry_length h j = h.word (8 * j) / 2 ^ 32 % 2 ^ 8

abbrev pub entry_name : Held → ℕ → List ℕ
entry_name h j = bytes_in h.word (64 * j + 8) (entry_length h j)

-- directory d has an entry j
pub record HasEntry (held : ℕ → Held) (d j : ℕ) : Type 0 where
  pub dir : (held d).kind ≡ dir_kind
  pub within : 64 * j < (held d).size

-- ---- what an inode holds, by its node

pub held_ino : (l : Layout) (f : BlockWords) (i : ℕ) → IsIno l.shape i → held_in l f i ≡ held f (l.node i)
held_ino l f i ino = let within : (nat_le 1 i && nat_le i l.shape.inodes) ≡ true = grind (arith, nat_tests, ino.from, ino.to) in ap (λ b. cond b (held f (l.node i)) nothing) within
