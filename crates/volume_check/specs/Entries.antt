-- The entries of a directory, by its words. An entry has eight.
use Rattle.std.specs.Prelude.{◌≡◌, ℕ, ◌+◌, ◌-◌, ◌*◌, ◌/◌, ◌%◌, ◌^◌, ◌<◌, ◌&&◌, nat_le, if◌then◌else◌, List, ◌++◌, [], length, map, replicate, slice_index, slice_index_or}
use Rattle.std.specs.List.{range_with_len}
use Rattle.rio_base.specs.Bytes.{word_at}
use Rattle.rio_model.specs.Held.{Held, bytes_in}
use Rattle.rio_model.specs.Paths.{IsName}
use Rattle.volume_check.specs.Inodes.{said}
use Rattle.volume_check.specs.declared.inodes.Inodes.{Inodes}

-- the name of entry j of these words, and the inode that it names
abbrev pub name_in : (ℕ → ℕ) → ℕ → List ℕ
name_in word j = bytes_in word (64 * j + 8) (word (8 * j) / 2 ^ 32 % 2 ^ 8)

abbrev pub ino_in : (ℕ → ℕ) → ℕ → ℕ
ino_in word j = word (8 * j) % 2 ^ 32

-- these are the words of a directory, of whole entries
pub record HasEntries (h : Held) (words : List ℕ) : Type 0 where
  pub size : h.size ≡ 8 * length words
  pub whole : length words % 8 ≡ 0
  pub each : (y : ℕ) → y < length words → slice_index words y ≡ h.word y

-- the kind of an inode; a number that is no inode's is free
abbrev pub kind_in : Inodes → ℕ → ℕ
kind_in n i = if nat_le 1 i && nat_le i n.shape.inodes then said n i 0 else 0

-- entry j has a name that a path may have, and the number of a used inode
abbrev pub KeepsEntry : Inodes → (ℕ → ℕ) → ℕ → Type 0
KeepsEntry n word j = IsName (name_in word j) × (0 < kind_in n (ino_in word j))

-- a name with zeros behind it, 56 bytes in all, and the seven words that have these bytes
abbrev pub padded : List ℕ → List ℕ
padded name = name ++ replicate (56 - length name) 0

abbrev pub name_words : List ℕ → List ℕ
name_words name = map (word_at (padded name)) (range_with_len 0 7)

-- no two of these are equal
abbrev pub AllDiffer : List (List ℕ) → Type 0
AllDiffer names = (j k : ℕ) → j < k → k < length names → slice_index_or names j [] ≡ slice_index_or names k [] → ⊥
