-- Entries of a directory by the words of a page, and a name by the words that it has in an entry.
use Rattle.std.specs.Prelude.{◌≡◌, ℕ, ◌+◌, ◌-◌, ◌*◌, ◌/◌, ◌%◌, ◌^◌, ◌<◌, ◌≤◌, min, List, length, slice_index}
use Rattle.rio_model.specs.Held.{byte_of, bytes_in}
use Rattle.directories.specs.declared.entries.NameKey.{NameKey}

-- the name of entry k of these words
abbrev pub name_in : (ℕ → ℕ) → ℕ → List ℕ
name_in word k = bytes_in word (64 * k + 8) (word (8 * k) / 2 ^ 32 % 2 ^ 8)

-- seven words have the bytes of a name, and zeros behind them
pub record IsWordsOf (name words : List ℕ) : Type 0 where
  pub bytes : (y : ℕ) → y < 56 → byte_of (slice_index words (y / 8)) (y % 8) ≡ slice_index name y
  pub fits : (t : ℕ) → t < 7 → slice_index words t < 2 ^ 64

-- what names are compared with: the words of a name, and masks of the bytes that it has in the first and in the last of them
pub record IsKey (name : List ℕ) (key : NameKey) : Type 0 where
  pub some : 1 ≤ length name
  pub few : length name ≤ 56
  pub words : IsWordsOf name key.words
  pub last : key.last ≡ (length name - 1) / 8
  pub first_mask : key.first_mask ≡ 2 ^ (8 * min (length name) 8) - 1
  pub last_mask : key.last_mask ≡ 2 ^ (8 * min (length name - 8 * key.last) 8) - 1

-- eight words are an entry of this name and inode
pub record IsEntryOf (name : List ℕ) (i : ℕ) (words : List ℕ) : Type 0 where
  pub named : name_in (slice_index words) 0 ≡ name
  pub ino : slice_index words 0 % 2 ^ 32 ≡ i
