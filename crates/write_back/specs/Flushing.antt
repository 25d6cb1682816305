-- What a flush does: the first dirty entries become clean, and nothing is pending. And calls that leave the disk as it is.
use Rattle.std.specs.Prelude.{◌≡◌, ◌≢◌, ℕ, ◌<◌, ◌&&◌, min, Bool, false, if◌then◌else◌, List, filter, length, slice_index}
use Rattle.std.specs.List.{range_with_len}
use Rattle.rio_base.specs.Machine.{Contents}
use Rattle.rio_base.specs.Disks.{is_pending, raised}
use Rattle.rio_model.specs.Cover.{IsCleaned, OnDisk}
use Rattle.rio_model.specs.Registry.{frames_of, is_dirty, is_valid, tag_at}
use Rattle.registry.specs.Entries.{entry_of}

-- ---- the disk stays

-- the disk is neither written nor synced
pub record SameDisk (old new : Contents) : Type 0 where
  pub disk : new.disk ≡ old.disk
  pub pending : new.pending ≡ old.pending
  pub writes : new.writes ≡ old.writes

-- ---- a flush

-- entry k has a page that the disk may not have
abbrev pub needs_write : List ℕ → ℕ → Bool
needs_write words k = is_valid (tag_at words k) && is_dirty (tag_at words k)

-- the valid dirty ones among the first i entries, in order
unfoldable pub dirty_before : List ℕ → ℕ → List ℕ
dirty_before words i = filter (needs_write words) (range_with_len 0 i)

-- the valid dirty entries, in order
abbrev pub dirty_entries : List ℕ → List ℕ
dirty_entries words = dirty_before words (frames_of words)

-- the first j valid dirty entries are clean now, and no word of another entry has changed
pub record CleanedFirst (j : ℕ) (old new : List ℕ) : Type 0 where
  pub cleaned : (x : ℕ) → x < j → IsCleaned (slice_index (dirty_entries old) x) old new
  pub others : (k : ℕ) → k < frames_of old → ((x : ℕ) → x < j → slice_index (dirty_entries old) x ≢ k) → entry_of new k ≡ entry_of old k

-- a flush of n entries at most cleaned j: it wrote so many blocks, and nothing is pending
pub record Flushed (n j : ℕ) (old new : Contents) : Type 0 where
  pub count : j ≡ min n (length (dirty_entries old.words))
  pub entries : CleanedFirst j old.words new.words
  pub writes : new.writes ≡ raised old.writes j
  pub synced : (b : ℕ) → is_pending new.pending b ≡ false

-- the pages of the first n valid dirty entries, or of all, were written: j of them
pub record WroteFirst (n j : ℕ) (old new : Contents) : Type 0 where
  pub count : j ≡ min n (length (dirty_entries old.words))
  pub on_disk : (x : ℕ) → x < j → OnDisk new (slice_index (dirty_entries old.words) x)
  pub writes : new.writes ≡ raised old.writes j

-- once, or not at all
abbrev pub once : Bool → ℕ
once made = if made then 1 else 0
