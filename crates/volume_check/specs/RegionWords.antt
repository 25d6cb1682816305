-- The words of a region below its data, as they are looked at: what the header says, the undo records, and the units of the
-- heap map page by page.
use Rattle.std.specs.Prelude.{◌≡◌, ℕ, ◌+◌, ◌-◌, ◌*◌, ◌<◌, ◌≤◌, zero, suc, List, length, slice_index, ◌&&◌, nat_le, nat_lt, if◌then◌else◌}
use Rattle.std.specs.Int.{bit_at}
use Rattle.rio_base.specs.Regions.{RegionContent}
use Rattle.rio_model.specs.Undo.{Links, Within, region_magic, region_words, taken, undo_records, undo_word}

-- these words stand at the beginning of a region
pub record Begins (f : RegionContent) (words : List ℕ) : Type 0 where
  pub each : (y : ℕ) → y < length words → slice_index words y ≡ f y

-- ---- header

-- the header names so many undo pages and data pages, and a region of n words has just these
pub record HasPages (n : ℕ) (f : RegionContent) (undo pages : ℕ) : Type 0 where
  pub magic : f 0 ≡ region_magic
  pub undo_is : f 1 ≡ undo
  pub pages_is : f 2 ≡ pages
  pub undo_some : 1 ≤ undo
  pub pages_some : 1 ≤ pages
  pub size : n ≡ region_words undo pages

-- ---- undo records

-- the records that the header names are linked as they lie, in the first `room` undo words, and their places are below `most`
pub record HasRecords (f : RegionContent) (room most : ℕ) : Type 0 where
  pub links : Links f (f 3) (undo_records f)
  pub fits : taken (undo_records f) ≤ room
  pub within : Within most (undo_records f)

-- a record lies at an undo word and ends before another, within the first `room` undo words: `older` names the one before it,
-- and its places are below `most`
pub record IsRecordAt (f : RegionContent) (room most at older end : ℕ) : Type 0 where
  pub older_is : undo_word f at ≡ older
  pub end_is : end ≡ at + 3 + undo_word f (at + 2)
  pub fits : end ≤ room
  pub within : undo_word f (at + 1) + undo_word f (at + 2) ≤ most

-- words with these old ones put over them, from a place on
abbrev pub put_over : ℕ → List ℕ → (ℕ → ℕ) → ℕ → ℕ
put_over first old words q = if nat_le first q && nat_lt q (first + length old) then slice_index old (q - first) else words q

-- ---- heap map

-- the units of one data page go on blocks alone, where bit 0 of `before` says whether the unit before them is used: a start is
-- on a used unit, and a used unit is a start or has a used one before it
pub record GoOn (used starts before : ℕ) : Type 0 where
  pub on_used : (u : ℕ) → u < 64 → bit_at starts u ≡ 1 → bit_at used u ≡ 1
  pub first : bit_at used 0 ≡ 1 → before ≡ 0 → bit_at starts 0 ≡ 1
  pub after : (u : ℕ) → suc u < 64 → bit_at used (suc u) ≡ 1 → bit_at used u ≡ 0 → bit_at starts (suc u) ≡ 1

-- whether the unit before those of a data page is used: 1 or 0, and 0 for the first page
abbrev pub used_before : (ℕ → ℕ) → ℕ → ℕ
used_before l zero = 0
used_before l (suc j) = bit_at (l (2 * j)) 63

-- those of the first n data pages do
abbrev pub PagesGoOn : (ℕ → ℕ) → ℕ → Type 0
PagesGoOn l n = (j : ℕ) → j < n → GoOn (l (2 * j)) (l (2 * j + 1)) (used_before l j)
