-- What a plain reader of a memory and its disk is to find: which page it takes of an entry, and blocks as one list.
use Rattle.std.specs.Prelude.{◌≡◌, ℕ, ◌+◌, ◌*◌, ◌<◌, ◌≤◌, Bool, true, false, List, length, slice_index}
use Rattle.rio_base.specs.Blocks.{BlockWords}
use Rattle.rio_base.specs.Image.{registry_pages}
use Rattle.rio_model.specs.Cover.{cover_by, frame_page}
use Rattle.rio_model.specs.Registry.{IsValid, frames_of, page_of_entry, shadow_at}

-- a memory within its limits: it has no more frames than there can be, no shadow page behind the last, and words up to
-- those of its last frame
pub record InLimits (words : List ℕ) : Type 0 where
  pub frames : frames_of words ≤ 8192
  pub shadows : (k : ℕ) → IsValid words k → shadow_at words k ≤ 16
  pub pages : 512 * (17 + registry_pages (frames_of words) + frames_of words) ≤ length words

-- the page of an entry: the one that counts, or its frame where shadow pages are passed over
abbrev pub page_by : Bool → List ℕ → ℕ → ℕ
page_by true words = page_of_entry words
page_by false words = frame_page words

-- the blocks that are read so
abbrev pub blocks_by : Bool → List ℕ → List (List ℕ) → BlockWords
blocks_by shadows words disk = cover_by (page_by shadows words) words disk

-- the first so many blocks, one after the other, are these words
pub record AreBlocks (blocks : BlockWords) (count : ℕ) (words : List ℕ) : Type 0 where
  pub each : (b w : ℕ) → b < count → w < 512 → slice_index words (512 * b + w) ≡ blocks b w

-- block b is put into such words, and every other word stays
pub record PutsBlock (blocks : BlockWords) (b : ℕ) (old new : List ℕ) : Type 0 where
  pub count : length new ≡ length old
  pub here : (w : ℕ) → w < 512 → slice_index new (512 * b + w) ≡ blocks b w
  pub below : (i : ℕ) → i < 512 * b → slice_index new i ≡ slice_index old i
  pub above : (i : ℕ) → 512 * b + 512 ≤ i → slice_index new i ≡ slice_index old i
