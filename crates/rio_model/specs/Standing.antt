-- The state that memory and disk stand for, whatever the pending blocks hold: what a warm reboot finds. And what each step of
-- a reboot keeps of it.
use Rattle.std.specs.Prelude.{◌≡◌, ◌≢◌, ◌⊎◌, ℕ, ◌+◌, ◌*◌, ◌<◌, Bool, true, false, List, length, slice_index, slice_index_or, is_some, Option, None, Some}
use Rattle.rio_base.specs.declared.places.PageName.{PageName}
use Rattle.rio_base.specs.declared.places.VolumeShape.{VolumeShape}
use Rattle.rio_base.specs.Bitmap.{used_bit}
use Rattle.rio_base.specs.Blocks.{Seen}
use Rattle.rio_base.specs.Disks.{block_at, is_pending}
use Rattle.rio_base.specs.Image.{AreImageSizes, HasHeader, registry_pages}
use Rattle.rio_base.specs.Machine.{Contents}
use Rattle.rio_base.specs.Memory.{page_at}
use Rattle.rio_base.specs.Shapes.{IsServed, reserved}
use Rattle.rio_model.specs.declared.state.State.{State}
use Rattle.rio_model.specs.Cover.{MayLeave, Narrows, entry_of_block, has_dirty, home_word, name_in, stands, stands_on}
use Rattle.rio_model.specs.Placed.{AtPage, Layout, Owned, Owns, Slot, volume_layout}
use Rattle.rio_model.specs.Registry.{IsValid, KeepsRegistry, file_at, frames_of, index_at, is_data, is_dirty, page_of_entry, scratch_of, tag_at, tag_block}
use Rattle.rio_model.specs.VolumeReads.{ReadsAs}
use Rattle.rio_model.specs.VolumeReady.{Bears}

-- ---- an image over a disk

-- the protected words are those of an image with so many words of scratch, and each valid entry's block is one of the disk's.
-- Nothing is said of what clean pages hold, nor of which blocks are pending
pub record Restorable (c : Contents) (scratch : ℕ) : Type 0 where
  pub header : HasHeader c.words
  pub sizes : AreImageSizes (frames_of c.words) (scratch_of c.words)
  pub protected : length c.words ≡ 512 * (17 + registry_pages (frames_of c.words) + frames_of c.words)
  pub scratch_pages : scratch ≡ 512 * scratch_of c.words
  pub rules : KeepsRegistry c.words
  pub on_disk : (k : ℕ) → IsValid c.words k → tag_block (tag_at c.words k) < length c.disk

-- ---- names of entries

-- an entry of block b may bear this name: none where the block is reserved, and else what each node that has the block asks.
-- A block that no node has may be under any name
pub record MayBear (l : Layout) (b : ℕ) (name : Option PageName) : Type 0 where
  pub low : b < reserved l.shape → name ≡ None
  pub owned : (i : ℕ) (s : Slot) → Owns l i s → (l.node i).block s ≡ b → Bears i (l.node i) s name

-- what rule 12 asks of entry k: its block is one of the volume's, and may bear its name
pub record EntryFits (l : Layout) (words : List ℕ) (k : ℕ) : Type 0 where
  pub within : tag_block (tag_at words k) < l.shape.blocks
  pub named : MayBear l (tag_block (tag_at words k)) (name_in words (Some k))

-- rule 12 of a volume and its image
pub record EntriesFit (l : Layout) (words : List ℕ) : Type 0 where
  pub each : (k : ℕ) → IsValid words k → EntryFits l words k

-- ---- what memory and disk stand for

-- with these blocks on the disk: the blocks that count read as this state, and the entries bear names that they may
pub record StandsWith (c : Contents) (s : State) (disk : List (List ℕ)) : Type 0 where
  pub reads : ReadsAs s.shape (stands_on c disk) s
  pub entries : EntriesFit (volume_layout s.shape (stands_on c disk)) c.words

-- whatever the pending blocks hold. The state's sizes are those of disk and memory, of which the last words are scratch
pub record StandsFor (c : Contents) (scratch : ℕ) (s : State) : Type 0 where
  pub image : Restorable c scratch
  pub served : IsServed s.shape
  pub blocks : length c.disk ≡ s.shape.blocks
  pub pages : 512 * s.pages ≡ length c.words + scratch
  pub scratch_pages : 512 * s.scratch ≡ scratch
  pub each : (disk : List (List ℕ)) → MayLeave c disk → StandsWith c s disk

-- the blocks that count, and the entries as cached pages under their names
abbrev pub entries_seen : Contents → Seen
entries_seen c = record { count = length c.disk; words = stands c; cached = λ b. is_some (entry_of_block c.words b); names = λ b. name_in c.words (entry_of_block c.words b); base = None }

-- a page that counts for each pending block in use will be written, whatever the pending blocks hold; and each clean page
-- is the disk's block
pub record Sound (c : Contents) (shape : VolumeShape) : Type 0 where
  pub written : (disk : List (List ℕ)) → MayLeave c disk → (b : ℕ) → is_pending c.pending b ≡ true → used_bit shape (stands_on c disk) b ≡ 1 → has_dirty c.words b ≡ true
  pub clean : (k : ℕ) → IsValid c.words k → is_dirty (tag_at c.words k) ≡ false → (w : ℕ) → w < 512 → slice_index c.words (512 * page_of_entry c.words k + w) ≡ home_word c.disk (tag_block (tag_at c.words k)) w

-- ---- what a step of a reboot keeps

-- whatever the pending blocks hold now, what stands could have stood before, but for the blocks that are apart
pub record StandsBut (apart : ℕ → Bool) (old new : Contents) : Type 0 where
  pub each : (disk : List (List ℕ)) → MayLeave new disk → (was : List (List ℕ)) × MayLeave old was × ((b w : ℕ) → apart b ≡ false → stands_on new disk b w ≡ stands_on old was b w)

-- no block
abbrev pub none_apart : ℕ → Bool
none_apart b = false

-- what each step keeps, at every exit: what stands, also with the disk as it reads before and after. No entry is found that
-- was not, each that is has its name, the image stays one, and what was sound is so
pub record Endures (apart : ℕ → Bool) (old new : Contents) : Type 0 where
  pub could : StandsBut apart old new
  pub standing : (b w : ℕ) → apart b ≡ false → stands new b w ≡ stands old b w
  pub narrows : Narrows old.words new.words
  pub image : (n : ℕ) → Restorable old n → Restorable new n
  pub sound : (shape : VolumeShape) → Sound old shape → Sound new shape

-- a step that brings pages to the disk: besides, each block has the entry that it had
pub record Brings (old new : Contents) : Type 0 where
  pub endures : Endures none_apart old new
  pub found : (b : ℕ) → entry_of_block new.words b ≡ entry_of_block old.words b

-- ---- pages that the disk has

-- the page that counts for entry k is the disk's block as it reads
pub record IsHome (c : Contents) (k : ℕ) : Type 0 where
  pub same : (w : ℕ) → w < 512 → slice_index c.words (512 * page_of_entry c.words k + w) ≡ home_word c.disk (tag_block (tag_at c.words k)) w

-- entry k is no clean one whose page differs from the disk's block
pub record IsSettled (c : Contents) (k : ℕ) : Type 0 where
  pub clean : IsValid c.words k → is_dirty (tag_at c.words k) ≡ false → IsHome c k

-- the page of entry k is to be on the disk after a reboot: it is of metadata, or some node has its block
abbrev pub IsWanted : Layout → List ℕ → ℕ → Type 0
IsWanted l words k = (is_data (tag_at words k) ≡ false) ⊎ Owned l (tag_block (tag_at words k))

-- the disk has each such page
pub record AllHome (l : Layout) (c : Contents) : Type 0 where
  pub each : (k : ℕ) → IsValid c.words k → IsWanted l c.words k → IsHome c k

-- the disk's blocks that a reboot leaves: of each such page its words, and all others as they were
pub record Restored (l : Layout) (words : List ℕ) (old new : List (List ℕ)) : Type 0 where
  pub count : length new ≡ length old
  pub put : (k : ℕ) → IsValid words k → IsWanted l words k → block_at new (tag_block (tag_at words k)) ≡ page_at words (page_of_entry words k)
  pub others : (b : ℕ) → ((k : ℕ) → IsValid words k → IsWanted l words k → tag_block (tag_at words k) ≢ b) → block_at new b ≡ block_at old b

-- ---- stale pages: entries of data whose file has another block there, or no such page. There is a mark for each entry

-- the entry that is found is marked
abbrev pub is_stale : List Bool → Option ℕ → Bool
is_stale marks None = false
is_stale marks (Some k) = slice_index_or marks k false

-- the entry of block b is marked
abbrev pub stale_block : List Bool → List ℕ → ℕ → Bool
stale_block marks words b = is_stale marks (entry_of_block words b)

-- the marked entries are stale
pub record AreStale (l : Layout) (marks : List Bool) (words : List ℕ) : Type 0 where
  pub of_data : (k : ℕ) → slice_index_or marks k false ≡ true → is_data (tag_at words k) ≡ true
  pub gone : (k : ℕ) → IsValid words k → slice_index_or marks k false ≡ true → Owns l (file_at words k) (AtPage (index_at words k)) → (l.node (file_at words k)).block (AtPage (index_at words k)) ≢ tag_block (tag_at words k)
