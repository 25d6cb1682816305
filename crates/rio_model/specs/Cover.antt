-- What memory and disk together read as and stand for: for each block the page of its valid entry, else the disk's block.
use Rattle.std.specs.Prelude.{◌≡◌, ◌≢◌, ◌⊎◌, ℕ, zero, suc, ◌+◌, ◌*◌, ◌<◌, ◌==◌, ◌&&◌, not, nat_lt, Bool, true, false, if◌then◌else◌, List, length, slice_index, Option, Some, None}
use Rattle.rio_base.specs.Blocks.{BlockWords, Causes, Home}
use Rattle.rio_base.specs.declared.places.PageName.{PageName}
use Rattle.rio_base.specs.Disks.{block_at, is_pending}
use Rattle.rio_base.specs.Image.{AreImageSizes, HasHeader, registry_pages}
use Rattle.rio_base.specs.Machine.{Contents, Running}
use Rattle.rio_model.specs.Registry.{IsValid, KeepsRegistry, frames_of, gate_of, scratch_of, shadow_at, file_at, index_at, size_at, is_data, is_dirty, is_valid, page_of_entry, tag_at, tag_block}

-- the last number below n that passes a test
unfoldable pub last_of : (ℕ → Bool) → ℕ → Option ℕ
last_of t zero = None
last_of t (suc n) = if t n then Some n else last_of t n

-- entry k is valid, and of block b
abbrev pub holds : List ℕ → ℕ → ℕ → Bool
holds words b k = is_valid (tag_at words k) && (tag_block (tag_at words k) == b)

-- the valid entry of block b
unfoldable pub entry_of_block : List ℕ → ℕ → Option ℕ
entry_of_block words b = last_of (holds words b) (frames_of words)

-- the page of frame k
unfoldable pub frame_page : List ℕ → ℕ → ℕ
frame_page words k = registry_pages (frames_of words) + (17 + k)

abbrev pub home_word : List (List ℕ) → ℕ → ℕ → ℕ
home_word disk b w = slice_index (block_at disk b) w

abbrev pub pick : Option ℕ → (ℕ → ℕ) → ℕ → ℕ
pick None at home = home
pick (Some k) at home = at k

-- the blocks, where the page of entry k is `page k`
unfoldable pub cover_by : (ℕ → ℕ) → List ℕ → List (List ℕ) → BlockWords
cover_by page words disk b w =
    if nat_lt w 512 then pick (entry_of_block words b) (λ k. slice_index words (512 * page k + w)) (home_word disk b w) else 0

-- what the blocks read as: frames count
abbrev pub reads : Contents → BlockWords
reads c = cover_by (frame_page c.words) c.words c.disk

-- what stands: of an entry with a shadow, while the gate is 1, the shadow page counts
abbrev pub stands : Contents → BlockWords
stands c = cover_by (page_of_entry c.words) c.words c.disk

-- ---- the disk below, and why the machine may stop

abbrev pub home_of : Contents → Home
home_of c = record { disk = home_word c.disk; pending = is_pending c.pending }

abbrev pub causes_of : Running → Causes
causes_of r = record { stop_set = r.stop_set; armed = r.armed; trapped = r.trapped; protected = λ p. nat_lt (512 * p) r.protected }

-- ---- what pending blocks may hold

-- a list of blocks that a stop may leave on the disk: those that aren't pending are as they read
pub record MayLeave (c : Contents) (disk : List (List ℕ)) : Type 0 where
  pub count : length disk ≡ length c.disk
  pub whole : (b : ℕ) → b < length disk → length (block_at disk b) ≡ 512
  pub kept : (b : ℕ) → is_pending c.pending b ≡ false → block_at disk b ≡ block_at c.disk b

-- what stands where the disk has these blocks
abbrev pub stands_on : Contents → List (List ℕ) → BlockWords
stands_on c disk = cover_by (page_of_entry c.words) c.words disk

-- block b has a valid dirty entry
abbrev pub dirty_entry : List ℕ → Option ℕ → Bool
dirty_entry words None = false
dirty_entry words (Some k) = is_dirty (tag_at words k)

abbrev pub has_dirty : List ℕ → ℕ → Bool
has_dirty words b = dirty_entry words (entry_of_block words b)

-- the disk's block isn't told, and no page counts in its place that will be written
unfoldable pub is_loose : Contents → ℕ → Bool
is_loose c b = is_pending c.pending b && not (has_dirty c.words b)

-- ---- what is kept between calls

-- entry k alone: its block is one of the disk's; and where it is clean, its frame is the disk's block as it reads, and no
-- shadow hides an edit of it
pub record EntryCoherent (words : List ℕ) (disk : List (List ℕ)) (k : ℕ) : Type 0 where
  pub on_disk : IsValid words k → tag_block (tag_at words k) < length disk
  pub clean : IsValid words k → is_dirty (tag_at words k) ≡ false → (w : ℕ) → w < 512 → slice_index words (512 * frame_page words k + w) ≡ home_word disk (tag_block (tag_at words k)) w
  pub unedited : IsValid words k → is_dirty (tag_at words k) ≡ false → (w : ℕ) → w < 512 → slice_index words (512 * page_of_entry words k + w) ≡ slice_index words (512 * frame_page words k + w)

-- of a machine with so many words of scratch
pub record Coherent (c : Contents) (scratch : ℕ) : Type 0 where
  pub header : HasHeader c.words
  pub sizes : AreImageSizes (frames_of c.words) (scratch_of c.words)
  pub protected : length c.words ≡ 512 * (17 + registry_pages (frames_of c.words) + frames_of c.words)
  pub scratch_pages : scratch ≡ 512 * scratch_of c.words
  pub rules : KeepsRegistry c.words
  pub entries : (k : ℕ) → EntryCoherent c.words c.disk k

-- what reads and what stands stay, no block becomes loose, and what is kept is kept
pub record Keeps (old new : Contents) : Type 0 where
  pub reads : reads new ≡ reads old
  pub stands : stands new ≡ stands old
  pub firm : (b : ℕ) → is_loose new b ≡ true → is_loose old b ≡ true
  pub coherent : (n : ℕ) → Coherent old n → Coherent new n
  -- the header, so the sizes and the gate too
  pub header : (i : ℕ) → i < 512 → slice_index new.words i ≡ slice_index old.words i

-- the page of entry k that counts is its frame
abbrev pub IsBare : List ℕ → ℕ → Type 0
IsBare words k = (gate_of words ≢ 1) ⊎ (shadow_at words k ≡ 0)

-- the frame of entry k is the disk's block as it reads
pub record OnDisk (c : Contents) (k : ℕ) : Type 0 where
  pub same : (w : ℕ) → w < 512 → slice_index c.words (512 * frame_page c.words k + w) ≡ home_word c.disk (tag_block (tag_at c.words k)) w

-- entry k is clean now, and else as it was
pub record IsCleaned (k : ℕ) (old new : List ℕ) : Type 0 where
  pub valid : IsValid new k
  pub clean : is_dirty (tag_at new k) ≡ false
  pub block : tag_block (tag_at new k) ≡ tag_block (tag_at old k)
  pub shadow : shadow_at new k ≡ shadow_at old k

-- entry k says of its page what it said
pub record HeldEntry (k : ℕ) (old new : List ℕ) : Type 0 where
  pub valid : is_valid (tag_at new k) ≡ is_valid (tag_at old k)
  pub named : is_data (tag_at new k) ≡ is_data (tag_at old k)
  pub block : tag_block (tag_at new k) ≡ tag_block (tag_at old k)
  pub file : file_at new k ≡ file_at old k
  pub index : index_at new k ≡ index_at old k
  pub size : size_at new k ≡ size_at old k
  pub shadow : shadow_at new k ≡ shadow_at old k

-- the block of entry k, if it is valid
abbrev pub entry_block : List ℕ → ℕ → Option ℕ
entry_block words k = if is_valid (tag_at words k) then Some (tag_block (tag_at words k)) else None

-- ---- names

-- the file, page and size that entry k bears
abbrev pub name_at : List ℕ → ℕ → PageName
name_at words k = record { file = record { 0 = file_at words k }; index = index_at words k; size = size_at words k }

-- the name of an entry's page, none of metadata and of no entry
abbrev pub name_in : List ℕ → Option ℕ → Option PageName
name_in words None = None
name_in words (Some k) = if is_data (tag_at words k) then Some (name_at words k) else None

-- what every entry says of its page stays, but for the shadow
pub record SameNames (old new : List ℕ) : Type 0 where
  pub frames : frames_of new ≡ frames_of old
  pub tag : (k : ℕ) → k < frames_of old → tag_at new k ≡ tag_at old k
  pub file : (k : ℕ) → k < frames_of old → file_at new k ≡ file_at old k
  pub index : (k : ℕ) → k < frames_of old → index_at new k ≡ index_at old k
  pub size : (k : ℕ) → k < frames_of old → size_at new k ≡ size_at old k

-- no block has an entry that had none, and each that has one has its old one, with its name
pub record Narrows (old new : List ℕ) : Type 0 where
  pub found : (b k : ℕ) → entry_of_block new b ≡ Some k → (entry_of_block old b ≡ Some k) × (name_in new (Some k) ≡ name_in old (Some k))

-- memory and disk stand for these blocks, but for the loose ones, whatever the pending blocks hold; no page is open, and
-- the image keeps its rules
pub record StandsAs (c : Contents) (scratch : ℕ) (standing : BlockWords) (loose : ℕ → Bool) : Type 0 where
  pub coherent : Coherent c scratch
  pub closed : c.open_page ≡ None
  pub blocks : (disk : List (List ℕ)) → MayLeave c disk → (b : ℕ) → loose b ≡ false → (w : ℕ) → stands_on c disk b w ≡ standing b w
