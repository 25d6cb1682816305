-- What a dump's blocks hold. Block 0 tells whether the image in the blocks behind it counts.
use Rattle.std.specs.Prelude.{◌≡◌, ◌==◌, ℕ, ◌+◌, ◌*◌, ◌/◌, ◌%◌, ◌<◌, ◌⊎◌, Bool, true, false, List, length, slice_index, codes, if◌then◌else◌}
use Rattle.rio_base.specs.Disks.{DiskContents, block_at, is_pending}
use Rattle.rio_base.specs.Image.{AreImageSizes, HasHeader, image_pages, text_word}

-- the word whose bytes are the text RIODUMP1
abbrev pub dump_magic : ℕ
dump_magic = text_word (codes "RIODUMP1")

-- block 0 is open. Its other words are not looked at
abbrev pub is_open : List (List ℕ) → Bool
is_open blocks = slice_index (block_at blocks 0) 0 == dump_magic

-- the words behind the first are 0
abbrev pub HasZerosBehind : List ℕ → Type 0
HasZerosBehind words = (i : ℕ) → 0 < i → slice_index words i ≡ 0

-- an image's words, by the rules of its header
pub record IsDumpable (words : List ℕ) : Type 0 where
  pub header : HasHeader words
  pub sizes : AreImageSizes (slice_index words 2) (slice_index words 3)
  pub long : length words ≡ 512 * image_pages (slice_index words 2) (slice_index words 3)

-- the blocks hold these words: block 0 is open, and the image's pages are the blocks behind it
pub record IsHeld (blocks : List (List ℕ)) (words : List ℕ) : Type 0 where
  pub opened : is_open blocks ≡ true
  pub image : IsDumpable words
  pub room : length words < 512 * length blocks
  pub each : (i : ℕ) → i < length words → slice_index words i ≡ slice_index (block_at blocks (1 + i / 512)) (i % 512)

-- an image with this first page has so many pages
pub record HasImage (page : List ℕ) (pages : ℕ) : Type 0 where
  pub header : HasHeader page
  pub sizes : AreImageSizes (slice_index page 2) (slice_index page 3)
  pub many : pages ≡ image_pages (slice_index page 2) (slice_index page 3)

-- block 0 is open, and so many blocks behind it are an image
pub record HoldsImage (blocks : List (List ℕ)) (pages : ℕ) : Type 0 where
  pub opened : is_open blocks ≡ true
  pub image : HasImage (block_at blocks 1) pages
  pub room : pages < length blocks

-- as many blocks, and the same beside them
pub record IsSameDisk (old new : DiskContents) : Type 0 where
  pub count : length new.blocks ≡ length old.blocks
  pub around : new.around ≡ old.around

-- nothing is pending
abbrev pub IsSettled : DiskContents → Type 0
IsSettled d = (b : ℕ) → is_pending d.pending b ≡ false

-- the blocks may be these after a stop: each that isn't pending is as it reads, and the pending ones are any
pub record MayLeave (d : DiskContents) (blocks : List (List ℕ)) : Type 0 where
  pub count : length blocks ≡ length d.blocks
  pub settled : (b : ℕ) → is_pending d.pending b ≡ false → block_at blocks b ≡ block_at d.blocks b

-- whatever is left of the new blocks holds nothing, what the old ones held, or the words
abbrev pub NeverMixed : List ℕ → List (List ℕ) → DiskContents → Type 0
NeverMixed words old new = (left : List (List ℕ)) → MayLeave new left → (held : List ℕ) → IsHeld left held → (held ≡ words) ⊎ IsHeld old held

-- the steps of a dump of so many words: a sync behind the pages, two for opening block 0, and two for shutting it before
abbrev pub shut_steps : List (List ℕ) → ℕ
shut_steps blocks = if is_open blocks then 2 else 0

abbrev pub dump_steps : List ℕ → List (List ℕ) → ℕ
dump_steps words blocks = shut_steps blocks + (length words / 512 + 3)
