-- The words of one region: its header and pages, its places, its undo records, and what its words were before them.
-- Pages: the header, then the undo pages, then the heap map, then the data. A page has 512 words.
use Rattle.std.specs.Prelude.{◌≡◌, ℕ, zero, suc, ◌+◌, ◌-◌, ◌*◌, ◌/◌, ◌<◌, ◌≤◌, Bool, true, ◌&&◌, nat_lt, nat_le, if◌then◌else◌, Option, Some, None, is_some, List, [], ◌∷◌, length, map, slice_index, codes}
use Rattle.std.specs.List.{range_with_len}
use Rattle.rio_base.specs.Image.{text_word}
use Rattle.rio_base.specs.Regions.{RegionContent, put_word, put_words}

-- ---- header and places. Header words: 0 magic, 1 undo pages, 2 data pages, 3 head of the undo records

-- the word whose bytes are the text VISTAREG
abbrev pub region_magic : ℕ
region_magic = text_word (codes "VISTAREG")

-- pages of the heap map of n data pages
abbrev pub map_pages : ℕ → ℕ
map_pages n = (n + 255) / 256

-- words of all pages
abbrev pub region_words : ℕ → ℕ → ℕ
region_words undo n = 512 * (1 + undo + (map_pages n + n))

abbrev pub undo_words : RegionContent → ℕ
undo_words f = 512 * f 1

-- how many places there are: the words of the heap map and of the data
abbrev pub places : RegionContent → ℕ
places f = 512 * (map_pages (f 2) + f 2)

-- the word that place 0 is
abbrev pub map_from : RegionContent → ℕ
map_from f = 512 * (1 + f 1)

-- the place of the first data word
abbrev pub data_from : RegionContent → ℕ
data_from f = 512 * map_pages (f 2)

-- the words at the places, as they are
abbrev pub live : RegionContent → ℕ → ℕ
live f q = f (map_from f + q)

-- ---- undo records

-- a saved run of words: its first place, and the old words
pub record UndoRecord : Type 0 where
  pub first : ℕ
  pub old : List ℕ

-- the undo words that records take
abbrev pub taken : List UndoRecord → ℕ
taken [] = 0
taken (r ∷ older) = taken older + 3 + length r.old

abbrev pub undo_word : RegionContent → ℕ → ℕ
undo_word f p = f (512 + p)

-- the record at an undo word: the head before it, first place, count, old words
unfoldable pub record_at : RegionContent → ℕ → UndoRecord
record_at f p = record { first = undo_word f (p + 1); old = map (undo_word f) (range_with_len (p + 3) (undo_word f (p + 2))) }

-- the records from a head on, newest first, at most so many. A head is 0 for none, else 1 + the record's undo word
unfoldable pub records_from : RegionContent → ℕ → ℕ → List UndoRecord
records_from f zero head = []
records_from f (suc n) zero = []
records_from f (suc n) (suc p) = record_at f p ∷ records_from f n (undo_word f p)

-- all records, newest first
abbrev pub undo_records : RegionContent → List UndoRecord
undo_records f = records_from f (f 3) (f 3)

-- a record lies at an undo word
pub record IsRecord (f : RegionContent) (p : ℕ) (r : UndoRecord) : Type 0 where
  pub first : undo_word f (p + 1) ≡ r.first
  pub count : undo_word f (p + 2) ≡ length r.old
  pub old : (k : ℕ) → k < length r.old → undo_word f (p + 3 + k) ≡ slice_index r.old k

-- these are the records from a head on, newest first: the oldest at undo word 0, each next where the one before it ends
abbrev pub Links : RegionContent → ℕ → List UndoRecord → Type 0
Links f head [] = head ≡ 0
Links f head (r ∷ older) = (head ≡ suc (taken older)) × IsRecord f (taken older) r × Links f (undo_word f (taken older)) older

-- each record's places are below this one
abbrev pub Within : ℕ → List UndoRecord → Type 0
Within most [] = Unit {0}
Within most (r ∷ older) = (r.first + length r.old ≤ most) × Within most older

-- undo words that are free
abbrev pub room : RegionContent → ℕ
room f = undo_words f - taken (undo_records f)

-- ---- a region of n words keeps the format, but for its heap map

pub record IsRegion (n : ℕ) (f : RegionContent) : Type 0 where
  pub magic : f 0 ≡ region_magic
  pub undo : 1 ≤ f 1
  pub data_pages : 1 ≤ f 2
  pub size : n ≡ region_words (f 1) (f 2)
  pub links : Links f (f 3) (undo_records f)
  pub room : taken (undo_records f) ≤ undo_words f
  pub within : Within (places f) (undo_records f)

-- ---- what the region held before its records

abbrev pub covers : UndoRecord → ℕ → Bool
covers r q = nat_le r.first q && nat_lt q (r.first + length r.old)

-- the old word that one record has of a place
unfoldable pub own_word : UndoRecord → ℕ → Option ℕ
own_word r q = if covers r q then Some (slice_index r.old (q - r.first)) else None

abbrev pub first_some : Option ℕ → Option ℕ → Option ℕ
first_some (Some v) o = Some v
first_some None o = o

-- the old word of a place in the oldest record that covers it
abbrev pub saved_word : List UndoRecord → ℕ → Option ℕ
saved_word [] q = None
saved_word (r ∷ older) q = first_some (saved_word older q) (own_word r q)

abbrev pub is_covered : List UndoRecord → ℕ → Bool
is_covered records q = is_some (saved_word records q)

abbrev pub word_or : Option ℕ → ℕ → ℕ
word_or (Some v) w = v
word_or None w = w

-- the words of before: the old word of the oldest record that covers a place, else the word as it stands
abbrev pub before_by : List UndoRecord → (ℕ → ℕ) → ℕ → ℕ
before_by records words q = word_or (saved_word records q) (words q)

abbrev pub before : RegionContent → ℕ → ℕ
before f = before_by (undo_records f) (live f)

-- every place of a span is covered
abbrev pub CoversAll : List UndoRecord → ℕ → ℕ → Type 0
CoversAll records first count = (q : ℕ) → first ≤ q → q < first + count → is_covered records q ≡ true

-- the record of the words of a span
abbrev pub saving : (ℕ → ℕ) → ℕ → ℕ → UndoRecord
saving words first count = record { first = first; old = map words (range_with_len first count) }

-- ---- what changes of a region leave, from words f to words g

-- the numbers of pages are as before
pub record SameSizes (f g : RegionContent) : Type 0 where
  pub magic : g 0 ≡ f 0
  pub undo : g 1 ≡ f 1
  pub data_pages : g 2 ≡ f 2

-- the words of before are as they were
pub record Undoes (n : ℕ) (f g : RegionContent) : Type 0 where
  pub region : IsRegion n g
  pub sizes : SameSizes f g
  pub before : before g ≡ before f

-- and so are the records: covered words alone may differ
pub record Keeps (n : ℕ) (f g : RegionContent) : Type 0 where
  pub undoes : Undoes n f g
  pub records : undo_records g ≡ undo_records f

-- all is as it was, but for undo words that no record takes
pub record Rests (n : ℕ) (f g : RegionContent) : Type 0 where
  pub region : IsRegion n g
  pub sizes : SameSizes f g
  pub present : live g ≡ live f
  pub records : undo_records g ≡ undo_records f

-- there is one record more, of the present words of a span
pub record Gains (n : ℕ) (f g : RegionContent) (place count : ℕ) : Type 0 where
  pub region : IsRegion n g
  pub sizes : SameSizes f g
  pub present : live g ≡ live f
  pub records : undo_records g ≡ saving (live f) place count ∷ undo_records f

-- the word at a covered place is stored
pub record Sets (n : ℕ) (f g : RegionContent) (place v : ℕ) : Type 0 where
  pub keeps : Keeps n f g
  pub present : live g ≡ put_word (live f) place v

-- the first k of these words are stored at covered places, from a place on
pub record Puts (n : ℕ) (f g : RegionContent) (place k : ℕ) (words : List ℕ) : Type 0 where
  pub keeps : Keeps n f g
  pub present : live g ≡ put_words (live f) place k words

-- no record is left, and the words are those of before
pub record Undone (n : ℕ) (f g : RegionContent) : Type 0 where
  pub region : IsRegion n g
  pub sizes : SameSizes f g
  pub present : live g ≡ before f
  pub records : undo_records g ≡ []

-- no record is left, and the words stay as they are
pub record Dropped (n : ℕ) (f g : RegionContent) : Type 0 where
  pub region : IsRegion n g
  pub sizes : SameSizes f g
  pub present : live g ≡ live f
  pub records : undo_records g ≡ []
