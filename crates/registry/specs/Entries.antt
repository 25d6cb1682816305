-- Entries as they are read, and the words of an entry that is made.
use Rattle.std.specs.Prelude.{◌≢◌, ℕ, ◌+◌, ◌==◌, if◌then◌else◌, Bool, true, false, List, slice_set, Option, Some, None}
use Rattle.rio_base.specs.Image.{entry_at}
use Rattle.rio_base.specs.declared.places.PageName.{PageName}
use Rattle.rio_model.specs.Registry.{IsValid, file_at, index_at, shadow_at, size_at, tag_at, tag_block, tag_of}
use Rattle.registry.specs.declared.entry.Entry.{Entry}

-- entry k of these words
abbrev pub entry_of : List ℕ → ℕ → Entry
entry_of words k = record { tag = tag_at words k; file = file_at words k; index = index_at words k; size = size_at words k; shadow = shadow_at words k }

-- the entry, with another word: 0 is its tag, and 1 to 4 are its file, index, size and shadow
abbrev pub with_word : Entry → ℕ → ℕ → Entry
with_word e w v = record {
  tag = if w == 0 then v else e.tag;
  file = if w == 1 then v else e.file;
  index = if w == 2 then v else e.index;
  size = if w == 3 then v else e.size;
  shadow = if w == 4 then v else e.shadow;
}

-- the words, with this entry's file, index and size in entry k
abbrev pub with_name : List ℕ → ℕ → Entry → List ℕ
with_name words k e = slice_set (slice_set (slice_set words (entry_at k + 1) e.file) (entry_at k + 2) e.index) (entry_at k + 3) e.size

-- the words, with this entry as entry k
abbrev pub with_entry : List ℕ → ℕ → Entry → List ℕ
with_entry words k e = slice_set (slice_set (with_name words k e) (entry_at k + 4) e.shadow) (entry_at k) e.tag

-- a new entry: of metadata it names no file and uses its whole page, of data it has the page's name
abbrev pub new_entry : ℕ → Option PageName → Bool → Entry
new_entry block None dirty = record { tag = tag_of block dirty false; file = 0; index = 0; size = 4096; shadow = 0 }
new_entry block (Some name) dirty = record { tag = tag_of block dirty true; file = name.file.0; index = name.index; size = name.size; shadow = 0 }

-- no valid entry has this block
abbrev pub IsFree : List ℕ → ℕ → Type 0
IsFree words block = (j : ℕ) → IsValid words j → tag_block (tag_at words j) ≢ block
