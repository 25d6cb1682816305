-- The registry in a machine's words: an entry of five words for each frame, the page that counts for it, and the rules.
use Rattle.std.specs.Prelude.{◌≡◌, ◌≢◌, ℕ, ◌+◌, ◌-◌, ◌*◌, ◌/◌, ◌%◌, ◌^◌, ◌<◌, ◌≤◌, ◌==◌, ◌&&◌, ◌⊎◌, not, Bool, true, false, if◌then◌else◌, List, length, slice_index}
use Rattle.rio_base.specs.Image.{AreImageSizes, entry_at, registry_pages}
use Rattle.rio_model.specs.RuleNumbers.{image_rule}
use Rattle.rio_model.specs.declared.rules.ImageRule.TheVariants.{Gate, Tags, BlocksOnce, Metadata, PageNames, PageSizes, Shadows, ShadowsOnce}

-- ---- the header

abbrev pub frames_of : List ℕ → ℕ
frames_of words = slice_index words 2

abbrev pub scratch_of : List ℕ → ℕ
scratch_of words = slice_index words 3

abbrev pub gate_of : List ℕ → ℕ
gate_of words = slice_index words 4

-- the protected words are those of an image's header, registry, shadow pages and frames, and the scratch pages are its
pub record HasLayout (words scratch : List ℕ) : Type 0 where
  pub sizes : AreImageSizes (frames_of words) (scratch_of words)
  pub protected : length words ≡ 512 * (17 + registry_pages (frames_of words) + frames_of words)
  pub scratch_pages : length scratch ≡ 512 * scratch_of words

-- ---- an entry's words

abbrev pub tag_at : List ℕ → ℕ → ℕ
tag_at words k = slice_index words (entry_at k)

-- the inode number of the file, 0 for metadata
abbrev pub file_at : List ℕ → ℕ → ℕ
file_at words k = slice_index words (entry_at k + 1)

-- the page of the file, 0 for metadata
abbrev pub index_at : List ℕ → ℕ → ℕ
index_at words k = slice_index words (entry_at k + 2)

-- how many bytes of the page are in use
abbrev pub size_at : List ℕ → ℕ → ℕ
size_at words k = slice_index words (entry_at k + 3)

-- 0, or the shadow frame, from 1 to 16
abbrev pub shadow_at : List ℕ → ℕ → ℕ
shadow_at words k = slice_index words (entry_at k + 4)

-- ---- tags. Bit 0 says valid, bit 1 dirty, bit 2 data; the high half is the block

abbrev pub is_valid : ℕ → Bool
is_valid tag = tag % 2 == 1

abbrev pub is_dirty : ℕ → Bool
is_dirty tag = tag / 2 % 2 == 1

abbrev pub is_data : ℕ → Bool
is_data tag = tag / 4 % 2 == 1

abbrev pub tag_block : ℕ → ℕ
tag_block tag = tag / 2 ^ 32

abbrev pub with_dirty : ℕ → ℕ
with_dirty tag = tag + 2 * (1 - tag / 2 % 2)

abbrev pub without_dirty : ℕ → ℕ
without_dirty tag = tag - 2 * (tag / 2 % 2)

-- the tag of a valid entry
abbrev pub tag_of : ℕ → Bool → Bool → ℕ
tag_of block dirty named = 2 ^ 32 * block + (1 + ((if dirty then 2 else 0) + (if named then 4 else 0)))

-- entry k is one of the entries, and valid
pub record IsValid (words : List ℕ) (k : ℕ) : Type 0 where
  pub within : k < frames_of words
  pub valid : is_valid (tag_at words k) ≡ true

-- ---- what counts

-- the page that counts for entry k: its shadow page where the gate is 1 and it has one, else its frame
unfoldable pub page_of_entry : List ℕ → ℕ → ℕ
page_of_entry words k =
    if (gate_of words == 1) && not (shadow_at words k == 0)
    then registry_pages (frames_of words) + shadow_at words k
    else registry_pages (frames_of words) + (17 + k)

-- entry k alone changes, if any does
pub record OneEntry (k : ℕ) (old new : List ℕ) : Type 0 where
  pub count : length new ≡ length old
  pub before : (i : ℕ) → i < entry_at k → slice_index new i ≡ slice_index old i
  pub behind : (i : ℕ) → entry_at k + 5 ≤ i → slice_index new i ≡ slice_index old i

-- ---- the rules of an image from rule 5 on: first, what an entry alone has to keep

-- an entry that isn't valid has tag 0, and a valid tag no bits but its three flags and its block
pub record KeepsTag (tag : ℕ) : Type 0 where
  pub invalid : is_valid tag ≡ false → tag ≡ 0
  pub bits : is_valid tag ≡ true → tag % 2 ^ 32 < 8

-- a valid metadata entry names no file, and uses its whole page
pub record KeepsMetadata (tag file index size : ℕ) : Type 0 where
  pub of_file : is_valid tag ≡ true → is_data tag ≡ false → file ≡ 0
  pub at_index : is_valid tag ≡ true → is_data tag ≡ false → index ≡ 0
  pub of_size : is_valid tag ≡ true → is_data tag ≡ false → size ≡ 4096

-- a valid data entry names a page of a file
pub record KeepsName (tag file index : ℕ) : Type 0 where
  pub file_from : is_valid tag ≡ true → is_data tag ≡ true → 1 ≤ file
  pub file_to : is_valid tag ≡ true → is_data tag ≡ true → file ≤ 262144
  pub index_to : is_valid tag ≡ true → is_data tag ≡ true → index ≤ 65535

-- a valid data entry uses no more than its page
abbrev pub KeepsSize : ℕ → ℕ → Type 0
KeepsSize tag size = is_valid tag ≡ true → is_data tag ≡ true → size ≤ 4096

-- a valid entry's shadow is none or one of the 16, and a data entry has none
pub record KeepsShadow (tag shadow : ℕ) : Type 0 where
  pub most : is_valid tag ≡ true → shadow ≤ 16
  pub of_data : is_valid tag ≡ true → is_data tag ≡ true → shadow ≡ 0

-- rule 5
abbrev pub GateRule : List ℕ → Type 0
GateRule words = gate_of words ≤ 1

-- rule 6
abbrev pub TagRule : List ℕ → Type 0
TagRule words = (k : ℕ) → k < frames_of words → KeepsTag (tag_at words k)

-- rule 7: no two valid entries have the same block
abbrev pub BlockRule : List ℕ → Type 0
BlockRule words = (j k : ℕ) → IsValid words j → IsValid words k → tag_block (tag_at words j) ≡ tag_block (tag_at words k) → j ≡ k

-- rule 8
abbrev pub MetadataRule : List ℕ → Type 0
MetadataRule words = (k : ℕ) → k < frames_of words → KeepsMetadata (tag_at words k) (file_at words k) (index_at words k) (size_at words k)

-- rule 9
abbrev pub NameRule : List ℕ → Type 0
NameRule words = (k : ℕ) → k < frames_of words → KeepsName (tag_at words k) (file_at words k) (index_at words k)

-- rule 10
abbrev pub SizeRule : List ℕ → Type 0
SizeRule words = (k : ℕ) → k < frames_of words → KeepsSize (tag_at words k) (size_at words k)

-- rule 11
abbrev pub ShadowRule : List ℕ → Type 0
ShadowRule words = (k : ℕ) → k < frames_of words → KeepsShadow (tag_at words k) (shadow_at words k)

-- rule 12: no two valid entries have the same shadow
abbrev pub ShadowsApart : List ℕ → Type 0
ShadowsApart words = (j k : ℕ) → IsValid words j → IsValid words k → shadow_at words j ≡ shadow_at words k → shadow_at words j ≢ 0 → j ≡ k

pub record KeepsRegistry (words : List ℕ) : Type 0 where
  pub gate : GateRule words
  pub tags : TagRule words
  pub blocks : BlockRule words
  pub metadata : MetadataRule words
  pub names : NameRule words
  pub sizes : SizeRule words
  pub shadows : ShadowRule words
  pub apart : ShadowsApart words

-- rule r is the first of these to fail: it fails, and those before it hold
abbrev pub FailsRegistry : List ℕ → ℕ → Type 0
FailsRegistry words r =
    ((r ≡ image_rule Gate) × ¬ GateRule words) ⊎ (GateRule words × (
    ((r ≡ image_rule Tags) × ¬ TagRule words) ⊎ (TagRule words × (
    ((r ≡ image_rule BlocksOnce) × ¬ BlockRule words) ⊎ (BlockRule words × (
    ((r ≡ image_rule Metadata) × ¬ MetadataRule words) ⊎ (MetadataRule words × (
    ((r ≡ image_rule PageNames) × ¬ NameRule words) ⊎ (NameRule words × (
    ((r ≡ image_rule PageSizes) × ¬ SizeRule words) ⊎ (SizeRule words × (
    ((r ≡ image_rule Shadows) × ¬ ShadowRule words) ⊎ (ShadowRule words × (
    (r ≡ image_rule ShadowsOnce) × ¬ ShadowsApart words))))))))))))))

-- ---- one entry

-- what an entry has to keep by itself
pub record EntryKeeps (words : List ℕ) (k : ℕ) : Type 0 where
  pub tag : KeepsTag (tag_at words k)
  pub metadata : KeepsMetadata (tag_at words k) (file_at words k) (index_at words k) (size_at words k)
  pub name : KeepsName (tag_at words k) (file_at words k) (index_at words k)
  pub size : KeepsSize (tag_at words k) (size_at words k)
  pub shadow : KeepsShadow (tag_at words k) (shadow_at words k)
