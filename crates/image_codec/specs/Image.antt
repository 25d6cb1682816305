-- The memory image: what its header's rules are, and what is in a fresh one.
use Rattle.std.specs.Prelude.{◌≡◌, ◌==◌, ◌≤◌, ℕ, ◌*◌, ◌%◌, List, length, map, slice_index, if◌then◌else◌}
use Rattle.std.specs.List.{range_with_len}
use Rattle.rio_base.specs.Image.{AreImageSizes, HasHeader, image_magic, image_pages}
use Rattle.rio_base.specs.Bytes.{word_at}
use Rattle.image_codec.specs.declared.fault.ImageFault.{ImageFault}
use Rattle.image_codec.specs.declared.fault.ImageFault.TheVariants.{BadLength, BadMagic, BadVersion, BadGeometry, Memory}

-- rule 1: whole pages, from 51 to 8,354
pub record IsImageLength (size : ℕ) : Type 0 where
  pub whole : size % 4096 ≡ 0
  pub least : 51 * 4096 ≤ size
  pub most : size ≤ 8354 * 4096

-- rule 4: sizes that an image can have, and as many pages as they make
pub record HasGeometry (frames scratch size : ℕ) : Type 0 where
  pub sizes : AreImageSizes frames scratch
  pub pages : size ≡ 4096 * image_pages frames scratch

-- words that keep the four rules of the header. Rule 2 is the magic, and rule 3 the version
pub record IsImage (words : List ℕ) : Type 0 where
  pub long : IsImageLength (8 * length words)
  pub header : HasHeader words
  pub geometry : HasGeometry (slice_index words 2) (slice_index words 3) (8 * length words)

-- bytes that keep the four rules of the header
pub record KeepsRules (bytes : List ℕ) : Type 0 where
  pub long : IsImageLength (length bytes)
  pub magic : word_at bytes 0 ≡ image_magic
  pub version : word_at bytes 1 ≡ 1
  pub geometry : HasGeometry (word_at bytes 2) (word_at bytes 3) (length bytes)

-- each fault by the rule that is the first to fail. Where memory is wanting, all four hold
abbrev pub FailsFirst : List ℕ → ImageFault → Type 0
FailsFirst bytes BadLength = ¬ IsImageLength (length bytes)
FailsFirst bytes BadMagic = IsImageLength (length bytes) × (¬ word_at bytes 0 ≡ image_magic)
FailsFirst bytes BadVersion = IsImageLength (length bytes) × (word_at bytes 0 ≡ image_magic) × (¬ word_at bytes 1 ≡ 1)
FailsFirst bytes BadGeometry =
    IsImageLength (length bytes) × (word_at bytes 0 ≡ image_magic) × (word_at bytes 1 ≡ 1)
    × (¬ HasGeometry (word_at bytes 2) (word_at bytes 3) (length bytes))
FailsFirst bytes Memory = KeepsRules bytes

-- word w of a fresh image: the header has the magic, the version and the sizes. The gate, the registry and all pages are 0
abbrev pub fresh_image_word : ℕ → ℕ → ℕ → ℕ
fresh_image_word frames scratch w =
    if w == 0 then image_magic else if w == 1 then 1 else if w == 2 then frames else if w == 3 then scratch else 0

abbrev pub fresh_image_words : ℕ → ℕ → List ℕ
fresh_image_words frames scratch = map (fresh_image_word frames scratch) (range_with_len 0 (512 * image_pages frames scratch))
