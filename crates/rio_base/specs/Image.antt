-- The memory image: where its pages lie. A word is 8 bytes, a page 512 words. The pages are the header, the registry, 16
-- shadow pages, the frames and the scratch pages, in this order.
use Rattle.std.specs.Prelude.{◌≡◌, ◌≤◌, ℕ, List, [], ◌∷◌, slice_index, codes, ◌+◌, ◌*◌, ◌/◌, ◌%◌}

-- a registry page has 102 entries
unfoldable pub registry_pages : ℕ → ℕ
registry_pages frames = (frames + 101) / 102

abbrev pub image_pages : ℕ → ℕ → ℕ
image_pages frames scratch = 17 + registry_pages frames + frames + scratch

-- the sizes that an image can have
pub record AreImageSizes (frames scratch : ℕ) : Type 0 where
  pub least_frames : 32 ≤ frames
  pub most_frames : frames ≤ 8192
  pub least_scratch : 1 ≤ scratch
  pub most_scratch : scratch ≤ 64

-- the place of the first word of registry entry k
unfoldable pub entry_at : ℕ → ℕ
entry_at k = 512 * (1 + k / 102) + 5 * (k % 102)

-- the word whose 8 bytes are this text, the first byte lowest
abbrev pub text_word : List ℕ → ℕ
text_word [] = 0
text_word (byte ∷ text) = byte + 256 * text_word text

-- the word whose bytes are the text RIOCACHE
abbrev pub image_magic : ℕ
image_magic = text_word (codes "RIOCACHE")

-- an image's first two words
pub record HasHeader (words : List ℕ) : Type 0 where
  pub magic : slice_index words 0 ≡ image_magic
  pub version : slice_index words 1 ≡ 1
