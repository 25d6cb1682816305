-- Bytes of pages, and bytes stored over them.
use Rattle.std.specs.Prelude.{◌≡◌, ℕ, ◌+◌, ◌-◌, ◌*◌, ◌/◌, ◌%◌, ◌<◌, ◌≤◌, ◌⊎◌, min, List}
use Rattle.rio_base.specs.Blocks.{BlockWords}
use Rattle.rio_base.specs.Volume.{SameBut}
use Rattle.rio_model.specs.Held.{byte_of}
use Rattle.node_pages.specs.WordBytes.{over}

-- byte y of a block
abbrev pub block_byte : BlockWords → ℕ → ℕ → ℕ
block_byte f b y = byte_of (f b (y / 8)) (y % 8)

-- the first and the last of n words have these bytes, where `len` bytes from byte `skip` on leave some of them
pub record EndsHave (was : ℕ → ℕ) (skip len n first last : ℕ) : Type 0 where
  pub first_word : (y : ℕ) → y < 8 → (y < skip) ⊎ (skip + len ≤ y) → byte_of first y ≡ was y
  pub last_word : (y : ℕ) → y < 8 → skip + len ≤ 8 * (n - 1) + y → byte_of last y ≡ was (8 * (n - 1) + y)

-- how many of `len` bytes from byte `at` of a block on are stored, where the first n words are that they touch
abbrev pub bytes_stored : ℕ → ℕ → ℕ → ℕ
bytes_stored at len n = min len (8 * (at / 8 + n) - at)

-- the first k of these bytes are stored in a block from byte `at` on, and no other byte of any block differs
pub record PutsBytes (f g : BlockWords) (b at : ℕ) (bytes : List ℕ) (k : ℕ) : Type 0 where
  pub others : SameBut b f g
  pub each : (y : ℕ) → y < 4096 → block_byte g b y ≡ over (block_byte f b) at bytes k y
