-- The bitmap by whole words of 64 blocks, and by runs of 64 words.
use Rattle.std.specs.Prelude.{◌≡◌, ◌≢◌, ℕ, ◌+◌, ◌-◌, ◌*◌, ◌/◌, ◌%◌, ◌<◌, Bool, ◌&&◌, ◌==◌, nat_lt, if◌then◌else◌, List, slice_index}
use Rattle.std.specs.List.{filter, range_with_len}
use Rattle.std.specs.Int.{bit_at}
use Rattle.rio_base.specs.declared.places.VolumeShape.{VolumeShape}
use Rattle.rio_base.specs.Bitmap.{is_free}
use Rattle.rio_base.specs.Blocks.{BlockWords}

-- a block of the volume that is free
abbrev pub counts : VolumeShape → BlockWords → ℕ → Bool
counts shape words b = nat_lt b shape.blocks && is_free shape words b

-- a word with a bit for each of 64 blocks, 1 for those that are free
pub record FreeBits (shape : VolumeShape) (words : BlockWords) (w x : ℕ) : Type 0 where
  pub each : (i : ℕ) → i < 64 → bit_at x i ≡ (if counts shape words (64 * w + i) then 1 else 0)

-- the words of the bitmap's run in which word w lies, as far as the volume has them
pub record HoldsRun (shape : VolumeShape) (words : BlockWords) (w : ℕ) (run : List ℕ) : Type 0 where
  pub each : (x : ℕ) → x / 64 ≡ w / 64 → 64 * x < shape.blocks → slice_index run (x % 64) ≡ words 1 x

-- the places of the bits that are 1, counted from s on
unfoldable pub set_bits : ℕ → ℕ → List ℕ
set_bits x s = filter (λ b. bit_at x (b - s) == 1) (range_with_len s 64)

-- a word that has one bit so, and the others as before
pub record OneBit (old new place bit : ℕ) : Type 0 where
  pub same : bit_at new place ≡ bit
  pub others : (i : ℕ) → i < 64 → i ≢ place → bit_at new i ≡ bit_at old i

-- the bit of a block that is used, or free
abbrev pub bit_of : Bool → ℕ
bit_of used = if used then 1 else 0
