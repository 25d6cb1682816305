-- The bitmap of a volume, as it is held in memory.
use Rattle.std.specs.Prelude.{◌≡◌, ℕ, ◌/◌, ◌%◌, ◌<◌, slice_index}
use Rattle.std.specs.Int.{bit_at}
use Rattle.rio_base.specs.declared.places.VolumeShape.{VolumeShape}
use Rattle.rio_base.specs.Bitmap.{used_bit}
use Rattle.rio_base.specs.Blocks.{BlockWords, Seen}
use Rattle.rio_model.specs.VolumeFails.{SaysShape}
use Rattle.rio_model.specs.VolumeRules.{ReservedRule, bitmap_bits}
use Rattle.volume_check.specs.Inodes.{HasInodes}
use Rattle.volume_check.specs.declared.bitmap.Bitmap.{Bitmap}
use Rattle.volume_check.specs.declared.inodes.Inodes.{Inodes}

-- the bit of block b
abbrev pub held_bit : Bitmap → ℕ → ℕ
held_bit m b = bit_at (slice_index m.words.items (b / 64)) (b % 64)

-- each bit is the volume's
pub record HasBitmap (shape : VolumeShape) (f : BlockWords) (m : Bitmap) : Type 0 where
  pub each : (b : ℕ) → b < bitmap_bits shape → held_bit m b ≡ used_bit shape f b

-- the bitmap and the inodes of a volume that keeps the rules 1 and 2
pub record HasRead (s : Seen) (m : Bitmap) (n : Inodes) : Type 0 where
  pub says : SaysShape s.words s.count n.shape
  pub bitmap : HasBitmap n.shape s.words m
  pub inodes : HasInodes s n
  pub reserved_marked : ReservedRule n.shape s.words
