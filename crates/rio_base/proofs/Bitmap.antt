-- Laws of what specs/Bitmap.antt defines.
use Rattle.std.specs.Prelude.{◌≡◌, ℕ, ◌<◌}
use Rattle.std.proofs.Common.{arith}
use Rattle.std.proofs.lemmas.Bool.Decides.{nat_tests}
use Rattle.rio_base.specs.declared.places.VolumeShape.{VolumeShape}
use Rattle.rio_base.specs.Bitmap.{bitmap_block}

pub first_bitmap : (shape : VolumeShape) (b : ℕ) → b < 32768 → bitmap_block shape b ≡ 1
unfolding bitmap_block
first_bitmap shape b first = grind (arith, nat_tests)
