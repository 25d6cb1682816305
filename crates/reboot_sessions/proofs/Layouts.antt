-- The layout of an image with one page of scratch, by its header and its length.
use Rattle.std.specs.Prelude.{◌≡◌, ℕ, ◌+◌, ◌*◌, ◌/◌, ◌≤◌, List, length, slice_index}
use Rattle.std.proofs.Common.{arith}
use Rattle.rio_base.specs.Image.{registry_pages}
use Rattle.rio_model.specs.Registry.{HasLayout}

pub layout_of : (words scratch : List ℕ) (frames pages : ℕ) → slice_index words 2 ≡ frames → slice_index words 3 ≡ 1 → 512 * pages ≡ length words + length scratch → length scratch ≡ 512 → (32 ≤ frames) × (frames ≤ 8192) × (pages ≡ (frames + 101) / 102 + frames + 18) → HasLayout words scratch
unfolding registry_pages
layout_of words scratch frames pages two three all rest sized =
    let from = sized.0 in
    let to = sized.1 in
    let many = sized.2 in
    record {
      sizes = record { least_frames = omega (arith, two, from); most_frames = omega (arith, two, to); least_scratch = omega (arith, three); most_scratch = omega (arith, three) };
      protected = omega (arith, two, all, rest, many);
      scratch_pages = omega (arith, rest, three);
    }
