-- The layout of a machine of 51 pages.
use Rattle.std.specs.Prelude.{◌≡◌, ℕ, ◌+◌, ◌*◌, List, length, slice_index}
use Rattle.std.proofs.Common.{◌∙◌, ap, sym, arith}
use Rattle.rio_base.specs.Image.{AreImageSizes, registry_pages}
use Rattle.rio_model.specs.Registry.{HasLayout}

sizes : AreImageSizes 32 1
sizes = record { least_frames = omega arith; most_frames = omega arith; least_scratch = omega arith; most_scratch = omega arith }

pages : 512 * (17 + registry_pages 32 + 32) ≡ 25600
unfolding registry_pages
pages = omega arith

pub layout_of : (words scratch : List ℕ) → slice_index words 2 ≡ 32 → slice_index words 3 ≡ 1 → length words ≡ 25600 → length scratch ≡ 512 → HasLayout words scratch
layout_of words scratch frames one long rest = record {
  sizes = rw (frames, one) sizes;
  protected = long ∙ sym pages ∙ ap (λ f. 512 * (17 + registry_pages f + f)) (sym frames);
  scratch_pages = rest ∙ ap (λ s. 512 * s) (sym one);
}
