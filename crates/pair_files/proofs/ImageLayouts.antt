-- How the words of an image are parted into protected ones and those of scratch pages.
use Rattle.std.proofs.Common.{◌≡◌, ℕ, ◌+◌, ◌*◌, ◌-◌, List, length, slice_index, sym, ap, subst, arith, length-take, length-drop}
use Rattle.std.proofs.lemmas.List.{get_or-take}
use Rattle.rio_base.specs.Image.{AreImageSizes, registry_pages}
use Rattle.rio_model.specs.Registry.{HasLayout}
use Rattle.image_codec.specs.Image.{IsImage}
use Rattle.board.specs.Boards.{protected_count, protected_of, scratch_of}

-- the sizes in its header are those of its parts
pub image_layout : (words : List ℕ) (scratch : ℕ) → IsImage words → scratch ≡ slice_index words 3 → HasLayout (protected_of words scratch) (scratch_of words scratch)
image_layout words scratch h is = record {
  sizes = subst (λ f. AreImageSizes f (slice_index (protected_of words scratch) 3)) (sym two) (subst (λ n. AreImageSizes (slice_index words 2) n) (sym three) h.geometry.sizes);
  protected = omega (arith, front, count, is, two, ap registry_pages two);
  scratch_pages = omega (arith, behind, count, is, three);
}
  where
    count : length words ≡ 512 * (17 + registry_pages (slice_index words 2) + slice_index words 2 + slice_index words 3)
    count = omega (arith, h.geometry.pages)

    front : length (protected_of words scratch) ≡ length words - 512 * scratch
    front = omega (arith, length-take (protected_count words scratch) words)

    behind : length (scratch_of words scratch) ≡ length words - (length words - 512 * scratch)
    behind = length-drop (protected_count words scratch) words

    two : slice_index (protected_of words scratch) 2 ≡ slice_index words 2
    two = get_or-take (protected_count words scratch) words 2 0 (omega (arith, count, is))

    three : slice_index (protected_of words scratch) 3 ≡ slice_index words 3
    three = get_or-take (protected_count words scratch) words 3 0 (omega (arith, count, is))
