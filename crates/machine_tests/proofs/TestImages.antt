-- The words of a machine whose memory is an image with 64 frames and one scratch page.
use Rattle.std.specs.Prelude.{◌≡◌, ℕ, ◌+◌, ◌-◌, ◌*◌, ◌%◌, ◌<◌, ◌≤◌, ◌==◌, true, false, List, length, slice_index, take, drop, None}
use Rattle.std.proofs.Common.{◌∙◌, ap, sym, subst, arith, get_or-take}
use Rattle.rio_base.specs.Image.{AreImageSizes, entry_at, image_pages, registry_pages}
use Rattle.rio_base.specs.Machine.{Contents, Running}
use Rattle.rio_base.specs.Rules.{true_false}
use Rattle.image_codec.specs.Image.{IsImage}
use Rattle.rio_model.specs.Registry.{frames_of, is_valid, tag_at, without_dirty}
use Rattle.rio_model.proofs.RegistryRules.{layout_of}
use Rattle.registry.specs.Changes.{CanChange}
use Rattle.registry.specs.Entries.{IsFree}

sizes : AreImageSizes 64 1
sizes = record { least_frames = omega arith; most_frames = omega arith; least_scratch = omega arith; most_scratch = omega arith }

pages : (words : List ℕ) → IsImage words → slice_index words 2 ≡ 64 → slice_index words 3 ≡ 1 → length words ≡ 512 * image_pages 64 1
pages words image two three = omega (arith, subst (λ f. 8 * length words ≡ 4096 * image_pages f 1) two (subst (λ s. 8 * length words ≡ 4096 * image_pages (slice_index words 2) s) three image.geometry.pages))

-- entry k lies in the registry
pub within_registry : (k frames : ℕ) → k < frames → entry_at k + 5 ≤ 512 * (1 + registry_pages frames)
unfolding entry_at registry_pages
within_registry k frames h = omega (arith, h)

long : (words : List ℕ) → IsImage words → slice_index words 2 ≡ 64 → slice_index words 3 ≡ 1 → 512 * (17 + registry_pages 64 + 64) ≤ length words - 512
long words image two three = omega (arith, pages words image two three)

pub front_frames : (words front : List ℕ) → IsImage words → slice_index words 2 ≡ 64 → slice_index words 3 ≡ 1 → front ≡ take (length words - 512) words → frames_of front ≡ 64
front_frames words front image two three is = ap (λ (l : List ℕ). frames_of l) is ∙ get_or-take (length words - 512) words 2 0 (omega (arith, long words image two three)) ∙ two

pub front_tag : (words front : List ℕ) (k : ℕ) → IsImage words → slice_index words 2 ≡ 64 → slice_index words 3 ≡ 1 → front ≡ take (length words - 512) words → slice_index words (entry_at k) ≡ 0 → k < 64 → tag_at front k ≡ 0
front_tag words front k image two three is zero less = ap (λ (l : List ℕ). tag_at l k) is ∙ get_or-take (length words - 512) words (entry_at k) 0 (omega (arith, long words image two three, within_registry k 64 less)) ∙ zero

-- with no page open, each entry can be changed
pub can_change : (words : List ℕ) (k : ℕ) (c : Contents) (r : Running) → IsImage words → slice_index words 2 ≡ 64 → slice_index words 3 ≡ 1 → k < 64
    → c.words ≡ take (length words - 512) words → r.scratch ≡ drop (length words - 512) words → c.open_page ≡ None → CanChange k c r
can_change words k c r image two three less front rest closed = record {
  layout = rw (front, rest) (layout_of words 64 1 two three sizes (pages words image two three));
  closed = closed;
  entry = subst (λ f. k < f) (sym (front_frames words c.words image two three front)) less;
}

-- where no entry has a tag, no block is taken
pub none_taken : (words : List ℕ) (block : ℕ) → frames_of words ≡ 64 → ((k : ℕ) → k < 64 → tag_at words k ≡ 0) → IsFree words block
none_taken words block frames empty j valid same = true_false (sym valid.valid ∙ ap (λ t. is_valid t) (empty j (subst (λ f. j < f) frames valid.within)))

pub untagged : (words : List ℕ) (k : ℕ) → k < 64 → ((j : ℕ) → j < 64 → tag_at words j ≡ 0) → is_valid (tag_at words k) ≡ false
untagged words k less empty = ap (λ t. is_valid t) (empty k less)

-- a clean tag is as valid as it was
pub still_valid : (tag : ℕ) → is_valid tag ≡ true → is_valid (without_dirty tag) ≡ true
still_valid tag valid = ap (λ n. n == 1) (same tag) ∙ valid
  where
    same : (tag : ℕ) → without_dirty tag % 2 ≡ tag % 2
    same tag = omega arith
