-- Where entries lie.
use Rattle.std.specs.Prelude.{◌≡◌, ℕ, ◌+◌, ◌*◌, ◌/◌, ◌%◌, ◌^◌, ◌<◌, ◌≤◌, refl, List, length, slice_set}
use Rattle.std.proofs.Common.{arith, get_or-set_other}
use Rattle.std.proofs.lemmas.List.{length-set}
use Rattle.rio_base.specs.Image.{entry_at, registry_pages}
use Rattle.rio_model.specs.Registry.{HasLayout, OneEntry, frames_of}

pub place_is : (k : ℕ) → 512 * (1 + k / 102) + 5 * (k % 102) ≡ entry_at k
unfolding entry_at
place_is k = refl

pub place_small : (k : ℕ) → k < 8192 → entry_at k + 5 < 2 ^ 20
unfolding entry_at
place_small k h = omega (arith, h)

pub behind_header : (k : ℕ) → 512 ≤ entry_at k
unfolding entry_at
behind_header k = omega arith

pub within_registry : (k frames : ℕ) → k < frames → entry_at k + 5 ≤ 512 * (1 + registry_pages frames)
unfolding entry_at registry_pages
within_registry k frames h = omega (arith, h)

pub entry_within : (words scratch : List ℕ) (k : ℕ) → HasLayout words scratch → k < frames_of words → entry_at k + 5 ≤ length words
entry_within words scratch k layout h = omega (arith, layout.protected, within_registry k (frames_of words) h)

-- a word of entry k is on one page
pub one_word : (words : List ℕ) (k w v : ℕ) → w < 5 → OneEntry k words (slice_set words (entry_at k + w) v)
one_word words k w v small = record {
  count = length-set words (entry_at k + w) v;
  before = λ i less. get_or-set_other words (entry_at k + w) i v 0 (omega (arith, less));
  behind = λ i more. get_or-set_other words (entry_at k + w) i v 0 (omega (arith, more, small));
}

pub entry_small : (words scratch : List ℕ) (k : ℕ) → HasLayout words scratch → k < frames_of words → k < 8192
entry_small words scratch k layout h = omega (arith, layout.sizes.most_frames, h)

-- word w of entry k lies in protected memory
pub word_within : (words scratch : List ℕ) (k place w : ℕ) → HasLayout words scratch → k < frames_of words → place ≡ entry_at k → w < 5 → place + w < length words
word_within words scratch k place w layout h at small = omega (arith, entry_within words scratch k layout h, at, small)

pub first_within : (words scratch : List ℕ) (k place : ℕ) → HasLayout words scratch → k < frames_of words → place ≡ entry_at k → place < length words
first_within words scratch k place layout h at = omega (arith, entry_within words scratch k layout h, at)

pub in_memory : (words scratch : List ℕ) (at : ℕ) → at < length words → at < length words + length scratch
in_memory words scratch at less = omega (arith, less)
