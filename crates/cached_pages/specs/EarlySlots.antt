-- Of which blocks the slots for early writes are.
use Rattle.std.specs.Prelude.{◌≡◌, ℕ, ◌<◌, List, length, slice_index, slice_index_or, Option, Some, None}
use Rattle.cached_pages.specs.declared.slots.Early.{Early}
use Rattle.cached_pages.specs.declared.slots.Early.TheVariants.{Free, Written, Settled}

-- the block of a slot, if it is of one
abbrev pub owner_of : Early → Option ℕ
owner_of Free = None
owner_of (Written b) = Some b.0
owner_of (Settled b) = Some b.0

-- the block of a slot has that slot as its hint, so that no other slot is of it
abbrev pub HaveHints : List Early → List ℕ → Type 0
HaveHints slots hints = (s b : ℕ) → owner_of (slice_index_or slots s Free) ≡ Some b → (b < length hints) × (slice_index hints b ≡ s)
