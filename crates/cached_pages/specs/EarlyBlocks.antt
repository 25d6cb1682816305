-- Which blocks were written before their pages leave, as which words, and of which of them nothing is pending.
use Rattle.std.specs.Prelude.{◌≡◌, ◌⊎◌, ℕ, ◌+◌, ◌*◌, ◌<◌, Bool, true, false, List, slice_index, slice_index_or, Some}
use Rattle.rio_base.specs.Disks.{is_pending}
use Rattle.rio_model.specs.Cover.{home_word}
use Rattle.cached_pages.specs.declared.slots.Early.{Early}
use Rattle.cached_pages.specs.declared.slots.Early.TheVariants.{Free, Written, Settled}
use Rattle.cached_pages.specs.declared.slots.EarlyWrites.{EarlyWrites}
pub use Rattle.cached_pages.specs.EarlySlots.{owner_of}

abbrev pub is_settled_slot : Early → Bool
is_settled_slot Free = false
is_settled_slot (Written b) = false
is_settled_slot (Settled b) = true

abbrev pub slot_at : EarlyWrites → ℕ → Early
slot_at e s = slice_index_or e.slots s Free

-- block b is these words, as the disk reads
abbrev pub HasWords : List ℕ → List (List ℕ) → ℕ → Type 0
HasWords words disk b = (w : ℕ) → w < 512 → slice_index words w ≡ home_word disk b w

-- what is known is so of this disk
pub record Knows (disk : List (List ℕ)) (pending : List Bool) (e : EarlyWrites) : Type 0 where
  pub same : (s b w : ℕ) → owner_of (slot_at e s) ≡ Some b → w < 512 → slice_index e.words.items (512 * s + w) ≡ home_word disk b w
  pub settled : (s b : ℕ) → owner_of (slot_at e s) ≡ Some b → is_settled_slot (slot_at e s) ≡ true → is_pending pending b ≡ false

-- nothing is known: it is so of any disk
abbrev pub KnowsNone : EarlyWrites → Type 0
KnowsNone e = (disk : List (List ℕ)) → (pending : List Bool) → Knows disk pending e

-- no more is known than was
pub record LosesSome (old new : EarlyWrites) : Type 0 where
  pub words : new.words ≡ old.words
  pub slots : (s : ℕ) → (slot_at new s ≡ slot_at old s) ⊎ (slot_at new s ≡ Free)

-- the same blocks are known, and some more as settled
pub record SettlesAll (old new : EarlyWrites) : Type 0 where
  pub words : new.words ≡ old.words
  pub owners : (s : ℕ) → owner_of (slot_at new s) ≡ owner_of (slot_at old s)
