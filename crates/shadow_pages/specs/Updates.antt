-- An update of several pages that counts at once: what each call of it makes of memory.
use Rattle.std.specs.Prelude.{◌≡◌, ◌≢◌, ℕ, ◌<◌, ◌⊎◌, List, length, slice_index, Some}
use Rattle.rio_base.specs.Machine.{Contents}
use Rattle.rio_model.specs.Registry.{IsValid, frames_of, gate_of, shadow_at}
use Rattle.rio_model.specs.Cover.{entry_of_block, reads, stands}

-- ---- the entries that a caller lists

-- each listed number is that of an entry, valid or not
abbrev pub AreEntries : List ℕ → List ℕ → Type 0
AreEntries words listed = (i : ℕ) → i < length listed → slice_index listed i < frames_of words

-- every valid entry with a shadow is listed
abbrev pub ListsShadows : List ℕ → List ℕ → Type 0
ListsShadows words listed = (k : ℕ) → IsValid words k → shadow_at words k ≢ 0 → (i : ℕ) × (i < length listed) × (slice_index listed i ≡ k)

-- no valid entry has a shadow
abbrev pub AreBare : List ℕ → Type 0
AreBare words = (k : ℕ) → IsValid words k → shadow_at words k ≡ 0

-- every entry has the shadow that it had
abbrev pub SameShadows : List ℕ → List ℕ → Type 0
SameShadows old new = (k : ℕ) → k < frames_of old → shadow_at new k ≡ shadow_at old k

-- every entry has the shadow that it had, or none
abbrev pub LosesShadows : List ℕ → List ℕ → Type 0
LosesShadows old new = (k : ℕ) → k < frames_of old → (shadow_at new k ≡ shadow_at old k) ⊎ (shadow_at new k ≡ 0)

-- the valid entry of block b, if it has one, has no shadow
abbrev pub IsUnshadowed : List ℕ → ℕ → Type 0
IsUnshadowed words b = (k : ℕ) → entry_of_block words b ≡ Some k → shadow_at words k ≡ 0

-- ---- what the calls do

-- an update is open, and has no shadow yet: what read reads, and stands
pub record Opened (old new : Contents) : Type 0 where
  pub stands : stands new ≡ reads old
  pub reads : reads new ≡ reads old
  pub gate : gate_of new.words ≡ 1
  pub bare : AreBare new.words

-- the update counts: what read reads, and stands
pub record Committed (old new : Contents) : Type 0 where
  pub stands : stands new ≡ reads old
  pub reads : reads new ≡ reads old
  pub gate : gate_of new.words ≡ 0

-- the update is gone: what stood stands, and reads
pub record Undone (old new : Contents) : Type 0 where
  pub reads : reads new ≡ stands old
  pub stands : stands new ≡ stands old
  pub gate : gate_of new.words ≡ 0
