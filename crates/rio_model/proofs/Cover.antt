-- Names of cached blocks, and the gate as it is stored.
use Rattle.rio_model.proofs.Common.{slice_index, Some, Contents}
use Rattle.std.specs.Prelude.{◌≡◌, ◌≢◌, ℕ, ◌<◌, ◌≤◌, true, List, Option}
use Rattle.rio_base.specs.declared.places.PageName.{PageName}
use Rattle.rio_model.specs.Registry.{gate_of}
use Rattle.rio_model.specs.Cover.{entry_of_block, reads, is_loose, Coherent, name_in}

-- each block that has an entry is one of so many, and may bear the entry's name. `bears` says which names
pub record Named (words : List ℕ) (count : ℕ) (bears : ℕ → Option PageName → Type 0) : Type 0 where
  pub each : (b k : ℕ) → entry_of_block words b ≡ Some k → (b < count) × bears b (name_in words (Some k))

-- ---- the gate

-- the gate is stored: what reads stays, and so do all words of the header but the gate
pub record Turns (value : ℕ) (old new : Contents) : Type 0 where
  pub reads : reads new ≡ reads old
  pub firm : (b : ℕ) → is_loose new b ≡ true → is_loose old b ≡ true
  pub coherent : (n : ℕ) → Coherent old n → Coherent new n
  pub header : (i : ℕ) → i < 512 → i ≢ 4 → slice_index new.words i ≡ slice_index old.words i
  pub gate : gate_of new.words ≡ value
  -- no entry changes, so none is found otherwise and none has another name
  pub entries : (i : ℕ) → 512 ≤ i → slice_index new.words i ≡ slice_index old.words i
