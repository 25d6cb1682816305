-- The steps that an update is made of.
use Rattle.std.specs.Prelude.{◌≡◌, ◌≢◌, ℕ, ◌+◌, ◌*◌, ◌<◌, ◌≤◌, ◌⊎◌, false, List, slice_index, None}
use Rattle.rio_base.specs.Image.{registry_pages}
use Rattle.rio_base.specs.Machine.{Contents, Lasts}
use Rattle.rio_model.specs.Cover.{Keeps, SameNames, frame_page}
use Rattle.rio_model.specs.CoverChanges.{SameEntries}
use Rattle.rio_model.specs.Registry.{IsValid, frames_of, gate_of, is_data, page_of_entry, shadow_at, tag_at}
use Rattle.shadow_pages.specs.Updates.{LosesShadows}

-- nothing but words of protected memory changes, and no page is open before or after
pub record StoresWords (old new : Contents) : Type 0 where
  pub rest : new ≡ record old { words = new.words }
  pub was_closed : old.open_page ≡ None
  pub closed : new.open_page ≡ None
  pub lasts : Lasts old new

-- ---- shadows are given

-- entry k may be given shadow s
pub record CanShadow (k s : ℕ) (words : List ℕ) : Type 0 where
  pub valid : IsValid words k
  pub metadata : is_data (tag_at words k) ≡ false
  pub bare : shadow_at words k ≡ 0
  pub from : 1 ≤ s
  pub to : s ≤ 16
  pub free : (j : ℕ) → IsValid words j → shadow_at words j ≢ s

-- shadow page s is a copy of frame k
pub record IsCopied (k s : ℕ) (words : List ℕ) : Type 0 where
  pub each : (w : ℕ) → w < 512 → slice_index words (512 * (registry_pages (frames_of words) + s) + w) ≡ slice_index words (512 * frame_page words k + w)

-- ---- shadows are taken away

-- entry k has no shadow, or isn't valid
pub record IsCleared (words : List ℕ) (k : ℕ) : Type 0 where
  pub bare : IsValid words k → shadow_at words k ≡ 0

-- entries lose shadows, and all else is kept
pub record Clears (old new : Contents) : Type 0 where
  pub keeps : Keeps old new
  pub names : SameNames old.words new.words
  pub shadows : LosesShadows old.words new.words
  pub stores : StoresWords old new

-- ---- frames are restored

-- shadow page s counts for entry k
pub record HasShadow (k s : ℕ) (words : List ℕ) : Type 0 where
  pub valid : IsValid words k
  pub updating : gate_of words ≡ 1
  pub shadow : shadow_at words k ≡ s
  pub some : s ≢ 0

-- header and registry stay, and so do the pages that count. A word of a frame is as before, or that of the page that
-- counts for the entry
pub record Restores (old new : List ℕ) : Type 0 where
  pub entries : SameEntries old new
  pub counting : (k w : ℕ) → IsValid old k → w < 512 → slice_index new (512 * page_of_entry old k + w) ≡ slice_index old (512 * page_of_entry old k + w)
  pub frames : (k w : ℕ) → IsValid old k → w < 512 → (slice_index new (512 * frame_page old k + w) ≡ slice_index old (512 * frame_page old k + w)) ⊎ (slice_index new (512 * frame_page old k + w) ≡ slice_index old (512 * page_of_entry old k + w))

-- frame k is as the page that counts for the entry, or the entry isn't valid
pub record IsRestored (words : List ℕ) (k : ℕ) : Type 0 where
  pub each : IsValid words k → (w : ℕ) → w < 512 → slice_index words (512 * frame_page words k + w) ≡ slice_index words (512 * page_of_entry words k + w)
