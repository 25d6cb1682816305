-- How a phase of a reboot ends, and which pages it brings to the disk.
use Rattle.std.specs.Prelude.{◌≡◌, ◌≢◌, ℕ, ◌*◌, ◌+◌, ◌<◌, ◌&&◌, ◌⊎◌, not, Bool, true, false, List, None, filter, length, slice_index, slice_index_or}
use Rattle.std.specs.List.{range_with_len}
use Rattle.rio_base.specs.Disks.{block_at}
use Rattle.rio_base.specs.Machine.{Contents, FaultCause, Lasts, Running, StepEnds}
use Rattle.rio_model.specs.Cover.{HeldEntry}
use Rattle.rio_model.specs.Registry.{IsValid, frames_of, is_data, is_dirty, is_valid, page_of_entry, tag_at, tag_block}
use Rattle.rio_model.specs.Standing.{IsHome}
use Rattle.page_restore.specs.declared.kinds.PageKind.{PageKind}
use Rattle.page_restore.specs.declared.kinds.PageKind.TheVariants.{Metadata, Wanted, Stale}

-- ---- ends

-- what a phase leaves so, however it ends: no page is open, lengths stay, and counts do not fall. `fault` is that it answers
-- Fault, `stop` that it answers Stopped
pub record PhaseEnds (old new : Contents) (r s : Running) (fault stop : Type 0) : Type 0 where
  pub closed : new.open_page ≡ None
  pub lasts : Lasts old new
  pub cause : FaultCause old new fault
  pub ends : StepEnds r s stop

-- ---- clean entries whose page differs

-- entry k is as it was, but that it may be dirty now, where its page was not the disk's block
pub record IsMarkedDirty (old new : Contents) (k : ℕ) : Type 0 where
  pub held : HeldEntry k old.words new.words
  pub page : (w : ℕ) → w < 512 → slice_index new.words (512 * page_of_entry new.words k + w) ≡ slice_index old.words (512 * page_of_entry old.words k + w)
  pub still : is_dirty (tag_at old.words k) ≡ true → is_dirty (tag_at new.words k) ≡ true
  pub differs : IsValid old.words k → is_dirty (tag_at new.words k) ≡ true → (is_dirty (tag_at old.words k) ≡ true) ⊎ ¬ IsHome old k

-- ---- dirty pages

-- a dirty page is of this kind, by whether it is of data and marked as stale
abbrev pub is_kind : PageKind → Bool → Bool → Bool
is_kind Metadata of_data stale = not of_data
is_kind Wanted of_data stale = of_data && not stale
is_kind Stale of_data stale = of_data && stale

-- entry k is valid and dirty, and its page is of this kind
abbrev pub is_due : PageKind → List Bool → List ℕ → ℕ → Bool
is_due kind marks words k = is_valid (tag_at words k) && (is_dirty (tag_at words k) && is_kind kind (is_data (tag_at words k)) (slice_index_or marks k false))

-- so many of the first n entries are
unfoldable pub due_before : PageKind → List Bool → List ℕ → ℕ → ℕ
due_before kind marks words n = length (filter (is_due kind marks words) (range_with_len 0 n))

abbrev pub due_count : PageKind → List Bool → List ℕ → ℕ
due_count kind marks words = due_before kind marks words (frames_of words)

-- no block changes but those of such entries
pub record WritesDue (kind : PageKind) (marks : List Bool) (old new : Contents) : Type 0 where
  pub others : (b : ℕ) → ((k : ℕ) → IsValid old.words k → is_due kind marks old.words k ≡ true → tag_block (tag_at old.words k) ≢ b) → block_at new.disk b ≡ block_at old.disk b
