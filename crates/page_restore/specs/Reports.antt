-- What the counts of a report say, of memory and disk as the reboot found them.
use Rattle.std.specs.Prelude.{◌≡◌, ◌⊎◌, ℕ, ◌<◌, Bool, true, false, filter, length}
use Rattle.std.specs.List.{range_with_len}
use Rattle.rio_base.specs.Machine.{Contents}
use Rattle.rio_model.specs.Placed.{Layout}
use Rattle.rio_model.specs.Registry.{IsValid, frames_of, is_data, is_dirty, tag_at}
use Rattle.rio_model.specs.Standing.{IsHome}
use Rattle.page_restore.specs.Stale.{IsOfNode, IsStale}
use Rattle.page_restore.specs.declared.kinds.PageCounts.{PageCounts}

-- so many of the numbers below `most` are such
pub record AreSoMany (is_such : ℕ → Type 0) (most n : ℕ) : Type 0 where
  pub test : ℕ → Bool
  pub sure : (k : ℕ) → k < most → test k ≡ true → is_such k
  pub all : (k : ℕ) → k < most → is_such k → test k ≡ true
  pub count : n ≡ length (filter test (range_with_len 0 most))

-- the disk may not have the page that counts for entry k: the entry is dirty, or the page is not the disk's block
pub record IsUnsaved (c : Contents) (k : ℕ) : Type 0 where
  pub valid : IsValid c.words k
  pub unsaved : (is_dirty (tag_at c.words k) ≡ true) ⊎ ¬ IsHome c k

-- of these the pages of metadata and those that some node has are written, and the stale ones are not
pub record CountsPages (l : Layout) (c : Contents) (counts : PageCounts) : Type 0 where
  pub meta : AreSoMany (λ k. IsUnsaved c k × (is_data (tag_at c.words k) ≡ false)) (frames_of c.words) counts.meta
  pub pages : AreSoMany (λ k. IsUnsaved c k × IsOfNode l c.words k) (frames_of c.words) counts.pages
  pub stale : AreSoMany (λ k. IsUnsaved c k × IsStale l c.words k) (frames_of c.words) counts.stale
