-- Which entries have stale pages: pages of data whose block no node has.
use Rattle.std.specs.Prelude.{◌≡◌, ℕ, Bool, true, false, List, length, slice_index_or}
use Rattle.rio_model.specs.Placed.{Layout, Owned}
use Rattle.rio_model.specs.Registry.{IsValid, frames_of, is_data, tag_at, tag_block}

-- the page of entry k is stale
pub record IsStale (l : Layout) (words : List ℕ) (k : ℕ) : Type 0 where
  pub valid : IsValid words k
  pub of_data : is_data (tag_at words k) ≡ true
  pub nobodys : ¬ Owned l (tag_block (tag_at words k))

-- the page of entry k is of data, and some node has its block
pub record IsOfNode (l : Layout) (words : List ℕ) (k : ℕ) : Type 0 where
  pub of_data : is_data (tag_at words k) ≡ true
  pub owned : Owned l (tag_block (tag_at words k))

-- a mark says whether the page of entry k is stale
pub record SaysStale (l : Layout) (words : List ℕ) (k : ℕ) (mark : Bool) : Type 0 where
  pub stale : mark ≡ true → IsStale l words k
  pub owned : mark ≡ false → IsValid words k → is_data (tag_at words k) ≡ true → Owned l (tag_block (tag_at words k))

-- there is such a mark for each entry
pub record MarksStale (l : Layout) (words : List ℕ) (marks : List Bool) : Type 0 where
  pub count : length marks ≡ frames_of words
  pub each : (k : ℕ) → SaysStale l words k (slice_index_or marks k false)
