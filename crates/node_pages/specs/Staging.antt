-- Blocks that no node uses: they are made zero and named before a node takes them, and are not cached once a node has left
-- them.
use Rattle.std.specs.Prelude.{◌≡◌, ℕ, ◌+◌, ◌-◌, ◌*◌, ◌<◌, ◌==◌, ◌||◌, min, nat_le, if◌then◌else◌, true, false, List, slice_index, Option, Some, None}
use Rattle.rio_base.specs.declared.places.PageName.{PageName}
use Rattle.rio_base.specs.BlockSets.{CachesBy, FirmOutside, SameOutside}
use Rattle.rio_base.specs.Blocks.{Seen}
use Rattle.rio_base.specs.Volume.{Kept}
use Rattle.rio_base.specs.NodeKinds.{dir_kind}
use Rattle.rio_model.specs.Placed.{Layout, Owned}

-- nothing differs outside a set of blocks: no word, read or standing, no block is loose there that was not, and none is
-- newly cached
pub record Beside (inside : ℕ → Type 0) (x : Seen) (k : Kept) (y : Seen) (j : Kept) : Type 0 where
  pub count : y.count ≡ x.count
  pub words : SameOutside inside x.words y.words
  pub standing : SameOutside inside k.standing j.standing
  pub firm : FirmOutside inside k j
  pub caches : CachesBy (λ b name. inside b) x y

-- the name of the t-th block that a node takes: of page first + t, and none for a directory's, and behind the pages, where
-- it is a table
abbrev pub taken_name : ℕ → ℕ → ℕ → ℕ → ℕ → ℕ → Option PageName
taken_name i kind first count len t = if (kind == dir_kind) || nat_le count t then None else Some (record { file = record { 0 = i }; index = first + t; size = min 4096 (len - 4096 * (first + t)) })

-- the first n of these blocks read as zeros, are not loose, and bear these names where they are cached
pub record Zeroed (taken : List ℕ) (name : ℕ → Option PageName) (n : ℕ) (y : Seen) (j : Kept) : Type 0 where
  pub zeros : (t w : ℕ) → t < n → y.words (slice_index taken t) w ≡ 0
  pub firm : (t : ℕ) → t < n → j.loose (slice_index taken t) ≡ false
  pub named : (t : ℕ) → t < n → y.cached (slice_index taken t) ≡ true → y.names (slice_index taken t) ≡ name t

-- ---- blocks that nothing uses any more

-- no block of these is cached
abbrev pub Uncached : (ℕ → Type 0) → Seen → Type 0
Uncached inside y = (b : ℕ) → inside b → y.cached b ≡ false

-- no block is cached that some node had, and none has any more. l is the layout before the call, m after it
abbrev pub Forgets : Layout → Layout → Seen → Type 0
Forgets l m y = Uncached (λ b. Owned l b × (Owned m b → ⊥)) y
