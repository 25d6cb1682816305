-- In which order blocks were used, which of them leaves for another, and which entries become dirty.
use Rattle.std.specs.Prelude.{◌≡◌, ◌≢◌, ◌⊎◌, ℕ, true, List, Option, Some, None, is_some}
use Rattle.frame_pool.specs.Orders.{freed_first, used_last, without}
use Rattle.frame_pool.specs.Pools.{least_recent, order_of}
use Rattle.rio_model.specs.Cover.{entry_of_block}
use Rattle.rio_model.specs.Registry.{is_dirty, tag_at}
use Rattle.cached_pages.specs.declared.tables.CacheTables.{CacheTables}

-- block b is cached, and was used last; the others stay in their order of use
pub record UsedLast (b : ℕ) (words : List ℕ) (t u : CacheTables) : Type 0 where
  pub frame : ℕ
  pub found : entry_of_block words b ≡ Some frame
  pub order : order_of u.pool ≡ used_last frame (order_of t.pool)

-- a block that left the cache was in the frame that was used least recently of those that aren't pinned
pub record LeavesOldest (t : CacheTables) (old new : List ℕ) : Type 0 where
  pub left : (c k : ℕ) → entry_of_block old c ≡ Some k → entry_of_block new c ≡ None → least_recent t.pool ≡ Some k

-- no block left but that of frame k
pub record LeavesFrame (k : ℕ) (old new : List ℕ) : Type 0 where
  pub left : (c j : ℕ) → entry_of_block old c ≡ Some j → entry_of_block new c ≡ None → j ≡ k

-- each cached block is still in its frame
pub record AllStay (old new : List ℕ) : Type 0 where
  pub stay : (c k : ℕ) → entry_of_block old c ≡ Some k → entry_of_block new c ≡ Some k

-- each cached block but b is still in its frame
pub record OthersStay (b : ℕ) (old new : List ℕ) : Type 0 where
  pub stay : (c k : ℕ) → c ≢ b → entry_of_block old c ≡ Some k → entry_of_block new c ≡ Some k

-- the frames but k stay in their order of use
pub record SameOrderBut (k : ℕ) (t u : CacheTables) : Type 0 where
  pub others : without k (order_of u.pool) ≡ without k (order_of t.pool)

-- frames in order of use, after this one became free, if one did: it is to be used first
abbrev pub freed_order : Option ℕ → List ℕ → List ℕ
freed_order None frames = frames
freed_order (Some k) frames = freed_first k frames

-- the order of use is as before, or the frame to be used next was freed, and is the first
pub record FreesNext (t u : CacheTables) : Type 0 where
  pub order : (order_of u.pool ≡ order_of t.pool) ⊎ (order_of u.pool ≡ freed_order (least_recent t.pool) (order_of t.pool))

-- the order of use after a call that failed: where block b is cached, it was used last; where it isn't, a frame was freed for
-- it at most
pub record FailedUse (b : ℕ) (words : List ℕ) (t u : CacheTables) : Type 0 where
  pub came : is_some (entry_of_block words b) ≡ true → UsedLast b words t u
  pub missed : entry_of_block words b ≡ None → FreesNext t u

-- no entry is dirty that wasn't, but that of this block, if one is named: a dirty entry of another block was this block's
-- before, and dirty
pub record DirtiesOnly (block : Option ℕ) (old new : List ℕ) : Type 0 where
  pub was : (c k : ℕ) → block ≢ Some c → entry_of_block new c ≡ Some k → is_dirty (tag_at new k) ≡ true → (entry_of_block old c ≡ Some k) × (is_dirty (tag_at old k) ≡ true)
