-- What the calls of an update leave of a cache's tables.
use Rattle.std.specs.Prelude.{◌≡◌, ◌≢◌, ℕ, ◌+◌, ◌<◌, ◌==◌, if◌then◌else◌, List, length, Some}
use Rattle.frame_pool.specs.Pools.{block_of, blocks_in, frames_in}
use Rattle.rio_model.specs.Cover.{entry_of_block, name_in}
use Rattle.rio_model.specs.Registry.{frames_of, shadow_at}
use Rattle.cached_pages.specs.declared.tables.CacheTables.{CacheTables}

-- the tables differ at most in which frames are pinned, in which order frames were used, and in the list of shadows
pub record SameButPins (t u : CacheTables) : Type 0 where
  pub frames : frames_in u.pool ≡ frames_in t.pool
  pub blocks : blocks_in u.pool ≡ blocks_in t.pool
  pub held : (k : ℕ) → block_of u.pool k ≡ block_of t.pool k
  pub forgotten : u.forgotten ≡ t.forgotten
  pub early : u.early ≡ t.early
  pub buffer : u.buffer ≡ t.buffer
  pub first : u.first_frame ≡ t.first_frame
  pub room : length u.shadowed ≡ length t.shadowed

-- the same entries are found, under the same names
pub record SamePages (old new : List ℕ) : Type 0 where
  pub frames : frames_of new ≡ frames_of old
  pub found : (b : ℕ) → entry_of_block new b ≡ entry_of_block old b
  pub named : (k : ℕ) → k < frames_of old → name_in new (Some k) ≡ name_in old (Some k)

-- entry k has a shadow now, if it had none: one more is listed then. No other entry has another shadow
pub record GivesShadow (k : ℕ) (old new : List ℕ) (t u : CacheTables) : Type 0 where
  pub some : shadow_at new k ≢ 0
  pub others : (j : ℕ) → j ≢ k → j < frames_of old → shadow_at new j ≡ shadow_at old j
  pub count : u.shadows ≡ (if shadow_at old k == 0 then t.shadows + 1 else t.shadows)
