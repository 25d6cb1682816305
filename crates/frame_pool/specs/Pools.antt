-- What callers see of a frame pool.
use Rattle.std.specs.Prelude.{◌≡◌, ◌≢◌, ℕ, ◌<◌, Bool, false, not, ◌⊎◌, List, length, find, Option, Some, None}
use Rattle.frame_pool.specs.declared.frame_pool.FramePool.{FramePool}
use Rattle.frame_pool.specs.Frames.{block_at, order_at, pinned_at}
use Rattle.frame_pool.specs.Orders.{count_below}

-- how many frames there are, and how many blocks they may have
abbrev pub frames_in : FramePool → ℕ
frames_in p = p.count

abbrev pub blocks_in : FramePool → ℕ
blocks_in p = length p.table.items

-- the block of frame k, if it isn't free
abbrev pub block_of : FramePool → ℕ → Option ℕ
block_of p k = block_at p.frames.items k

abbrev pub is_pinned : FramePool → ℕ → Bool
is_pinned p k = pinned_at p.frames.items k

-- how many frames are pinned
abbrev pub pins_in : FramePool → ℕ
pins_in p = count_below (is_pinned p) (frames_in p)

-- all frames, the one that was used least recently first; the free ones stand before the others
abbrev pub order_of : FramePool → List ℕ
order_of p = order_at p.frames.items p.count

abbrev pub NoneFree : FramePool → Type 0
NoneFree p = (j : ℕ) → j < frames_in p → block_of p j ≢ None

-- of the frames that aren't pinned, the one that was used least recently
abbrev pub least_recent : FramePool → Option ℕ
least_recent p = find (λ j. not (is_pinned p j)) (order_of p)

-- frame k is to be used next: of the frames that aren't pinned, the one that was used least recently. It is free, unless
-- none is
pub record IsVictim (p : FramePool) (k : ℕ) : Type 0 where
  pub within : k < frames_in p
  pub unpinned : is_pinned p k ≡ false
  pub first : least_recent p ≡ Some k
  pub free : (block_of p k ≡ None) ⊎ NoneFree p
