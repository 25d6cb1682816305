-- Frames that are no longer pinned, and counts of pins.
use Rattle.cached_pages.proofs.Common.{◌≡◌, ◌≢◌, ℕ, suc, ◌<◌, ◌≤◌, Bool, true, false, ◌⊎◌, slice_index, refl, inl, inr, cases_Bool, Contents, gate_of, FramePool, frames_in, is_pinned, pins_in}
use Rattle.std.specs.Prelude.{zero}
use Rattle.frame_pool.specs.Orders.{count_below}
use Rattle.cached_pages.specs.declared.tables.CacheTables.{CacheTables}
use Rattle.cached_pages.specs.Caches.{CacheSound}
use Rattle.cached_pages.specs.Updating.{SameButPins}

count_none : (t : ℕ → Bool) (n : ℕ) → ((k : ℕ) → t k ≡ false) → count_below t n ≡ 0
unfolding count_below
count_none t zero none = refl
count_none t (suc n) none = rw (none n, count_none t n none) refl

pub no_pins : (p : FramePool) → ((k : ℕ) → is_pinned p k ≡ false) → pins_in p ≡ 0
no_pins p none = count_none (is_pinned p) (frames_in p) none

-- outside an update nothing is pinned
pub shut_unpinned : (n k : ℕ) (c : Contents) (t : CacheTables) → CacheSound c n t → gate_of c.words ≢ 1 → is_pinned t.pool k ≡ false
shut_unpinned n k c t s shut = from (cases_Bool (is_pinned t.pool k))
  where
    from : (is_pinned t.pool k ≡ true) ⊎ (is_pinned t.pool k ≡ false) → is_pinned t.pool k ≡ false
    from (inl e) = absurd (shut (s.pinned k e).0)
    from (inr e) = e

pub pins_refl : (t : CacheTables) → SameButPins t t
pins_refl t = record { frames = refl; blocks = refl; held = λ k. refl; forgotten = refl; early = refl; buffer = refl; first = refl; room = refl }

-- frame k is one of those that were given a shadow, from place i on
pub record ListedFrom (t : CacheTables) (i k : ℕ) : Type 0 where
  pub place : ℕ
  pub from : i ≤ place
  pub within : place < t.shadows
  pub here : slice_index t.shadowed place ≡ k
