-- Places of memory under a cache.
use Rattle.std.specs.Prelude.{◌≡◌, ℕ, ◌+◌, ◌<◌, ◌≤◌, length}
use Rattle.std.proofs.Common.{arith}
use Rattle.rio_base.specs.Image.{registry_pages}
use Rattle.rio_base.specs.Machine.{Contents, Running}
use Rattle.cached_pages.specs.Caches.{CacheSound}
use Rattle.cached_pages.specs.declared.tables.CacheTables.{CacheTables}

some_pages : (frames : ℕ) → 32 ≤ frames → 1 ≤ registry_pages frames
unfolding registry_pages
some_pages frames least = omega (arith, least)

-- there are at least 51 pages: those of 32 frames and one scratch page
pub place_within : (c : Contents) (r : Running) (t : CacheTables) (at : ℕ) → CacheSound c (length r.scratch) t → r.protected ≡ length c.words → at < 26112 → at < r.protected + length r.scratch
place_within c r t at s same less =
    let sizes = s.coherent.sizes in
    omega (arith, less, same, s.coherent.protected, s.coherent.scratch_pages, sizes.least_frames, sizes.least_scratch, some_pages _ sizes.least_frames)
