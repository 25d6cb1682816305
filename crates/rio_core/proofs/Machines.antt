-- The machine of a core: memory and disk stand for what a stop leaves of the state that the core holds.
use Rattle.std.proofs.Common.{◌≡◌, ◌+◌, ◌*◌, ℕ, false, [], length, sym, subst, ap, ◌∙◌}
use Rattle.rio_base.specs.declared.places.VolumeShape.{VolumeShape}
use Rattle.rio_base.specs.Blocks.{Health, Seen}
use Rattle.rio_base.specs.Machine.{Contents, Running}
use Rattle.rio_base.specs.Volume.{Below, Kept, Settled}
use Rattle.rio_model.specs.declared.state.State.{State}
use Rattle.rio_model.specs.Held.{held_of}
use Rattle.rio_model.specs.Standing.{StandsFor}
use Rattle.rio_model.specs.Undo.{undo_records}
use Rattle.rio_model.specs.VolumeReads.{ReadsAs}
use Rattle.rio_model.specs.VolumeReady.{Ready, StandsReady}
use Rattle.rio_model.proofs.StandingStates.{HasSizes, TellsEntries, stands_for_ready, stands_for_standing}
use Rattle.rio_requests.specs.Crash.{crashed}
use Rattle.request_ends.specs.Ends.{Stands}
use Rattle.vista_region.specs.Marks.{Marks}
use Rattle.cached_pages.specs.Caches.{Tells, cache_below, cache_health, cache_kept, cache_seen}
use Rattle.cached_pages.specs.declared.tables.CacheTables.{CacheTables}
use Rattle.rio_core.specs.Serving.{Holds}
use Rattle.rio_core.proofs.Recoveries.{recovered_held}
use Rattle.rio_core.proofs.RegionEnds.{held_serves}
use Rattle.rio_core.proofs.Sizes.{FitsMemory}

-- ---- a core over a cache in which no region has an undo record

pub recovered_holds : (shape : VolumeShape) (c : Contents) (r : Running) (t : CacheTables) (s : State) → ReadsAs shape (cache_seen c).words s → Ready shape (cache_seen c) (cache_kept c t)
    → ((i : ℕ) → (held_of shape (cache_seen c).words i).kind ≡ 3 → undo_records (held_of shape (cache_seen c).words i).word ≡ [])
    → r.stopped ≡ false → 512 * s.pages ≡ r.protected + length r.scratch → 512 * s.scratch ≡ length r.scratch
    → Holds shape (cache_seen c) (cache_kept c t) (cache_health c r) (cache_below c r) [] s
recovered_holds shape c r t s reads ready recovered running pages scratch = record {
  serves = held_serves shape (cache_seen c) (cache_kept c t) [] s ready (recovered_held shape (cache_seen c).words s reads recovered);
  running = running;
  pages = pages;
  scratch = scratch;
}

-- the state that it holds fits memory
pub holds_fits : (shape : VolumeShape) (x : Seen) (k : Kept) (h : Health) (b : Below) (marks : Marks) (s : State) → Holds shape x k h b marks s → s.shape.version ≡ 1 → FitsMemory s b
holds_fits shape x k h b marks s holds version = record { version = version; pages = holds.pages; scratch = holds.scratch }

-- ---- its machine

entries_told : (c : Contents) (r : Running) (x : Seen) (h : Health) (b : Below) (k : Kept) → Tells c r x h b k → TellsEntries c x
entries_told c r x h b k tells = record { cached = tells.cached; names = tells.names; count = tells.count }

sizes_told : (c : Contents) (r : Running) (x : Seen) (h : Health) (b : Below) (k : Kept) (u : State) → r.protected ≡ length c.words → Tells c r x h b k → FitsMemory u b → HasSizes c (length r.scratch) (crashed u)
sizes_told c r x h b k u size tells fits = record {
  version = fits.version;
  pages = fits.pages ∙ ap (λ (q : Below). q.memory.protected + q.memory.scratch) tells.below ∙ ap (λ n. n + length r.scratch) size;
  scratch = fits.scratch ∙ ap (λ (q : Below). q.memory.scratch) tells.below;
}

-- of a core that holds a state
pub stands_held : (c : Contents) (r : Running) (shape : VolumeShape) (x : Seen) (h : Health) (b : Below) (k : Kept) (marks : Marks) (u : State) → Settled x k → r.protected ≡ length c.words → Tells c r x h b k → FitsMemory u b → Holds shape x k h b marks u → StandsFor c (length r.scratch) (crashed u)
stands_held c r shape x h b k marks u settled size tells fits holds =
    stands_for_ready c (length r.scratch) (crashed u) x k tells.stands_as (entries_told c r x h b k tells) (sizes_told c r x h b k u size tells fits) settled
    (subst (λ (sh : VolumeShape). Ready sh x k) (sym holds.serves.reads.sizes) holds.serves.ready)
    (subst (λ (sh : VolumeShape). ReadsAs sh x.words (crashed u)) (sym holds.serves.reads.sizes) holds.serves.reads)

-- of one that was stopped
pub stands_stopped : (c : Contents) (r : Running) (shape : VolumeShape) (x : Seen) (h : Health) (b : Below) (k : Kept) (u : State) → r.protected ≡ length c.words → Tells c r x h b k → FitsMemory u b → Stands shape x k (crashed u) → StandsFor c (length r.scratch) (crashed u)
stands_stopped c r shape x h b k u size tells fits stands =
    stands_for_standing c (length r.scratch) (crashed u) x k tells.stands_as (entries_told c r x h b k tells) (sizes_told c r x h b k u size tells fits)
    (subst (λ (sh : VolumeShape). StandsReady sh x k) (sym stands.reads.sizes) stands.ready)
    (subst (λ (sh : VolumeShape). ReadsAs sh k.standing (crashed u)) (sym stands.reads.sizes) stands.reads)
