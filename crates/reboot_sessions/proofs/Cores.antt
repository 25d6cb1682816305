-- A cache that has just been booted, as a core: it holds the state that memory and disk stood for.
use Rattle.std.specs.Prelude.{◌≡◌, ℕ, ◌+◌, [], false, length}
use Rattle.std.proofs.Common.{sym, subst, arith}
use Rattle.rio_base.specs.declared.places.VolumeShape.{VolumeShape}
use Rattle.rio_base.specs.Blocks.{BlockWords, Seen}
use Rattle.rio_base.specs.Image.{registry_pages}
use Rattle.rio_base.specs.Machine.{Contents, Running}
use Rattle.rio_base.specs.Volume.{Kept}
use Rattle.rio_model.specs.declared.state.State.{State}
use Rattle.rio_model.specs.Registry.{frames_of, scratch_of}
use Rattle.rio_model.specs.VolumeReads.{ReadsAs}
use Rattle.rio_model.specs.VolumeReady.{Ready}
use Rattle.rio_model.specs.VolumeRules.{TreeRule}
use Rattle.rio_model.proofs.StateSteps.{walk_kept}
use Rattle.cached_pages.specs.declared.tables.CacheTables.{CacheTables}
use Rattle.cached_pages.specs.Caches.{CacheSound, cache_below, cache_health, cache_kept, cache_seen}
use Rattle.region_recovery.specs.RegionLists.{AreRecovered}
use Rattle.rio_core.specs.Serving.{Holds, Serves}
use Rattle.rio_core.proofs.Recoveries.{recovered_held}
use Rattle.rio_core.proofs.RegionEnds.{held_serves}
use Rattle.warm_reboot.specs.declared.report.BootReport.{BootReport}
use Rattle.warm_reboot.specs.Reboots.{Booted}

-- ---- other sizes of memory

with_memory : State → ℕ → ℕ → State
with_memory s pages scratch = record s { pages = pages; scratch = scratch }

tree_memory : (s : State) (pages scratch : ℕ) → TreeRule s → TreeRule (with_memory s pages scratch)
unfolding with_memory
tree_memory s pages scratch h = record {
  root = h.root;
  one = h.one;
  reached = λ i some. (let way = h.reached i some in (way.0, walk_kept s (with_memory s pages scratch) (record { dirs = λ x e. e; names = λ k v e. e }) way.0 1 i way.1));
}

-- the same nodes and names are read, whatever they are
reads_memory : (shape : VolumeShape) (f : BlockWords) (s : State) (pages scratch : ℕ) → ReadsAs shape f s → ReadsAs shape f (with_memory s pages scratch)
unfolding with_memory
reads_memory shape f s pages scratch h = record {
  sizes = h.sizes;
  mapped = h.mapped;
  entries = h.entries;
  apart = h.apart;
  tree = tree_memory s pages scratch h.tree;
  regions = h.regions;
  reads = record { nodes = h.reads.nodes; entries = h.reads.entries; names = h.reads.names; idle = h.reads.idle };
}

-- ---- the core

serves : (shape : VolumeShape) (x : Seen) (k : Kept) (s : State) (pages scratch : ℕ) → ReadsAs shape x.words s → Ready shape x k → AreRecovered shape x.words → Serves shape x k [] (with_memory s pages scratch)
serves shape x k s pages scratch reads ready recovered = held_serves shape x k [] (with_memory s pages scratch) ready (recovered_held shape x.words (with_memory s pages scratch) (reads_memory shape x.words s pages scratch reads) recovered)

pub booted_holds : (was c : Contents) (r : Running) (t : CacheTables) (s : State) (report : BootReport) → CacheSound c (length r.scratch) t → r.protected ≡ length c.words → r.stopped ≡ false → Booted was s report (cache_seen c) (cache_kept c t)
    → (u : State) × Holds report.shape (cache_seen c) (cache_kept c t) (cache_health c r) (cache_below c r) [] u
unfolding with_memory
booted_holds was c r t s report sound protected running h = (
  with_memory s pages (scratch_of c.words),
  record {
    serves = subst (λ (shape : VolumeShape). Serves shape (cache_seen c) (cache_kept c t) [] (with_memory s pages (scratch_of c.words))) (sym h.shape) (serves s.shape (cache_seen c) (cache_kept c t) s pages (scratch_of c.words) h.reads h.ready h.recovered);
    running = running;
    pages = let words = sound.coherent.protected in let scratch = sound.coherent.scratch_pages in omega (arith, protected, words, scratch);
    scratch = let scratch = sound.coherent.scratch_pages in omega (arith, scratch);
  },
)
  where
    pages : ℕ
    pages = 17 + registry_pages (frames_of c.words) + frames_of c.words + scratch_of c.words

-- what is so of a shape, a volume and a table is so of those that are equal to them
pub carried : {V T : Type 0} (shape was : VolumeShape) (v u : V) (t s : T) → shape ≡ was → v ≡ u → t ≡ s → (so : VolumeShape → V → T → Type 0) → so was u s → so shape v t
carried shape was v u t s a b c so h = subst (λ x. so x v t) (sym a) (subst (λ x. so was x t) (sym b) (subst (λ x. so was u x) (sym c) h))
