-- Where a work on a pair of files begins and where it ends: the state, the machine and the streams.
use Rattle.std.specs.Prelude.{◌≡◌, ◌+◌, ◌*◌, ◌≤◌, ℕ, Bool, false, true, List, length, Option, None}
use Rattle.rio_base.specs.declared.places.VolumeShape.{VolumeShape}
use Rattle.rio_base.specs.Blocks.{Causes, Health}
use Rattle.rio_base.specs.Machine.{Contents, Running}
use Rattle.rio_base.specs.Shapes.{IsServed}
use Rattle.rio_base.specs.Volume.{Below}
use Rattle.rio_model.specs.declared.state.State.{State}
use Rattle.rio_model.specs.VolumeReads.{ReadsAs}
use Rattle.rio_model.specs.VolumeReady.{Ready}
use Rattle.cached_pages.specs.Caches.{cache_below, cache_health, cache_kept, cache_seen}
use Rattle.cached_pages.specs.declared.tables.CacheTables.{CacheTables}
use Rattle.region_recovery.specs.RegionLists.{AreRecovered}

-- what the source has left and what the sink has taken, where that is told, and how many of their calls failed
pub record Streams : Type 0 where
  pub left : Option (List ℕ)
  pub written : Option (List ℕ)
  pub source_faults : ℕ
  pub sink_faults : ℕ

abbrev pub streams_of : Option (List ℕ) → Option (List ℕ) → ℕ → ℕ → Streams
streams_of left written source_faults sink_faults = record { left = left; written = written; source_faults = source_faults; sink_faults = sink_faults }

pub record Scene : Type 0 where
  -- what memory and disk stand for
  pub state : State
  -- the machine
  pub health : Health
  pub below : Below
  pub streams : Streams

-- this state, on a machine
abbrev pub scene_of : State → Contents → Running → Streams → Scene
scene_of s c r streams = record { state = s; health = cache_health c r; below = cache_below c r; streams = streams }

-- a cache as a reboot leaves it: it reads as this state and is ready for calls that change it, no region has an undo record,
-- the machine runs, and the state has its sizes of memory
pub record IsBooted (shape : VolumeShape) (c : Contents) (r : Running) (t : CacheTables) (s : State) : Type 0 where
  pub served : IsServed shape
  pub reads : ReadsAs shape (cache_seen c).words s
  pub ready : Ready shape (cache_seen c) (cache_kept c t)
  pub recovered : AreRecovered shape (cache_seen c).words
  pub running : r.stopped ≡ false
  pub pages : 512 * s.pages ≡ r.protected + length r.scratch
  pub scratch : 512 * s.scratch ≡ length r.scratch

-- what every work leaves so of the machine
pub record LastsBelow (s : Health) (old : Below) (t : Health) (new : Below) : Type 0 where
  pub later : s.faults ≤ t.faults
  pub stays : s.stopped ≡ true → t.stopped ≡ true
  pub written : old.writes ≤ new.writes
  pub roomy : new.roomy ≡ old.roomy
  pub around : new.around ≡ old.around
  pub stop_set : new.causes.stop_set ≡ old.causes.stop_set
  pub protected : new.causes.protected ≡ old.causes.protected
  pub memory : new.memory ≡ old.memory

-- a machine that was made with a stop, or with none, and whose reboot was made, is what is asked for: no store is armed on it
abbrev pub AsksUnarmed : (Causes → Type 0) → Bool → Type 0
AsksUnarmed asks stop_set = (causes : Causes) → causes.stop_set ≡ stop_set → causes.armed ≡ None → asks causes
