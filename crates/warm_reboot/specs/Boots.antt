-- What a reboot keeps of the state that memory and disk stood for, and the cache that it starts.
use Rattle.std.specs.Prelude.{◌≡◌, ℕ, Bool, true, false, List, length}
use Rattle.rio_base.specs.Blocks.{Seen}
use Rattle.rio_base.specs.Failures.{Rose}
use Rattle.rio_base.specs.declared.failures.VolFail.{VolFail}
use Rattle.rio_base.specs.declared.failures.VolFail.TheVariants.{Fault, Stopped}
use Rattle.rio_base.specs.Machine.{Contents, Running}
use Rattle.rio_base.specs.Volume.{Kept}
use Rattle.rio_model.specs.declared.state.State.{State}
use Rattle.rio_model.specs.Cover.{stands}
use Rattle.rio_model.specs.Held.{held_of}
use Rattle.rio_model.specs.Placed.{volume_layout}
use Rattle.rio_model.specs.Standing.{Sound, StandsFor, StandsWith}
use Rattle.rio_model.specs.VolumeFails.{SaysShape}
use Rattle.rio_model.specs.VolumeReads.{ReadsAs}
use Rattle.rio_model.specs.VolumeReady.{Ready}
use Rattle.page_restore.specs.Stale.{MarksStale}

-- ---- what memory and disk stand for

-- memory and disk stand for this state, with the disk as it reads. It has as many blocks as the disk
pub record StandsNow (c : Contents) (s : State) : Type 0 where
  pub says : SaysShape (stands c) (length c.disk) s.shape
  pub reads : StandsWith c s c.disk

-- the marks are of the entries with stale pages, whatever state memory and disk stand for. Memory has n words of scratch
abbrev pub AreMarked : Contents → ℕ → List Bool → Type 0
AreMarked c n marks = (s : State) → StandsFor c n s → MarksStale (volume_layout s.shape (stands c)) c.words marks

-- whatever state memory and disk stood for they stand for still, and they are sound where they were. Memory has n words of
-- scratch, and m afterwards
pub record Survives (old new : Contents) (n m : ℕ) : Type 0 where
  pub state : (s : State) → StandsFor old n s → StandsFor new m s
  pub sound : (s : State) → StandsFor old n s → Sound old s.shape → Sound new s.shape

-- ---- a cache that has started

-- a volume that has just started over what stood: it reads as this state, each inode holds what it held, and it is ready for
-- calls that change it; no block is cached
pub record Starts (c : Contents) (s : State) (x : Seen) (k : Kept) : Type 0 where
  pub reads : ReadsAs s.shape x.words s
  pub held : held_of s.shape x.words ≡ held_of s.shape (stands c)
  pub ready : Ready s.shape x k
  pub bare : (b : ℕ) → x.cached b ≡ false

-- ---- a reboot that was cut off

-- it was cut off: what stood stands, so that it may be made again. After a fault of the disk the machine runs if it ran
abbrev pub IsCutOff : Contents → Running → Contents → Running → VolFail → Type 0
IsCutOff old r new s Fault = Rose old.faults.count new.faults.count × Survives old new (length r.scratch) (length s.scratch) × (s.stopped ≡ r.stopped)
IsCutOff old r new s Stopped = (s.stopped ≡ true) × Survives old new (length r.scratch) (length s.scratch)
