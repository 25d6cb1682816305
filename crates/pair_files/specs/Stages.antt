-- What is so between the parts of work on a pair of files.
use Rattle.std.specs.Prelude.{◌≡◌, ◌≢◌, ◌<◌, ◌≤◌, ◌^◌, ◌++◌, ◌⊎◌, ℕ, true, false, List, length, slice_index, Option, None, Some, is_some}
use Rattle.rio_base.specs.Bytes.{bytes_of}
use Rattle.rio_base.specs.Failures.{Rose}
use Rattle.rio_base.specs.Disks.{DiskContents, is_pending}
use Rattle.rio_base.specs.Hosts.{Files, IsFile, with_file}
use Rattle.rio_base.specs.Machine.{Contents, Running}
use Rattle.rio_base.specs.Volume.{Runs}
use Rattle.rio_base.specs.declared.places.Block.{Block}
use Rattle.rio_base.specs.declared.places.VolumeShape.{VolumeShape}
use Rattle.machine_bench.specs.Benches.{left_by}
use Rattle.rio_model.specs.declared.state.State.{State}
use Rattle.rio_model.specs.Cover.{stands}
use Rattle.rio_model.specs.Placed.{volume_layout}
use Rattle.rio_model.specs.Registry.{HasLayout, KeepsRegistry}
use Rattle.rio_model.specs.Standing.{Restored, StandsFor}
use Rattle.cached_pages.specs.Caches.{cache_below, cache_health, is_roomy}
use Rattle.cached_pages.specs.declared.tables.CacheTables.{CacheTables}
use Rattle.warm_reboot.specs.Examining.{TellsNoRule}
use Rattle.warm_reboot.specs.Reboots.{FailsLooked, Unbooted}
use Rattle.warm_reboot.specs.declared.report.BootFail.{BootFail}
use Rattle.pair_files.specs.declared.ends.PairEnd.{PairEnd}
use Rattle.pair_files.specs.declared.ends.PairEnd.TheVariants.{Absent as NoFile, BadImage as NoImage, BadVolume as NoVolume, HostFault, Memory as NoMemory, Unsaved}
use Rattle.pair_files.specs.declared.failures.LoadFail.{LoadFail}
use Rattle.pair_files.specs.declared.failures.LoadFail.TheVariants.{Absent, BadImage, BadLength, Fault, Memory}
use Rattle.pair_files.specs.Ends.{Outcome, Outset}
use Rattle.pair_files.specs.Images.{IsImageOf}
use Rattle.pair_files.specs.Loads.{IsDiskLoaded, IsImageLoaded}
use Rattle.pair_files.specs.Saves.{Leaves, disk_of}
use Rattle.pair_files.specs.Scenes.{IsBooted, Streams}

-- the first block
abbrev pub block_0 : Block
block_0 = record { 0 = 0 }

-- how a work ends where nothing was loaded. That no volume has a disk's length is rule 1 of a volume
abbrev pub end_of : {E : Type 0} → LoadFail → PairEnd E
end_of (Absent file) = NoFile file
end_of (BadImage rule) = NoImage rule
end_of BadLength = NoVolume 1 block_0
end_of (Fault file) = HostFault file
end_of Memory = NoMemory

-- the names, the stop and the streams are these, and the two names are two
pub record IsOf (o : Outset) (image : List ℕ) (streams : Streams) : Type 0 where
  pub image_is : o.image ≡ image
  pub streams_are : o.streams ≡ streams
  pub two : o.image ≢ o.disk

-- the files were loaded
pub record IsFound (o : Outset) (bytes words : List ℕ) (scratch : ℕ) (d : DiskContents) (stop : Option ℕ) : Type 0 where
  pub image : IsImageLoaded o.told o.image bytes words scratch
  pub disk : IsDiskLoaded o.told o.disk d
  pub counted : o.faults ≤ d.faults.count
  pub stop_is : o.stop ≡ stop

-- a machine was made of them
pub record IsMade (o : Outset) (c : Contents) (r : Running) : Type 0 where
  pub bytes : List ℕ
  pub file : IsFile o.told o.image bytes
  pub are : IsImageOf bytes (c.words ++ r.scratch)
  pub layout : HasLayout c.words r.scratch
  pub keeps : KeepsRegistry c.words
  pub disk : IsDiskLoaded o.told o.disk (disk_of c)
  pub counted : o.faults ≤ c.faults.count
  pub running : r.stopped ≡ false
  pub stop_set : r.stop_set ≡ is_some o.stop
  pub unarmed : r.armed ≡ None
  pub untrapped : r.trapped ≡ None

-- its reboot failed
pub record IsFailed (o : Outset) (c : Contents) (r : Running) (fail : BootFail) : Type 0 where
  pub old : Contents
  pub run : Running
  pub made : IsMade o old run
  pub unbooted : Unbooted old run c r fail
  pub looked : FailsLooked old run c r
  pub runs : Runs (cache_health old run) (cache_below old run) (cache_health c r) (cache_below c r)
  pub standing : (s : State) → StandsFor old (length run.scratch) s → TellsNoRule fail

-- its reboot was made, and this is the cache
pub record IsStarted (o : Outset) (shape : VolumeShape) (c : Contents) (r : Running) (t : CacheTables) : Type 0 where
  pub old : Contents
  pub run : Running
  pub made : IsMade o old run
  pub runs : Runs (cache_health old run) (cache_below old run) (cache_health c r) (cache_below c r)
  pub running : r.stopped ≡ false
  pub found : (s : State) × StandsFor old (length run.scratch) s
  pub booted : (s : State) → StandsFor old (length run.scratch) s → IsBooted shape c r t s
  pub restored : is_roomy old ≡ true → Restored (volume_layout shape (stands old)) old.words old.disk c.disk
  pub synced : is_roomy old ≡ true → (b : ℕ) → is_pending c.pending b ≡ false

-- the machine was taken back and its image saved
pub record SavedAs (o : Outset) (c : Contents) (r : Running) (x : Outcome) : Type 0 where
  pub left : Option Files
  pub leaves : Leaves o.told o.disk c left
  pub files : x.told ≡ with_file o.image (bytes_of (c.words ++ r.scratch)) left
  pub fit : (i : ℕ) → slice_index (c.words ++ r.scratch) i < 2 ^ 64
  pub counted : c.faults.count ≤ x.faults
  pub made : (n : ℕ) × (x.pages ≡ Some n)
  pub told : x.tells ≡ true → x.left ≡ Some (left_by c r)

-- it was taken back, and its image could not be saved
pub record UnsavedAs (o : Outset) (c : Contents) (r : Running) (x : Outcome) : Type 0 where
  pub leaves : Leaves o.told o.disk c x.told
  pub fit : (i : ℕ) → slice_index (c.words ++ r.scratch) i < 2 ^ 64
  pub rose : Rose c.faults.count x.faults
  pub counted : c.faults.count ≤ x.faults
  pub made : (n : ℕ) × (x.pages ≡ Some n)
  pub told : x.tells ≡ true → x.left ≡ Some (left_by c r)

-- the end is this one and the image is saved, or it is told that it could not be saved
abbrev pub SavedOrNot : {E : Type 0} → PairEnd E → PairEnd E → Outset → Contents → Running → Outcome → Type 0
SavedOrNot end told o c r x = ((told ≡ end) × SavedAs o c r x) ⊎ ((told ≡ Unsaved None) × UnsavedAs o c r x)
