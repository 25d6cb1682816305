-- What lies between two boots: the words of memory and the disk, which at first has a fresh volume.
use Rattle.std.specs.Prelude.{◌≡◌, ◌<◌, ℕ, ◌≤◌, ◌+◌, ◌*◌, ◌^◌, ◌%◌, Bool, false, List, length, Option, None, [], Some}
use Rattle.rio_base.specs.declared.places.VolumeShape.{VolumeShape}
use Rattle.rio_base.specs.Disks.{FaultCount, block_at, is_pending}
use Rattle.rio_base.specs.Machine.{Running}
use Rattle.rio_model.specs.Cover.{home_word}
use Rattle.rio_model.specs.Fresh.{IsFreshVolume}
use Rattle.rio_model.specs.declared.state.State.{State}
use Rattle.rio_model.specs.Standing.{StandsFor}
use Rattle.block_disk.specs.MemDisks.{Crashed, FailsNever, MemDiskState, contents_of}
use Rattle.block_disk.specs.BlockLists.{AreWhole}
use Rattle.block_disk.specs.declared.disk_choice.DiskChoice.{DiskChoice}
use Rattle.machine_bench.specs.Benches.{made_contents}
use Rattle.boots.specs.declared.transcript.BootEnd.{BootEnd}
use Rattle.boots.specs.declared.transcript.BootEnd.TheVariants.{Stopped}

-- ---- a disk with a fresh volume

-- the blocks of a disk are a fresh volume of this shape, and none is pending
pub record IsFreshDisk (shape : VolumeShape) (blocks : List (List ℕ)) (pending : List Bool) : Type 0 where
  pub count : length blocks ≡ shape.blocks
  pub whole : (b : ℕ) → b < length blocks → length (block_at blocks b) ≡ 512
  pub volume : IsFreshVolume shape (home_word blocks)
  pub settled : (b : ℕ) → is_pending pending b ≡ false

-- ---- between two boots

-- a wild store is armed: the step before which it falls, its place, and its word
abbrev pub armed_run : Option (ℕ × ℕ × ℕ) → Running → Running
armed_run None r = r
armed_run (Some arm) r = record r { armed = Some arm.1; armed_left = arm.0; armed_value = arm.2 }

-- no call of the disk is to fail
abbrev pub unfailing : MemDiskState → MemDiskState
unfailing disk = record disk { failing = []; failing_reads = 0 }

-- the disk after a boot that ended so
abbrev pub IsDiskAfter : BootEnd → DiskChoice → MemDiskState → MemDiskState → Type 0
IsDiskAfter Stopped choice old new = Crashed choice (unfailing old) new
IsDiskAfter _ choice old new = new ≡ unfailing old

-- a machine that is made of these words, of which so many pages are scratch, and of this disk stands for state s. That the disk's
-- blocks are whole is known once the machine is made. So many calls were to fail so far, and none is to fail now
pub record PartsStand (words : List ℕ) (disk : MemDiskState) (scratch failing : ℕ) (s : State) : Type 0 where
  pub stands : AreWhole disk.blocks → StandsFor (made_contents words scratch (contents_of disk)) (512 * scratch) s
  pub whole_pages : length words % 512 ≡ 0
  pub room : 512 * scratch < length words
  pub never : FailsNever disk
  pub counted : disk.faults ≤ failing
  pub few : failing + 1 < 2 ^ 64

-- no more calls of the disk can fail
abbrev pub NeverFails : FaultCount → Type 0
NeverFails f = (f.limit ≡ Some f.count) × (f.count + 1 < 2 ^ 64)
