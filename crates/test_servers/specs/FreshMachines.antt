-- A machine with a fresh image, and its disk with a fresh volume.
use Rattle.std.specs.Prelude.{◌≡◌, ◌<◌, ℕ, ◌+◌, ◌*◌, ◌-◌, Bool, false, List, length, None}
use Rattle.rio_base.specs.declared.places.VolumeShape.{VolumeShape}
use Rattle.rio_base.specs.Disks.{DiskContents, is_pending}
use Rattle.rio_base.specs.Image.{image_pages, registry_pages}
use Rattle.rio_base.specs.Machine.{Contents, Running}
use Rattle.rio_base.specs.Volume.{Below}
use Rattle.rio_model.specs.Cover.{Coherent, home_word}
use Rattle.rio_model.specs.Fresh.{IsFreshVolume}
use Rattle.rio_model.specs.Registry.{frames_of, gate_of, tag_at}

-- the blocks of a disk are a fresh volume of this shape, and none is pending
pub record IsFreshDisk (shape : VolumeShape) (blocks : List (List ℕ)) (pending : List Bool) : Type 0 where
  pub count : length blocks ≡ shape.blocks
  pub volume : IsFreshVolume shape (home_word blocks)
  pub settled : (b : ℕ) → is_pending pending b ≡ false

-- memory is an image of so many frames and one page of scratch. No entry has a tag, no page is open and no update. The
-- machine runs, with no stop set and no wild store armed
pub record IsFreshMemory (frames : ℕ) (c : Contents) (r : Running) : Type 0 where
  pub coherent : Coherent c (length r.scratch)
  pub closed : c.open_page ≡ None
  pub shut : gate_of c.words ≡ 0
  pub sized : frames_of c.words ≡ frames
  pub empty : (k : ℕ) → k < frames_of c.words → tag_at c.words k ≡ 0
  pub protected : r.protected ≡ 512 * (17 + registry_pages frames + frames)
  pub scratch : length r.scratch ≡ 512
  pub running : r.stopped ≡ false
  pub unset : r.stop_set ≡ false
  pub unarmed : r.armed ≡ None

-- no stop is set and no wild store armed; the disk is this one; memory has its frames, the pages before them, and one of
-- scratch
pub record IsFreshBelow (frames : ℕ) (disk : DiskContents) (b : Below) : Type 0 where
  pub unset : b.causes.stop_set ≡ false
  pub unarmed : b.causes.armed ≡ None
  pub limit : b.limit ≡ disk.faults.limit
  pub writes : b.writes ≡ disk.writes
  pub protected : b.memory.protected ≡ 512 * (image_pages frames 1 - 1)
  pub scratch : b.memory.scratch ≡ 512
