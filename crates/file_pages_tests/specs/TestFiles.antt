-- Two files on the volumes of tests, as the blocks read and as they stand.
use Rattle.std.specs.Prelude.{◌≡◌, ℕ, ◌<◌, ◌⊎◌, List, length, slice_index}
use Rattle.rio_base.specs.declared.places.VolumeShape.{VolumeShape}
use Rattle.rio_base.specs.Blocks.{BlockWords, Seen}
use Rattle.rio_base.specs.Volume.{Kept}
use Rattle.rio_base.specs.NodeKinds.{free_kind, file_kind}
use Rattle.rio_model.specs.Held.{held_of}
use Rattle.rio_model.specs.Placed.{IsFree, volume_layout}
use Rattle.rio_model.specs.VolumeReady.{Ready, StandsReady}
use Rattle.node_pages.specs.Changes.{Apart}

-- inodes 2 and 3 are the files, and inode 4 is free
abbrev pub IsTestFile : ℕ → Type 0
IsTestFile i = (i ≡ 2) ⊎ (i ≡ 3)

pub record HasFiles (shape : VolumeShape) (f : BlockWords) : Type 0 where
  pub file : (i : ℕ) → IsTestFile i → (held_of shape f i).kind ≡ file_kind
  pub free : (held_of shape f 4).kind ≡ free_kind

-- a volume that may be called, and one that may be started again
pub record FilesReady (shape : VolumeShape) (x : Seen) (k : Kept) : Type 0 where
  pub ready : Ready shape x k
  pub files : HasFiles shape x.words

pub record FilesStand (shape : VolumeShape) (x : Seen) (k : Kept) : Type 0 where
  pub ready : StandsReady shape x k
  pub files : HasFiles shape k.standing

-- blocks that a plan may skip
pub record CanSkip (shape : VolumeShape) (x : Seen) (skip : List ℕ) : Type 0 where
  pub free : (t : ℕ) → t < length skip → IsFree (volume_layout shape x.words) (slice_index skip t)
  pub apart : Apart skip
