-- What is loaded of a pair of files, and why nothing is.
use Rattle.std.specs.Prelude.{◌≡◌, ◌<◌, ◌*◌, ℕ, false, List, length, Option, Some, None, ◌⊎◌}
use Rattle.rio_base.specs.Disks.{DiskContents, blocks_of, is_pending}
use Rattle.rio_base.specs.Hosts.{Asked, Files, HasSize, IsAbsent, IsFile}
use Rattle.rio_model.specs.Registry.{HasLayout, KeepsRegistry}
use Rattle.board.specs.Boards.{protected_of, scratch_of}
use Rattle.block_disk.specs.HostDisks.{AreFileWords, IsDiskLength, around_of}
use Rattle.block_disk.specs.declared.host_disk_fail.HostDiskFail.{HostDiskFail}
use Rattle.block_disk.specs.declared.host_disk_fail.HostDiskFail.TheVariants.{Absent as DiskAbsent, BadLength as DiskLength, Fault as DiskFault, Memory as DiskMemory}
use Rattle.pair_files.specs.declared.failures.LoadFail.{LoadFail}
use Rattle.pair_files.specs.declared.failures.LoadFail.TheVariants.{Absent, BadImage, BadLength, Fault, Memory}
use Rattle.pair_files.specs.declared.names.PairFile.TheVariants.{Image, Disk}
use Rattle.pair_files.specs.Images.{Breaks, FailsRule, HoldsImage, IsImageOf}

-- ---- what is loaded

-- the words of these bytes, of which so many pages are scratch, are an image that keeps all rules
pub record IsImageRead (bytes words : List ℕ) (scratch : ℕ) : Type 0 where
  pub are : IsImageOf bytes words
  pub room : 512 * scratch < length words
  pub layout : HasLayout (protected_of words scratch) (scratch_of words scratch)
  pub keeps : KeepsRegistry (protected_of words scratch)

-- and its file has the bytes
pub record IsImageLoaded (told : Option Files) (image bytes words : List ℕ) (scratch : ℕ) : Type 0 where
  pub file : IsFile told image bytes
  pub read : IsImageRead bytes words scratch

-- the disk is that of this file: nothing of it is pending, and nothing was written
pub record IsDiskLoaded (told : Option Files) (disk : List ℕ) (d : DiskContents) : Type 0 where
  pub words : List ℕ
  pub file : AreFileWords told disk words
  pub blocks : d.blocks ≡ blocks_of words
  pub settled : (b : ℕ) → is_pending d.pending b ≡ false
  pub limit : d.faults.limit ≡ None
  pub writes : d.writes ≡ 0
  -- some counts of what was asked for: these are not said to be the host's
  pub asked : Asked
  pub around : d.around ≡ around_of told asked disk

-- ---- why nothing is

-- what of it the bytes of an image say
abbrev pub FailsBytes : LoadFail → List ℕ → Type 0
FailsBytes (BadImage rule) bytes = FailsRule bytes rule
FailsBytes Memory bytes = Unit {0}
FailsBytes _ bytes = ⊥

-- no image is loaded. `rose` is that the host's count of faults rose
abbrev pub MissesImage : LoadFail → List ℕ → Type 0 → Option Files → Type 0
MissesImage (Absent Image) image rose files = IsAbsent files image
MissesImage (BadImage rule) image rose files = Breaks files image rule
MissesImage (Fault Image) image rose files = rose
MissesImage Memory image rose files = Unit {0}
MissesImage _ image rose files = ⊥

-- no disk is
abbrev pub MissesDisk : LoadFail → List ℕ → Type 0 → Option Files → Type 0
MissesDisk (Absent Disk) disk rose files = IsAbsent files disk
MissesDisk BadLength disk rose files = (size : ℕ) × HasSize files disk (Some size) × (IsDiskLength size → ⊥)
MissesDisk (Fault Disk) disk rose files = rose
MissesDisk Memory disk rose files = Unit {0}
MissesDisk _ disk rose files = ⊥

-- no pair is: the disk is asked for where the image keeps its rules
abbrev pub Misses : LoadFail → List ℕ → List ℕ → Type 0 → Option Files → Type 0
Misses fail image disk rose files = MissesImage fail image rose files ⊎ ((words : List ℕ) × HoldsImage files image words × MissesDisk fail disk rose files)

abbrev pub disk_failure : HostDiskFail → LoadFail
disk_failure DiskAbsent = Absent Disk
disk_failure DiskLength = BadLength
disk_failure DiskFault = Fault Disk
disk_failure DiskMemory = Memory

-- no file is absent, and no rule is told
abbrev pub TellsNoBreach : LoadFail → Type 0
TellsNoBreach (Fault file) = Unit {0}
TellsNoBreach Memory = Unit {0}
TellsNoBreach _ = ⊥
