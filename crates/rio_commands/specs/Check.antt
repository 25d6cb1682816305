-- What a run of `check` finds.
use Rattle.std.specs.Prelude.{◌≡◌, ℕ, false, List, Option, None}
use Rattle.rio_base.specs.Failures.{Rose}
use Rattle.rio_base.specs.Hosts.{Files, IsAbsent, IsFile}
use Rattle.rio_base.specs.Disks.{DiskContents}
use Rattle.rio_base.specs.Machine.{Contents, Running}
use Rattle.board.specs.Boards.{protected_of, scratch_of}
use Rattle.rio_model.specs.declared.census.Census.{Census}
use Rattle.rio_model.specs.declared.state.State.{State}
use Rattle.rio_model.specs.Censuses.{IsCensus}
use Rattle.rio_model.specs.Registry.{FailsRegistry}
use Rattle.rio_model.specs.Standing.{StandsFor}
use Rattle.rio_model.specs.VolumeFails.{FailsPair}
use Rattle.rio_model.specs.RuleNumbers.{volume_rule}
use Rattle.rio_model.specs.declared.rules.VolumeRule.TheVariants.{Superblock}
use Rattle.pair_files.specs.Images.{Breaks, HoldsImage}
use Rattle.pair_files.specs.Pairs.{BreaksVolume, HasPair, IsPair}
use Rattle.pair_files.specs.declared.failures.LoadFail.{LoadFail}
use Rattle.pair_files.specs.declared.failures.LoadFail.TheVariants.{Absent as NotThere, BadImage as ImageRule, BadLength, Fault as NotRead, Memory as NotLoaded}
use Rattle.pair_files.specs.declared.names.PairFile.TheVariants.{Image, Disk}
use Rattle.warm_reboot.specs.declared.report.BootFail.{BootFail}
use Rattle.warm_reboot.specs.declared.report.BootFail.TheVariants.{BadImage as ImageFails, BadVolume as VolumeFails, Fault as BlockFault, Stopped as MachineStopped, Memory as NotExamined}
use Rattle.rio_commands.specs.declared.ends.CheckEnd.{CheckEnd}
use Rattle.rio_commands.specs.declared.ends.CheckEnd.TheVariants.{Sound, BadImage, BadVolume, Absent, HostFault, Memory}
use Rattle.rio_commands.specs.CheckLines.{check_line, check_status}
use Rattle.rio_commands.specs.Command.{WritesLine}

-- ---- what is found

-- the files are a pair, which stands for a state with these counts
pub record HasCensus (files : Option Files) (image disk : List ℕ) (census : Census) : Type 0 where
  pub image_bytes : List ℕ
  pub disk_bytes : List ℕ
  pub state : State
  pub image_file : IsFile files image image_bytes
  pub disk_file : IsFile files disk disk_bytes
  pub pair : IsPair image_bytes disk_bytes state
  pub counts : IsCensus state census

-- what is so of the files at each end
abbrev pub Finds : CheckEnd → List ℕ → List ℕ → Type 0 → Option Files → Type 0
Finds (Sound census) image disk rose files = HasCensus files image disk census
Finds (BadImage rule) image disk rose files = Breaks files image rule
Finds (BadVolume rule b) image disk rose files = BreaksVolume files image disk rule b.0
Finds Memory image disk rose files = Unit {0}
Finds (Absent Image) image disk rose files = IsAbsent files image
Finds (Absent Disk) image disk rose files = (words : List ℕ) × HoldsImage files image words × IsAbsent files disk
Finds (HostFault Image) image disk rose files = rose
Finds (HostFault Disk) image disk rose files = rose × (words : List ℕ) × HoldsImage files image words

-- `Finds`, as a record
pub record Found (end : CheckEnd) (image disk : List ℕ) (rose : Type 0) (files : Option Files) : Type 0 where
  pub finds : Finds end image disk rose files

-- what is answered of files that are a pair for this state: its counts, unless memory is wanting or the host fails
abbrev pub IsSureOf : State → CheckEnd → Type 0
IsSureOf s (Sound census) = IsCensus s census
IsSureOf s Memory = Unit {0}
IsSureOf s (HostFault file) = Unit {0}
IsSureOf s _ = ⊥

-- ---- the machine of a look

-- it has these words, of which so many pages are scratch. No page is open, and it runs
pub record HasWords (c : Contents) (r : Running) (words : List ℕ) (scratch : ℕ) : Type 0 where
  pub protected : c.words ≡ protected_of words scratch
  pub scratch_words : r.scratch ≡ scratch_of words scratch
  pub closed : c.open_page ≡ None
  pub running : r.stopped ≡ false

-- it has this disk
pub record HasDisk (c : Contents) (d : DiskContents) : Type 0 where
  pub blocks : c.disk ≡ d.blocks
  pub pending : c.pending ≡ d.pending
  pub faults : c.faults ≡ d.faults
  pub around : c.around ≡ d.around

-- how a look ends where nothing is loaded. A file of a length that no disk has breaks rule 1
abbrev pub unloaded_end : LoadFail → CheckEnd
unloaded_end (NotThere file) = Absent file
unloaded_end (ImageRule rule) = BadImage rule
unloaded_end BadLength = BadVolume (volume_rule Superblock) (record { 0 = 0 })
unloaded_end (NotRead file) = HostFault file
unloaded_end NotLoaded = Memory

-- how it ends where the examination fails. Nothing stops the machine of a look
abbrev pub unexamined_end : BootFail → CheckEnd
unexamined_end (ImageFails rule) = BadImage rule
unexamined_end (VolumeFails rule b) = BadVolume rule b
unexamined_end BlockFault = HostFault Disk
unexamined_end MachineStopped = HostFault Disk
unexamined_end NotExamined = Memory

-- what an examination of this machine finds, with so many words of scratch, and `new` behind it
abbrev pub Examines : CheckEnd → Contents → ℕ → Contents → Type 0
Examines (Sound census) c scratch new = (s : State) × StandsFor c scratch s × IsCensus s census
Examines (BadImage rule) c scratch new = FailsRegistry c.words rule
Examines (BadVolume rule b) c scratch new = FailsPair c rule b.0
Examines (HostFault Image) c scratch new = ⊥
Examines (HostFault Disk) c scratch new = Rose c.faults.count new.faults.count
Examines Memory c scratch new = Unit {0}
Examines (Absent file) c scratch new = ⊥

-- `Examines`, as a record
pub record Examined (end : CheckEnd) (c : Contents) (scratch : ℕ) (new : Contents) : Type 0 where
  pub examines : Examines end c scratch new

-- a look at these files ended with this status, and left this output
pub record Checks (image disk : List ℕ) (status : ℕ) (host_rose sink_rose : Type 0) (files : Option Files) (written written_now : Option (List ℕ)) : Type 0 where
  pub end : CheckEnd
  pub status_is : status ≡ check_status end
  pub found : Found end image disk host_rose files
  pub sure : (image_bytes disk_bytes : List ℕ) (s : State) → HasPair files image disk image_bytes disk_bytes s → IsSureOf s end
  pub told : WritesLine sink_rose written (check_line end image disk) written_now
