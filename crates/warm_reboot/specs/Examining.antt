-- What an examination of memory and disk finds, and why there is none. Nothing is stored by it.
use Rattle.std.specs.Prelude.{◌≡◌, ℕ, true, List, length, min, Option, None, Some}
use Rattle.rio_base.specs.Failures.{Rose}
use Rattle.rio_base.specs.declared.places.Block.{Block}
use Rattle.rio_base.specs.declared.places.VolumeShape.{VolumeShape}
use Rattle.rio_base.specs.declared.failures.VolFail.{VolFail}
use Rattle.rio_base.specs.declared.failures.VolFail.TheVariants.{Fault as VolumeFault, Stopped as VolumeStopped}
use Rattle.rio_base.specs.declared.failures.ReadFail.{ReadFail}
use Rattle.rio_base.specs.declared.failures.ReadFail.TheVariants.{Fault as ReadFault, Stopped as ReadStopped, Memory as ReadMemory}
use Rattle.rio_base.specs.Machine.{Contents, Running}
use Rattle.rio_base.specs.Shapes.{IsServed}
use Rattle.rio_model.specs.declared.census.Census.{Census}
use Rattle.rio_model.specs.declared.census.Owner.{Owner}
use Rattle.rio_model.specs.declared.state.State.{State}
use Rattle.rio_model.specs.Censuses.{HasOwners, IsCensus}
use Rattle.rio_model.specs.Cover.{stands}
use Rattle.rio_model.specs.Placed.{Layout, volume_layout}
use Rattle.rio_model.specs.Registry.{FailsRegistry, IsValid, KeepsRegistry, tag_at, tag_block}
use Rattle.rio_model.specs.Standing.{EntriesFit, EntryFits, StandsWith}
use Rattle.rio_model.specs.VolumeFails.{FailsEntries, FailsPair, SaysShape}
use Rattle.rio_model.specs.VolumeRules.{IsLaid}
use Rattle.volume_check.specs.declared.failures.CheckFail.{CheckFail}
use Rattle.volume_check.specs.declared.failures.CheckFail.TheVariants.{BadVolume as VolumeBad, Fault as CheckFault, Stopped as CheckStopped, Memory as CheckMemory}
use Rattle.warm_reboot.specs.declared.report.BootFail.{BootFail}
use Rattle.warm_reboot.specs.declared.report.BootFail.TheVariants.{BadImage, BadVolume, Fault, Memory, Stopped}

-- ---- entries that do not fit

-- the blocks that memory and disk stand for are laid out as a volume of this shape, and these are their owners
pub record KnowsOwners (c : Contents) (shape : VolumeShape) (owners : List Owner) : Type 0 where
  pub served : IsServed shape
  pub count : length c.disk ≡ shape.blocks
  pub laid : IsLaid (volume_layout shape (stands c))
  pub has : HasOwners (volume_layout shape (stands c)) owners

-- none, where entry k fits if it is valid, and else its block
abbrev pub IsMisfit : Layout → List ℕ → ℕ → Option Block → Type 0
IsMisfit l words k None = IsValid words k → EntryFits l words k
IsMisfit l words k (Some b) = IsValid words k × (tag_block (tag_at words k) ≡ b.0) × ¬ EntryFits l words k

-- the lesser of two blocks, if there are any
abbrev pub lesser : Option Block → Option Block → Option Block
lesser None b = b
lesser (Some a) None = Some a
lesser (Some a) (Some b) = Some (record { 0 = min a.0 b.0 })

-- none, where all valid entries fit, and else the least block whose entry does not
abbrev pub IsLeastMisfit : Layout → List ℕ → Option Block → Type 0
IsLeastMisfit l words None = EntriesFit l words
IsLeastMisfit l words (Some b) = FailsEntries l words b.0

-- ---- what is found

-- memory and disk break no rule, with the disk as it reads, and this is the census of the state that they read as
pub record IsExamined (c : Contents) (census : Census) : Type 0 where
  pub image : KeepsRegistry c.words
  pub state : State
  pub says : SaysShape (stands c) (length c.disk) state.shape
  pub reads : StandsWith c state c.disk
  pub counts : IsCensus state census

-- ---- why there is none

-- failures of the blocks below, of a list that is made of them and of a look at a volume, handed on
abbrev pub handed : VolFail → BootFail
handed VolumeFault = Fault
handed VolumeStopped = Stopped

abbrev pub refused : ReadFail → BootFail
refused ReadFault = Fault
refused ReadStopped = Stopped
refused ReadMemory = Memory

abbrev pub told : CheckFail → BootFail
told (VolumeBad rule b) = BadVolume rule b
told CheckFault = Fault
told CheckStopped = Stopped
told CheckMemory = Memory

-- memory and disk fail so: the rules of the image are looked at first, and then those of the volume
abbrev pub Unexamined : Contents → Contents → Running → BootFail → Type 0
Unexamined old new s (BadImage rule) = FailsRegistry old.words rule
Unexamined old new s (BadVolume rule b) = KeepsRegistry old.words × FailsPair old rule b.0
Unexamined old new s Fault = Rose old.faults.count new.faults.count
Unexamined old new s Stopped = s.stopped ≡ true
Unexamined old new s Memory = Unit {0}

-- it tells no rule
abbrev pub TellsNoRule : BootFail → Type 0
TellsNoRule (BadImage rule) = ⊥
TellsNoRule (BadVolume rule b) = ⊥
TellsNoRule _ = Unit {0}
