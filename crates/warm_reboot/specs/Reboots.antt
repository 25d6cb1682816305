-- How a reboot ends.
use Rattle.std.specs.Prelude.{◌≡◌, ◌⊎◌, ℕ, false, []}
use Rattle.rio_base.specs.Blocks.{Seen}
use Rattle.rio_base.specs.declared.failures.VolFail.TheVariants.{Fault as VolumeFault, Stopped as VolumeStopped}
use Rattle.rio_base.specs.declared.places.VolumeShape.{VolumeShape}
use Rattle.rio_base.specs.Machine.{Contents, Running}
use Rattle.rio_base.specs.Volume.{Kept}
use Rattle.rio_model.specs.declared.state.State.{State}
use Rattle.rio_model.specs.Cover.{stands}
use Rattle.rio_model.specs.Placed.{volume_layout}
use Rattle.rio_model.specs.Registry.{FailsRegistry, KeepsRegistry}
use Rattle.rio_model.specs.VolumeFails.{FailsPair}
use Rattle.rio_model.specs.VolumeReads.{ReadsAs}
use Rattle.rio_model.specs.VolumeReady.{Ready}
use Rattle.registry.specs.Views.{Viewed}
use Rattle.page_restore.specs.Reports.{CountsPages}
use Rattle.region_recovery.specs.RegionLists.{AreRecovered, region_inos, undone_count}
use Rattle.warm_reboot.specs.declared.report.BootFail.{BootFail}
use Rattle.warm_reboot.specs.declared.report.BootFail.TheVariants.{BadImage, BadVolume, Fault, Memory, Stopped}
use Rattle.warm_reboot.specs.declared.report.BootReport.{BootReport}
use Rattle.warm_reboot.specs.Boots.{IsCutOff, StandsNow}

-- the undo lists of all regions are emptied: the volume reads as the state that it read as, and so many lists had a record.
-- Nothing is newly cached where there is no region
pub record Recovers (shape : VolumeShape) (x y : Seen) (k : Kept) (n : ℕ) : Type 0 where
  pub reads : (s : State) → ReadsAs shape x.words s → ReadsAs shape y.words s
  pub recovered : AreRecovered shape y.words
  pub undone : n ≡ undone_count shape x.words
  pub ready : Ready shape y k
  pub bare : region_inos shape x.words ≡ [] → y.cached ≡ x.cached

-- of what c stood for, after Ok: the volume reads as the state and is ready, no undo list has a record, and the report says
-- what was done. No block is cached where there is no region
pub record Booted (c : Contents) (s : State) (report : BootReport) (x : Seen) (k : Kept) : Type 0 where
  pub reads : ReadsAs s.shape x.words s
  pub ready : Ready s.shape x k
  pub recovered : AreRecovered s.shape x.words
  pub shape : report.shape ≡ s.shape
  pub counts : CountsPages (volume_layout s.shape (stands c)) c (record { meta = report.meta; pages = report.pages; stale = report.stale })
  pub undone : report.undone ≡ undone_count s.shape (stands c)
  pub bare : region_inos s.shape (stands c) ≡ [] → (b : ℕ) → x.cached b ≡ false

-- it failed. After a rule that fails and want of memory nothing was stored
abbrev pub Unbooted : Contents → Running → Contents → Running → BootFail → Type 0
Unbooted old r new s (BadImage rule) = FailsRegistry old.words rule × Viewed old new r s
Unbooted old r new s (BadVolume rule b) = KeepsRegistry old.words × FailsPair old rule b.0 × Viewed old new r s
Unbooted old r new s Memory = Viewed old new r s
Unbooted old r new s Fault = IsCutOff old r new s VolumeFault
Unbooted old r new s Stopped = IsCutOff old r new s VolumeStopped

-- it failed after the look found that memory and disk stand for some state, or nothing was stored
abbrev pub FailsLooked : Contents → Running → Contents → Running → Type 0
FailsLooked old r new s = ((t : State) × StandsNow old t) ⊎ Viewed old new r s
