use Rattle.std.proofs.Common.{◌≡◌, sym}
use Rattle.std.specs.Prelude.{IfOk}
use Rattle.rio_base.specs.Blocks.{Ends}
use Rattle.rio_base.specs.Volume.{Goes}
use Rattle.rio_model.specs.declared.state.State.{State}
use Rattle.rio_model.specs.VolumeReads.{ReadsAs}
use Rattle.rio_model.specs.VolumeReady.{Ready}
use Rattle.region_recovery.specs.RegionLists.{ino_numbers, region_inos}
use Rattle.warm_reboot.specs.Reboots.{Recovers}
use Rattle.warm_reboot.proofs.Survivals.{by_view, by_views, recovers_by, seen_as}
use Rattle.warm_reboot.proofs.booting.recover_volume.Goals as goal

pub recover_regions-undone-requires-clause-sound : goal.recover_regions-undone-requires-clause-sound
recover_regions-undone-requires-clause-sound g c = by_view c.over-view.result.shape c.args.shape c.over-view.result.v c.args.volume (sym c.over-view.ensures.shape) (sym c.over-view.ensures.volume) (λ sh v. g.V.Blocks.sound v) c.requires.sound

pub recover_regions-undone-requires-clause-ready : goal.recover_regions-undone-requires-clause-ready
recover_regions-undone-requires-clause-ready g c = by_view c.over-view.result.shape c.args.shape c.over-view.result.v c.args.volume (sym c.over-view.ensures.shape) (sym c.over-view.ensures.volume) (λ sh v. Ready sh (g.V.Blocks.seen v) (g.V.Volume.kept v)) c.requires.ready

pub recover_regions-undone-requires-clause-reads : goal.recover_regions-undone-requires-clause-reads
recover_regions-undone-requires-clause-reads g c = by_view c.over-view.result.shape c.args.shape c.over-view.result.v c.args.volume (sym c.over-view.ensures.shape) (sym c.over-view.ensures.volume) (λ sh v. (s : State) × ReadsAs sh (g.V.Blocks.seen v).words s) c.requires.reads

pub recover_regions-undone-requires-clause-regions : goal.recover_regions-undone-requires-clause-regions
recover_regions-undone-requires-clause-regions g c = by_view c.over-view.result.shape c.args.shape c.over-view.result.v c.args.volume (sym c.over-view.ensures.shape) (sym c.over-view.ensures.volume) (λ sh v. ino_numbers c.args.regions.now ≡ region_inos sh (g.V.Blocks.seen v).words) c.requires.regions

pub returns-clause-recovers : goal.returns-clause-recovers
returns-clause-recovers g c = by_views c.args.shape c.over-view.result.shape c.args.volume c.over-view.result.v c.into_volume.result c.recover_regions-undone.new.view.v c.over-view.ensures.shape c.over-view.ensures.volume (sym c.into_volume.ensures) (λ sh v w. IfOk c.recover_regions-undone.result (Recovers sh (g.V.Blocks.seen v) (g.V.Blocks.seen w) (g.V.Volume.kept w)))
    (recovers_by c.recover_regions-undone.result c.over-view.result.shape (g.V.Blocks.seen c.over-view.result.v) (g.V.Blocks.seen c.recover_regions-undone.new.view.v) (g.V.Volume.kept c.recover_regions-undone.new.view.v) c.recover_regions-undone.ensures.reads c.recover_regions-undone.ensures.recovered c.recover_regions-undone.ensures.count c.recover_regions-undone.ensures.ready (λ none. seen_as c.recover_regions-undone.new.view.v c.over-view.result.v (c.recover_regions-undone.ensures.none none) (λ v. (g.V.Blocks.seen v).cached)))

pub returns-clause-reads : goal.returns-clause-reads
returns-clause-reads g c = by_views c.args.shape c.over-view.result.shape c.args.volume c.over-view.result.v c.into_volume.result c.recover_regions-undone.new.view.v c.over-view.ensures.shape c.over-view.ensures.volume (sym c.into_volume.ensures) (λ sh v w. (s : State) → ReadsAs sh (g.V.Blocks.seen v).words s → ReadsAs sh (g.V.Blocks.seen w).words s) c.recover_regions-undone.ensures.reads

pub returns-clause-ready : goal.returns-clause-ready
returns-clause-ready g c = by_views c.args.shape c.over-view.result.shape c.args.volume c.over-view.result.v c.into_volume.result c.recover_regions-undone.new.view.v c.over-view.ensures.shape c.over-view.ensures.volume (sym c.into_volume.ensures) (λ sh v w. Ready sh (g.V.Blocks.seen w) (g.V.Volume.kept w)) c.recover_regions-undone.ensures.ready

pub returns-clause-goes : goal.returns-clause-goes
returns-clause-goes g c = by_views c.args.shape c.over-view.result.shape c.args.volume c.over-view.result.v c.into_volume.result c.recover_regions-undone.new.view.v c.over-view.ensures.shape c.over-view.ensures.volume (sym c.into_volume.ensures) (λ sh v w. Goes (g.V.Blocks.health v) (g.V.Volume.below v) (g.V.Blocks.health w) (g.V.Volume.below w)) c.recover_regions-undone.ensures.goes

pub returns-clause-ends : goal.returns-clause-ends
returns-clause-ends g c = by_views c.args.shape c.over-view.result.shape c.args.volume c.over-view.result.v c.into_volume.result c.recover_regions-undone.new.view.v c.over-view.ensures.shape c.over-view.ensures.volume (sym c.into_volume.ensures) (λ sh v w. Ends (g.V.Blocks.health v) (g.V.Blocks.health w) c.recover_regions-undone.result) c.recover_regions-undone.ensures.ends

pub returns-clause-sound : goal.returns-clause-sound
returns-clause-sound g c = by_views c.args.shape c.over-view.result.shape c.args.volume c.over-view.result.v c.into_volume.result c.recover_regions-undone.new.view.v c.over-view.ensures.shape c.over-view.ensures.volume (sym c.into_volume.ensures) (λ sh v w. g.V.Blocks.sound w) c.recover_regions-undone.ensures.sound
