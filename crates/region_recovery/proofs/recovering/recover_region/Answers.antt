use Rattle.std.proofs.Common.{◌∙◌, subst, sym}
use Rattle.std.proofs.lemmas.Result.{IfOk-weaker, err_from_is_err_and, on_ok_weaker, IfOk-from_err}
use Rattle.rio_base.specs.declared.places.Ino.{Ino}
use Rattle.rio_base.specs.declared.places.VolumeShape.{VolumeShape}
use Rattle.rio_base.specs.Rules.{◌then◌}
use Rattle.rio_base.proofs.BlockRules.{ends_later}
use Rattle.rio_model.proofs.RegionMoves.{rest_same}
use Rattle.rio_model.specs.VolumeReady.{Ready}
use Rattle.region_view.specs.Views.{KeepsInode, OnRegion}
use Rattle.inode_table.proofs.Exits.{ends_err}
use Rattle.region_recovery.proofs.EndsAs.{ran_ok}
use Rattle.region_recovery.proofs.OneRegion.{had_records, none_left, reads_still, reads_turned, stands_on, stood_size, turned}
use Rattle.region_recovery.proofs.recovering.recover_region.Goals as goal

pub returns-in_err-point-clause-ends : goal.returns-in_err-point-clause-ends
returns-in_err-point-clause-ends g c =
    let p = err_from_is_err_and c.from_residual.result c.from_residual.ensures.1 in
    ends_err _ _ c.point.result c.from_residual.result _ p.0 c.in_err-point.was p.1 p.2 c.point.ensures.ends

pub recover-requires-clause-ready : goal.recover-requires-clause-ready
recover-requires-clause-ready g c =
    let view = c.point.new.self in
    let stood = c.in_ok-point.ensures in (
      c.point.ensures.sound,
      subst (λ (q : Ino). OnRegion view.shape (g.V.Blocks.seen view.v) (g.V.Volume.kept view.v) q.0 view.words) (sym stood.ok.1) stood.ok.0,
      subst (λ (q : Ino). KeepsInode (g.V.Blocks.seen view.v).words q.0 view.inode) (sym stood.ok.1) stood.inode,
    )

pub recover-requires-clause-region : goal.recover-requires-clause-region
recover-requires-clause-region g c =
    let view = c.point.new.self in
    let stood = c.in_ok-point.ensures in
    stands_on c.args.view.now.shape view.shape c.args.i view.ino (g.V.Blocks.seen c.args.view.now.v).words (g.V.Blocks.seen view.v) (g.V.Volume.kept view.v) view.words stood.shape stood.ok.1 stood.words c.requires.reads stood.ok.0

pub returns-clause-reads : goal.returns-clause-reads
returns-clause-reads g c =
    let shape = c.args.view.now.shape in
    let f = (g.V.Blocks.seen c.args.view.now.v).words in
    let view = c.point.new.self in
    let now = c.recover.new.r in
    let stood = c.in_ok-point.ensures in
    let stays = c.recover.ensures.stays in
    let size = stood_size shape view.shape c.args.i.0 f (g.V.Blocks.seen view.v) (g.V.Volume.kept view.v) view.words stood.shape stood.words stood.ok.0 in
    let ready = subst (λ (sh : VolumeShape). Ready sh (g.V.Blocks.seen now.v) (g.V.Volume.kept now.v)) (stays.rest.shape ∙ stood.shape) stays.ready.1.ready in
    reads_turned shape c.args.i.0 view.words f (g.V.Blocks.seen now.v).words c.requires.region size ready.order.mapped
    (turned shape view.shape now.shape c.args.i view.ino now.ino view.words now.words f (g.V.Blocks.seen view.v).words (g.V.Blocks.seen now.v).words stood.shape stood.ok.1 stood.words stays.rest c.recover.ensures.before)

pub returns-clause-recovered : goal.returns-clause-recovered
returns-clause-recovered g c =
    let view = c.point.new.self in
    let now = c.recover.new.r in
    let stood = c.in_ok-point.ensures in
    on_ok_weaker c.recover.result (λ undone. none_left c.args.view.now.shape view.shape now.shape c.args.i view.ino now.ino view.words now.words (g.V.Blocks.seen view.v).words (g.V.Blocks.seen now.v).words stood.shape stood.ok.1 c.recover.ensures.stays.rest undone.records) c.recover.ensures.ok

pub returns-clause-held : goal.returns-clause-held
returns-clause-held g c =
    let view = c.point.new.self in
    let stood = c.in_ok-point.ensures in
    IfOk-weaker c.recover.result _ _ (λ b told. had_records c.args.view.now.shape view.shape c.args.i view.ino (g.V.Blocks.seen c.args.view.now.v).words (g.V.Blocks.seen view.v).words b stood.shape stood.ok.1 stood.words told) c.recover.ensures.held

pub returns-clause-rest : goal.returns-clause-rest
returns-clause-rest g c =
    let view = c.point.new.self in
    let now = c.recover.new.r in
    let stood = c.in_ok-point.ensures in
    (turned c.args.view.now.shape view.shape now.shape c.args.i view.ino now.ino view.words now.words (g.V.Blocks.seen c.args.view.now.v).words (g.V.Blocks.seen view.v).words (g.V.Blocks.seen now.v).words stood.shape stood.ok.1 stood.words c.recover.ensures.stays.rest c.recover.ensures.before).rest

pub returns-clause-ready : goal.returns-clause-ready
returns-clause-ready g c =
    let now = c.recover.new.r in
    let stays = c.recover.ensures.stays in
    subst (λ (sh : VolumeShape). Ready sh (g.V.Blocks.seen now.v) (g.V.Volume.kept now.v)) (stays.rest.shape ∙ c.point.ensures.shape) stays.ready.1.ready

pub returns-clause-shape : goal.returns-clause-shape
returns-clause-shape g c = c.recover.ensures.stays.rest.shape ∙ c.point.ensures.shape

pub returns-clause-goes : goal.returns-clause-goes
returns-clause-goes g c = c.point.ensures.goes then c.recover.ensures.stays.goes

pub returns-clause-ends : goal.returns-clause-ends
returns-clause-ends g c = ends_later _ _ _ c.recover.result c.point.ensures.ends.later (ran_ok _ _ c.point.result _ c.in_ok-point.was c.point.ensures.ends) c.recover.ensures.ends

pub returns-in_err-point-clause-reads : goal.returns-in_err-point-clause-reads
returns-in_err-point-clause-reads g c = λ s reads. reads_still c.args.view.now.shape _ _ s c.point.ensures.words reads

pub returns-in_err-point-clause-recovered : goal.returns-in_err-point-clause-recovered
returns-in_err-point-clause-recovered g c = IfOk-from_err c.from_residual.result _ c.from_residual.ensures.0

pub returns-in_err-point-clause-held : goal.returns-in_err-point-clause-held
returns-in_err-point-clause-held g c = IfOk-from_err c.from_residual.result _ c.from_residual.ensures.0

pub returns-in_err-point-clause-rest : goal.returns-in_err-point-clause-rest
returns-in_err-point-clause-rest g c = rest_same c.args.view.now.shape c.args.i.0 _ _ c.point.ensures.words

pub returns-in_err-point-clause-ready : goal.returns-in_err-point-clause-ready
returns-in_err-point-clause-ready g c = subst (λ (sh : VolumeShape). Ready sh (g.V.Blocks.seen c.point.new.self.v) (g.V.Volume.kept c.point.new.self.v)) c.point.ensures.shape c.point.ensures.ready
