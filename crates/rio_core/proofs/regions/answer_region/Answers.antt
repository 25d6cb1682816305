use Rattle.rio_core.proofs.Common.{◌∙◌, Ok, sym, subst, IsErr, Ino, VolumeShape, names_of, Ready, crashed, FindsRegion}
use Rattle.rio_base.specs.Rules.{◌then◌}
use Rattle.rio_base.proofs.Rules.{ends_by_after}
use Rattle.rio_requests.proofs.CrashRules.{walk_crashed}
use Rattle.rio_core.specs.Serving.{RequestEnds, TellsFault}
use Rattle.file_tree.specs.Memos.{InStep}
use Rattle.file_tree.proofs.MemoSteps.{rest_step}
use Rattle.rio_core.proofs.MemoRules.{reads_on, shaped_step}
use Rattle.rio_core.proofs.RegionEnds.{look_ends}
use Rattle.rio_core.proofs.ReplyEnds.{fail_ends}
use Rattle.rio_core.proofs.Standing.{serves_can, stands, stands_fits}
use Rattle.rio_core.proofs.regions.answer_region.Goals as goal

pub answer_at-requires-clause-fits : goal.answer_at-requires-clause-fits
answer_at-requires-clause-fits g c =
    let old = c.args.view.now in
    let new = c.stand_at.new.view in
    let s = c.requires.serves.0 in
    let serves = c.requires.serves.1 in
    stands_fits old.shape new.shape (g.V.Blocks.seen old.v) (g.V.Blocks.seen new.v) (g.V.Volume.kept old.v) (g.V.Volume.kept new.v) c.args.table.now s c.args.path.now new.ino new.words serves c.stand_at.ensures.shape c.stand_at.ensures.words (subst (λ (i : Ino). FindsRegion (crashed s) c.args.path.now (Ok i)) (sym c.in-Ok.ensures.ino) (c.in-Ok.ensures.found (crashed s) serves.reads)) c.in-Ok.ensures.on

pub returns-in-Ok-clause-answered : goal.returns-in-Ok-clause-answered
returns-in-Ok-clause-answered g c =
    let old = c.args.view.now in
    let new = c.stand_at.new.view in
    let end = c.answer_at.new.view in
    λ s serves.
    let at = stands old.shape new.shape (g.V.Blocks.seen old.v) (g.V.Blocks.seen new.v) (g.V.Volume.kept old.v) (g.V.Volume.kept new.v) c.args.table.now s c.args.path.now new.ino new.words serves c.stand_at.ensures.shape c.stand_at.ensures.words (subst (λ (i : Ino). FindsRegion (crashed s) c.args.path.now (Ok i)) (sym c.in-Ok.ensures.ino) (c.in-Ok.ensures.found (crashed s) serves.reads)) c.in-Ok.ensures.on in
    subst (λ (q : VolumeShape). RequestEnds q (g.V.Blocks.seen end.v) (g.V.Volume.kept end.v) c.answer_at.new.table s c.args.request.now c.answer_at.result) c.stand_at.ensures.shape (c.answer_at.ensures.answered s c.args.path.now at.0 at.1 c.requires.at)

pub returns-in-Ok-clause-goes : goal.returns-in-Ok-clause-goes
returns-in-Ok-clause-goes g c = c.stand_at.ensures.goes then c.answer_at.ensures.goes

pub returns-in-Ok-clause-ends : goal.returns-in-Ok-clause-ends
returns-in-Ok-clause-ends g c = ends_by_after (g.V.Blocks.health c.args.view.now.v) (g.V.Blocks.health c.stand_at.new.view.v) (g.V.Blocks.health c.answer_at.new.view.v) (TellsFault c.answer_at.result) (IsErr c.answer_at.result) c.stand_at.ensures.ends.later (c.stand_at.ensures.ends.runs (λ p. cc (c.in-Ok.is, p))) c.answer_at.ensures.ends

pub returns-in-Err-clause-answered : goal.returns-in-Err-clause-answered
returns-in-Err-clause-answered g c =
    let old = c.args.view.now in
    let new = c.stand_at.new.view in
    λ s serves. look_ends old.shape (g.V.Blocks.seen old.v) (g.V.Blocks.seen new.v) (g.V.Volume.kept old.v) (g.V.Volume.kept new.v) c.args.table.now s c.args.path.now c.args.request.now c.in-Err.fail c.fail_reply.result c.requires.at serves c.stand_at.ensures.words
    (subst (λ (q : VolumeShape). Ready q (g.V.Blocks.seen new.v) (g.V.Volume.kept new.v)) c.stand_at.ensures.shape c.stand_at.ensures.ready) (g.met.V.Volume.settled _ c.stand_at.ensures.sound) (walk_crashed s serves.regions.open_regions (names_of c.args.path.now) 1) (c.in-Err.ensures.found (crashed s) serves.reads) c.fail_reply.ensures.tells

pub returns-in-Ok-clause-in_step : goal.returns-in-Ok-clause-in_step
returns-in-Ok-clause-in_step g c =
    let old = c.args.view.now in
    let new = c.stand_at.new.view in
    let end = c.answer_at.new.view in
    let serves = c.requires.serves.1 in
    let call = c.stand_at.ensures in
    subst (λ (q : VolumeShape). InStep q (g.V.Blocks.seen end.v).words c.stand_at.new.memo) (sym c.answer_at.ensures.shape)
    (rest_step new.shape new.ino.0 (g.V.Blocks.seen new.v).words (g.V.Blocks.seen end.v).words (crashed c.requires.serves.0) c.stand_at.new.memo c.answer_at.ensures.rest c.in-Ok.ensures.on.region
    (reads_on old.shape new.shape _ _ _ call.shape call.words serves.reads) (shaped_step old.shape new.shape _ _ _ call.shape call.words call.in_step))

pub returns-in-Err-clause-in_step : goal.returns-in-Err-clause-in_step
returns-in-Err-clause-in_step g c =
    let old = c.args.view.now in
    let new = c.stand_at.new.view in
    let call = c.stand_at.ensures in
    shaped_step old.shape new.shape _ _ _ call.shape call.words call.in_step

pub stand_at-requires-clause-can : goal.stand_at-requires-clause-can
stand_at-requires-clause-can g c =
    let old = c.args.view.now in
    serves_can old.shape (g.V.Blocks.seen old.v) (g.V.Volume.kept old.v) c.args.table.now c.requires.serves.0 c.requires.serves.1

pub answer_at-requires-clause-at : goal.answer_at-requires-clause-at
answer_at-requires-clause-at g c = (c.args.path.now, c.requires.at)

pub returns-in-Ok-clause-shape : goal.returns-in-Ok-clause-shape
returns-in-Ok-clause-shape g c = c.answer_at.ensures.shape ∙ c.stand_at.ensures.shape

pub returns-in-Err-clause-ends : goal.returns-in-Err-clause-ends
returns-in-Err-clause-ends g c = fail_ends _ _ c.stand_at.result c.in-Err.fail c.fail_reply.result c.in-Err.is c.fail_reply.ensures.fault c.fail_reply.ensures.stop c.fail_reply.ensures.stopped c.stand_at.ensures.ends
