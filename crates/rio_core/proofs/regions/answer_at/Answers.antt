use Rattle.rio_core.proofs.Common.{◌≡◌, ◌∙◌, Ok, refl, sym, ap, subst, IsErr, IsErrOf, Begin, Range, Commit, Abort, IsFault, Stopped}
use Rattle.rio_base.proofs.Rules.{ends_by_as}
use Rattle.rio_base.specs.Rules.{goes_refl}
use Rattle.rio_model.specs.RegionMoves.{rest_refl}
use Rattle.rio_core.specs.CallEnds.{IsAt}
use Rattle.rio_core.specs.Serving.{RequestEnds, TellsFault}
use Rattle.rio_core.proofs.Lookups.{left_within}
use Rattle.rio_core.proofs.RegionReplies.{abort_replied, begin_replied, commit_replied, range_replied}
use Rattle.rio_core.proofs.WildStores.{reply_well}
use Rattle.rio_core.proofs.regions.answer_at.Goals as goal

pub returns-in-Begin-clause-answered : goal.returns-in-Begin-clause-answered
returns-in-Begin-clause-answered g c =
    let view = c.args.view.now in
    λ s path r called at.
    let is : c.args.request.now ≡ Begin path = c.in-Begin.is ∙ ap Begin (subst (IsAt path) c.in-Begin.is at) in
    subst (λ a. RequestEnds view.shape (g.V.Blocks.seen view.v) (g.V.Volume.kept view.v) c.begin.new.self s a (Ok c.begin_reply.result)) (sym is)
    (begin_replied view.shape view.ino.0 view.words (g.V.Blocks.seen view.v) (g.V.Volume.kept view.v) c.requires.on.ready (g.met.V.Volume.settled _ c.requires.sound) c.args.table.now c.begin.new.self s path r called c.begin.result (Ok c.begin_reply.result) c.begin.ensures.ok c.begin.ensures.busy c.begin.ensures.refused c.begin_reply.ensures.tells)

pub returns-in-Range-clause-answered : goal.returns-in-Range-clause-answered
returns-in-Range-clause-answered g c =
    let old = c.args.view.now in
    let new = c.set_range.new.r in
    λ s path r called at.
    let is : c.args.request.now ≡ Range path c.in-Range.off c.in-Range.len = c.in-Range.is ∙ ap (λ p. Range p c.in-Range.off c.in-Range.len) (subst (IsAt path) c.in-Range.is at) in
    subst (λ a. RequestEnds old.shape (g.V.Blocks.seen new.v) (g.V.Volume.kept new.v) c.set_range.new.self s a c.txn_reply.result) (sym is)
    (range_replied old.shape old.ino old.words (g.V.Blocks.seen old.v) (g.V.Volume.kept old.v) new.shape new.ino new.words (g.V.Blocks.seen new.v) (g.V.Volume.kept new.v)
    (record { still = c.set_range.ensures.stays.ready.1; rest = c.set_range.ensures.stays.rest; settled = g.met.V.Volume.settled _ c.set_range.ensures.stays.ready.0 })
    c.args.table.now c.set_range.new.self s path r called c.in-Range.off c.in-Range.len c.set_range.result c.txn_reply.result c.set_range.ensures.ends c.set_range.ensures.fault c.set_range.ensures.table c.set_range.ensures.before c.set_range.ensures.fits c.txn_reply.ensures.tells)

pub returns-in-Range-clause-ends : goal.returns-in-Range-clause-ends
returns-in-Range-clause-ends g c = ends_by_as (g.V.Blocks.health c.args.view.now.v) (g.V.Blocks.health c.set_range.new.r.v) (IsFault c.set_range.result) (IsErrOf c.set_range.result Stopped) (TellsFault c.txn_reply.result) (IsErr c.txn_reply.result) c.txn_reply.ensures.fault c.txn_reply.ensures.stop c.txn_reply.ensures.stopped c.set_range.ensures.causes

pub returns-in-Commit-clause-answered : goal.returns-in-Commit-clause-answered
returns-in-Commit-clause-answered g c =
    let old = c.args.view.now in
    let new = c.commit.new.r in
    λ s path r called at.
    let is : c.args.request.now ≡ Commit path = c.in-Commit.is ∙ ap (λ p. Commit p) (subst (IsAt path) c.in-Commit.is at) in
    subst (λ a. RequestEnds old.shape (g.V.Blocks.seen new.v) (g.V.Volume.kept new.v) c.commit.new.self s a c.txn_reply-in-Commit.result) (sym is)
    (commit_replied old.shape old.ino old.words (g.V.Blocks.seen old.v) (g.V.Volume.kept old.v) new.shape new.ino new.words (g.V.Blocks.seen new.v) (g.V.Volume.kept new.v)
    (record { still = c.commit.ensures.stays.ready.1; rest = c.commit.ensures.stays.rest; settled = g.met.V.Volume.settled _ c.commit.ensures.stays.ready.0 })
    c.args.table.now c.commit.new.self s path r called c.commit.result c.txn_reply-in-Commit.result c.commit.ensures.ends c.commit.ensures.fault c.commit.ensures.either c.commit.ensures.closed c.commit.ensures.table c.commit.ensures.fits c.txn_reply-in-Commit.ensures.tells)

pub returns-in-Commit-clause-ends : goal.returns-in-Commit-clause-ends
returns-in-Commit-clause-ends g c = ends_by_as (g.V.Blocks.health c.args.view.now.v) (g.V.Blocks.health c.commit.new.r.v) (IsFault c.commit.result) (IsErrOf c.commit.result Stopped) (TellsFault c.txn_reply-in-Commit.result) (IsErr c.txn_reply-in-Commit.result) c.txn_reply-in-Commit.ensures.fault c.txn_reply-in-Commit.ensures.stop c.txn_reply-in-Commit.ensures.stopped c.commit.ensures.causes

pub returns-in-Abort-clause-answered : goal.returns-in-Abort-clause-answered
returns-in-Abort-clause-answered g c =
    let old = c.args.view.now in
    let new = c.abort.new.r in
    λ s path r called at.
    let is : c.args.request.now ≡ Abort path = c.in-Abort.is ∙ ap (λ p. Abort p) (subst (IsAt path) c.in-Abort.is at) in
    subst (λ a. RequestEnds old.shape (g.V.Blocks.seen new.v) (g.V.Volume.kept new.v) c.abort.new.self s a c.txn_reply-in-Abort.result) (sym is)
    (abort_replied old.shape old.ino old.words (g.V.Blocks.seen old.v) (g.V.Volume.kept old.v) new.shape new.ino new.words (g.V.Blocks.seen new.v) (g.V.Volume.kept new.v)
    (record { still = c.abort.ensures.stays.ready.1; rest = c.abort.ensures.stays.rest; settled = g.met.V.Volume.settled _ c.abort.ensures.stays.ready.0 })
    c.args.table.now c.abort.new.self s path r called c.abort.result c.txn_reply-in-Abort.result c.abort.ensures.ends c.abort.ensures.closed c.abort.ensures.doomed c.abort.ensures.before c.abort.ensures.fits c.txn_reply-in-Abort.ensures.tells)

pub returns-in-Abort-clause-ends : goal.returns-in-Abort-clause-ends
returns-in-Abort-clause-ends g c = ends_by_as (g.V.Blocks.health c.args.view.now.v) (g.V.Blocks.health c.abort.new.r.v) (IsFault c.abort.result) (IsErrOf c.abort.result Stopped) (TellsFault c.txn_reply-in-Abort.result) (IsErr c.txn_reply-in-Abort.result) c.txn_reply-in-Abort.ensures.fault c.txn_reply-in-Abort.ensures.stop c.txn_reply-in-Abort.ensures.stopped c.abort.ensures.causes

pub returns-in-Begin-clause-rest : goal.returns-in-Begin-clause-rest
returns-in-Begin-clause-rest g c = rest_refl _ _ _

pub answer_within-requires-clause-within : goal.answer_within-requires-clause-within
answer_within-requires-clause-within g c =
    let d = c.in_default in
    left_within c.requires.at.0 c.args.request.now (record { begin = d.not-Begin; range = d.not-Range; commit = d.not-Commit; abort = d.not-Abort }) c.requires.at.1

pub set_range-requires-clause-ready : goal.set_range-requires-clause-ready
set_range-requires-clause-ready g c = (c.requires.sound, c.requires.on, c.requires.inode)

pub commit-requires-clause-ready : goal.commit-requires-clause-ready
commit-requires-clause-ready g c = (c.requires.sound, c.requires.on, c.requires.inode)

pub abort-requires-clause-ready : goal.abort-requires-clause-ready
abort-requires-clause-ready g c = (c.requires.sound, c.requires.on, c.requires.inode)

pub returns-in-Begin-clause-goes : goal.returns-in-Begin-clause-goes
returns-in-Begin-clause-goes g c = goes_refl _ _

pub returns-in-Begin-clause-ends : goal.returns-in-Begin-clause-ends
returns-in-Begin-clause-ends g c = reply_well _ _ c.begin_reply.result refl c.begin_reply.ensures.fault
