use Rattle.rio_core.proofs.Common.{◌≡◌, ◌∙◌, sym, ap, subst, IsErr, IsErrOf, Put, Get, Alloc, Free, IsFault, Stopped}
use Rattle.rio_base.proofs.Rules.{ends_by_as}
use Rattle.vista_region.specs.declared.failures.GetFail.TheVariants.{Fault as GetFault, Stopped as GetStopped}
use Rattle.rio_requests.specs.Requests.{IsRequest}
use Rattle.rio_core.specs.CallEnds.{IsAt}
use Rattle.rio_core.specs.Serving.{RequestEnds, TellsFault}
use Rattle.rio_core.proofs.Lookups.{none_within}
use Rattle.rio_core.proofs.RegionReplies.{alloc_replied, free_replied, get_replied, put_replied}
use Rattle.rio_core.proofs.regions.answer_within.Goals as goal

pub returns-in-Put-clause-answered : goal.returns-in-Put-clause-answered
returns-in-Put-clause-answered g c =
    let old = c.args.view.now in
    let new = c.put.new.r in
    λ s path r called at.
    let is : c.args.request.now ≡ Put path c.in-Put.off c.as_slice.result.now = c.in-Put.is ∙ ap (λ p. Put p c.in-Put.off c.in-Put.bytes) (subst (IsAt path) c.in-Put.is at) ∙ ap (Put path c.in-Put.off) (sym c.as_slice.ensures) in
    subst (λ a. RequestEnds old.shape (g.V.Blocks.seen new.v) (g.V.Volume.kept new.v) c.put.new.self s a c.number_reply.result) (sym is)
    (put_replied old.shape old.ino old.words (g.V.Blocks.seen old.v) (g.V.Volume.kept old.v) new.shape new.ino new.words (g.V.Blocks.seen new.v) (g.V.Volume.kept new.v)
    (record { still = c.put.ensures.stays.ready.1; rest = c.put.ensures.stays.rest; settled = g.met.V.Volume.settled _ c.put.ensures.stays.ready.0 })
    c.args.table.now c.put.new.self s path r called c.in-Put.off c.as_slice.result.now c.put.result c.number_reply.result c.put.ensures.ends c.put.ensures.fault c.put.ensures.table c.put.ensures.before c.put.ensures.fits c.number_reply.ensures.tells)

pub returns-in-Put-clause-ends : goal.returns-in-Put-clause-ends
returns-in-Put-clause-ends g c = ends_by_as (g.V.Blocks.health c.args.view.now.v) (g.V.Blocks.health c.put.new.r.v) (IsFault c.put.result) (IsErrOf c.put.result Stopped) (TellsFault c.number_reply.result) (IsErr c.number_reply.result) c.number_reply.ensures.fault c.number_reply.ensures.stop c.number_reply.ensures.stopped c.put.ensures.causes

pub returns-in-Get-clause-answered : goal.returns-in-Get-clause-answered
returns-in-Get-clause-answered g c =
    let old = c.args.view.now in
    let new = c.get.new.r in
    λ s path r called at.
    let is : c.args.request.now ≡ Get path c.in-Get.off c.in-Get.len = c.in-Get.is ∙ ap (λ p. Get p c.in-Get.off c.in-Get.len) (subst (IsAt path) c.in-Get.is at) in
    subst (λ a. RequestEnds old.shape (g.V.Blocks.seen new.v) (g.V.Volume.kept new.v) c.args.table.now s a c.get_reply.result) (sym is)
    (get_replied old.shape old.ino old.words (g.V.Blocks.seen old.v) (g.V.Volume.kept old.v) new.shape new.ino new.words (g.V.Blocks.seen new.v) (g.V.Volume.kept new.v)
    (record { still = c.get.ensures.stays.ready.1; rest = c.get.ensures.stays.rest; settled = g.met.V.Volume.settled _ c.get.ensures.stays.ready.0 })
    c.args.table.now s path r called c.in-Get.off c.in-Get.len c.get.result c.get_reply.result c.get.ensures.ok c.get.ensures.refused c.get.ensures.words c.get_reply.ensures.tells)

pub returns-in-Get-clause-ends : goal.returns-in-Get-clause-ends
returns-in-Get-clause-ends g c = ends_by_as (g.V.Blocks.health c.args.view.now.v) (g.V.Blocks.health c.get.new.r.v) (IsErrOf c.get.result GetFault) (IsErrOf c.get.result GetStopped) (TellsFault c.get_reply.result) (IsErr c.get_reply.result) c.get_reply.ensures.fault c.get_reply.ensures.stop c.get_reply.ensures.stopped c.get.ensures.causes

pub returns-in-Alloc-clause-answered : goal.returns-in-Alloc-clause-answered
returns-in-Alloc-clause-answered g c =
    let old = c.args.view.now in
    let new = c.allocate.new.r in
    λ s path r called at.
    let is : c.args.request.now ≡ Alloc path c.in-Alloc.units = c.in-Alloc.is ∙ ap (λ p. Alloc p c.in-Alloc.units) (subst (IsAt path) c.in-Alloc.is at) in
    subst (λ a. RequestEnds old.shape (g.V.Blocks.seen new.v) (g.V.Volume.kept new.v) c.allocate.new.self s a c.number_reply-in-Alloc.result) (sym is)
    (alloc_replied old.shape old.ino old.words (g.V.Blocks.seen old.v) (g.V.Volume.kept old.v) new.shape new.ino new.words (g.V.Blocks.seen new.v) (g.V.Volume.kept new.v)
    (record { still = c.allocate.ensures.stays.ready.1; rest = c.allocate.ensures.stays.rest; settled = g.met.V.Volume.settled _ c.allocate.ensures.stays.ready.0 })
    c.args.table.now c.allocate.new.self s path r called c.in-Alloc.units c.allocate.result c.number_reply-in-Alloc.result c.allocate.ensures.ends c.allocate.ensures.table c.allocate.ensures.doomed c.allocate.ensures.before c.allocate.ensures.fits c.number_reply-in-Alloc.ensures.tells)

pub returns-in-Alloc-clause-ends : goal.returns-in-Alloc-clause-ends
returns-in-Alloc-clause-ends g c = ends_by_as (g.V.Blocks.health c.args.view.now.v) (g.V.Blocks.health c.allocate.new.r.v) (IsFault c.allocate.result) (IsErrOf c.allocate.result Stopped) (TellsFault c.number_reply-in-Alloc.result) (IsErr c.number_reply-in-Alloc.result) c.number_reply-in-Alloc.ensures.fault c.number_reply-in-Alloc.ensures.stop c.number_reply-in-Alloc.ensures.stopped c.allocate.ensures.causes

pub returns-in-Free-clause-answered : goal.returns-in-Free-clause-answered
returns-in-Free-clause-answered g c =
    let old = c.args.view.now in
    let new = c.release.new.r in
    λ s path r called at.
    let is : c.args.request.now ≡ Free path c.in-Free.at = c.in-Free.is ∙ ap (λ p. Free p c.in-Free.at) (subst (IsAt path) c.in-Free.is at) in
    subst (λ a. RequestEnds old.shape (g.V.Blocks.seen new.v) (g.V.Volume.kept new.v) c.release.new.self s a c.txn_reply.result) (sym is)
    (free_replied old.shape old.ino old.words (g.V.Blocks.seen old.v) (g.V.Volume.kept old.v) new.shape new.ino new.words (g.V.Blocks.seen new.v) (g.V.Volume.kept new.v)
    (record { still = c.release.ensures.stays.ready.1; rest = c.release.ensures.stays.rest; settled = g.met.V.Volume.settled _ c.release.ensures.stays.ready.0 })
    c.args.table.now c.release.new.self s path r called c.in-Free.at c.release.result c.txn_reply.result c.release.ensures.ends c.release.ensures.table c.release.ensures.doomed c.release.ensures.before c.release.ensures.fits c.txn_reply.ensures.tells)

pub returns-in-Free-clause-ends : goal.returns-in-Free-clause-ends
returns-in-Free-clause-ends g c = ends_by_as (g.V.Blocks.health c.args.view.now.v) (g.V.Blocks.health c.release.new.r.v) (IsFault c.release.result) (IsErrOf c.release.result Stopped) (TellsFault c.txn_reply.result) (IsErr c.txn_reply.result) c.txn_reply.ensures.fault c.txn_reply.ensures.stop c.txn_reply.ensures.stopped c.release.ensures.causes

pub unreachable-requires : goal.unreachable-requires
unreachable-requires g c =
    let d = c.in_default in
    none_within c.args.request.now (record { put = d.not-Put; get = d.not-Get; alloc = d.not-Alloc; free = d.not-Free }) c.requires.within

pub put-requires-clause-ready : goal.put-requires-clause-ready
put-requires-clause-ready g c = (c.requires.sound, c.requires.on, c.requires.inode)

pub get-requires-clause-ready : goal.get-requires-clause-ready
get-requires-clause-ready g c = (c.requires.sound, c.requires.on, c.requires.inode)

pub allocate-requires-clause-ready : goal.allocate-requires-clause-ready
allocate-requires-clause-ready g c = (c.requires.sound, c.requires.on, c.requires.inode)

pub release-requires-clause-ready : goal.release-requires-clause-ready
release-requires-clause-ready g c = (c.requires.sound, c.requires.on, c.requires.inode)

pub allocate-requires-clause-units : goal.allocate-requires-clause-units
allocate-requires-clause-units g c = (subst IsRequest c.in-Alloc.is c.requires.request).1
