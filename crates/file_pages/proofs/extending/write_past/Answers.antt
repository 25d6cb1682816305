use Rattle.node_pages.proofs.Ends.{size_runs}
use Rattle.node_pages.proofs.EndsOn.{on_any, if_err}
use Rattle.file_pages.proofs.Common.{◌+◌, ◌/◌, length, sym, subst, arith, err_from_is_err_and, ◌then◌, ends_by_after, numbers}
use Rattle.node_pages.specs.Changes.{planned_node}
use Rattle.file_pages.specs.Extending.{Extends}
use Rattle.node_pages.proofs.OrderRules.{ready_left}
use Rattle.file_pages.specs.Preparing.{Prepared}
use Rattle.file_pages.proofs.Dropped.{file_kind}
use Rattle.file_pages.proofs.ExtensionEnds.{made_told, parts_err, planned_err, tail_err, told_unrefused}
use Rattle.file_pages.proofs.ExtensionOpened.{Opened, holds_written, led, may_apart, may_name, may_place, opened, span_count, still_prepared}
use Rattle.file_pages.proofs.GrowEnds.{cleared_both, file_left}
use Rattle.node_pages.proofs.Listed.{as_many}
use Rattle.file_pages.proofs.Prepared.{prepared_can}
use Rattle.file_pages.proofs.Written.{ends_told_after, ends_write, bytes_unrefused, ends_write_size, ends_write_vol, refused_size, vol_unrefused, bytes_runs}
use Rattle.file_pages.proofs.extending.write_past.Goals as goal

pub returns-in_err-planned-clause-leaves : goal.returns-in_err-planned-clause-leaves
returns-in_err-planned-clause-leaves g c =
    let shape = c.args.shape.now in
    let x = g.V.Blocks.seen c.args.v.now in
    let k = g.V.Volume.kept c.args.v.now in
    let i = c.args.i.0 in
    let given = c.args.inode.now in
    let off = c.args.off in
    let bytes = c.args.bytes.now in
    let y = g.V.Blocks.seen c.plan_extension.new.v in
    let j = g.V.Volume.kept c.plan_extension.new.v in
    let leaves = c.plan_extension.ensures.leaves in
    let p = err_from_is_err_and c.from_residual.result c.from_residual.ensures.1 in
    planned_err shape x k y j i off bytes c.from_residual.result _ p.0 p.1 p.2 c.requires.ready (g.met.V.Volume.settled _ c.requires.sound) (file_kind shape _ i given c.requires.ino c.requires.inode c.requires.file) leaves

pub clear_tail-requires-clause-ready : goal.clear_tail-requires-clause-ready
clear_tail-requires-clause-ready g c =
    ready_left c.args.shape.now _ _ _ _ c.requires.ready c.plan_extension.ensures.leaves

pub returns-in_err-clear_tail-clause-leaves : goal.returns-in_err-clear_tail-clause-leaves
returns-in_err-clear_tail-clause-leaves g c =
    let shape = c.args.shape.now in
    let x = g.V.Blocks.seen c.args.v.now in
    let k = g.V.Volume.kept c.args.v.now in
    let i = c.args.i.0 in
    let given = c.args.inode.now in
    let off = c.args.off in
    let bytes = c.args.bytes.now in
    let y = g.V.Blocks.seen c.plan_extension.new.v in
    let j = g.V.Volume.kept c.plan_extension.new.v in
    let leaves = c.plan_extension.ensures.leaves in
    let z = g.V.Blocks.seen c.clear_tail.new.v in
    let l = g.V.Volume.kept c.clear_tail.new.v in
    let tail = c.clear_tail.ensures in
    let settled = g.met.V.Volume.settled _ tail.sound in
    let p = err_from_is_err_and c.from_residual-in_err-clear_tail.result c.from_residual-in_err-clear_tail.ensures.1 in
    tail_err shape x k z l i off bytes c.from_residual-in_err-clear_tail.result _ p.0 p.1 p.2 tail.stores.ready settled (cleared_both shape x k y j z l i given c.requires.ino c.requires.ready settled c.requires.inode c.requires.file leaves tail.stores tail.bytes)

pub returns-in_err-clear_tail-clause-goes : goal.returns-in_err-clear_tail-clause-goes
returns-in_err-clear_tail-clause-goes g c =
    c.plan_extension.ensures.goes then c.clear_tail.ensures.goes

pub store_parts-requires-clause-places : goal.store_parts-requires-clause-places
store_parts-requires-clause-places g c =
    let shape = c.args.shape.now in
    let x = g.V.Blocks.seen c.args.v.now in
    let k = g.V.Volume.kept c.args.v.now in
    let i = c.args.i.0 in
    let given = c.args.inode.now in
    let off = c.args.off in
    let bytes = c.args.bytes.now in
    let y = g.V.Blocks.seen c.plan_extension.new.v in
    let j = g.V.Volume.kept c.plan_extension.new.v in
    let leaves = c.plan_extension.ensures.leaves in
    let z = g.V.Blocks.seen c.clear_tail.new.v in
    let l = g.V.Volume.kept c.clear_tail.new.v in
    let tail = c.clear_tail.ensures in
    let settled = g.met.V.Volume.settled _ tail.sound in
    let change = c.in_ok-planned.planned.0 in
    let first = off / 4096 in
    let m = planned_node x.words i given (off + length bytes) change in
    let blocks = numbers c.deref.result.now in
    let extends : Extends shape x.words y j i given (off + length bytes) first change blocks = subst (λ bs. Extends shape x.words y j i given (off + length bytes) first change (numbers bs)) (sym c.deref.ensures.value) c.in_ok-planned.ensures.ok in
    let o : Opened shape x.words z l i given.size off bytes first m change blocks = opened shape x k y j z l i given off bytes first change blocks c.requires.ino c.requires.ready settled c.requires.inode c.requires.file c.requires.some c.requires.past (omega arith) leaves extends c.in_ok-planned.ensures.room c.in_ok-clear_tail.ensures.cleared tail.stores tail.bytes in
    λ t few. may_place shape x.words z l i given.size off bytes first m change blocks o t (omega (arith, few, as_many c.deref.result.now))

pub store_parts-requires-clause-apart : goal.store_parts-requires-clause-apart
store_parts-requires-clause-apart g c =
    let shape = c.args.shape.now in
    let x = g.V.Blocks.seen c.args.v.now in
    let k = g.V.Volume.kept c.args.v.now in
    let i = c.args.i.0 in
    let given = c.args.inode.now in
    let off = c.args.off in
    let bytes = c.args.bytes.now in
    let y = g.V.Blocks.seen c.plan_extension.new.v in
    let j = g.V.Volume.kept c.plan_extension.new.v in
    let leaves = c.plan_extension.ensures.leaves in
    let z = g.V.Blocks.seen c.clear_tail.new.v in
    let l = g.V.Volume.kept c.clear_tail.new.v in
    let tail = c.clear_tail.ensures in
    let settled = g.met.V.Volume.settled _ tail.sound in
    let change = c.in_ok-planned.planned.0 in
    let first = off / 4096 in
    let m = planned_node x.words i given (off + length bytes) change in
    let blocks = numbers c.deref.result.now in
    let extends : Extends shape x.words y j i given (off + length bytes) first change blocks = subst (λ bs. Extends shape x.words y j i given (off + length bytes) first change (numbers bs)) (sym c.deref.ensures.value) c.in_ok-planned.ensures.ok in
    let o : Opened shape x.words z l i given.size off bytes first m change blocks = opened shape x k y j z l i given off bytes first change blocks c.requires.ino c.requires.ready settled c.requires.inode c.requires.file c.requires.some c.requires.past (omega arith) leaves extends c.in_ok-planned.ensures.room c.in_ok-clear_tail.ensures.cleared tail.stores tail.bytes in
    may_apart shape x.words z l i given.size off bytes first m change blocks o

pub store_parts-requires-clause-few : goal.store_parts-requires-clause-few
store_parts-requires-clause-few g c =
    let shape = c.args.shape.now in
    let x = g.V.Blocks.seen c.args.v.now in
    let k = g.V.Volume.kept c.args.v.now in
    let i = c.args.i.0 in
    let given = c.args.inode.now in
    let off = c.args.off in
    let bytes = c.args.bytes.now in
    let y = g.V.Blocks.seen c.plan_extension.new.v in
    let j = g.V.Volume.kept c.plan_extension.new.v in
    let leaves = c.plan_extension.ensures.leaves in
    let z = g.V.Blocks.seen c.clear_tail.new.v in
    let l = g.V.Volume.kept c.clear_tail.new.v in
    let tail = c.clear_tail.ensures in
    let settled = g.met.V.Volume.settled _ tail.sound in
    let change = c.in_ok-planned.planned.0 in
    let first = off / 4096 in
    let m = planned_node x.words i given (off + length bytes) change in
    let blocks = numbers c.deref.result.now in
    let extends : Extends shape x.words y j i given (off + length bytes) first change blocks = subst (λ bs. Extends shape x.words y j i given (off + length bytes) first change (numbers bs)) (sym c.deref.ensures.value) c.in_ok-planned.ensures.ok in
    let o : Opened shape x.words z l i given.size off bytes first m change blocks = opened shape x k y j z l i given off bytes first change blocks c.requires.ino c.requires.ready settled c.requires.inode c.requires.file c.requires.some c.requires.past (omega arith) leaves extends c.in_ok-planned.ensures.room c.in_ok-clear_tail.ensures.cleared tail.stores tail.bytes in
    omega (arith, span_count shape x.words z l i given.size off bytes first m change blocks o, as_many c.deref.result.now, c.requires.most)

pub store_parts-requires-clause-to : goal.store_parts-requires-clause-to
store_parts-requires-clause-to g c =
    let shape = c.args.shape.now in
    let x = g.V.Blocks.seen c.args.v.now in
    let k = g.V.Volume.kept c.args.v.now in
    let i = c.args.i.0 in
    let given = c.args.inode.now in
    let off = c.args.off in
    let bytes = c.args.bytes.now in
    let y = g.V.Blocks.seen c.plan_extension.new.v in
    let j = g.V.Volume.kept c.plan_extension.new.v in
    let leaves = c.plan_extension.ensures.leaves in
    let z = g.V.Blocks.seen c.clear_tail.new.v in
    let l = g.V.Volume.kept c.clear_tail.new.v in
    let tail = c.clear_tail.ensures in
    let settled = g.met.V.Volume.settled _ tail.sound in
    let change = c.in_ok-planned.planned.0 in
    let first = off / 4096 in
    let m = planned_node x.words i given (off + length bytes) change in
    let blocks = numbers c.deref.result.now in
    let extends : Extends shape x.words y j i given (off + length bytes) first change blocks = subst (λ bs. Extends shape x.words y j i given (off + length bytes) first change (numbers bs)) (sym c.deref.ensures.value) c.in_ok-planned.ensures.ok in
    let o : Opened shape x.words z l i given.size off bytes first m change blocks = opened shape x k y j z l i given off bytes first change blocks c.requires.ino c.requires.ready settled c.requires.inode c.requires.file c.requires.some c.requires.past (omega arith) leaves extends c.in_ok-planned.ensures.room c.in_ok-clear_tail.ensures.cleared tail.stores tail.bytes in
    omega (arith, span_count shape x.words z l i given.size off bytes first m change blocks o, as_many c.deref.result.now)

pub store_parts-requires-clause-named : goal.store_parts-requires-clause-named
store_parts-requires-clause-named g c =
    let shape = c.args.shape.now in
    let x = g.V.Blocks.seen c.args.v.now in
    let k = g.V.Volume.kept c.args.v.now in
    let i = c.args.i.0 in
    let given = c.args.inode.now in
    let off = c.args.off in
    let bytes = c.args.bytes.now in
    let y = g.V.Blocks.seen c.plan_extension.new.v in
    let j = g.V.Volume.kept c.plan_extension.new.v in
    let leaves = c.plan_extension.ensures.leaves in
    let z = g.V.Blocks.seen c.clear_tail.new.v in
    let l = g.V.Volume.kept c.clear_tail.new.v in
    let tail = c.clear_tail.ensures in
    let settled = g.met.V.Volume.settled _ tail.sound in
    let change = c.in_ok-planned.planned.0 in
    let first = off / 4096 in
    let m = planned_node x.words i given (off + length bytes) change in
    let blocks = numbers c.deref.result.now in
    let extends : Extends shape x.words y j i given (off + length bytes) first change blocks = subst (λ bs. Extends shape x.words y j i given (off + length bytes) first change (numbers bs)) (sym c.deref.ensures.value) c.in_ok-planned.ensures.ok in
    let o : Opened shape x.words z l i given.size off bytes first m change blocks = opened shape x k y j z l i given off bytes first change blocks c.requires.ino c.requires.ready settled c.requires.inode c.requires.file c.requires.some c.requires.past (omega arith) leaves extends c.in_ok-planned.ensures.room c.in_ok-clear_tail.ensures.cleared tail.stores tail.bytes in
    may_name shape x.words z l i given.size off bytes first m change blocks o

pub returns-in_err-store_parts-clause-leaves : goal.returns-in_err-store_parts-clause-leaves
returns-in_err-store_parts-clause-leaves g c =
    let shape = c.args.shape.now in
    let x = g.V.Blocks.seen c.args.v.now in
    let k = g.V.Volume.kept c.args.v.now in
    let i = c.args.i.0 in
    let given = c.args.inode.now in
    let off = c.args.off in
    let bytes = c.args.bytes.now in
    let y = g.V.Blocks.seen c.plan_extension.new.v in
    let j = g.V.Volume.kept c.plan_extension.new.v in
    let leaves = c.plan_extension.ensures.leaves in
    let z = g.V.Blocks.seen c.clear_tail.new.v in
    let l = g.V.Volume.kept c.clear_tail.new.v in
    let tail = c.clear_tail.ensures in
    let settled = g.met.V.Volume.settled _ tail.sound in
    let change = c.in_ok-planned.planned.0 in
    let first = off / 4096 in
    let m = planned_node x.words i given (off + length bytes) change in
    let blocks = numbers c.deref.result.now in
    let extends : Extends shape x.words y j i given (off + length bytes) first change blocks = subst (λ bs. Extends shape x.words y j i given (off + length bytes) first change (numbers bs)) (sym c.deref.ensures.value) c.in_ok-planned.ensures.ok in
    let o : Opened shape x.words z l i given.size off bytes first m change blocks = opened shape x k y j z l i given off bytes first change blocks c.requires.ino c.requires.ready settled c.requires.inode c.requires.file c.requires.some c.requires.past (omega arith) leaves extends c.in_ok-planned.ensures.room c.in_ok-clear_tail.ensures.cleared tail.stores tail.bytes in
    let w = g.V.Blocks.seen c.store_parts.new.v in
    let h = g.V.Volume.kept c.store_parts.new.v in
    let parts = c.store_parts.ensures in
    let prepared : Prepared shape x.words w h i m change = still_prepared shape x.words z l w h i given.size off bytes first m change blocks o parts.beside parts.named parts.firm parts.idle (g.met.V.Volume.settled _ parts.sound) in
    let p = err_from_is_err_and c.from_residual-in_err-store_parts.result c.from_residual-in_err-store_parts.ensures.1 in
    parts_err shape x k w h i off bytes c.store_parts.result _ c.from_residual-in_err-store_parts.result p.0 c.in_err-store_parts.was p.1 p.2 prepared.ready prepared.settled o.space
    (λ n is. led shape x.words z l w h i given.size off bytes first m change blocks n o prepared (parts.fault n is))
    (parts.front.0, led shape x.words z l w h i given.size off bytes first m change blocks parts.front.0 o prepared parts.front.1)

pub returns-in_err-store_parts-clause-goes : goal.returns-in_err-store_parts-clause-goes
returns-in_err-store_parts-clause-goes g c =
    c.plan_extension.ensures.goes then c.clear_tail.ensures.goes then c.store_parts.ensures.goes

pub returns-in_err-store_parts-clause-ends : goal.returns-in_err-store_parts-clause-ends
returns-in_err-store_parts-clause-ends g c =
    let p = err_from_is_err_and c.from_residual-in_err-store_parts.result c.from_residual-in_err-store_parts.ensures.1 in
    ends_by_after _ _ _ _ _ c.plan_extension.ensures.ends.later (size_runs _ _ _ c.in_ok-planned.ensures.ends)
    (ends_by_after _ _ _ _ _ c.clear_tail.ensures.ends.later c.in_ok-clear_tail.ensures.ends.cause
    (ends_write _ _ c.store_parts.result c.from_residual-in_err-store_parts.result _ p.0 c.in_err-store_parts.was p.1 p.2 c.store_parts.ensures.ends))

pub commit_change-requires-clause-shape : goal.commit_change-requires-clause-shape
commit_change-requires-clause-shape g c =
    let shape = c.args.shape.now in
    let x = g.V.Blocks.seen c.args.v.now in
    let k = g.V.Volume.kept c.args.v.now in
    let i = c.args.i.0 in
    let given = c.args.inode.now in
    let off = c.args.off in
    let bytes = c.args.bytes.now in
    let y = g.V.Blocks.seen c.plan_extension.new.v in
    let j = g.V.Volume.kept c.plan_extension.new.v in
    let leaves = c.plan_extension.ensures.leaves in
    let z = g.V.Blocks.seen c.clear_tail.new.v in
    let l = g.V.Volume.kept c.clear_tail.new.v in
    let tail = c.clear_tail.ensures in
    let settled = g.met.V.Volume.settled _ tail.sound in
    let change = c.in_ok-planned.planned.0 in
    let first = off / 4096 in
    let m = planned_node x.words i given (off + length bytes) change in
    let blocks = numbers c.deref.result.now in
    let extends : Extends shape x.words y j i given (off + length bytes) first change blocks = subst (λ bs. Extends shape x.words y j i given (off + length bytes) first change (numbers bs)) (sym c.deref.ensures.value) c.in_ok-planned.ensures.ok in
    let o : Opened shape x.words z l i given.size off bytes first m change blocks = opened shape x k y j z l i given off bytes first change blocks c.requires.ino c.requires.ready settled c.requires.inode c.requires.file c.requires.some c.requires.past (omega arith) leaves extends c.in_ok-planned.ensures.room c.in_ok-clear_tail.ensures.cleared tail.stores tail.bytes in
    let w = g.V.Blocks.seen c.store_parts.new.v in
    let h = g.V.Volume.kept c.store_parts.new.v in
    let parts = c.store_parts.ensures in
    let prepared : Prepared shape x.words w h i m change = still_prepared shape x.words z l w h i given.size off bytes first m change blocks o parts.beside parts.named parts.firm parts.idle (g.met.V.Volume.settled _ parts.sound) in
    prepared.ready.order.has_shape

pub commit_change-requires-clause-can : goal.commit_change-requires-clause-can
commit_change-requires-clause-can g c =
    let shape = c.args.shape.now in
    let x = g.V.Blocks.seen c.args.v.now in
    let k = g.V.Volume.kept c.args.v.now in
    let i = c.args.i.0 in
    let given = c.args.inode.now in
    let off = c.args.off in
    let bytes = c.args.bytes.now in
    let y = g.V.Blocks.seen c.plan_extension.new.v in
    let j = g.V.Volume.kept c.plan_extension.new.v in
    let leaves = c.plan_extension.ensures.leaves in
    let z = g.V.Blocks.seen c.clear_tail.new.v in
    let l = g.V.Volume.kept c.clear_tail.new.v in
    let tail = c.clear_tail.ensures in
    let settled = g.met.V.Volume.settled _ tail.sound in
    let change = c.in_ok-planned.planned.0 in
    let first = off / 4096 in
    let m = planned_node x.words i given (off + length bytes) change in
    let blocks = numbers c.deref.result.now in
    let extends : Extends shape x.words y j i given (off + length bytes) first change blocks = subst (λ bs. Extends shape x.words y j i given (off + length bytes) first change (numbers bs)) (sym c.deref.ensures.value) c.in_ok-planned.ensures.ok in
    let o : Opened shape x.words z l i given.size off bytes first m change blocks = opened shape x k y j z l i given off bytes first change blocks c.requires.ino c.requires.ready settled c.requires.inode c.requires.file c.requires.some c.requires.past (omega arith) leaves extends c.in_ok-planned.ensures.room c.in_ok-clear_tail.ensures.cleared tail.stores tail.bytes in
    let w = g.V.Blocks.seen c.store_parts.new.v in
    let h = g.V.Volume.kept c.store_parts.new.v in
    let parts = c.store_parts.ensures in
    let prepared : Prepared shape x.words w h i m change = still_prepared shape x.words z l w h i given.size off bytes first m change blocks o parts.beside parts.named parts.firm parts.idle (g.met.V.Volume.settled _ parts.sound) in
    prepared_can shape x.words w h i m change prepared

pub returns-clause-leaves : goal.returns-clause-leaves
returns-clause-leaves g c =
    let shape = c.args.shape.now in
    let x = g.V.Blocks.seen c.args.v.now in
    let k = g.V.Volume.kept c.args.v.now in
    let i = c.args.i.0 in
    let given = c.args.inode.now in
    let off = c.args.off in
    let bytes = c.args.bytes.now in
    let y = g.V.Blocks.seen c.plan_extension.new.v in
    let j = g.V.Volume.kept c.plan_extension.new.v in
    let leaves = c.plan_extension.ensures.leaves in
    let z = g.V.Blocks.seen c.clear_tail.new.v in
    let l = g.V.Volume.kept c.clear_tail.new.v in
    let tail = c.clear_tail.ensures in
    let settled = g.met.V.Volume.settled _ tail.sound in
    let change = c.in_ok-planned.planned.0 in
    let first = off / 4096 in
    let m = planned_node x.words i given (off + length bytes) change in
    let blocks = numbers c.deref.result.now in
    let extends : Extends shape x.words y j i given (off + length bytes) first change blocks = subst (λ bs. Extends shape x.words y j i given (off + length bytes) first change (numbers bs)) (sym c.deref.ensures.value) c.in_ok-planned.ensures.ok in
    let o : Opened shape x.words z l i given.size off bytes first m change blocks = opened shape x k y j z l i given off bytes first change blocks c.requires.ino c.requires.ready settled c.requires.inode c.requires.file c.requires.some c.requires.past (omega arith) leaves extends c.in_ok-planned.ensures.room c.in_ok-clear_tail.ensures.cleared tail.stores tail.bytes in
    let w = g.V.Blocks.seen c.store_parts.new.v in
    let h = g.V.Volume.kept c.store_parts.new.v in
    let parts = c.store_parts.ensures in
    let prepared : Prepared shape x.words w h i m change = still_prepared shape x.words z l w h i given.size off bytes first m change blocks o parts.beside parts.named parts.firm parts.idle (g.met.V.Volume.settled _ parts.sound) in
    made_told shape x k w h (g.V.Blocks.seen c.commit_change.new.v) (g.V.Volume.kept c.commit_change.new.v) i off bytes c.min-within.result m change c.commit_change.result c.told_after.result c.told_after.ensures (holds_written shape x.words z l w h i given.size off bytes first m change blocks c.min-within.result o prepared (omega (arith, c.min-within.ensures, c.saturating_sub.ensures)) c.in_ok-store_parts.ensures.ok) (c.commit_change.ensures.leaves x.words m prepared)

pub returns-clause-goes : goal.returns-clause-goes
returns-clause-goes g c =
    c.plan_extension.ensures.goes then c.clear_tail.ensures.goes then c.store_parts.ensures.goes then c.commit_change.ensures.goes

pub returns-clause-ends : goal.returns-clause-ends
returns-clause-ends g c =
    ends_by_after _ _ _ _ _ c.plan_extension.ensures.ends.later (size_runs _ _ _ c.in_ok-planned.ensures.ends)
    (ends_by_after _ _ _ _ _ c.clear_tail.ensures.ends.later c.in_ok-clear_tail.ensures.ends.cause
    (ends_by_after _ _ _ _ _ c.store_parts.ensures.ends.later (bytes_runs _ _ _ c.in_ok-store_parts.ensures.ends) (ends_told_after _ _ c.min-within.result c.commit_change.result c.told_after.result c.told_after.ensures c.commit_change.ensures.ends)))

pub returns-clause-small : goal.returns-clause-small
returns-clause-small g c = (told_unrefused c.min-within.result c.commit_change.result c.told_after.result c.told_after.ensures c.commit_change.ensures.other).1

pub plan_extension-requires-clause-first : goal.plan_extension-requires-clause-first
plan_extension-requires-clause-first g c = omega arith

pub plan_extension-requires-clause-grows : goal.plan_extension-requires-clause-grows
plan_extension-requires-clause-grows g c = omega (arith, c.requires.past)

pub clear_tail-requires-clause-file : goal.clear_tail-requires-clause-file
clear_tail-requires-clause-file g c = (file_left c.args.shape.now _ _ _ _ c.args.i.0 c.args.inode.now c.requires.ino c.requires.ready c.requires.inode c.requires.file c.plan_extension.ensures.leaves).0

pub clear_tail-requires-clause-size : goal.clear_tail-requires-clause-size
clear_tail-requires-clause-size g c = (file_left c.args.shape.now _ _ _ _ c.args.i.0 c.args.inode.now c.requires.ino c.requires.ready c.requires.inode c.requires.file c.plan_extension.ensures.leaves).1

pub clear_tail-requires-clause-grows : goal.clear_tail-requires-clause-grows
clear_tail-requires-clause-grows g c = omega (arith, c.requires.past)

pub store_parts-requires-clause-file_to : goal.store_parts-requires-clause-file_to
store_parts-requires-clause-file_to g c = let to = c.requires.ino.to in let most = c.requires.ready.order.has_shape.sizes.inodes_to in omega (arith, to, most)

pub store_parts-requires-clause-from : goal.store_parts-requires-clause-from
store_parts-requires-clause-from g c = omega arith

pub store_parts-requires-clause-small : goal.store_parts-requires-clause-small
store_parts-requires-clause-small g c = omega (arith, c.requires.past)

pub returns-clause-no_space : goal.returns-clause-no_space
returns-clause-no_space g c = λ is. absurd ((told_unrefused c.min-within.result c.commit_change.result c.told_after.result c.told_after.ensures c.commit_change.ensures.other).0 is)

pub returns-clause-room : goal.returns-clause-room
returns-clause-room g c = on_any _ c.told_after.result c.in_ok-planned.ensures.room

pub returns-in_err-planned-clause-ends : goal.returns-in_err-planned-clause-ends
returns-in_err-planned-clause-ends g c = let p = err_from_is_err_and c.from_residual.result c.from_residual.ensures.1 in ends_write_size _ _ c.plan_extension.result c.from_residual.result _ p.0 c.in_err-planned.was p.1 p.2 c.plan_extension.ensures.ends

pub returns-in_err-planned-clause-no_space : goal.returns-in_err-planned-clause-no_space
returns-in_err-planned-clause-no_space g c = let p = err_from_is_err_and c.from_residual.result c.from_residual.ensures.1 in λ is. c.plan_extension.ensures.no_space ((refused_size c.plan_extension.result c.from_residual.result _ p.0 c.in_err-planned.was p.1 p.2).0 is)

pub returns-in_err-planned-clause-small : goal.returns-in_err-planned-clause-small
returns-in_err-planned-clause-small g c = let p = err_from_is_err_and c.from_residual.result c.from_residual.ensures.1 in λ is. c.plan_extension.ensures.small ((refused_size c.plan_extension.result c.from_residual.result _ p.0 c.in_err-planned.was p.1 p.2).1 is)

pub returns-in_err-planned-clause-room : goal.returns-in_err-planned-clause-room
returns-in_err-planned-clause-room g c = if_err c.from_residual.result _ c.from_residual.ensures.0

pub returns-in_err-clear_tail-clause-ends : goal.returns-in_err-clear_tail-clause-ends
returns-in_err-clear_tail-clause-ends g c = let p = err_from_is_err_and c.from_residual-in_err-clear_tail.result c.from_residual-in_err-clear_tail.ensures.1 in ends_by_after _ _ _ _ _ c.plan_extension.ensures.ends.later (size_runs _ _ _ c.in_ok-planned.ensures.ends) (ends_write_vol _ _ c.clear_tail.result c.from_residual-in_err-clear_tail.result _ p.0 c.in_err-clear_tail.was p.1 p.2 c.clear_tail.ensures.ends)

pub returns-in_err-clear_tail-clause-no_space : goal.returns-in_err-clear_tail-clause-no_space
returns-in_err-clear_tail-clause-no_space g c = let p = err_from_is_err_and c.from_residual-in_err-clear_tail.result c.from_residual-in_err-clear_tail.ensures.1 in λ is. absurd ((vol_unrefused c.from_residual-in_err-clear_tail.result _ _ p.1 p.2).0 is)

pub returns-in_err-clear_tail-clause-small : goal.returns-in_err-clear_tail-clause-small
returns-in_err-clear_tail-clause-small g c = let p = err_from_is_err_and c.from_residual-in_err-clear_tail.result c.from_residual-in_err-clear_tail.ensures.1 in λ is. absurd ((vol_unrefused c.from_residual-in_err-clear_tail.result _ _ p.1 p.2).1 is)

pub returns-in_err-clear_tail-clause-room : goal.returns-in_err-clear_tail-clause-room
returns-in_err-clear_tail-clause-room g c = if_err c.from_residual-in_err-clear_tail.result _ c.from_residual-in_err-clear_tail.ensures.0

pub returns-in_err-store_parts-clause-no_space : goal.returns-in_err-store_parts-clause-no_space
returns-in_err-store_parts-clause-no_space g c = let p = err_from_is_err_and c.from_residual-in_err-store_parts.result c.from_residual-in_err-store_parts.ensures.1 in λ is. absurd ((bytes_unrefused c.from_residual-in_err-store_parts.result _ _ p.1 p.2).0 is)

pub returns-in_err-store_parts-clause-small : goal.returns-in_err-store_parts-clause-small
returns-in_err-store_parts-clause-small g c = let p = err_from_is_err_and c.from_residual-in_err-store_parts.result c.from_residual-in_err-store_parts.ensures.1 in λ is. absurd ((bytes_unrefused c.from_residual-in_err-store_parts.result _ _ p.1 p.2).1 is)

pub returns-in_err-store_parts-clause-room : goal.returns-in_err-store_parts-clause-room
returns-in_err-store_parts-clause-room g c = if_err c.from_residual-in_err-store_parts.result _ c.from_residual-in_err-store_parts.ensures.0
