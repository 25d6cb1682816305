use Rattle.std.proofs.Common.{rules}
use Rattle.node_pages.proofs.EndsOn.{if_err, on_ok}
use Rattle.file_pages.proofs.Common.{◌∙◌, ℕ, sym, subst, arith, inl, Contains, err_from_is_err_and, ◌then◌, numbers, volume_layout, LeavesInUse}
use Rattle.node_pages.specs.Changes.{planned_node}
use Rattle.node_pages.specs.Staging.{Uncached}
use Rattle.node_pages.proofs.OrderRules.{leaves_beside, leaves_looked, ready_left}
use Rattle.node_pages.proofs.LookingUpRules.{can_look_up}
use Rattle.file_pages.specs.Preparing.{Prepared}
use Rattle.file_pages.proofs.Dropped.{dropped_all, file_fits, file_kind, freed_free, freed_place, new_bytes, old_bytes}
use Rattle.node_pages.proofs.Ends.{size_err, size_then}
use Rattle.file_pages.proofs.SizeEnds.{size_halts, unrefused_err, unrefused_stops}
use Rattle.file_pages.proofs.Extended.{layout_left}
use Rattle.file_pages.proofs.LostBlocks.{prepared_forgets}
use Rattle.file_pages.proofs.Prepared.{leaves_err, made_err, made_ok, prepared_can, shrink_prepared}
use Rattle.file_pages.proofs.resizing.shrink.Goals as goal

-- ---- the plan, which only looks up

pub plan_shrink-requires-clause-inode : goal.plan_shrink-requires-clause-inode
plan_shrink-requires-clause-inode g c = inl (c.requires.inode, omega (arith, c.requires.file))

pub plan_shrink-requires-clause-fits : goal.plan_shrink-requires-clause-fits
plan_shrink-requires-clause-fits g c = file_fits c.args.shape.now _ c.args.i.0 c.args.inode.now c.args.len c.requires.ready.order.mapped c.requires.ino c.requires.inode c.requires.file c.requires.less

pub returns-in_err-change-clause-leaves : goal.returns-in_err-change-clause-leaves
returns-in_err-change-clause-leaves g c =
    let p = err_from_is_err_and c.from_residual.result c.from_residual.ensures.1 in
    let call = c.plan_shrink.ensures in
    let shape = c.args.shape.now in
    leaves_err shape _ _ _ _ c.args.i.0 c.args.len c.from_residual.result p.0 p.1 c.requires.ready (g.met.V.Volume.settled _ c.requires.sound) (file_kind shape _ c.args.i.0 c.args.inode.now c.requires.ino c.requires.inode c.requires.file)
    (leaves_looked shape _ _ _ _ _ _ _ _ c.requires.ready call.read.looks (g.met.V.Volume.passes_keeps _ _ call.read.passed))

pub returns-in_err-change-clause-goes : goal.returns-in_err-change-clause-goes
returns-in_err-change-clause-goes g c = (g.met.V.Volume.passes_keeps _ _ c.plan_shrink.ensures.read.passed).goes

pub returns-in_err-change-clause-ends : goal.returns-in_err-change-clause-ends
returns-in_err-change-clause-ends g c =
    let p = err_from_is_err_and c.from_residual.result c.from_residual.ensures.1 in
    size_err _ _ _ c.from_residual.result _ p.0 c.in_err-change.was p.1 p.2 c.plan_shrink.ensures.read.ends

-- ---- the update

pub commit_change-requires-clause-can : goal.commit_change-requires-clause-can
commit_change-requires-clause-can g c =
    let shape = c.args.shape.now in
    let x = g.V.Blocks.seen c.args.v.now in
    let k = g.V.Volume.kept c.args.v.now in
    let y = g.V.Blocks.seen c.plan_shrink.new.v in
    let j = g.V.Volume.kept c.plan_shrink.new.v in
    let i = c.args.i.0 in
    let len = c.args.len in
    let given = c.args.inode.now in
    let change = c.in_ok-change.change in
    let call = c.plan_shrink.ensures in
    let leaves : LeavesInUse (volume_layout shape x.words) x k y j = leaves_looked shape _ _ _ _ x y k j c.requires.ready call.read.looks (g.met.V.Volume.passes_keeps _ _ call.read.passed) in
    let prepared : Prepared shape x.words y j i (planned_node x.words i given len change) change = shrink_prepared shape x k y j i given len change c.requires.ino c.requires.ready (g.met.V.Volume.settled _ call.read.keeps) leaves (inl (c.requires.inode, omega (arith, c.requires.file))) (sym c.requires.inode.kind ∙ c.requires.file) c.requires.file c.requires.inode.size c.requires.less c.in_ok-change.ensures.ok in
    prepared_can shape x.words y j i (planned_node x.words i given len change) change prepared

pub returns-in_err-commit_change-clause-leaves : goal.returns-in_err-commit_change-clause-leaves
returns-in_err-commit_change-clause-leaves g c =
    let p = err_from_is_err_and c.from_residual-in_err-commit_change.result c.from_residual-in_err-commit_change.ensures.1 in
    let shape = c.args.shape.now in
    let x = g.V.Blocks.seen c.args.v.now in
    let k = g.V.Volume.kept c.args.v.now in
    let y = g.V.Blocks.seen c.plan_shrink.new.v in
    let j = g.V.Volume.kept c.plan_shrink.new.v in
    let i = c.args.i.0 in
    let len = c.args.len in
    let given = c.args.inode.now in
    let change = c.in_ok-change.change in
    let call = c.plan_shrink.ensures in
    let leaves : LeavesInUse (volume_layout shape x.words) x k y j = leaves_looked shape _ _ _ _ x y k j c.requires.ready call.read.looks (g.met.V.Volume.passes_keeps _ _ call.read.passed) in
    let m = planned_node x.words i given len change in
    let prepared : Prepared shape x.words y j i m change = shrink_prepared shape x k y j i given len change c.requires.ino c.requires.ready (g.met.V.Volume.settled _ call.read.keeps) leaves (inl (c.requires.inode, omega (arith, c.requires.file))) (sym c.requires.inode.kind ∙ c.requires.file) c.requires.file c.requires.inode.size c.requires.less c.in_ok-change.ensures.ok in
    made_err shape x k y m _ _ i len c.commit_change.result _ c.from_residual-in_err-commit_change.result p.0 c.in_err-commit_change.was p.1 p.2
    (old_bytes shape x.words y.words i c.requires.ino call.read.looks.looks.words)
    (new_bytes shape x.words y.words i given len change c.requires.ino call.read.looks.looks.words c.requires.inode c.requires.file c.requires.less)
    (c.commit_change.ensures.leaves x.words m prepared)

pub returns-in_err-commit_change-clause-goes : goal.returns-in_err-commit_change-clause-goes
returns-in_err-commit_change-clause-goes g c = (g.met.V.Volume.passes_keeps _ _ c.plan_shrink.ensures.read.passed).goes then c.commit_change.ensures.goes

pub returns-in_err-commit_change-clause-ends : goal.returns-in_err-commit_change-clause-ends
returns-in_err-commit_change-clause-ends g c =
    let p = err_from_is_err_and c.from_residual-in_err-commit_change.result c.from_residual-in_err-commit_change.ensures.1 in
    size_then _ _ _ c.plan_shrink.result _ c.from_residual-in_err-commit_change.result c.in_ok-change.was c.plan_shrink.ensures.read.ends (size_err _ _ _ c.from_residual-in_err-commit_change.result _ p.0 c.in_err-commit_change.was p.1 p.2 c.commit_change.ensures.ends)

-- ---- the freed blocks dropped

pub forget_all-requires-clause-places : goal.forget_all-requires-clause-places
forget_all-requires-clause-places g c =
    let shape = c.args.shape.now in
    let x = g.V.Blocks.seen c.args.v.now in
    let k = g.V.Volume.kept c.args.v.now in
    let y = g.V.Blocks.seen c.plan_shrink.new.v in
    let j = g.V.Volume.kept c.plan_shrink.new.v in
    let z = g.V.Blocks.seen c.commit_change.new.v in
    let l = g.V.Volume.kept c.commit_change.new.v in
    let i = c.args.i.0 in
    let len = c.args.len in
    let given = c.args.inode.now in
    let change = c.in_ok-change.change in
    let call = c.plan_shrink.ensures in
    let leaves : LeavesInUse (volume_layout shape x.words) x k y j = leaves_looked shape _ _ _ _ x y k j c.requires.ready call.read.looks (g.met.V.Volume.passes_keeps _ _ call.read.passed) in
    let m = planned_node x.words i given len change in
    let prepared : Prepared shape x.words y j i m change = shrink_prepared shape x k y j i given len change c.requires.ino c.requires.ready (g.met.V.Volume.settled _ call.read.keeps) leaves (inl (c.requires.inode, omega (arith, c.requires.file))) (sym c.requires.inode.kind ∙ c.requires.file) c.requires.file c.requires.inode.size c.requires.less c.in_ok-change.ensures.ok in
    let done = made_ok shape x.words y m z l i c.commit_change.result _ c.in_ok-commit_change.was (c.commit_change.ensures.leaves x.words m prepared) in
    λ t few. freed_place shape change _ c.as_slice.result.now t z.count c.as_slice.ensures (prepared_can shape x.words y j i m change prepared) done.1.order.has_shape.count few

pub forget_all-requires-clause-idle : goal.forget_all-requires-clause-idle
forget_all-requires-clause-idle g c =
    let shape = c.args.shape.now in
    let x = g.V.Blocks.seen c.args.v.now in
    let k = g.V.Volume.kept c.args.v.now in
    let y = g.V.Blocks.seen c.plan_shrink.new.v in
    let j = g.V.Volume.kept c.plan_shrink.new.v in
    let z = g.V.Blocks.seen c.commit_change.new.v in
    let l = g.V.Volume.kept c.commit_change.new.v in
    let i = c.args.i.0 in
    let len = c.args.len in
    let given = c.args.inode.now in
    let change = c.in_ok-change.change in
    let call = c.plan_shrink.ensures in
    let leaves : LeavesInUse (volume_layout shape x.words) x k y j = leaves_looked shape _ _ _ _ x y k j c.requires.ready call.read.looks (g.met.V.Volume.passes_keeps _ _ call.read.passed) in
    let m = planned_node x.words i given len change in
    let prepared : Prepared shape x.words y j i m change = shrink_prepared shape x k y j i given len change c.requires.ino c.requires.ready (g.met.V.Volume.settled _ call.read.keeps) leaves (inl (c.requires.inode, omega (arith, c.requires.file))) (sym c.requires.inode.kind ∙ c.requires.file) c.requires.file c.requires.inode.size c.requires.less c.in_ok-change.ensures.ok in
    let done = made_ok shape x.words y m z l i c.commit_change.result _ c.in_ok-commit_change.was (c.commit_change.ensures.leaves x.words m prepared) in
    done.1.idle

pub returns-clause-leaves : goal.returns-clause-leaves
returns-clause-leaves g c =
    let shape = c.args.shape.now in
    let x = g.V.Blocks.seen c.args.v.now in
    let k = g.V.Volume.kept c.args.v.now in
    let y = g.V.Blocks.seen c.plan_shrink.new.v in
    let j = g.V.Volume.kept c.plan_shrink.new.v in
    let z = g.V.Blocks.seen c.commit_change.new.v in
    let l = g.V.Volume.kept c.commit_change.new.v in
    let i = c.args.i.0 in
    let len = c.args.len in
    let given = c.args.inode.now in
    let change = c.in_ok-change.change in
    let call = c.plan_shrink.ensures in
    let leaves : LeavesInUse (volume_layout shape x.words) x k y j = leaves_looked shape _ _ _ _ x y k j c.requires.ready call.read.looks (g.met.V.Volume.passes_keeps _ _ call.read.passed) in
    let m = planned_node x.words i given len change in
    let prepared : Prepared shape x.words y j i m change = shrink_prepared shape x k y j i given len change c.requires.ino c.requires.ready (g.met.V.Volume.settled _ call.read.keeps) leaves (inl (c.requires.inode, omega (arith, c.requires.file))) (sym c.requires.inode.kind ∙ c.requires.file) c.requires.file c.requires.inode.size c.requires.less c.in_ok-change.ensures.ok in
    let done = made_ok shape x.words y m z l i c.commit_change.result _ c.in_ok-commit_change.was (c.commit_change.ensures.leaves x.words m prepared) in
    let freed = numbers c.as_slice.result.now in
    let free = λ (b : ℕ) (on : Contains freed b). freed_free shape x.words y.words z.words i m change b call.read.looks.looks.words (ready_left shape x k y j c.requires.ready leaves).order.mapped (c.in_ok-commit_change.ensures.change x.words m prepared) c.in_ok-change.ensures.ok.turns (subst (λ bs. Contains (numbers bs) b) c.as_slice.ensures on) in
    let dropped = leaves_beside shape (Contains freed) z l (g.V.Blocks.seen c.forget_all.new.v) (g.V.Volume.kept c.forget_all.new.v) done.1 free c.forget_all.ensures.beside c.forget_all.ensures.idle in
    let bytes = new_bytes shape x.words y.words i given len change c.requires.ino call.read.looks.looks.words c.requires.inode c.requires.file c.requires.less in
    let settled = g.met.V.Volume.settled _ c.commit_change.ensures.sound in
    dropped_all shape x k z l _ _ i len _ c.forget_all.result c.forget_all.ensures.stops bytes done.0 done.1 settled dropped

pub returns-clause-forgets : goal.returns-clause-forgets
returns-clause-forgets g c =
    let shape = c.args.shape.now in
    let x = g.V.Blocks.seen c.args.v.now in
    let k = g.V.Volume.kept c.args.v.now in
    let y = g.V.Blocks.seen c.plan_shrink.new.v in
    let j = g.V.Volume.kept c.plan_shrink.new.v in
    let z = g.V.Blocks.seen c.commit_change.new.v in
    let l = g.V.Volume.kept c.commit_change.new.v in
    let i = c.args.i.0 in
    let len = c.args.len in
    let given = c.args.inode.now in
    let change = c.in_ok-change.change in
    let call = c.plan_shrink.ensures in
    let leaves : LeavesInUse (volume_layout shape x.words) x k y j = leaves_looked shape _ _ _ _ x y k j c.requires.ready call.read.looks (g.met.V.Volume.passes_keeps _ _ call.read.passed) in
    let m = planned_node x.words i given len change in
    let prepared : Prepared shape x.words y j i m change = shrink_prepared shape x k y j i given len change c.requires.ino c.requires.ready (g.met.V.Volume.settled _ call.read.keeps) leaves (inl (c.requires.inode, omega (arith, c.requires.file))) (sym c.requires.inode.kind ∙ c.requires.file) c.requires.file c.requires.inode.size c.requires.less c.in_ok-change.ensures.ok in
    let done = made_ok shape x.words y m z l i c.commit_change.result _ c.in_ok-commit_change.was (c.commit_change.ensures.leaves x.words m prepared) in
    let freed = numbers c.as_slice.result.now in
    let free = λ (b : ℕ) (on : Contains freed b). freed_free shape x.words y.words z.words i m change b call.read.looks.looks.words (ready_left shape x k y j c.requires.ready leaves).order.mapped (c.in_ok-commit_change.ensures.change x.words m prepared) c.in_ok-change.ensures.ok.turns (subst (λ bs. Contains (numbers bs) b) c.as_slice.ensures on) in
    let dropped = leaves_beside shape (Contains freed) z l (g.V.Blocks.seen c.forget_all.new.v) (g.V.Volume.kept c.forget_all.new.v) done.1 free c.forget_all.ensures.beside c.forget_all.ensures.idle in
    let w = g.V.Blocks.seen c.forget_all.new.v in
    on_ok c.forget_all.result _ _ (λ gone. prepared_forgets shape x.words y j i m change z.words w prepared (c.in_ok-commit_change.ensures.change x.words m prepared) (layout_left shape z l w _ done.1 dropped) (subst (λ bs. Uncached (Contains (numbers bs)) w) c.as_slice.ensures gone)) c.forget_all.ensures.forgotten

pub returns-clause-goes : goal.returns-clause-goes
returns-clause-goes g c = (g.met.V.Volume.passes_keeps _ _ c.plan_shrink.ensures.read.passed).goes then c.commit_change.ensures.goes then c.forget_all.ensures.goes

pub returns-clause-ends : goal.returns-clause-ends
returns-clause-ends g c = size_then _ _ _ c.plan_shrink.result _ _ c.in_ok-change.was c.plan_shrink.ensures.read.ends (size_then _ _ _ c.commit_change.result _ _ c.in_ok-commit_change.was c.commit_change.ensures.ends (size_halts _ _ c.forget_all.result c.forget_all.ensures.stops c.forget_all.ensures.ends))

pub returns-in_err-change-clause-other : goal.returns-in_err-change-clause-other
returns-in_err-change-clause-other g c =
    let p = err_from_is_err_and c.from_residual.result c.from_residual.ensures.1 in
    unrefused_err _ c.from_residual.result _ p.0 c.in_err-change.was p.1 p.2 c.plan_shrink.ensures.other

pub returns-in_err-commit_change-clause-other : goal.returns-in_err-commit_change-clause-other
returns-in_err-commit_change-clause-other g c =
    let p = err_from_is_err_and c.from_residual-in_err-commit_change.result c.from_residual-in_err-commit_change.ensures.1 in
    unrefused_err _ c.from_residual-in_err-commit_change.result _ p.0 c.in_err-commit_change.was p.1 p.2 c.commit_change.ensures.other

pub returns-clause-other : goal.returns-clause-other
returns-clause-other g c = unrefused_stops c.forget_all.result c.forget_all.ensures.stops

pub returns-in_err-change-clause-forgets : goal.returns-in_err-change-clause-forgets
returns-in_err-change-clause-forgets g c = if_err c.from_residual.result _ c.from_residual.ensures.0

pub returns-in_err-commit_change-clause-forgets : goal.returns-in_err-commit_change-clause-forgets
returns-in_err-commit_change-clause-forgets g c = if_err c.from_residual-in_err-commit_change.result _ c.from_residual-in_err-commit_change.ensures.0

pub commit_change-requires-clause-shape : goal.commit_change-requires-clause-shape
commit_change-requires-clause-shape g c =
    let shape = c.args.shape.now in
    let x = g.V.Blocks.seen c.args.v.now in
    let k = g.V.Volume.kept c.args.v.now in
    let y = g.V.Blocks.seen c.plan_shrink.new.v in
    let j = g.V.Volume.kept c.plan_shrink.new.v in
    let leaves : LeavesInUse (volume_layout shape x.words) x k y j = leaves_looked shape _ _ _ _ x y k j c.requires.ready c.plan_shrink.ensures.read.looks (g.met.V.Volume.passes_keeps _ _ c.plan_shrink.ensures.read.passed) in
    leaves.has_shape

pub commit_change-requires-clause-idle : goal.commit_change-requires-clause-idle
commit_change-requires-clause-idle g c =
    let shape = c.args.shape.now in
    let x = g.V.Blocks.seen c.args.v.now in
    let k = g.V.Volume.kept c.args.v.now in
    let y = g.V.Blocks.seen c.plan_shrink.new.v in
    let j = g.V.Volume.kept c.plan_shrink.new.v in
    let leaves : LeavesInUse (volume_layout shape x.words) x k y j = leaves_looked shape _ _ _ _ x y k j c.requires.ready c.plan_shrink.ensures.read.looks (g.met.V.Volume.passes_keeps _ _ c.plan_shrink.ensures.read.passed) in
    leaves.idle

pub plan_shrink-requires-clause-can : goal.plan_shrink-requires-clause-can
plan_shrink-requires-clause-can g c = record { keeps = (search rules); meets = can_look_up c.args.shape.now _ c.requires.ready.order.has_shape c.requires.ready.order.mapped c.requires.ready.order.named }
