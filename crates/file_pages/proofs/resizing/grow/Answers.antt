use Rattle.node_pages.proofs.EndsOn.{on_any, if_err, on_ok}
use Rattle.file_pages.proofs.Common.{◌<◌, ◌∙◌, ℕ, length, subst, arith, inl, inr, err_from_is_err_and, ◌then◌, numbers, volume_layout, LeavesInUse, free_blocks, ends_by_after, IsFree, slice_index, sym}
use Rattle.rio_model.proofs.PlacedRules.{layout_refl}
use Rattle.node_pages.specs.Changes.{Grows, planned_node, PlansFor}
use Rattle.file_pages.specs.Files.{SetsBoth, file_bytes}
use Rattle.node_pages.proofs.OrderRules.{leaves_looked, leaves_trans, ready_left}
use Rattle.file_pages.specs.Preparing.{Prepared}
use Rattle.file_pages.proofs.Dropped.{file_kind}
use Rattle.node_pages.proofs.Ends.{err_handed, size_err, size_then, ends_vol_size, unrefused_vol}
use Rattle.file_pages.proofs.SizeEnds.{unrefused_err}
use Rattle.node_pages.specs.declared.failures.SizeFail.TheVariants.{NoSpace, TooLarge}
use Rattle.file_pages.proofs.Extended.{grow_new, grow_old, grow_prepared}
use Rattle.file_pages.proofs.LostBlocks.{grown_frees, prepared_forgets}
use Rattle.file_pages.proofs.GrowEnds.{cleared_both, cleared_err, has_space, file_left, file_fits}
use Rattle.file_pages.proofs.Prepared.{leaves_err, prepared_can, made_all}
use Rattle.file_pages.proofs.resizing.grow.Goals as goal

pub returns-in_err-taken-clause-leaves : goal.returns-in_err-taken-clause-leaves
returns-in_err-taken-clause-leaves g c =
    let shape = c.args.shape.now in
    let x = g.V.Blocks.seen c.args.v.now in
    let k = g.V.Volume.kept c.args.v.now in
    let i = c.args.i.0 in
    let len = c.args.len in
    let given = c.args.inode.now in
    let first = c.take_lowest.ensures in
    let p = err_from_is_err_and c.from_residual.result c.from_residual.ensures.1 in
    let looked : LeavesInUse (volume_layout shape x.words) x k (g.V.Blocks.seen c.take_lowest.new.v) (g.V.Volume.kept c.take_lowest.new.v) = leaves_looked shape _ _ _ _ x (g.V.Blocks.seen c.take_lowest.new.v) k (g.V.Volume.kept c.take_lowest.new.v) c.requires.ready first.looks (g.met.V.Volume.passes_keeps _ _ first.passes) in
    leaves_err shape _ _ _ _ i len c.from_residual.result p.0 p.1 c.requires.ready (g.met.V.Volume.settled _ c.requires.sound) (file_kind shape _ i given c.requires.ino c.requires.inode c.requires.file) looked

pub returns-in_err-taken-clause-space : goal.returns-in_err-taken-clause-space
returns-in_err-taken-clause-space g c =
    let shape = c.args.shape.now in
    let x = g.V.Blocks.seen c.args.v.now in
    let k = g.V.Volume.kept c.args.v.now in
    let i = c.args.i.0 in
    let len = c.args.len in
    let given = c.args.inode.now in
    let first = c.take_lowest.ensures in
    let looked : LeavesInUse (volume_layout shape x.words) x k (g.V.Blocks.seen c.take_lowest.new.v) (g.V.Volume.kept c.take_lowest.new.v) = leaves_looked shape _ _ _ _ x (g.V.Blocks.seen c.take_lowest.new.v) k (g.V.Volume.kept c.take_lowest.new.v) c.requires.ready first.looks (g.met.V.Volume.passes_keeps _ _ first.passes) in
    inr looked

pub returns-in_err-taken-clause-no_space : goal.returns-in_err-taken-clause-no_space
returns-in_err-taken-clause-no_space g c =
    let p = err_from_is_err_and c.from_residual.result c.from_residual.ensures.1 in
    λ is. subst (λ (n : ℕ). length (free_blocks c.args.shape.now (g.V.Blocks.seen c.args.v.now).words) < n) c.wanted_count-wanted.ensures.wanted (c.take_lowest.ensures.no_space (err_handed NoSpace c.take_lowest.result c.from_residual.result _ p.0 c.in_err-taken.was p.1 p.2 is))

pub returns-in_err-taken-clause-small : goal.returns-in_err-taken-clause-small
returns-in_err-taken-clause-small g c =
    let p = err_from_is_err_and c.from_residual.result c.from_residual.ensures.1 in
    λ is. c.take_lowest.ensures.small (err_handed TooLarge c.take_lowest.result c.from_residual.result _ p.0 c.in_err-taken.was p.1 p.2 is)

pub returns-in_err-taken-clause-goes : goal.returns-in_err-taken-clause-goes
returns-in_err-taken-clause-goes g c =
    (g.met.V.Volume.passes_keeps _ _ c.take_lowest.ensures.passes).goes

pub returns-in_err-taken-clause-ends : goal.returns-in_err-taken-clause-ends
returns-in_err-taken-clause-ends g c =
    let p = err_from_is_err_and c.from_residual.result c.from_residual.ensures.1 in
    size_err _ _ _ c.from_residual.result _ p.0 c.in_err-taken.was p.1 p.2 c.take_lowest.ensures.ends

pub returns-in_err-change-clause-leaves : goal.returns-in_err-change-clause-leaves
returns-in_err-change-clause-leaves g c =
    let shape = c.args.shape.now in
    let x = g.V.Blocks.seen c.args.v.now in
    let k = g.V.Volume.kept c.args.v.now in
    let i = c.args.i.0 in
    let len = c.args.len in
    let given = c.args.inode.now in
    let first = c.take_lowest.ensures in
    let p = err_from_is_err_and c.from_residual-in_err-change.result c.from_residual-in_err-change.ensures.1 in
    let looked : LeavesInUse (volume_layout shape x.words) x k (g.V.Blocks.seen c.take_lowest.new.v) (g.V.Volume.kept c.take_lowest.new.v) = leaves_looked shape _ _ _ _ x (g.V.Blocks.seen c.take_lowest.new.v) k (g.V.Volume.kept c.take_lowest.new.v) c.requires.ready first.looks (g.met.V.Volume.passes_keeps _ _ first.passes) in
    let y = g.V.Blocks.seen c.plan_growth.new.v in
    let j = g.V.Volume.kept c.plan_growth.new.v in
    let leaves : LeavesInUse (volume_layout shape x.words) x k y j = leaves_trans shape x k (g.V.Blocks.seen c.take_lowest.new.v) (g.V.Volume.kept c.take_lowest.new.v) y j c.requires.ready looked c.plan_growth.ensures.leaves in
    leaves_err shape _ _ _ _ i len c.from_residual-in_err-change.result p.0 p.1 c.requires.ready (g.met.V.Volume.settled _ c.requires.sound) (file_kind shape _ i given c.requires.ino c.requires.inode c.requires.file) leaves

pub returns-in_err-change-clause-space : goal.returns-in_err-change-clause-space
returns-in_err-change-clause-space g c =
    let shape = c.args.shape.now in
    let x = g.V.Blocks.seen c.args.v.now in
    let k = g.V.Volume.kept c.args.v.now in
    let i = c.args.i.0 in
    let len = c.args.len in
    let given = c.args.inode.now in
    let first = c.take_lowest.ensures in
    inl (has_space shape x.words given.size len _ c.wanted_count-wanted.ensures.wanted c.requires.most c.in_ok-taken.ensures.room)

pub returns-in_err-change-clause-no_space : goal.returns-in_err-change-clause-no_space
returns-in_err-change-clause-no_space g c =
    let p = err_from_is_err_and c.from_residual-in_err-change.result c.from_residual-in_err-change.ensures.1 in
    λ is. absurd ((unrefused_err _ c.from_residual-in_err-change.result _ p.0 c.in_err-change.was p.1 p.2 c.plan_growth.ensures.other).0 is)

pub returns-in_err-change-clause-small : goal.returns-in_err-change-clause-small
returns-in_err-change-clause-small g c =
    let p = err_from_is_err_and c.from_residual-in_err-change.result c.from_residual-in_err-change.ensures.1 in
    λ is. (unrefused_err _ c.from_residual-in_err-change.result _ p.0 c.in_err-change.was p.1 p.2 c.plan_growth.ensures.other).1 is

pub returns-in_err-clear_tail-clause-leaves : goal.returns-in_err-clear_tail-clause-leaves
returns-in_err-clear_tail-clause-leaves g c =
    let shape = c.args.shape.now in
    let x = g.V.Blocks.seen c.args.v.now in
    let k = g.V.Volume.kept c.args.v.now in
    let i = c.args.i.0 in
    let len = c.args.len in
    let given = c.args.inode.now in
    let first = c.take_lowest.ensures in
    let p = err_from_is_err_and c.from_residual-in_err-clear_tail.result c.from_residual-in_err-clear_tail.ensures.1 in
    let looked : LeavesInUse (volume_layout shape x.words) x k (g.V.Blocks.seen c.take_lowest.new.v) (g.V.Volume.kept c.take_lowest.new.v) = leaves_looked shape _ _ _ _ x (g.V.Blocks.seen c.take_lowest.new.v) k (g.V.Volume.kept c.take_lowest.new.v) c.requires.ready first.looks (g.met.V.Volume.passes_keeps _ _ first.passes) in
    let y = g.V.Blocks.seen c.plan_growth.new.v in
    let j = g.V.Volume.kept c.plan_growth.new.v in
    let leaves : LeavesInUse (volume_layout shape x.words) x k y j = leaves_trans shape x k (g.V.Blocks.seen c.take_lowest.new.v) (g.V.Volume.kept c.take_lowest.new.v) y j c.requires.ready looked c.plan_growth.ensures.leaves in
    let z = g.V.Blocks.seen c.clear_tail.new.v in
    let l = g.V.Volume.kept c.clear_tail.new.v in
    let settled = g.met.V.Volume.settled _ c.clear_tail.ensures.sound in
    let both : SetsBoth shape x.words z l i (file_bytes shape x.words i) = cleared_both shape x k y j z l i given c.requires.ino c.requires.ready settled c.requires.inode c.requires.file leaves c.clear_tail.ensures.stores c.clear_tail.ensures.bytes in
    cleared_err shape x k z l i len c.from_residual-in_err-clear_tail.result _ p.0 p.1 p.2 c.clear_tail.ensures.stores.ready settled both

pub returns-in_err-clear_tail-clause-space : goal.returns-in_err-clear_tail-clause-space
returns-in_err-clear_tail-clause-space g c =
    let shape = c.args.shape.now in
    let x = g.V.Blocks.seen c.args.v.now in
    let k = g.V.Volume.kept c.args.v.now in
    let i = c.args.i.0 in
    let len = c.args.len in
    let given = c.args.inode.now in
    let first = c.take_lowest.ensures in
    inl (has_space shape x.words given.size len _ c.wanted_count-wanted.ensures.wanted c.requires.most c.in_ok-taken.ensures.room)

pub commit_change-requires-clause-can : goal.commit_change-requires-clause-can
commit_change-requires-clause-can g c =
    let shape = c.args.shape.now in
    let x = g.V.Blocks.seen c.args.v.now in
    let k = g.V.Volume.kept c.args.v.now in
    let i = c.args.i.0 in
    let len = c.args.len in
    let given = c.args.inode.now in
    let first = c.take_lowest.ensures in
    let looked : LeavesInUse (volume_layout shape x.words) x k (g.V.Blocks.seen c.take_lowest.new.v) (g.V.Volume.kept c.take_lowest.new.v) = leaves_looked shape _ _ _ _ x (g.V.Blocks.seen c.take_lowest.new.v) k (g.V.Volume.kept c.take_lowest.new.v) c.requires.ready first.looks (g.met.V.Volume.passes_keeps _ _ first.passes) in
    let y = g.V.Blocks.seen c.plan_growth.new.v in
    let j = g.V.Volume.kept c.plan_growth.new.v in
    let leaves : LeavesInUse (volume_layout shape x.words) x k y j = leaves_trans shape x k (g.V.Blocks.seen c.take_lowest.new.v) (g.V.Volume.kept c.take_lowest.new.v) y j c.requires.ready looked c.plan_growth.ensures.leaves in
    let z = g.V.Blocks.seen c.clear_tail.new.v in
    let l = g.V.Volume.kept c.clear_tail.new.v in
    let settled = g.met.V.Volume.settled _ c.clear_tail.ensures.sound in
    let both : SetsBoth shape x.words z l i (file_bytes shape x.words i) = cleared_both shape x k y j z l i given c.requires.ino c.requires.ready settled c.requires.inode c.requires.file leaves c.clear_tail.ensures.stores c.clear_tail.ensures.bytes in
    let change = c.in_ok-change.change in
    let m = planned_node x.words i given len change in
    let grows : Grows shape x.words y j i given len (numbers c.in_ok-taken.taken) change = subst (λ f. Grows shape f y j i given len (numbers c.in_ok-taken.taken) change) first.looks.looks.words c.in_ok-change.ensures.ok in
    let prepared : Prepared shape x.words z l i m change = grow_prepared shape x k y j z l i given len (numbers c.in_ok-taken.taken) change c.requires.ino c.requires.ready settled c.requires.inode c.requires.file c.requires.grows leaves grows (c.wanted_count-wanted.result, grows.taken ∙ c.in_ok-taken.ensures.value) c.in_ok-clear_tail.ensures.cleared c.clear_tail.ensures.stores in
    prepared_can shape x.words z l i m change prepared

pub returns-clause-leaves : goal.returns-clause-leaves
returns-clause-leaves g c =
    let shape = c.args.shape.now in
    let x = g.V.Blocks.seen c.args.v.now in
    let k = g.V.Volume.kept c.args.v.now in
    let i = c.args.i.0 in
    let len = c.args.len in
    let given = c.args.inode.now in
    let first = c.take_lowest.ensures in
    let looked : LeavesInUse (volume_layout shape x.words) x k (g.V.Blocks.seen c.take_lowest.new.v) (g.V.Volume.kept c.take_lowest.new.v) = leaves_looked shape _ _ _ _ x (g.V.Blocks.seen c.take_lowest.new.v) k (g.V.Volume.kept c.take_lowest.new.v) c.requires.ready first.looks (g.met.V.Volume.passes_keeps _ _ first.passes) in
    let y = g.V.Blocks.seen c.plan_growth.new.v in
    let j = g.V.Volume.kept c.plan_growth.new.v in
    let leaves : LeavesInUse (volume_layout shape x.words) x k y j = leaves_trans shape x k (g.V.Blocks.seen c.take_lowest.new.v) (g.V.Volume.kept c.take_lowest.new.v) y j c.requires.ready looked c.plan_growth.ensures.leaves in
    let z = g.V.Blocks.seen c.clear_tail.new.v in
    let l = g.V.Volume.kept c.clear_tail.new.v in
    let settled = g.met.V.Volume.settled _ c.clear_tail.ensures.sound in
    let both : SetsBoth shape x.words z l i (file_bytes shape x.words i) = cleared_both shape x k y j z l i given c.requires.ino c.requires.ready settled c.requires.inode c.requires.file leaves c.clear_tail.ensures.stores c.clear_tail.ensures.bytes in
    let change = c.in_ok-change.change in
    let m = planned_node x.words i given len change in
    let grows : Grows shape x.words y j i given len (numbers c.in_ok-taken.taken) change = subst (λ f. Grows shape f y j i given len (numbers c.in_ok-taken.taken) change) first.looks.looks.words c.in_ok-change.ensures.ok in
    let prepared : Prepared shape x.words z l i m change = grow_prepared shape x k y j z l i given len (numbers c.in_ok-taken.taken) change c.requires.ino c.requires.ready settled c.requires.inode c.requires.file c.requires.grows leaves grows (c.wanted_count-wanted.result, grows.taken ∙ c.in_ok-taken.ensures.value) c.in_ok-clear_tail.ensures.cleared c.clear_tail.ensures.stores in
    let old = grow_old shape x k y j z.words i c.requires.ino c.requires.ready leaves c.clear_tail.ensures.bytes in
    let new = grow_new shape x k y j z l i given len (numbers c.in_ok-taken.taken) change c.requires.ino c.requires.ready c.requires.inode c.requires.file c.requires.grows leaves grows c.in_ok-clear_tail.ensures.cleared c.clear_tail.ensures.stores c.clear_tail.ensures.bytes in
    made_all shape x k z m _ _ i len c.commit_change.result old new (c.commit_change.ensures.leaves x.words m prepared)

pub returns-clause-forgets : goal.returns-clause-forgets
returns-clause-forgets g c =
    let shape = c.args.shape.now in
    let x = g.V.Blocks.seen c.args.v.now in
    let k = g.V.Volume.kept c.args.v.now in
    let i = c.args.i.0 in
    let len = c.args.len in
    let given = c.args.inode.now in
    let first = c.take_lowest.ensures in
    let looked : LeavesInUse (volume_layout shape x.words) x k (g.V.Blocks.seen c.take_lowest.new.v) (g.V.Volume.kept c.take_lowest.new.v) = leaves_looked shape _ _ _ _ x (g.V.Blocks.seen c.take_lowest.new.v) k (g.V.Volume.kept c.take_lowest.new.v) c.requires.ready first.looks (g.met.V.Volume.passes_keeps _ _ first.passes) in
    let y = g.V.Blocks.seen c.plan_growth.new.v in
    let j = g.V.Volume.kept c.plan_growth.new.v in
    let leaves : LeavesInUse (volume_layout shape x.words) x k y j = leaves_trans shape x k (g.V.Blocks.seen c.take_lowest.new.v) (g.V.Volume.kept c.take_lowest.new.v) y j c.requires.ready looked c.plan_growth.ensures.leaves in
    let z = g.V.Blocks.seen c.clear_tail.new.v in
    let l = g.V.Volume.kept c.clear_tail.new.v in
    let settled = g.met.V.Volume.settled _ c.clear_tail.ensures.sound in
    let change = c.in_ok-change.change in
    let m = planned_node x.words i given len change in
    let grows : Grows shape x.words y j i given len (numbers c.in_ok-taken.taken) change = subst (λ f. Grows shape f y j i given len (numbers c.in_ok-taken.taken) change) first.looks.looks.words c.in_ok-change.ensures.ok in
    let prepared : Prepared shape x.words z l i m change = grow_prepared shape x k y j z l i given len (numbers c.in_ok-taken.taken) change c.requires.ino c.requires.ready settled c.requires.inode c.requires.file c.requires.grows leaves grows (c.wanted_count-wanted.result, grows.taken ∙ c.in_ok-taken.ensures.value) c.in_ok-clear_tail.ensures.cleared c.clear_tail.ensures.stores in
    let w = g.V.Blocks.seen c.commit_change.new.v in
    on_ok c.commit_change.result _ _ (λ made. prepared_forgets shape x.words z l i m change w.words w prepared (made x.words m prepared) (layout_refl _) (λ b on. absurd (grown_frees shape x.words i given len change (inl (c.requires.inode, omega (arith, c.requires.file))) c.requires.grows grows.turns b on))) c.commit_change.ensures.change

pub returns-clause-space : goal.returns-clause-space
returns-clause-space g c =
    let shape = c.args.shape.now in
    let x = g.V.Blocks.seen c.args.v.now in
    let k = g.V.Volume.kept c.args.v.now in
    let i = c.args.i.0 in
    let len = c.args.len in
    let given = c.args.inode.now in
    let first = c.take_lowest.ensures in
    inl (has_space shape x.words given.size len _ c.wanted_count-wanted.ensures.wanted c.requires.most c.in_ok-taken.ensures.room)

pub returns-clause-room : goal.returns-clause-room
returns-clause-room g c =
    let shape = c.args.shape.now in
    let x = g.V.Blocks.seen c.args.v.now in
    let k = g.V.Volume.kept c.args.v.now in
    let i = c.args.i.0 in
    let len = c.args.len in
    let given = c.args.inode.now in
    let first = c.take_lowest.ensures in
    on_any _ c.commit_change.result (has_space shape x.words given.size len _ c.wanted_count-wanted.ensures.wanted c.requires.most c.in_ok-taken.ensures.room)

pub plan_growth-requires-clause-ready : goal.plan_growth-requires-clause-ready
plan_growth-requires-clause-ready g c =
    let shape = c.args.shape.now in
    let x = g.V.Blocks.seen c.args.v.now in
    let k = g.V.Volume.kept c.args.v.now in
    let i = c.args.i.0 in
    let len = c.args.len in
    let given = c.args.inode.now in
    let first = c.take_lowest.ensures in
    let looked : LeavesInUse (volume_layout shape x.words) x k (g.V.Blocks.seen c.take_lowest.new.v) (g.V.Volume.kept c.take_lowest.new.v) = leaves_looked shape _ _ _ _ x (g.V.Blocks.seen c.take_lowest.new.v) k (g.V.Volume.kept c.take_lowest.new.v) c.requires.ready first.looks (g.met.V.Volume.passes_keeps _ _ first.passes) in
    ready_left shape x k _ _ c.requires.ready looked

pub clear_tail-requires-clause-ready : goal.clear_tail-requires-clause-ready
clear_tail-requires-clause-ready g c =
    let shape = c.args.shape.now in
    let x = g.V.Blocks.seen c.args.v.now in
    let k = g.V.Volume.kept c.args.v.now in
    let i = c.args.i.0 in
    let len = c.args.len in
    let given = c.args.inode.now in
    let first = c.take_lowest.ensures in
    let looked : LeavesInUse (volume_layout shape x.words) x k (g.V.Blocks.seen c.take_lowest.new.v) (g.V.Volume.kept c.take_lowest.new.v) = leaves_looked shape _ _ _ _ x (g.V.Blocks.seen c.take_lowest.new.v) k (g.V.Volume.kept c.take_lowest.new.v) c.requires.ready first.looks (g.met.V.Volume.passes_keeps _ _ first.passes) in
    let y = g.V.Blocks.seen c.plan_growth.new.v in
    let j = g.V.Volume.kept c.plan_growth.new.v in
    let leaves : LeavesInUse (volume_layout shape x.words) x k y j = leaves_trans shape x k (g.V.Blocks.seen c.take_lowest.new.v) (g.V.Volume.kept c.take_lowest.new.v) y j c.requires.ready looked c.plan_growth.ensures.leaves in
    ready_left shape x k y j c.requires.ready leaves

pub returns-in_err-change-clause-goes : goal.returns-in_err-change-clause-goes
returns-in_err-change-clause-goes g c =
    (g.met.V.Volume.passes_keeps _ _ c.take_lowest.ensures.passes).goes then c.plan_growth.ensures.goes

pub returns-in_err-clear_tail-clause-goes : goal.returns-in_err-clear_tail-clause-goes
returns-in_err-clear_tail-clause-goes g c =
    (g.met.V.Volume.passes_keeps _ _ c.take_lowest.ensures.passes).goes then c.plan_growth.ensures.goes then c.clear_tail.ensures.goes

pub returns-clause-goes : goal.returns-clause-goes
returns-clause-goes g c =
    (g.met.V.Volume.passes_keeps _ _ c.take_lowest.ensures.passes).goes then c.plan_growth.ensures.goes then c.clear_tail.ensures.goes then c.commit_change.ensures.goes

pub returns-in_err-change-clause-ends : goal.returns-in_err-change-clause-ends
returns-in_err-change-clause-ends g c = let p = err_from_is_err_and c.from_residual-in_err-change.result c.from_residual-in_err-change.ensures.1 in size_then _ _ _ c.take_lowest.result _ _ c.in_ok-taken.was c.take_lowest.ensures.ends (size_err _ _ _ c.from_residual-in_err-change.result _ _ c.in_err-change.was p.1 p.2 c.plan_growth.ensures.ends)

pub returns-in_err-clear_tail-clause-ends : goal.returns-in_err-clear_tail-clause-ends
returns-in_err-clear_tail-clause-ends g c = let p = err_from_is_err_and c.from_residual-in_err-clear_tail.result c.from_residual-in_err-clear_tail.ensures.1 in size_then _ _ _ c.take_lowest.result _ _ c.in_ok-taken.was c.take_lowest.ensures.ends (size_then _ _ _ c.plan_growth.result _ _ c.in_ok-change.was c.plan_growth.ensures.ends (ends_vol_size _ _ _ c.from_residual-in_err-clear_tail.result _ p.0 c.in_err-clear_tail.was p.1 p.2 c.clear_tail.ensures.ends))

pub returns-clause-ends : goal.returns-clause-ends
returns-clause-ends g c = size_then _ _ _ c.take_lowest.result _ _ c.in_ok-taken.was c.take_lowest.ensures.ends (size_then _ _ _ c.plan_growth.result _ _ c.in_ok-change.was c.plan_growth.ensures.ends (ends_by_after _ _ _ _ _ c.clear_tail.ensures.ends.later c.in_ok-clear_tail.ensures.ends.cause c.commit_change.ensures.ends))

pub returns-clause-no_space : goal.returns-clause-no_space
returns-clause-no_space g c = λ is. absurd (c.commit_change.ensures.other.0 is)

pub returns-clause-small : goal.returns-clause-small
returns-clause-small g c = λ is. c.commit_change.ensures.other.1 is

pub returns-in_err-taken-clause-room : goal.returns-in_err-taken-clause-room
returns-in_err-taken-clause-room g c = if_err c.from_residual.result _ c.from_residual.ensures.0

pub returns-in_err-taken-clause-forgets : goal.returns-in_err-taken-clause-forgets
returns-in_err-taken-clause-forgets g c = if_err c.from_residual.result _ c.from_residual.ensures.0

pub returns-in_err-change-clause-room : goal.returns-in_err-change-clause-room
returns-in_err-change-clause-room g c = if_err c.from_residual-in_err-change.result _ c.from_residual-in_err-change.ensures.0

pub returns-in_err-change-clause-forgets : goal.returns-in_err-change-clause-forgets
returns-in_err-change-clause-forgets g c = if_err c.from_residual-in_err-change.result _ c.from_residual-in_err-change.ensures.0

pub returns-in_err-clear_tail-clause-room : goal.returns-in_err-clear_tail-clause-room
returns-in_err-clear_tail-clause-room g c = if_err c.from_residual-in_err-clear_tail.result _ c.from_residual-in_err-clear_tail.ensures.0

pub returns-in_err-clear_tail-clause-forgets : goal.returns-in_err-clear_tail-clause-forgets
returns-in_err-clear_tail-clause-forgets g c = if_err c.from_residual-in_err-clear_tail.result _ c.from_residual-in_err-clear_tail.ensures.0

pub returns-in_err-clear_tail-clause-no_space : goal.returns-in_err-clear_tail-clause-no_space
returns-in_err-clear_tail-clause-no_space g c = let p = err_from_is_err_and c.from_residual-in_err-clear_tail.result c.from_residual-in_err-clear_tail.ensures.1 in λ is. absurd ((unrefused_vol c.from_residual-in_err-clear_tail.result _ p.0 p.1 p.2).0 is)

pub returns-in_err-clear_tail-clause-small : goal.returns-in_err-clear_tail-clause-small
returns-in_err-clear_tail-clause-small g c = let p = err_from_is_err_and c.from_residual-in_err-clear_tail.result c.from_residual-in_err-clear_tail.ensures.1 in λ is. (unrefused_vol c.from_residual-in_err-clear_tail.result _ p.0 p.1 p.2).1 is

pub plan_growth-requires-clause-count : goal.plan_growth-requires-clause-count
plan_growth-requires-clause-count g c = c.in_ok-taken.ensures.count ∙ c.wanted_count-wanted.ensures.wanted

pub plan_growth-requires-clause-free : goal.plan_growth-requires-clause-free
plan_growth-requires-clause-free g c = subst (λ f. (t : ℕ) → t < length c.in_ok-taken.taken → IsFree (volume_layout c.args.shape.now f) (slice_index (numbers c.in_ok-taken.taken) t)) (sym c.take_lowest.ensures.looks.looks.words) c.in_ok-taken.ensures.free

pub plan_growth-requires-clause-inode : goal.plan_growth-requires-clause-inode
plan_growth-requires-clause-inode g c = subst (λ f. PlansFor f c.args.i.0 c.args.inode.now) (sym c.take_lowest.ensures.looks.looks.words) (inl (c.requires.inode, omega (arith, c.requires.file)))

pub clear_tail-requires-clause-file : goal.clear_tail-requires-clause-file
clear_tail-requires-clause-file g c =
    let shape = c.args.shape.now in
    let x = g.V.Blocks.seen c.args.v.now in
    let k = g.V.Volume.kept c.args.v.now in
    let i = c.args.i.0 in
    let given = c.args.inode.now in
    let first = c.take_lowest.ensures in
    let looked : LeavesInUse (volume_layout shape x.words) x k (g.V.Blocks.seen c.take_lowest.new.v) (g.V.Volume.kept c.take_lowest.new.v) = leaves_looked shape _ _ _ _ x (g.V.Blocks.seen c.take_lowest.new.v) k (g.V.Volume.kept c.take_lowest.new.v) c.requires.ready first.looks (g.met.V.Volume.passes_keeps _ _ first.passes) in
    let y = g.V.Blocks.seen c.plan_growth.new.v in
    let j = g.V.Volume.kept c.plan_growth.new.v in
    let leaves : LeavesInUse (volume_layout shape x.words) x k y j = leaves_trans shape x k (g.V.Blocks.seen c.take_lowest.new.v) (g.V.Volume.kept c.take_lowest.new.v) y j c.requires.ready looked c.plan_growth.ensures.leaves in
    (file_left shape x k y j i given c.requires.ino c.requires.ready c.requires.inode c.requires.file leaves).0

pub clear_tail-requires-clause-size : goal.clear_tail-requires-clause-size
clear_tail-requires-clause-size g c =
    let shape = c.args.shape.now in
    let x = g.V.Blocks.seen c.args.v.now in
    let k = g.V.Volume.kept c.args.v.now in
    let i = c.args.i.0 in
    let given = c.args.inode.now in
    let first = c.take_lowest.ensures in
    let looked : LeavesInUse (volume_layout shape x.words) x k (g.V.Blocks.seen c.take_lowest.new.v) (g.V.Volume.kept c.take_lowest.new.v) = leaves_looked shape _ _ _ _ x (g.V.Blocks.seen c.take_lowest.new.v) k (g.V.Volume.kept c.take_lowest.new.v) c.requires.ready first.looks (g.met.V.Volume.passes_keeps _ _ first.passes) in
    let y = g.V.Blocks.seen c.plan_growth.new.v in
    let j = g.V.Volume.kept c.plan_growth.new.v in
    let leaves : LeavesInUse (volume_layout shape x.words) x k y j = leaves_trans shape x k (g.V.Blocks.seen c.take_lowest.new.v) (g.V.Volume.kept c.take_lowest.new.v) y j c.requires.ready looked c.plan_growth.ensures.leaves in
    (file_left shape x k y j i given c.requires.ino c.requires.ready c.requires.inode c.requires.file leaves).1

pub plan_growth-requires-clause-fits : goal.plan_growth-requires-clause-fits
plan_growth-requires-clause-fits g c = file_fits _ _ c.requires.file c.requires.most
