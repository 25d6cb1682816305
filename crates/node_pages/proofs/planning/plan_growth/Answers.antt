use Rattle.rio_base.proofs.Frames.{vol_ends}
use Rattle.node_pages.proofs.EndsOn.{if_err}
use Rattle.node_pages.proofs.Common.{length, ap, sym, subst, ◌∙◌, arith, le_trans, err_from_is_err_and, ◌then◌, ends_by_after, numbers}
use Rattle.node_pages.specs.Changes.{Apart}
use Rattle.node_pages.proofs.LookingUpRules.{can_look_up}
use Rattle.node_pages.proofs.OrderRules.{leaves_looked}
use Rattle.node_pages.proofs.Ends.{ends_vol_size, ends_well_memory, ends_well_ok, unrefused_memory, unrefused_ok, unrefused_vol}
use Rattle.node_pages.proofs.Planned.{free_place, staged_leaves, taken_most, taken_reach}
use Rattle.node_pages.proofs.PlannedGrowth.{planned_growth}
use Rattle.node_pages.proofs.PlannedSize.{keeps_looked, keeps_staged}
use Rattle.node_pages.proofs.planning.plan_growth.Goals as goal

pub returns-in_err-stage_blocks-clause-leaves : goal.returns-in_err-stage_blocks-clause-leaves
returns-in_err-stage_blocks-clause-leaves g c = staged_leaves c.args.shape.now _ _ _ _ c.as_slice-blocks.result.now c.args.taken _ _ _ _ _ _ c.requires.ready c.last_number.ensures.read.looks (g.met.V.Volume.passes_keeps _ _ c.last_number.ensures.read.passed) c.as_slice-blocks.ensures c.requires.free c.stage_blocks.ensures.beside c.stage_blocks.ensures.idle

pub returns-in_err-edits-clause-leaves : goal.returns-in_err-edits-clause-leaves
returns-in_err-edits-clause-leaves g c = staged_leaves c.args.shape.now _ _ _ _ c.as_slice-blocks.result.now c.args.taken _ _ _ _ _ _ c.requires.ready c.last_number.ensures.read.looks (g.met.V.Volume.passes_keeps _ _ c.last_number.ensures.read.passed) c.as_slice-blocks.ensures c.requires.free c.stage_blocks.ensures.beside c.stage_blocks.ensures.idle

pub returns-clause-leaves : goal.returns-clause-leaves
returns-clause-leaves g c = staged_leaves c.args.shape.now _ _ _ _ c.as_slice-blocks.result.now c.args.taken _ _ _ _ _ _ c.requires.ready c.last_number.ensures.read.looks (g.met.V.Volume.passes_keeps _ _ c.last_number.ensures.read.passed) c.as_slice-blocks.ensures c.requires.free c.stage_blocks.ensures.beside c.stage_blocks.ensures.idle

pub returns-in_err-stage_blocks-clause-goes : goal.returns-in_err-stage_blocks-clause-goes
returns-in_err-stage_blocks-clause-goes g c = (g.met.V.Volume.passes_keeps _ _ c.last_number.ensures.read.passed).goes then c.stage_blocks.ensures.goes

pub returns-in_err-edits-clause-goes : goal.returns-in_err-edits-clause-goes
returns-in_err-edits-clause-goes g c = (g.met.V.Volume.passes_keeps _ _ c.last_number.ensures.read.passed).goes then c.stage_blocks.ensures.goes

pub returns-clause-goes : goal.returns-clause-goes
returns-clause-goes g c = (g.met.V.Volume.passes_keeps _ _ c.last_number.ensures.read.passed).goes then c.stage_blocks.ensures.goes

pub returns-in_err-last-clause-leaves : goal.returns-in_err-last-clause-leaves
returns-in_err-last-clause-leaves g c = leaves_looked c.args.shape.now _ _ _ _ _ _ _ _ c.requires.ready c.last_number.ensures.read.looks (g.met.V.Volume.passes_keeps _ _ c.last_number.ensures.read.passed)

pub returns-in_err-last-clause-ends : goal.returns-in_err-last-clause-ends
returns-in_err-last-clause-ends g c =
    let p = err_from_is_err_and c.from_residual.result c.from_residual.ensures.1 in
    ends_vol_size _ _ _ c.from_residual.result _ p.0 c.in_err-last.was p.1 p.2 (vol_ends _ _ _ c.last_number.ensures.read.ends)

pub stage_blocks-requires-clause-most : goal.stage_blocks-requires-clause-most
stage_blocks-requires-clause-most g c = taken_most c.args.inode.now.size c.args.len _ (ap length c.as_slice-blocks.ensures ∙ c.requires.count) c.requires.grows c.requires.fits.most

pub returns-in_err-stage_blocks-clause-ends : goal.returns-in_err-stage_blocks-clause-ends
returns-in_err-stage_blocks-clause-ends g c =
    let p = err_from_is_err_and c.from_residual-in_err-stage_blocks.result c.from_residual-in_err-stage_blocks.ensures.1 in
    ends_by_after _ _ _ _ _ (vol_ends _ _ _ c.last_number.ensures.read.ends).later (vol_ends _ _ _ c.in_ok-last.ensures.read.ends).cause (ends_vol_size _ _ _ c.from_residual-in_err-stage_blocks.result _ p.0 c.in_err-stage_blocks.was p.1 p.2 c.stage_blocks.ensures.ends)

pub table_edits-requires-clause-numbers : goal.table_edits-requires-clause-numbers
table_edits-requires-clause-numbers g c = taken_reach c.args.inode.now.size c.args.len _ _ _ c.page_count-have.ensures.pages c.page_count-want.ensures.pages (ap length c.as_slice-blocks.ensures ∙ c.requires.count) c.requires.grows

pub grown_inode-inode-requires-clause-numbers : goal.grown_inode-inode-requires-clause-numbers
grown_inode-inode-requires-clause-numbers g c = taken_reach c.args.inode.now.size c.args.len _ _ _ c.page_count-have.ensures.pages c.page_count-want.ensures.pages (ap length c.as_slice-blocks.ensures ∙ c.requires.count) c.requires.grows

pub returns-in_err-edits-clause-ends : goal.returns-in_err-edits-clause-ends
returns-in_err-edits-clause-ends g c =
    let p = err_from_is_err_and c.from_residual-in_err-edits.result c.from_residual-in_err-edits.ensures.1 in
    ends_well_memory _ _ c.from_residual-in_err-edits.result p.0 p.1 p.2 (le_trans (vol_ends _ _ _ c.last_number.ensures.read.ends).later c.stage_blocks.ensures.ends.later) (c.in_ok-stage_blocks.ensures.ends.cause ∙ (vol_ends _ _ _ c.in_ok-last.ensures.read.ends).cause)

pub returns-clause-ends : goal.returns-clause-ends
returns-clause-ends g c = ends_well_ok _ _ _ (le_trans (vol_ends _ _ _ c.last_number.ensures.read.ends).later c.stage_blocks.ensures.ends.later) (c.in_ok-stage_blocks.ensures.ends.cause ∙ (vol_ends _ _ _ c.in_ok-last.ensures.read.ends).cause)

pub returns-clause-ok : goal.returns-clause-ok
returns-clause-ok g c =
    let have_is = c.page_count-have.ensures.pages in
    let want_is = c.page_count-want.ensures.pages in
    let m = c.max.ensures in
    let o = c.max-2.ensures in
    planned_growth c.args.shape.now (g.V.Blocks.seen c.args.v.now).words (g.V.Blocks.seen c.stage_blocks.new.v) (g.V.Volume.kept c.stage_blocks.new.v) c.args.i.0 c.args.inode.now c.args.len c.in_ok-last.last c.grown_table-table.result c.page_count-have.result c.page_count-want.result c.as_slice-blocks.result.now c.args.taken c.grown_inode-inode.result c.in_ok-edits.edits c.from.result _ _
    c.requires.ready.order.mapped.laid c.requires.ino c.requires.inode c.requires.grows c.requires.fits c.requires.count c.requires.free c.requires.apart have_is want_is c.as_slice-blocks.ensures c.in_ok-last.ensures.value (omega arith)
    c.grown_table-table.ensures.new c.grown_table-table.ensures.old c.grown_inode-inode.ensures.kind c.grown_inode-inode.ensures.size c.grown_inode-inode.ensures.direct c.grown_inode-inode.ensures.indirect
    c.in_ok-edits.ensures (omega (arith, have_is, m)) (omega (arith, have_is, want_is, m, o)) (ap numbers (c.from.ensures ∙ c.new.ensures.items)) c.in_ok-stage_blocks.ensures.zeroed

pub returns-in_err-last-clause-other : goal.returns-in_err-last-clause-other
returns-in_err-last-clause-other g c =
    let p = err_from_is_err_and c.from_residual.result c.from_residual.ensures.1 in
    unrefused_vol c.from_residual.result _ p.0 p.1 p.2

pub returns-in_err-stage_blocks-clause-other : goal.returns-in_err-stage_blocks-clause-other
returns-in_err-stage_blocks-clause-other g c =
    let p = err_from_is_err_and c.from_residual-in_err-stage_blocks.result c.from_residual-in_err-stage_blocks.ensures.1 in
    unrefused_vol c.from_residual-in_err-stage_blocks.result _ p.0 p.1 p.2

pub returns-in_err-edits-clause-other : goal.returns-in_err-edits-clause-other
returns-in_err-edits-clause-other g c =
    let p = err_from_is_err_and c.from_residual-in_err-edits.result c.from_residual-in_err-edits.ensures.1 in
    unrefused_memory c.from_residual-in_err-edits.result p.0 p.1 p.2

pub returns-clause-other : goal.returns-clause-other
returns-clause-other g c = unrefused_ok _

pub returns-in_err-last-clause-free : goal.returns-in_err-last-clause-free
returns-in_err-last-clause-free g c = keeps_looked c.args.shape.now _ _ _ _ (numbers c.args.taken) _ _ _ _ c.last_number.ensures.read.looks (g.met.V.Volume.passes_keeps _ _ c.last_number.ensures.read.passed)

pub returns-in_err-stage_blocks-clause-free : goal.returns-in_err-stage_blocks-clause-free
returns-in_err-stage_blocks-clause-free g c = keeps_staged c.args.shape.now _ _ _ _ c.as_slice-blocks.result.now c.args.taken _ _ _ _ _ _ c.last_number.ensures.read.looks (g.met.V.Volume.passes_keeps _ _ c.last_number.ensures.read.passed) c.as_slice-blocks.ensures c.stage_blocks.ensures.beside

pub returns-in_err-edits-clause-free : goal.returns-in_err-edits-clause-free
returns-in_err-edits-clause-free g c = keeps_staged c.args.shape.now _ _ _ _ c.as_slice-blocks.result.now c.args.taken _ _ _ _ _ _ c.last_number.ensures.read.looks (g.met.V.Volume.passes_keeps _ _ c.last_number.ensures.read.passed) c.as_slice-blocks.ensures c.stage_blocks.ensures.beside

pub returns-clause-free : goal.returns-clause-free
returns-clause-free g c = keeps_staged c.args.shape.now _ _ _ _ c.as_slice-blocks.result.now c.args.taken _ _ _ _ _ _ c.last_number.ensures.read.looks (g.met.V.Volume.passes_keeps _ _ c.last_number.ensures.read.passed) c.as_slice-blocks.ensures c.stage_blocks.ensures.beside

pub returns-in_err-last-clause-goes : goal.returns-in_err-last-clause-goes
returns-in_err-last-clause-goes g c = (g.met.V.Volume.passes_keeps _ _ c.last_number.ensures.read.passed).goes

pub returns-in_err-last-clause-ok : goal.returns-in_err-last-clause-ok
returns-in_err-last-clause-ok g c = if_err c.from_residual.result _ c.from_residual.ensures.0

pub returns-in_err-stage_blocks-clause-ok : goal.returns-in_err-stage_blocks-clause-ok
returns-in_err-stage_blocks-clause-ok g c = if_err c.from_residual-in_err-stage_blocks.result _ c.from_residual-in_err-stage_blocks.ensures.0

pub returns-in_err-edits-clause-ok : goal.returns-in_err-edits-clause-ok
returns-in_err-edits-clause-ok g c = if_err c.from_residual-in_err-edits.result _ c.from_residual-in_err-edits.ensures.0

pub stage_blocks-requires-clause-apart : goal.stage_blocks-requires-clause-apart
stage_blocks-requires-clause-apart g c = subst (λ bs. Apart (numbers bs)) (sym c.as_slice-blocks.ensures) c.requires.apart

pub stage_blocks-requires-clause-few : goal.stage_blocks-requires-clause-few
stage_blocks-requires-clause-few g c = let have_is = c.page_count-have.ensures.pages in let want_is = c.page_count-want.ensures.pages in let grows = c.requires.grows in let most = c.requires.fits.most in omega (arith, have_is, want_is, grows, most)

pub stage_blocks-requires-clause-file_to : goal.stage_blocks-requires-clause-file_to
stage_blocks-requires-clause-file_to g c = let to = c.requires.ino.to in let most = c.requires.ready.order.has_shape.sizes.inodes_to in omega (arith, to, most)

pub stage_blocks-requires-clause-idle : goal.stage_blocks-requires-clause-idle
stage_blocks-requires-clause-idle g c = (g.met.V.Volume.passes_keeps _ _ c.last_number.ensures.read.passed).updating ∙ c.requires.ready.idle

pub stage_blocks-requires-clause-places : goal.stage_blocks-requires-clause-places
stage_blocks-requires-clause-places g c = λ t few. free_place c.args.shape.now _ _ _ c.args.taken t c.as_slice-blocks.ensures c.requires.free (c.last_number.ensures.read.looks.looks.count ∙ c.requires.ready.order.has_shape.count) few

pub grown_inode-inode-requires-clause-grows : goal.grown_inode-inode-requires-clause-grows
grown_inode-inode-requires-clause-grows g c = let have_is = c.page_count-have.ensures.pages in let want_is = c.page_count-want.ensures.pages in let grows = c.requires.grows in omega (arith, have_is, want_is, grows)

pub last_number-requires-clause-can : goal.last_number-requires-clause-can
last_number-requires-clause-can g c = record { keeps = c.requires.sound; meets = can_look_up c.args.shape.now _ c.requires.ready.order.has_shape c.requires.ready.order.mapped c.requires.ready.order.named }
