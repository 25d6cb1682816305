use Rattle.file_pages.proofs.GrowEnds.{file_fits}
use Rattle.file_pages.proofs.Common.{◌-◌, ◌∙◌, ap, subst, ends_by_after, err_from_is_err_and, ◌then◌, numbers, grown, volume_layout, LeavesInUse, IsFree, arith, free_blocks, inl, length, refl, slice_index, sym, ℕ, ◌<◌, ◌≤◌}
use Rattle.node_pages.specs.Changes.{Grows, given_node, PlansFor}
use Rattle.node_pages.specs.LookingUp.{page_blocks}
use Rattle.node_pages.proofs.LookingUpRules.{look_trans}
use Rattle.node_pages.proofs.OrderRules.{leaves_looked, leaves_trans, ready_left}
use Rattle.node_pages.proofs.Ends.{ends_size, ends_well_ok, err_handed, read_runs, size_err, size_runs, size_then, unrefused_read, unrefused_ok}
use Rattle.file_pages.proofs.Extension.{extends_made}
use Rattle.node_pages.proofs.EndsOn.{if_err}
use Rattle.node_pages.proofs.Planned.{taken_reach}
use Rattle.file_pages.proofs.extending.plan_extension.Goals as goal

pub returns-in_err-taken-clause-leaves : goal.returns-in_err-taken-clause-leaves
returns-in_err-taken-clause-leaves g c =
    let first = c.take_lowest.ensures in
    leaves_looked c.args.shape.now _ _ _ _ (g.V.Blocks.seen c.args.v.now) (g.V.Blocks.seen c.take_lowest.new.v) (g.V.Volume.kept c.args.v.now) (g.V.Volume.kept c.take_lowest.new.v) c.requires.ready first.looks (g.met.V.Volume.passes_keeps _ _ first.passes)

pub plan_growth-requires-clause-ready : goal.plan_growth-requires-clause-ready
plan_growth-requires-clause-ready g c =
    let shape = c.args.shape.now in
    let x = g.V.Blocks.seen c.args.v.now in
    let k = g.V.Volume.kept c.args.v.now in
    let y = g.V.Blocks.seen c.span_blocks.new.v in
    let j = g.V.Volume.kept c.span_blocks.new.v in
    let looked : LeavesInUse (volume_layout shape x.words) x k y j = leaves_looked shape _ _ _ _ x y k j c.requires.ready (look_trans shape x (g.V.Blocks.seen c.take_lowest.new.v) y c.take_lowest.ensures.looks c.span_blocks.ensures.looks) (g.met.V.Volume.passes_keeps _ _ (g.met.V.Blocks.passes_trans _ _ _ c.take_lowest.ensures.passes c.span_blocks.ensures.passes)) in
    ready_left shape x k y j c.requires.ready looked

pub returns-in_err-change-clause-goes : goal.returns-in_err-change-clause-goes
returns-in_err-change-clause-goes g c = (g.met.V.Volume.passes_keeps _ _ (g.met.V.Blocks.passes_trans _ _ _ c.take_lowest.ensures.passes c.span_blocks.ensures.passes)).goes then c.plan_growth.ensures.goes

pub returns-in_err-blocks-clause-leaves : goal.returns-in_err-blocks-clause-leaves
returns-in_err-blocks-clause-leaves g c =
    let shape = c.args.shape.now in
    let x = g.V.Blocks.seen c.args.v.now in
    let k = g.V.Volume.kept c.args.v.now in
    let y = g.V.Blocks.seen c.span_blocks.new.v in
    let j = g.V.Volume.kept c.span_blocks.new.v in
    let looked : LeavesInUse (volume_layout shape x.words) x k y j = leaves_looked shape _ _ _ _ x y k j c.requires.ready (look_trans shape x (g.V.Blocks.seen c.take_lowest.new.v) y c.take_lowest.ensures.looks c.span_blocks.ensures.looks) (g.met.V.Volume.passes_keeps _ _ (g.met.V.Blocks.passes_trans _ _ _ c.take_lowest.ensures.passes c.span_blocks.ensures.passes)) in
    looked

pub returns-in_err-blocks-clause-goes : goal.returns-in_err-blocks-clause-goes
returns-in_err-blocks-clause-goes g c = (g.met.V.Volume.passes_keeps _ _ (g.met.V.Blocks.passes_trans _ _ _ c.take_lowest.ensures.passes c.span_blocks.ensures.passes)).goes

pub returns-in_err-blocks-clause-ends : goal.returns-in_err-blocks-clause-ends
returns-in_err-blocks-clause-ends g c =
    let p = err_from_is_err_and c.from_residual-in_err-blocks.result c.from_residual-in_err-blocks.ensures.1 in
    size_then _ _ _ c.take_lowest.result _ c.from_residual-in_err-blocks.result c.in_ok-taken.was c.take_lowest.ensures.ends (ends_size _ _ c.span_blocks.result c.from_residual-in_err-blocks.result _ p.0 c.in_err-blocks.was p.1 p.2 c.span_blocks.ensures.ends)

pub returns-clause-ok : goal.returns-clause-ok
returns-clause-ok g c =
    let shape = c.args.shape.now in
    let x = g.V.Blocks.seen c.args.v.now in
    let i = c.args.i.0 in
    let len = c.args.len in
    let given = c.args.inode.now in
    let taken = c.in_ok-taken.taken in
    let change = c.in_ok-change.change in
    let z = g.V.Blocks.seen c.plan_growth.new.v in
    let l = g.V.Volume.kept c.plan_growth.new.v in
    let first = c.take_lowest.ensures.looks.looks.words in
    extends_made shape x.words z l i given len c.args.first (numbers taken) change (numbers c.in_ok-blocks.blocks.items)
    (subst (λ f. Grows shape f z l i given len (numbers taken) change) (c.span_blocks.ensures.looks.looks.words ∙ first) c.in_ok-change.ensures.ok)
    (c.wanted_count-wanted.result, c.in_ok-taken.ensures.value)
    (c.in_ok-blocks.ensures.value len
    ∙ ap (λ f. page_blocks (grown (given_node f i given) len (numbers c.as_slice.result.now)) c.args.first (c.page_count.result - c.args.first)) first
    ∙ ap (λ bs. page_blocks (grown (given_node x.words i given) len (numbers bs)) c.args.first (c.page_count.result - c.args.first)) c.as_slice.ensures
    ∙ ap (λ e. page_blocks (grown (given_node x.words i given) len (numbers taken)) c.args.first (e - c.args.first)) c.page_count.ensures.pages)

pub returns-clause-leaves : goal.returns-clause-leaves
returns-clause-leaves g c =
    let shape = c.args.shape.now in
    let x = g.V.Blocks.seen c.args.v.now in
    let k = g.V.Volume.kept c.args.v.now in
    let y = g.V.Blocks.seen c.span_blocks.new.v in
    let j = g.V.Volume.kept c.span_blocks.new.v in
    let looked : LeavesInUse (volume_layout shape x.words) x k y j = leaves_looked shape _ _ _ _ x y k j c.requires.ready (look_trans shape x (g.V.Blocks.seen c.take_lowest.new.v) y c.take_lowest.ensures.looks c.span_blocks.ensures.looks) (g.met.V.Volume.passes_keeps _ _ (g.met.V.Blocks.passes_trans _ _ _ c.take_lowest.ensures.passes c.span_blocks.ensures.passes)) in
    leaves_trans shape x k y j (g.V.Blocks.seen c.plan_growth.new.v) (g.V.Volume.kept c.plan_growth.new.v) c.requires.ready looked c.plan_growth.ensures.leaves

pub returns-clause-goes : goal.returns-clause-goes
returns-clause-goes g c = (g.met.V.Volume.passes_keeps _ _ (g.met.V.Blocks.passes_trans _ _ _ c.take_lowest.ensures.passes c.span_blocks.ensures.passes)).goes then c.plan_growth.ensures.goes

pub returns-in_err-taken-clause-goes : goal.returns-in_err-taken-clause-goes
returns-in_err-taken-clause-goes g c = (g.met.V.Volume.passes_keeps _ _ c.take_lowest.ensures.passes).goes

pub returns-in_err-taken-clause-ends : goal.returns-in_err-taken-clause-ends
returns-in_err-taken-clause-ends g c =
    let p = err_from_is_err_and c.from_residual.result c.from_residual.ensures.1 in
    size_err _ _ _ c.from_residual.result _ _ c.in_err-taken.was p.1 p.2 c.take_lowest.ensures.ends

pub returns-in_err-taken-clause-small : goal.returns-in_err-taken-clause-small
returns-in_err-taken-clause-small g c =
    let p = err_from_is_err_and c.from_residual.result c.from_residual.ensures.1 in
    λ is. c.take_lowest.ensures.small (err_handed _ _ _ _ _ c.in_err-taken.was p.1 p.2 is)

pub returns-in_err-change-clause-ends : goal.returns-in_err-change-clause-ends
returns-in_err-change-clause-ends g c =
    let p = err_from_is_err_and c.from_residual-in_err-change.result c.from_residual-in_err-change.ensures.1 in
    size_then _ _ _ c.take_lowest.result _ _ c.in_ok-taken.was c.take_lowest.ensures.ends (ends_by_after _ _ _ _ _ c.span_blocks.ensures.ends.later (read_runs _ _ _ c.in_ok-blocks.ensures.ends) (size_err _ _ _ c.from_residual-in_err-change.result _ _ c.in_err-change.was p.1 p.2 c.plan_growth.ensures.ends))

pub returns-in_err-change-clause-small : goal.returns-in_err-change-clause-small
returns-in_err-change-clause-small g c =
    let p = err_from_is_err_and c.from_residual-in_err-change.result c.from_residual-in_err-change.ensures.1 in
    λ is. c.plan_growth.ensures.other.1 (err_handed _ _ _ _ _ c.in_err-change.was p.1 p.2 is)

pub returns-in_err-change-clause-no_space : goal.returns-in_err-change-clause-no_space
returns-in_err-change-clause-no_space g c =
    let p = err_from_is_err_and c.from_residual-in_err-change.result c.from_residual-in_err-change.ensures.1 in
    λ is. absurd (c.plan_growth.ensures.other.0 (err_handed _ _ _ _ _ c.in_err-change.was p.1 p.2 is))

pub returns-in_err-change-clause-leaves : goal.returns-in_err-change-clause-leaves
returns-in_err-change-clause-leaves g c =
    let shape = c.args.shape.now in
    let x = g.V.Blocks.seen c.args.v.now in
    let k = g.V.Volume.kept c.args.v.now in
    let y = g.V.Blocks.seen c.span_blocks.new.v in
    let j = g.V.Volume.kept c.span_blocks.new.v in
    let looked : LeavesInUse (volume_layout shape x.words) x k y j = leaves_looked shape _ _ _ _ x y k j c.requires.ready (look_trans shape x (g.V.Blocks.seen c.take_lowest.new.v) y c.take_lowest.ensures.looks c.span_blocks.ensures.looks) (g.met.V.Volume.passes_keeps _ _ (g.met.V.Blocks.passes_trans _ _ _ c.take_lowest.ensures.passes c.span_blocks.ensures.passes)) in
    leaves_trans shape x k y j (g.V.Blocks.seen c.plan_growth.new.v) (g.V.Volume.kept c.plan_growth.new.v) c.requires.ready looked c.plan_growth.ensures.leaves

pub returns-in_err-blocks-clause-small : goal.returns-in_err-blocks-clause-small
returns-in_err-blocks-clause-small g c =
    let p = err_from_is_err_and c.from_residual-in_err-blocks.result c.from_residual-in_err-blocks.ensures.1 in
    λ is. (unrefused_read c.from_residual-in_err-blocks.result _ p.0 p.1 p.2).1 is

pub returns-in_err-blocks-clause-no_space : goal.returns-in_err-blocks-clause-no_space
returns-in_err-blocks-clause-no_space g c =
    let p = err_from_is_err_and c.from_residual-in_err-blocks.result c.from_residual-in_err-blocks.ensures.1 in
    λ is. absurd ((unrefused_read c.from_residual-in_err-blocks.result _ p.0 p.1 p.2).0 is)

pub returns-clause-ends : goal.returns-clause-ends
returns-clause-ends g c = size_then _ _ _ c.take_lowest.result _ _ c.in_ok-taken.was c.take_lowest.ensures.ends (ends_by_after _ _ _ _ _ c.span_blocks.ensures.ends.later (read_runs _ _ _ c.in_ok-blocks.ensures.ends) (ends_well_ok _ _ _ c.plan_growth.ensures.ends.later (size_runs _ _ _ c.in_ok-change.ensures.ends)))

pub returns-clause-no_space : goal.returns-clause-no_space
returns-clause-no_space g c = λ is. absurd ((unrefused_ok _).0 is)

pub returns-clause-small : goal.returns-clause-small
returns-clause-small g c = λ is. (unrefused_ok _).1 is

pub plan_growth-requires-clause-count : goal.plan_growth-requires-clause-count
plan_growth-requires-clause-count g c = c.in_ok-taken.ensures.count ∙ c.wanted_count-wanted.ensures.wanted

pub plan_growth-requires-clause-free : goal.plan_growth-requires-clause-free
plan_growth-requires-clause-free g c = subst (λ f. (t : ℕ) → t < length c.in_ok-taken.taken → IsFree (volume_layout c.args.shape.now f) (slice_index (numbers c.in_ok-taken.taken) t)) (sym (c.span_blocks.ensures.looks.looks.words ∙ c.take_lowest.ensures.looks.looks.words)) c.in_ok-taken.ensures.free

pub plan_growth-requires-clause-inode : goal.plan_growth-requires-clause-inode
plan_growth-requires-clause-inode g c = subst (λ f. PlansFor f c.args.i.0 c.args.inode.now) (sym (c.span_blocks.ensures.looks.looks.words ∙ c.take_lowest.ensures.looks.looks.words)) (inl (c.requires.inode, omega (arith, c.requires.file)))

pub returns-clause-room : goal.returns-clause-room
returns-clause-room g c = record { most = c.requires.most; room = subst (λ n. n ≤ length (free_blocks c.args.shape.now (g.V.Blocks.seen c.args.v.now).words)) c.wanted_count-wanted.ensures.wanted c.in_ok-taken.ensures.room }

pub returns-in_err-taken-clause-no_space : goal.returns-in_err-taken-clause-no_space
returns-in_err-taken-clause-no_space g c = let p = err_from_is_err_and c.from_residual.result c.from_residual.ensures.1 in λ is. subst (λ n. length (free_blocks c.args.shape.now (g.V.Blocks.seen c.args.v.now).words) < n) c.wanted_count-wanted.ensures.wanted (c.take_lowest.ensures.no_space (err_handed _ _ _ _ _ c.in_err-taken.was p.1 p.2 is))

pub span_blocks-requires-clause-order : goal.span_blocks-requires-clause-order
span_blocks-requires-clause-order g c = omega (arith, c.requires.first, c.page_count.ensures.pages)

pub returns-in_err-taken-clause-ok : goal.returns-in_err-taken-clause-ok
returns-in_err-taken-clause-ok g c = if_err c.from_residual.result _ c.from_residual.ensures.0

pub returns-in_err-taken-clause-room : goal.returns-in_err-taken-clause-room
returns-in_err-taken-clause-room g c = if_err c.from_residual.result _ c.from_residual.ensures.0

pub returns-in_err-change-clause-ok : goal.returns-in_err-change-clause-ok
returns-in_err-change-clause-ok g c = if_err c.from_residual-in_err-change.result _ c.from_residual-in_err-change.ensures.0

pub returns-in_err-change-clause-room : goal.returns-in_err-change-clause-room
returns-in_err-change-clause-room g c = if_err c.from_residual-in_err-change.result _ c.from_residual-in_err-change.ensures.0

pub returns-in_err-blocks-clause-ok : goal.returns-in_err-blocks-clause-ok
returns-in_err-blocks-clause-ok g c = if_err c.from_residual-in_err-blocks.result _ c.from_residual-in_err-blocks.ensures.0

pub returns-in_err-blocks-clause-room : goal.returns-in_err-blocks-clause-room
returns-in_err-blocks-clause-room g c = if_err c.from_residual-in_err-blocks.result _ c.from_residual-in_err-blocks.ensures.0

pub plan_growth-requires-clause-fits : goal.plan_growth-requires-clause-fits
plan_growth-requires-clause-fits g c = file_fits _ _ c.requires.file c.requires.most

pub span_blocks-requires-clause-inode : goal.span_blocks-requires-clause-inode
span_blocks-requires-clause-inode g c = subst (λ f. PlansFor f c.args.i.0 c.args.inode.now) (sym c.take_lowest.ensures.looks.looks.words) (inl (c.requires.inode, omega (arith, c.requires.file)))

pub span_blocks-requires-clause-past : goal.span_blocks-requires-clause-past
span_blocks-requires-clause-past g c = omega (arith, c.requires.grows, c.page_count.ensures.pages)

pub span_blocks-requires-clause-within : goal.span_blocks-requires-clause-within
span_blocks-requires-clause-within g c = taken_reach _ c.args.len _ _ _ refl c.page_count.ensures.pages (ap (λ bs. length bs) c.as_slice.ensures ∙ c.in_ok-taken.ensures.count ∙ c.wanted_count-wanted.ensures.wanted) c.requires.grows
