use Rattle.node_pages.proofs.EndsOn.{if_err}
use Rattle.node_pages.proofs.Common.{◌<◌, ◌≤◌, ◌+◌, ◌∙◌, ℕ, not, length, take, sym, ap, subst, arith, filter, err_from_is_err_and, free_blocks, numbers}
use Rattle.node_pages.specs.Changes.{is_among}
use Rattle.node_pages.specs.declared.failures.SizeFail.TheVariants.{NoSpace}
use Rattle.node_pages.proofs.Ends.{err_handed, size_err, unrefused_memory, ends_well_memory, ends_well_ok, size_runs, unrefused_ok}
use Rattle.node_pages.proofs.Listed.{as_many}
use Rattle.node_pages.proofs.Skipped.{count_beside, lowest_left, skip_few}
use Rattle.node_pages.proofs.taking.take_beside.Goals as goal

pub overflow_cast-away : goal.overflow_cast-away
overflow_cast-away g c =
    let few = (skip_few c.args.shape.now (g.V.Blocks.seen c.args.v.now).words (numbers c.args.skip.now) c.requires.ready.order.mapped c.requires.once (λ k few. c.requires.skip k (subst (λ (m : ℕ). k < m) (as_many c.args.skip.now) few))) in
    omega (arith, few, as_many c.args.skip.now, ap length c.as_slice-away.ensures, c.requires.ready.order.has_shape.sizes.blocks_to)

pub overflow_add-n : goal.overflow_add-n
overflow_add-n g c =
    let few = (skip_few c.args.shape.now (g.V.Blocks.seen c.args.v.now).words (numbers c.args.skip.now) c.requires.ready.order.mapped c.requires.once (λ k few. c.requires.skip k (subst (λ (m : ℕ). k < m) (as_many c.args.skip.now) few))) in
    omega (arith, few, as_many c.args.skip.now, ap length c.as_slice-away.ensures, c.requires.ready.order.has_shape.sizes.blocks_to, c.requires.few)

pub returns-in_err-all-clause-no_space : goal.returns-in_err-all-clause-no_space
returns-in_err-all-clause-no_space g c =
    let p = err_from_is_err_and c.from_residual.result c.from_residual.ensures.1 in
    λ is. let short = c.take_lowest.ensures.no_space (err_handed NoSpace c.take_lowest.result c.from_residual.result _ p.0 c.in_err-all.was p.1 p.2 is) in
    let count = count_beside c.args.shape.now (g.V.Blocks.seen c.args.v.now).words (numbers c.args.skip.now) c.requires.ready.order.mapped c.requires.once (λ k few. c.requires.skip k (subst (λ (m : ℕ). k < m) (as_many c.args.skip.now) few)) in
    omega (arith, short, count, as_many c.args.skip.now, ap length c.as_slice-away.ensures)

pub returns-clause-value : goal.returns-clause-value
returns-clause-value g c =
    let skip = numbers c.args.skip.now in
    let f = (g.V.Blocks.seen c.args.v.now).words in
    let many = as_many c.args.skip.now ∙ sym (ap length c.as_slice-away.ensures) in
    lowest_left c.args.shape.now f skip c.args.n (numbers c.in_ok-all.all) (numbers c.in_ok-leave_out.field-0) c.requires.ready.order.mapped c.requires.once (λ k few. c.requires.skip k (subst (λ (m : ℕ). k < m) (as_many c.args.skip.now) few))
    (c.in_ok-all.ensures.value ∙ ap (λ q. take (c.args.n + q) (free_blocks c.args.shape.now f)) (sym many))
    (subst (λ (q : ℕ). c.args.n + q ≤ length (free_blocks c.args.shape.now f)) (sym many) c.in_ok-all.ensures.room)
    (c.in_ok-leave_out.ensures ∙ (λ p. take c.args.n (filter (λ b. not (is_among (numbers (c.as_slice-away.ensures p)) b)) (numbers (c.as_slice.ensures p)))))

pub returns-clause-room : goal.returns-clause-room
returns-clause-room g c =
    let count = count_beside c.args.shape.now (g.V.Blocks.seen c.args.v.now).words (numbers c.args.skip.now) c.requires.ready.order.mapped c.requires.once (λ k few. c.requires.skip k (subst (λ (m : ℕ). k < m) (as_many c.args.skip.now) few)) in
    omega (arith, c.in_ok-all.ensures.room, count, as_many c.args.skip.now, ap length c.as_slice-away.ensures)

pub returns-in_err-all-clause-value : goal.returns-in_err-all-clause-value
returns-in_err-all-clause-value g c = if_err c.from_residual.result _ c.from_residual.ensures.0

pub returns-in_err-all-clause-room : goal.returns-in_err-all-clause-room
returns-in_err-all-clause-room g c = if_err c.from_residual.result _ c.from_residual.ensures.0

pub returns-in_err-leave_out-clause-value : goal.returns-in_err-leave_out-clause-value
returns-in_err-leave_out-clause-value g c = if_err c.from_residual-in_err-leave_out.result _ c.from_residual-in_err-leave_out.ensures.0

pub returns-in_err-leave_out-clause-room : goal.returns-in_err-leave_out-clause-room
returns-in_err-leave_out-clause-room g c = if_err c.from_residual-in_err-leave_out.result _ c.from_residual-in_err-leave_out.ensures.0

pub returns-in_err-all-clause-small : goal.returns-in_err-all-clause-small
returns-in_err-all-clause-small g c = let p = err_from_is_err_and c.from_residual.result c.from_residual.ensures.1 in λ is. c.take_lowest.ensures.small (err_handed _ _ _ _ _ c.in_err-all.was p.1 p.2 is)

pub returns-in_err-all-clause-ends : goal.returns-in_err-all-clause-ends
returns-in_err-all-clause-ends g c = let p = err_from_is_err_and c.from_residual.result c.from_residual.ensures.1 in size_err _ _ _ c.from_residual.result _ p.0 c.in_err-all.was p.1 p.2 c.take_lowest.ensures.ends

pub returns-in_err-leave_out-clause-small : goal.returns-in_err-leave_out-clause-small
returns-in_err-leave_out-clause-small g c = let p = err_from_is_err_and c.from_residual-in_err-leave_out.result c.from_residual-in_err-leave_out.ensures.1 in (unrefused_memory c.from_residual-in_err-leave_out.result p.0 p.1 p.2).1

pub returns-in_err-leave_out-clause-no_space : goal.returns-in_err-leave_out-clause-no_space
returns-in_err-leave_out-clause-no_space g c = let p = err_from_is_err_and c.from_residual-in_err-leave_out.result c.from_residual-in_err-leave_out.ensures.1 in λ is. absurd ((unrefused_memory c.from_residual-in_err-leave_out.result p.0 p.1 p.2).0 is)

pub returns-in_err-leave_out-clause-ends : goal.returns-in_err-leave_out-clause-ends
returns-in_err-leave_out-clause-ends g c = let p = err_from_is_err_and c.from_residual-in_err-leave_out.result c.from_residual-in_err-leave_out.ensures.1 in ends_well_memory _ _ c.from_residual-in_err-leave_out.result p.0 p.1 p.2 c.take_lowest.ensures.ends.later (size_runs _ _ _ c.in_ok-all.ensures.ends)

pub returns-clause-small : goal.returns-clause-small
returns-clause-small g c = (unrefused_ok _).1

pub returns-clause-no_space : goal.returns-clause-no_space
returns-clause-no_space g c = λ is. absurd ((unrefused_ok _).0 is)

pub returns-clause-ends : goal.returns-clause-ends
returns-clause-ends g c = ends_well_ok _ _ _ c.take_lowest.ensures.ends.later (size_runs _ _ _ c.in_ok-all.ensures.ends)
