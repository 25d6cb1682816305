use Rattle.node_pages.proofs.Common.{sym, subst, arith, err_from_is_err_and, free_blocks}
use Rattle.node_pages.proofs.LookingUpRules.{can_look_up, looked_low}
use Rattle.node_pages.specs.Changes.{Apart}
use Rattle.node_pages.proofs.FreeLists.{ends_short, ends_small, ends_take, ends_taken, first_apart, first_count, first_free, lists_apart}
use Rattle.node_pages.proofs.EndsOn.{if_err}
use Rattle.node_pages.proofs.Ends.{unrefused_ok}
use Rattle.node_pages.proofs.taking.take_lowest.Goals as goal

pub returns-in_err-blocks-clause-looks : goal.returns-in_err-blocks-clause-looks
returns-in_err-blocks-clause-looks g c = looked_low c.args.shape.now _ _ 1 (can_look_up c.args.shape.now _ c.requires.ready.order.has_shape c.requires.ready.order.mapped c.requires.ready.order.named) (omega arith) c.take.ensures.read.looks.looks c.take.ensures.caches

pub returns-clause-looks : goal.returns-clause-looks
returns-clause-looks g c = looked_low c.args.shape.now _ _ 1 (can_look_up c.args.shape.now _ c.requires.ready.order.has_shape c.requires.ready.order.mapped c.requires.ready.order.named) (omega arith) c.take.ensures.read.looks.looks c.take.ensures.caches

pub returns-in_err-blocks-clause-ends : goal.returns-in_err-blocks-clause-ends
returns-in_err-blocks-clause-ends g c =
    let p = err_from_is_err_and c.from_residual.result c.from_residual.ensures.1 in
    ends_take _ _ _ c.from_residual.result _ p.0 c.in_err-blocks.was p.1 p.2 c.take.ensures.read.ends

pub returns-clause-ends : goal.returns-clause-ends
returns-clause-ends g c = ends_taken _ _ c.take.result c.in_ok-blocks.blocks _ c.in_ok-blocks.was c.take.ensures.read.ends

pub returns-in_err-blocks-clause-no_space : goal.returns-in_err-blocks-clause-no_space
returns-in_err-blocks-clause-no_space g c =
    let p = err_from_is_err_and c.from_residual.result c.from_residual.ensures.1 in
    ends_short _ _ c.from_residual.result _ p.0 c.in_err-blocks.was p.1 p.2 c.take.ensures.no_space

pub returns-in_err-blocks-clause-small : goal.returns-in_err-blocks-clause-small
returns-in_err-blocks-clause-small g c =
    let p = err_from_is_err_and c.from_residual.result c.from_residual.ensures.1 in
    ends_small c.from_residual.result _ p.0 p.1 p.2

pub returns-clause-count : goal.returns-clause-count
returns-clause-count g c = first_count _ (free_blocks c.args.shape.now (g.V.Blocks.seen c.args.v.now).words) c.in_ok-blocks.blocks c.in_ok-blocks.ensures.value c.in_ok-blocks.ensures.room

pub returns-clause-free : goal.returns-clause-free
returns-clause-free g c = first_free c.args.shape.now _ _ c.in_ok-blocks.blocks c.requires.ready.order.mapped c.in_ok-blocks.ensures.value c.in_ok-blocks.ensures.room

pub returns-clause-apart : goal.returns-clause-apart
returns-clause-apart g c = subst Apart (sym c.in_ok-blocks.ensures.value) (first_apart _ (free_blocks c.args.shape.now (g.V.Blocks.seen c.args.v.now).words) c.in_ok-blocks.ensures.room (lists_apart c.args.shape.now (g.V.Blocks.seen c.args.v.now).words))

pub returns-in_err-blocks-clause-apart : goal.returns-in_err-blocks-clause-apart
returns-in_err-blocks-clause-apart g c = if_err c.from_residual.result _ c.from_residual.ensures.0

pub returns-in_err-blocks-clause-count : goal.returns-in_err-blocks-clause-count
returns-in_err-blocks-clause-count g c = if_err c.from_residual.result _ c.from_residual.ensures.0

pub returns-in_err-blocks-clause-free : goal.returns-in_err-blocks-clause-free
returns-in_err-blocks-clause-free g c = if_err c.from_residual.result _ c.from_residual.ensures.0

pub returns-in_err-blocks-clause-room : goal.returns-in_err-blocks-clause-room
returns-in_err-blocks-clause-room g c = if_err c.from_residual.result _ c.from_residual.ensures.0

pub returns-in_err-blocks-clause-value : goal.returns-in_err-blocks-clause-value
returns-in_err-blocks-clause-value g c = if_err c.from_residual.result _ c.from_residual.ensures.0

pub returns-clause-no_space : goal.returns-clause-no_space
returns-clause-no_space g c = λ is. absurd ((unrefused_ok _).0 is)

pub returns-clause-small : goal.returns-clause-small
returns-clause-small g c = λ is. (unrefused_ok _).1 is

pub take-requires : goal.take-requires
take-requires g c = record { can = record { keeps = c.requires.sound; meets = c.requires.ready.order.has_shape } }
