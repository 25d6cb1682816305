use Rattle.node_pages.proofs.EndsOn.{if_err}
use Rattle.node_pages.proofs.Ends.{ends_read, ends_read_memory, ends_read_on, read_runs}
use Rattle.file_pages.proofs.Common.{◌-◌, ◌++◌, ◌∙◌, sym, ap, arith, slice_index, numbers, page_new, page_old, grown, placed_at, err_from_is_err_and}
use Rattle.node_pages.specs.Changes.{given_node}
use Rattle.node_pages.specs.LookingUp.{page_blocks}
use Rattle.file_pages.proofs.Extension.{span_joined}
use Rattle.file_pages.proofs.extending.span_blocks.Goals as goal

pub returns-clause-value : goal.returns-clause-value
returns-clause-value g c = λ len.
    let f = (g.V.Blocks.seen c.args.v.now).words in
    let old = given_node f c.args.i.0 c.args.inode.now in
    let taken = numbers c.args.taken.now in
    let n = grown old len taken in
    let have = c.page_count-have.ensures.pages in
    c.in_ok-push_taken.ensures n (λ p low high. ap (λ h. slice_index taken (p - h)) have ∙ sym (page_new old len p taken (omega (arith, low, c.max.ensures, have))))
    ∙ ap (λ xs. xs ++ page_blocks n c.max.result (c.args.end - c.max.result)) c.in_ok-blocks.ensures.value
    ∙ span_joined n (placed_at f c.args.i.0) c.args.first c.page_count-have.result c.min.result c.max.result c.args.end c.min.ensures c.max.ensures c.requires.order (omega (arith, have, c.requires.past)) (λ p few. page_old old len p taken (omega (arith, few, have)))

pub returns-in_err-blocks-clause-ends : goal.returns-in_err-blocks-clause-ends
returns-in_err-blocks-clause-ends g c = let p = err_from_is_err_and c.from_residual.result c.from_residual.ensures.1 in ends_read _ _ _ c.from_residual.result _ p.0 c.in_err-blocks.was p.1 p.2 c.page_blocks.ensures.read.ends

pub returns-clause-ends : goal.returns-clause-ends
returns-clause-ends g c = ends_read_on _ _ _ _ c.in_ok-blocks.ensures.read.ends

pub page_blocks-requires-clause-order : goal.page_blocks-requires-clause-order
page_blocks-requires-clause-order g c = omega (arith, c.min.ensures)

pub page_blocks-requires-clause-within : goal.page_blocks-requires-clause-within
page_blocks-requires-clause-within g c = omega (arith, c.page_count-have.ensures.pages)

pub push_taken-requires-clause-past : goal.push_taken-requires-clause-past
push_taken-requires-clause-past g c = omega (arith, c.max.ensures)

pub push_taken-requires-clause-order : goal.push_taken-requires-clause-order
push_taken-requires-clause-order g c = omega (arith, c.max.ensures, c.page_count-have.ensures.pages, c.requires.order, c.requires.past)

pub push_taken-requires-clause-within : goal.push_taken-requires-clause-within
push_taken-requires-clause-within g c = omega (arith, c.page_count-have.ensures.pages, c.requires.within)

pub returns-in_err-blocks-clause-value : goal.returns-in_err-blocks-clause-value
returns-in_err-blocks-clause-value g c = if_err c.from_residual.result _ c.from_residual.ensures.0

pub returns-in_err-push_taken-clause-value : goal.returns-in_err-push_taken-clause-value
returns-in_err-push_taken-clause-value g c = if_err c.from_residual-in_err-push_taken.result _ c.from_residual-in_err-push_taken.ensures.0

pub returns-in_err-push_taken-clause-ends : goal.returns-in_err-push_taken-clause-ends
returns-in_err-push_taken-clause-ends g c = let p = err_from_is_err_and c.from_residual-in_err-push_taken.result c.from_residual-in_err-push_taken.ensures.1 in ends_read_memory _ _ c.from_residual-in_err-push_taken.result p.0 p.1 p.2 c.page_blocks.ensures.read.ends.later (read_runs _ _ _ c.in_ok-blocks.ensures.read.ends)

pub page_blocks-requires-clause-can : goal.page_blocks-requires-clause-can
page_blocks-requires-clause-can g c = record { keeps = c.requires.sound; meets = c.requires.can }
