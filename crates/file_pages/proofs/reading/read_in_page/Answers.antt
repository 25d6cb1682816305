use Rattle.file_pages.proofs.Common.{arith, err_from_is_err_and}
use Rattle.node_pages.proofs.Ends.{ends_read, ends_read_on, read_still_memory}
use Rattle.node_pages.proofs.EndsOn.{if_err}
use Rattle.node_pages.proofs.LookingUpRules.{can_look_up, look_refl}
use Rattle.file_pages.proofs.reading.read_in_page.Goals as goal

pub push_page-requires-clause-order : goal.push_page-requires-clause-order
push_page-requires-clause-order g c = omega (arith, c.requires.order, c.requires.from)

pub push_page-requires-clause-page : goal.push_page-requires-clause-page
push_page-requires-clause-page g c = omega (arith, c.requires.to)

pub push_page-requires-clause-within : goal.push_page-requires-clause-within
push_page-requires-clause-within g c = omega (arith, c.requires.order, c.requires.from, c.requires.within)

pub returns-in_err-out-clause-ends : goal.returns-in_err-out-clause-ends
returns-in_err-out-clause-ends g c = let p = err_from_is_err_and c.from_residual.result c.from_residual.ensures.1 in read_still_memory _ c.from_residual.result p.0 p.1 p.2

pub returns-in_err-out-clause-looks : goal.returns-in_err-out-clause-looks
returns-in_err-out-clause-looks g c = look_refl c.args.shape.now _ (can_look_up c.args.shape.now _ c.requires.shape c.requires.mapped c.requires.named)

pub returns-in_err-out-clause-passes : goal.returns-in_err-out-clause-passes
returns-in_err-out-clause-passes g c = g.met.V.Blocks.passes_refl _

pub returns-in_err-out-clause-value : goal.returns-in_err-out-clause-value
returns-in_err-out-clause-value g c = if_err c.from_residual.result _ c.from_residual.ensures.0

pub returns-in_err-push_page-clause-ends : goal.returns-in_err-push_page-clause-ends
returns-in_err-push_page-clause-ends g c = let p = err_from_is_err_and c.from_residual-in_err-push_page.result c.from_residual-in_err-push_page.ensures.1 in ends_read _ _ c.push_page.result c.from_residual-in_err-push_page.result _ p.0 c.in_err-push_page.was p.1 p.2 c.push_page.ensures.ends

pub returns-in_err-push_page-clause-value : goal.returns-in_err-push_page-clause-value
returns-in_err-push_page-clause-value g c = if_err c.from_residual-in_err-push_page.result _ c.from_residual-in_err-push_page.ensures.0

pub returns-clause-ends : goal.returns-clause-ends
returns-clause-ends g c = ends_read_on _ _ _ _ c.in_ok-push_page.ensures.ends
