use Rattle.node_pages.proofs.Common.{arith, err_from_is_err_and}
use Rattle.node_pages.proofs.EndsOn.{halts_ok, halts_on, if_err}
use Rattle.node_pages.proofs.Updated.{edit_in, run_made, run_span}
use Rattle.node_pages.proofs.updating.make_run.Goals as goal

pub edit_run-requires-clause-place : goal.edit_run-requires-clause-place
edit_run-requires-clause-place g c = let n = c.gather_run-n in run_span c.args.edits.now n.new.values n.result _ _ n.ensures.some n.ensures.within (omega (arith, n.array_long, n.ensures.most)) n.ensures.run c.requires.blocks c.requires.words

pub edit_run-requires-clause-touched : goal.edit_run-requires-clause-touched
edit_run-requires-clause-touched g c = c.requires.touched _ (edit_in c.args.edits.now 0 _ c.requires.some)

pub returns-clause-made : goal.returns-clause-made
returns-clause-made g c = let n = c.gather_run-n in run_made c.args.edits.now n.new.values n.result _ _ _ n.ensures.within (omega (arith, n.array_long, n.ensures.most)) n.ensures.run c.in_ok-edit_run.ensures.ok

pub returns-in_err-edit_run-clause-some : goal.returns-in_err-edit_run-clause-some
returns-in_err-edit_run-clause-some g c = if_err c.from_residual.result _ c.from_residual.ensures.0

pub returns-in_err-edit_run-clause-most : goal.returns-in_err-edit_run-clause-most
returns-in_err-edit_run-clause-most g c = if_err c.from_residual.result _ c.from_residual.ensures.0

pub returns-in_err-edit_run-clause-within : goal.returns-in_err-edit_run-clause-within
returns-in_err-edit_run-clause-within g c = if_err c.from_residual.result _ c.from_residual.ensures.0

pub returns-in_err-edit_run-clause-made : goal.returns-in_err-edit_run-clause-made
returns-in_err-edit_run-clause-made g c = if_err c.from_residual.result _ c.from_residual.ensures.0

pub returns-in_err-edit_run-clause-update : goal.returns-in_err-edit_run-clause-update
returns-in_err-edit_run-clause-update g c = if_err c.from_residual.result _ c.from_residual.ensures.0

pub returns-clause-ends : goal.returns-clause-ends
returns-clause-ends g c = halts_ok _ _ _ c.edit_run.ensures.ends.later c.in_ok-edit_run.ensures.ends.cause

pub returns-in_err-edit_run-clause-ends : goal.returns-in_err-edit_run-clause-ends
returns-in_err-edit_run-clause-ends g c = let p = err_from_is_err_and c.from_residual.result c.from_residual.ensures.1 in halts_on _ _ c.edit_run.result c.from_residual.result _ p.0 c.in_err-edit_run.was p.1 c.edit_run.ensures.ends
