use Rattle.node_pages.proofs.Ends.{ends_vol_read, ends_read_memory, ends_read_ok}
use Rattle.node_pages.proofs.EndsOn.{if_err}
use Rattle.file_pages.proofs.Common.{◌∙◌, ◌-◌, ◌++◌, refl, ap, arith, err_from_is_err_and}
use Rattle.file_pages.proofs.PageRead.{run_block}
use Rattle.file_pages.proofs.reading.push_copy.Goals as goal

pub returns-clause-bytes : goal.returns-clause-bytes
returns-clause-bytes g c = c.in_ok-push_bytes.ensures ∙ ap (λ bs. c.args.out.now.items ++ bs) (run_block _ _ c.args.b.0 c.args.from (c.args.to - c.args.from) c.read_run.new.into refl c.in_ok-read_run.ensures.words (omega (arith, c.requires.order, c.requires.within)))

pub returns-in_err-read_run-clause-bytes : goal.returns-in_err-read_run-clause-bytes
returns-in_err-read_run-clause-bytes g c = if_err c.from_residual.result _ c.from_residual.ensures.0

pub returns-in_err-read_run-clause-ends : goal.returns-in_err-read_run-clause-ends
returns-in_err-read_run-clause-ends g c = let p = err_from_is_err_and c.from_residual.result c.from_residual.ensures.1 in ends_vol_read _ _ c.read_run.result c.from_residual.result _ p.0 c.in_err-read_run.was p.1 p.2 c.read_run.ensures.ends

pub returns-in_err-push_bytes-clause-bytes : goal.returns-in_err-push_bytes-clause-bytes
returns-in_err-push_bytes-clause-bytes g c = if_err c.from_residual-in_err-push_bytes.result _ c.from_residual-in_err-push_bytes.ensures.0

pub returns-in_err-push_bytes-clause-ends : goal.returns-in_err-push_bytes-clause-ends
returns-in_err-push_bytes-clause-ends g c = let p = err_from_is_err_and c.from_residual-in_err-push_bytes.result c.from_residual-in_err-push_bytes.ensures.1 in ends_read_memory _ _ c.from_residual-in_err-push_bytes.result p.0 p.1 p.2 c.read_run.ensures.ends.later c.in_ok-read_run.ensures.ends.cause

pub returns-clause-ends : goal.returns-clause-ends
returns-clause-ends g c = ends_read_ok _ _ _ c.read_run.ensures.ends.later c.in_ok-read_run.ensures.ends.cause
