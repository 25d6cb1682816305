use Rattle.std.proofs.lemmas.Result.{err_from_is_err_and}
use Rattle.undo_list.proofs.Frames.{region_at}
use Rattle.undo_list.proofs.Outcomes.{ends_err}
use Rattle.undo_list.proofs.records.read_header.Goals as goal

pub returns-in_err-read_run-clause-header : goal.returns-in_err-read_run-clause-header
returns-in_err-read_run-clause-header g c =
    let p = err_from_is_err_and c.from_residual.result c.from_residual.ensures.1 in
    rw (p.1) tt

pub returns-in_err-read_run-clause-ends : goal.returns-in_err-read_run-clause-ends
returns-in_err-read_run-clause-ends g c =
    let p = err_from_is_err_and c.from_residual.result c.from_residual.ensures.1 in
    ends_err _ _ c.read_run.result c.from_residual.result _ _ c.in_err-read_run.was p.1 p.2 c.read_run.ensures.ends

pub returns-in_err-read_run-clause-region : goal.returns-in_err-read_run-clause-region
returns-in_err-read_run-clause-region g c = region_at _ _ _ _ c.requires.region c.read_run.ensures.stays.count c.read_run.ensures.words

pub returns-clause-region : goal.returns-clause-region
returns-clause-region g c = region_at _ _ _ _ c.requires.region c.read_run.ensures.stays.count c.read_run.ensures.words
