use Rattle.request_ends.proofs.Reading.{file_value, file_refused, file_ok, file_on}
use Rattle.request_ends.proofs.Failed.{never_some}
use Rattle.request_ends.proofs.Common.{err_from_is_err_and}
use Rattle.file_tree.proofs.LookedAt.{unrefused_on}
use Rattle.file_tree.proofs.walking.row_of.Goals as goal

pub returns-in_err-row-clause-refused : goal.returns-in_err-row-clause-refused
returns-in_err-row-clause-refused g c =
    let p = err_from_is_err_and c.from_residual.result c.from_residual.ensures.1 in
    unrefused_on 2 _ c.look_up.result c.from_residual.result _ p.0 c.in_err-row.was p.1 p.2 c.look_up.ensures.other

pub returns-in_err-row-clause-row : goal.returns-in_err-row-clause-row
returns-in_err-row-clause-row g c = let p = err_from_is_err_and c.from_residual.result c.from_residual.ensures.1 in never_some _ _ p.0 p.1

pub returns-in_err-row-clause-read : goal.returns-in_err-row-clause-read
returns-in_err-row-clause-read g c = file_on c.look_up.result c.from_residual.result c.in_err-row.was c.from_residual.ensures.1 c.look_up.ensures.read

pub returns-in-Some-clause-read : goal.returns-in-Some-clause-read
returns-in-Some-clause-read g c = file_value _ (file_ok c.look_up.result _ c.in_ok-row.was c.look_up.ensures.read)

pub returns-in-None-clause-read : goal.returns-in-None-clause-read
returns-in-None-clause-read g c = file_refused 2 (file_ok c.look_up.result _ c.in_ok-row.was c.look_up.ensures.read)

pub look_up-requires-clause-can : goal.look_up-requires-clause-can
look_up-requires-clause-can g c = c.requires.can
