use Rattle.rio_base.proofs.Frames.{read_ok}
use Rattle.request_ends.proofs.Reading.{file_value, file_vol}
use Rattle.file_tree.proofs.Lookups.{rows_read}
use Rattle.request_ends.proofs.Failed.{never_some, unrefused_vol}
use Rattle.request_ends.proofs.Common.{err_from_is_err_and}
use Rattle.file_tree.proofs.finding.entry_at.Goals as goal

pub returns-in_err-found-clause-found : goal.returns-in_err-found-clause-found
returns-in_err-found-clause-found g c = let p = err_from_is_err_and c.from_residual.result c.from_residual.ensures.1 in never_some _ _ p.0 p.1

pub returns-in_err-found-clause-other : goal.returns-in_err-found-clause-other
returns-in_err-found-clause-other g c = let p = err_from_is_err_and c.from_residual.result c.from_residual.ensures.1 in unrefused_vol c.from_residual.result _ _ p.1 p.2

pub returns-in_err-found-clause-read : goal.returns-in_err-found-clause-read
returns-in_err-found-clause-read g c = file_vol c.row_at.result c.from_residual.result c.in_err-found.was c.from_residual.ensures.1 c.row_at.ensures.read

pub returns-clause-read : goal.returns-clause-read
returns-clause-read g c = file_value _ (read_ok c.row_at.result _ c.in_ok-found.was c.row_at.ensures.read)

pub row_at-requires-clause-can : goal.row_at-requires-clause-can
row_at-requires-clause-can g c = record { keeps = c.requires.can.keeps; meets = rows_read c.requires.can.meets }
