use Rattle.request_ends.proofs.Reading.{file_value, file_ok, file_on}
use Rattle.request_ends.proofs.Failed.{never_some}
use Rattle.request_ends.proofs.Common.{err_from_is_err_and, names_of, walk_to_dir}
use Rattle.file_tree.proofs.LookedAt.{comes_in}
use Rattle.file_tree.proofs.walking.walk_to_dir.Goals as goal

pub returns-in_err-dir-clause-value : goal.returns-in_err-dir-clause-value
returns-in_err-dir-clause-value g c =
    let p = err_from_is_err_and c.from_residual.result c.from_residual.ensures.1 in
    λ s reads. comes_in (walk_to_dir s (names_of c.args.path.now)) c.dir_at.result c.from_residual.result _ p.0 c.in_err-dir.was p.1 p.2 (c.dir_at.ensures.value s reads)

pub returns-clause-value : goal.returns-clause-value
returns-clause-value g c = λ s reads. c.in_ok-dir.ensures.value s reads

pub returns-in_err-dir-clause-dir : goal.returns-in_err-dir-clause-dir
returns-in_err-dir-clause-dir g c = let p = err_from_is_err_and c.from_residual.result c.from_residual.ensures.1 in never_some _ _ p.0 p.1

pub returns-in_err-dir-clause-read : goal.returns-in_err-dir-clause-read
returns-in_err-dir-clause-read g c = file_on c.dir_at.result c.from_residual.result c.in_err-dir.was c.from_residual.ensures.1 c.dir_at.ensures.read

pub returns-clause-read : goal.returns-clause-read
returns-clause-read g c = file_value _ (file_ok c.dir_at.result _ c.in_ok-dir.was c.dir_at.ensures.read)

pub dir_at-requires-clause-can : goal.dir_at-requires-clause-can
dir_at-requires-clause-can g c = c.requires.can
