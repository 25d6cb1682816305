use Rattle.rio_base.proofs.Frames.{can_on, read_then}
use Rattle.rio_model.proofs.NamedReading.{named_trans}
use Rattle.request_ends.proofs.Reading.{file_value, file_ok, file_on, reads_on}
use Rattle.request_ends.proofs.Failed.{never_some}
use Rattle.request_ends.proofs.Common.{◌≡◌, ℕ, ap, sym, subst, err_from_is_err_and, ◌then◌, held_of, names_of, IsInode}
use Rattle.directories.specs.Rows.{HasRow, IsEntry}
use Rattle.request_ends.specs.Failures.{Refuses}
use Rattle.file_tree.specs.Walks.{ino_in}
use Rattle.file_tree.proofs.LookedAt.{row_missing, row_no_dir, row_there, row_used}
use Rattle.file_tree.proofs.MemoSteps.{same_step}
use Rattle.file_tree.proofs.walking.walk_to_row.Goals as goal

pub returns-in_err-dir-clause-value : goal.returns-in_err-dir-clause-value
returns-in_err-dir-clause-value g c =
    let p = err_from_is_err_and c.from_residual.result c.from_residual.ensures.1 in
    λ s reads. row_no_dir s (names_of c.args.path.now) (names_of c.cut_last.result.0.now) (ino_in c.dir_at.result) c.from_residual.result _ p.0 c.cut_last.ensures.front (ap ino_in c.in_err-dir.was) p.1 p.2 (c.dir_at.ensures.value s reads)

pub row_of-requires-clause-dir : goal.row_of-requires-clause-dir
row_of-requires-clause-dir g c = subst (λ f. (held_of c.args.shape.now f c.in_ok-dir.dir.0).kind ≡ 1) (sym c.dir_at.ensures.read.looks.looks.words) c.in_ok-dir.ensures.dir

pub row_of-requires-clause-inode : goal.row_of-requires-clause-inode
row_of-requires-clause-inode g c = subst (λ f. IsInode f c.in_ok-dir.dir.0 c.in_ok-dir.inode) (sym c.dir_at.ensures.read.looks.looks.words) c.in_ok-dir.ensures.inode

pub returns-in_err-ino-clause-value : goal.returns-in_err-ino-clause-value
returns-in_err-ino-clause-value g c =
    let shape = c.args.shape.now in
    let f = (g.V.Blocks.seen c.args.v.now).words in
    let cut = c.cut_last in
    let dir = c.in_ok-dir in
    let p = err_from_is_err_and c.from_residual-in_err-ino.result c.from_residual-in_err-ino.ensures.1 in
    λ s reads. row_missing shape f s (names_of c.args.path.now) (names_of cut.result.0.now) cut.result.1.now dir.dir.0 c.row_of.result c.from_residual-in_err-ino.result _ p.0 cut.ensures.front cut.ensures.last (dir.ensures.value s reads) c.in_err-ino.was p.1 p.2
    (subst (λ h. Refuses c.row_of.result 2 ((n : ℕ) → HasRow (held_of shape h dir.dir.0) cut.result.1.now n → ⊥)) c.dir_at.ensures.read.looks.looks.words c.row_of.ensures.refused) reads

pub returns-clause-value : goal.returns-clause-value
returns-clause-value g c =
    let shape = c.args.shape.now in
    let f = (g.V.Blocks.seen c.args.v.now).words in
    let cut = c.cut_last in
    let dir = c.in_ok-dir in
    let row = c.in_ok-ino in
    λ s reads. row_there shape f s (names_of c.args.path.now) (names_of cut.result.0.now) cut.result.1.now dir.dir.0 row.slot row.ino.0 cut.ensures.front cut.ensures.last (dir.ensures.value s reads) dir.ensures.dir
    (subst (λ h. IsEntry (held_of shape h dir.dir.0) row.slot cut.result.1.now row.ino.0) c.dir_at.ensures.read.looks.looks.words c.in_ok-ino.ensures.row) reads

pub returns-clause-row : goal.returns-clause-row
returns-clause-row g c =
    let shape = c.args.shape.now in
    let f = (g.V.Blocks.seen c.args.v.now).words in
    let dir = c.in_ok-dir in
    let row = c.in_ok-ino in
    record {
      dir = dir.ensures.dir;
      entry = subst (λ n. IsEntry (held_of shape f dir.dir.0) row.slot n row.ino.0) (sym c.cut_last.ensures.last) (subst (λ h. IsEntry (held_of shape h dir.dir.0) row.slot c.cut_last.result.1.now row.ino.0) c.dir_at.ensures.read.looks.looks.words c.in_ok-ino.ensures.row);
    }

pub returns-clause-used : goal.returns-clause-used
returns-clause-used g c =
    let shape = c.args.shape.now in
    let f = (g.V.Blocks.seen c.args.v.now).words in
    let dir = c.in_ok-dir in
    let row = c.in_ok-ino in
    let can = c.requires.can.meets in
    row_used shape f can.state dir.dir.0 _ c.cut_last.result.1.now _ can.reads dir.ensures.dir (subst (λ h. IsEntry (held_of shape h dir.dir.0) row.slot c.cut_last.result.1.now row.ino.0) c.dir_at.ensures.read.looks.looks.words c.in_ok-ino.ensures.row)

pub row_of-requires-clause-in_step : goal.row_of-requires-clause-in_step
row_of-requires-clause-in_step g c = same_step c.args.shape.now _ _ _ c.dir_at.ensures.read.looks.looks.words c.dir_at.ensures.in_step

pub returns-in_err-ino-clause-in_step : goal.returns-in_err-ino-clause-in_step
returns-in_err-ino-clause-in_step g c = same_step c.args.shape.now _ _ _ (sym c.dir_at.ensures.read.looks.looks.words) c.row_of.ensures.in_step

pub returns-clause-in_step : goal.returns-clause-in_step
returns-clause-in_step g c = same_step c.args.shape.now _ _ _ (sym c.dir_at.ensures.read.looks.looks.words) c.row_of.ensures.in_step

pub returns-in_err-dir-clause-row : goal.returns-in_err-dir-clause-row
returns-in_err-dir-clause-row g c = let p = err_from_is_err_and c.from_residual.result c.from_residual.ensures.1 in never_some _ _ p.0 p.1

pub returns-in_err-dir-clause-used : goal.returns-in_err-dir-clause-used
returns-in_err-dir-clause-used g c = let p = err_from_is_err_and c.from_residual.result c.from_residual.ensures.1 in never_some _ _ p.0 p.1

pub returns-in_err-ino-clause-row : goal.returns-in_err-ino-clause-row
returns-in_err-ino-clause-row g c = let p = err_from_is_err_and c.from_residual-in_err-ino.result c.from_residual-in_err-ino.ensures.1 in never_some _ _ p.0 p.1

pub returns-in_err-ino-clause-used : goal.returns-in_err-ino-clause-used
returns-in_err-ino-clause-used g c = let p = err_from_is_err_and c.from_residual-in_err-ino.result c.from_residual-in_err-ino.ensures.1 in never_some _ _ p.0 p.1

pub returns-in_err-dir-clause-read : goal.returns-in_err-dir-clause-read
returns-in_err-dir-clause-read g c = file_on c.dir_at.result c.from_residual.result c.in_err-dir.was c.from_residual.ensures.1 c.dir_at.ensures.read

pub returns-in_err-ino-clause-read : goal.returns-in_err-ino-clause-read
returns-in_err-ino-clause-read g c = read_then g.met.V.Blocks.passes_trans (named_trans c.args.shape.now) (file_ok c.dir_at.result _ c.in_ok-dir.was c.dir_at.ensures.read) (file_on c.row_of.result c.from_residual-in_err-ino.result c.in_err-ino.was c.from_residual-in_err-ino.ensures.1 c.row_of.ensures.read)

pub returns-clause-read : goal.returns-clause-read
returns-clause-read g c = file_value _ (read_then g.met.V.Blocks.passes_trans (named_trans c.args.shape.now) (file_ok c.dir_at.result _ c.in_ok-dir.was c.dir_at.ensures.read) (file_ok c.row_of.result _ c.in_ok-ino.was c.row_of.ensures.read))

pub dir_at-requires-clause-can : goal.dir_at-requires-clause-can
dir_at-requires-clause-can g c = c.requires.can

pub row_of-requires-clause-can : goal.row_of-requires-clause-can
row_of-requires-clause-can g c = can_on c.dir_at.ensures.read (reads_on c.args.shape.now _ _ c.requires.can.meets)
