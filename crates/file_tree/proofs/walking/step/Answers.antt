use Rattle.rio_base.proofs.Frames.{can_on, read_then}
use Rattle.rio_model.proofs.NamedReading.{named_trans}
use Rattle.request_ends.proofs.Reading.{file_value, file_ok, file_on, reads_on}
use Rattle.request_ends.proofs.Failed.{never_some}
use Rattle.request_ends.proofs.Common.{◌≡◌, ℕ, sym, subst, err_from_is_err_and, held_of, IsInode}
use Rattle.directories.specs.Rows.{HasRow, IsEntry}
use Rattle.request_ends.specs.Failures.{Refuses}
use Rattle.file_tree.proofs.LookedAt.{row_used, step_no_dir, step_no_row, step_taken}
use Rattle.file_tree.proofs.MemoSteps.{same_step}
use Rattle.file_tree.proofs.walking.step.Goals as goal

pub returns-in_err-inode-clause-value : goal.returns-in_err-inode-clause-value
returns-in_err-inode-clause-value g c =
    let p = err_from_is_err_and c.from_residual.result c.from_residual.ensures.1 in
    step_no_dir c.args.shape.now (g.V.Blocks.seen c.args.v.now).words c.args.dir.0 c.args.name.now c.must_be_dir.result c.from_residual.result _ p.0 c.in_err-inode.was p.1 p.2 c.must_be_dir.ensures.refused

pub row_of-requires-clause-dir : goal.row_of-requires-clause-dir
row_of-requires-clause-dir g c = subst (λ f. (held_of c.args.shape.now f c.args.dir.0).kind ≡ 1) (sym c.must_be_dir.ensures.read.looks.looks.words) c.in_ok-inode.ensures.ok

pub row_of-requires-clause-inode : goal.row_of-requires-clause-inode
row_of-requires-clause-inode g c = subst (λ f. IsInode f c.args.dir.0 c.in_ok-inode.inode) (sym c.must_be_dir.ensures.read.looks.looks.words) c.in_ok-inode.ensures.inode

pub returns-in_err-i-clause-value : goal.returns-in_err-i-clause-value
returns-in_err-i-clause-value g c =
    let p = err_from_is_err_and c.from_residual-in_err-i.result c.from_residual-in_err-i.ensures.1 in
    step_no_row c.args.shape.now (g.V.Blocks.seen c.args.v.now).words c.args.dir.0 c.args.name.now c.row_of.result c.from_residual-in_err-i.result _ p.0 c.in_ok-inode.ensures.ok c.in_err-i.was p.1 p.2 (subst (λ f. Refuses c.row_of.result 2 ((n : ℕ) → HasRow (held_of c.args.shape.now f c.args.dir.0) c.args.name.now n → ⊥)) c.must_be_dir.ensures.read.looks.looks.words c.row_of.ensures.refused)

pub returns-clause-value : goal.returns-clause-value
returns-clause-value g c = step_taken c.args.shape.now (g.V.Blocks.seen c.args.v.now).words c.args.dir.0 _ c.args.name.now _ c.in_ok-inode.ensures.ok (subst (λ f. IsEntry (held_of c.args.shape.now f c.args.dir.0) c.in_ok-i.field-0-1 c.args.name.now c.in_ok-i.i.0) c.must_be_dir.ensures.read.looks.looks.words c.in_ok-i.ensures.row)

pub returns-clause-used : goal.returns-clause-used
returns-clause-used g c = row_used c.args.shape.now (g.V.Blocks.seen c.args.v.now).words c.requires.can.meets.state c.args.dir.0 _ c.args.name.now _ c.requires.can.meets.reads c.in_ok-inode.ensures.ok (subst (λ f. IsEntry (held_of c.args.shape.now f c.args.dir.0) c.in_ok-i.field-0-1 c.args.name.now c.in_ok-i.i.0) c.must_be_dir.ensures.read.looks.looks.words c.in_ok-i.ensures.row)

pub row_of-requires-clause-in_step : goal.row_of-requires-clause-in_step
row_of-requires-clause-in_step g c = same_step c.args.shape.now _ _ c.args.memo.now c.must_be_dir.ensures.read.looks.looks.words c.requires.in_step

pub returns-in_err-i-clause-in_step : goal.returns-in_err-i-clause-in_step
returns-in_err-i-clause-in_step g c = same_step c.args.shape.now _ _ _ (sym c.must_be_dir.ensures.read.looks.looks.words) c.row_of.ensures.in_step

pub returns-clause-in_step : goal.returns-clause-in_step
returns-clause-in_step g c = same_step c.args.shape.now _ _ _ (sym c.must_be_dir.ensures.read.looks.looks.words) c.row_of.ensures.in_step

pub returns-in_err-inode-clause-used : goal.returns-in_err-inode-clause-used
returns-in_err-inode-clause-used g c = let p = err_from_is_err_and c.from_residual.result c.from_residual.ensures.1 in never_some _ _ p.0 p.1

pub returns-in_err-i-clause-used : goal.returns-in_err-i-clause-used
returns-in_err-i-clause-used g c = let p = err_from_is_err_and c.from_residual-in_err-i.result c.from_residual-in_err-i.ensures.1 in never_some _ _ p.0 p.1

pub returns-in_err-inode-clause-read : goal.returns-in_err-inode-clause-read
returns-in_err-inode-clause-read g c = file_on c.must_be_dir.result c.from_residual.result c.in_err-inode.was c.from_residual.ensures.1 c.must_be_dir.ensures.read

pub returns-in_err-i-clause-read : goal.returns-in_err-i-clause-read
returns-in_err-i-clause-read g c = read_then g.met.V.Blocks.passes_trans (named_trans c.args.shape.now) (file_ok c.must_be_dir.result _ c.in_ok-inode.was c.must_be_dir.ensures.read) (file_on c.row_of.result c.from_residual-in_err-i.result c.in_err-i.was c.from_residual-in_err-i.ensures.1 c.row_of.ensures.read)

pub returns-clause-read : goal.returns-clause-read
returns-clause-read g c = file_value _ (read_then g.met.V.Blocks.passes_trans (named_trans c.args.shape.now) (file_ok c.must_be_dir.result _ c.in_ok-inode.was c.must_be_dir.ensures.read) (file_ok c.row_of.result _ c.in_ok-i.was c.row_of.ensures.read))

pub must_be_dir-requires-clause-can : goal.must_be_dir-requires-clause-can
must_be_dir-requires-clause-can g c = c.requires.can

pub row_of-requires-clause-can : goal.row_of-requires-clause-can
row_of-requires-clause-can g c = can_on c.must_be_dir.ensures.read (reads_on c.args.shape.now _ _ c.requires.can.meets)
