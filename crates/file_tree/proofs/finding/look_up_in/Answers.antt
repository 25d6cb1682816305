use Rattle.rio_base.proofs.Frames.{can_on, read_then}
use Rattle.rio_model.proofs.NamedReading.{named_trans}
use Rattle.request_ends.proofs.Reading.{file_ok, file_on, reads_on}
use Rattle.request_ends.proofs.Failed.{never_some}
use Rattle.request_ends.proofs.Common.{◌≡◌, arith, sym, subst, err_from_is_err_and, ◌then◌, held_of, IsInode}
use Rattle.directories.specs.Rows.{Finds}
use Rattle.std.specs.Prelude.{IfOk}
use Rattle.file_tree.proofs.LookedAt.{unrefused_on}
use Rattle.file_tree.proofs.MemoSteps.{same_step}
use Rattle.file_tree.proofs.finding.look_up_in.Goals as goal

pub inode_of-requires-clause-used : goal.inode_of-requires-clause-used
inode_of-requires-clause-used g c = let dir = c.requires.dir in omega (arith, dir)

pub returns-in_err-inode-clause-other : goal.returns-in_err-inode-clause-other
returns-in_err-inode-clause-other g c =
    let p = err_from_is_err_and c.from_residual.result c.from_residual.ensures.1 in
    unrefused_on 0 _ c.inode_of.result c.from_residual.result _ p.0 c.in_err-inode.was p.1 p.2 c.inode_of.ensures.other

pub look_up-requires-clause-in_step : goal.look_up-requires-clause-in_step
look_up-requires-clause-in_step g c = same_step c.args.shape.now _ _ c.args.memo.now c.inode_of.ensures.read.looks.looks.words c.requires.in_step

pub look_up-requires-clause-dir : goal.look_up-requires-clause-dir
look_up-requires-clause-dir g c = subst (λ f. (held_of c.args.shape.now f c.args.dir.0).kind ≡ 1) (sym c.inode_of.ensures.read.looks.looks.words) c.requires.dir

pub look_up-requires-clause-inode : goal.look_up-requires-clause-inode
look_up-requires-clause-inode g c = subst (λ f. IsInode f c.args.dir.0 c.in_ok-inode.inode) (sym c.inode_of.ensures.read.looks.looks.words) c.in_ok-inode.ensures.value

pub returns-clause-found : goal.returns-clause-found
returns-clause-found g c = subst (λ f. IfOk c.look_up.result (Finds (held_of c.args.shape.now f c.args.dir.0) c.args.name.now)) c.inode_of.ensures.read.looks.looks.words c.look_up.ensures.found

pub returns-clause-in_step : goal.returns-clause-in_step
returns-clause-in_step g c = same_step c.args.shape.now _ _ _ (sym c.inode_of.ensures.read.looks.looks.words) c.look_up.ensures.in_step

pub returns-in_err-inode-clause-found : goal.returns-in_err-inode-clause-found
returns-in_err-inode-clause-found g c = let p = err_from_is_err_and c.from_residual.result c.from_residual.ensures.1 in never_some _ _ p.0 p.1

pub returns-in_err-inode-clause-read : goal.returns-in_err-inode-clause-read
returns-in_err-inode-clause-read g c = file_on c.inode_of.result c.from_residual.result c.in_err-inode.was c.from_residual.ensures.1 c.inode_of.ensures.read

pub returns-clause-read : goal.returns-clause-read
returns-clause-read g c = read_then g.met.V.Blocks.passes_trans (named_trans c.args.shape.now) (file_ok c.inode_of.result _ c.in_ok-inode.was c.inode_of.ensures.read) c.look_up.ensures.read

pub inode_of-requires-clause-can : goal.inode_of-requires-clause-can
inode_of-requires-clause-can g c = c.requires.can

pub look_up-requires-clause-can : goal.look_up-requires-clause-can
look_up-requires-clause-can g c = can_on c.inode_of.ensures.read (reads_on c.args.shape.now _ _ c.requires.can.meets)
