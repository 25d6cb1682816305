use Rattle.rio_base.proofs.Frames.{can_on, read_then}
use Rattle.rio_model.proofs.NamedReading.{named_trans}
use Rattle.request_ends.proofs.Reading.{file_value, file_ok, file_on, reads_on}
use Rattle.request_ends.proofs.Failed.{never_some}
use Rattle.request_ends.proofs.Common.{◌≡◌, sym, subst, err_from_is_err_and, get, held_of, IsInode}
use Rattle.directories.specs.Rows.{Finds}
use Rattle.std.specs.Prelude.{IfOk}
use Rattle.name_index.specs.Agreeing.{Says}
use Rattle.name_index.specs.declared.index.Lookup.{Lookup}
use Rattle.file_tree.proofs.LookedAt.{unrefused_on}
use Rattle.file_tree.proofs.MemoSteps.{none_there}
use Rattle.file_tree.proofs.finding.look_up.Goals as goal

pub returns-in_err-hold_dir-clause-other : goal.returns-in_err-hold_dir-clause-other
returns-in_err-hold_dir-clause-other g c =
    let p = err_from_is_err_and c.from_residual.result c.from_residual.ensures.1 in
    unrefused_on 0 _ c.hold_dir.result c.from_residual.result _ p.0 c.in_err-hold_dir.was p.1 p.2 c.hold_dir.ensures.other

pub scan-requires-in-Unknown-clause-dir : goal.scan-requires-in-Unknown-clause-dir
scan-requires-in-Unknown-clause-dir g c = subst (λ f. (held_of c.args.shape.now f c.args.dir.0).kind ≡ 1) (sym c.hold_dir.ensures.read.looks.looks.words) c.requires.dir

pub scan-requires-in-Unknown-clause-inode : goal.scan-requires-in-Unknown-clause-inode
scan-requires-in-Unknown-clause-inode g c = subst (λ f. IsInode f c.args.dir.0 c.args.inode.now) (sym c.hold_dir.ensures.read.looks.looks.words) c.requires.inode

pub returns-in-Unknown-clause-found : goal.returns-in-Unknown-clause-found
returns-in-Unknown-clause-found g c = subst (λ f. IfOk c.scan-in-Unknown.result (Finds (held_of c.args.shape.now f c.args.dir.0) c.args.name.now)) c.hold_dir.ensures.read.looks.looks.words c.scan-in-Unknown.ensures.found

pub returns-in-Absent-clause-found : goal.returns-in-Absent-clause-found
returns-in-Absent-clause-found g c =
    let shape = c.args.shape.now in
    let f = (g.V.Blocks.seen c.args.v.now).words in
    let s = c.requires.can.meets.state in
    none_there shape f s c.args.dir.0 c.args.name.now c.requires.can.meets.reads c.requires.dir
    (subst (λ (said : Lookup). Says said (get s.names (c.args.dir.0, c.args.name.now))) c.in-Absent.is (c.find.ensures s.names (c.hold_dir.ensures.in_step.names s c.requires.can.meets.reads)))

pub row_near-requires-clause-dir : goal.row_near-requires-clause-dir
row_near-requires-clause-dir g c = subst (λ f. (held_of c.args.shape.now f c.args.dir.0).kind ≡ 1) (sym c.hold_dir.ensures.read.looks.looks.words) c.requires.dir

pub row_near-requires-clause-inode : goal.row_near-requires-clause-inode
row_near-requires-clause-inode g c = subst (λ f. IsInode f c.args.dir.0 c.args.inode.now) (sym c.hold_dir.ensures.read.looks.looks.words) c.requires.inode

pub returns-in-Present-clause-found : goal.returns-in-Present-clause-found
returns-in-Present-clause-found g c = subst (λ f. IfOk c.row_near.result (Finds (held_of c.args.shape.now f c.args.dir.0) c.args.name.now)) c.hold_dir.ensures.read.looks.looks.words c.row_near.ensures.found

pub returns-in_err-hold_dir-clause-found : goal.returns-in_err-hold_dir-clause-found
returns-in_err-hold_dir-clause-found g c = let p = err_from_is_err_and c.from_residual.result c.from_residual.ensures.1 in never_some _ _ p.0 p.1

pub returns-in_err-hold_dir-clause-read : goal.returns-in_err-hold_dir-clause-read
returns-in_err-hold_dir-clause-read g c = file_on c.hold_dir.result c.from_residual.result c.in_err-hold_dir.was c.from_residual.ensures.1 c.hold_dir.ensures.read

pub returns-in-Unknown-clause-read : goal.returns-in-Unknown-clause-read
returns-in-Unknown-clause-read g c = read_then g.met.V.Blocks.passes_trans (named_trans c.args.shape.now) (file_ok c.hold_dir.result _ c.in_ok-hold_dir.was c.hold_dir.ensures.read) c.scan-in-Unknown.ensures.read

pub returns-in-Absent-clause-read : goal.returns-in-Absent-clause-read
returns-in-Absent-clause-read g c = file_value _ (file_ok c.hold_dir.result _ c.in_ok-hold_dir.was c.hold_dir.ensures.read)

pub returns-in-Present-clause-read : goal.returns-in-Present-clause-read
returns-in-Present-clause-read g c = read_then g.met.V.Blocks.passes_trans (named_trans c.args.shape.now) (file_ok c.hold_dir.result _ c.in_ok-hold_dir.was c.hold_dir.ensures.read) c.row_near.ensures.read

pub hold_dir-requires-clause-can : goal.hold_dir-requires-clause-can
hold_dir-requires-clause-can g c = c.requires.can

pub row_near-requires-clause-can : goal.row_near-requires-clause-can
row_near-requires-clause-can g c = can_on c.hold_dir.ensures.read (reads_on c.args.shape.now _ _ c.requires.can.meets)

pub scan-requires-clause-can : goal.scan-requires-clause-can
scan-requires-clause-can g c = c.requires.can

pub scan-requires-in-Unknown-clause-can : goal.scan-requires-in-Unknown-clause-can
scan-requires-in-Unknown-clause-can g c = can_on c.hold_dir.ensures.read (reads_on c.args.shape.now _ _ c.requires.can.meets)
