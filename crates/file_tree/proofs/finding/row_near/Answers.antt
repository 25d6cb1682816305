use Rattle.rio_base.proofs.Frames.{can_on, read_then}
use Rattle.rio_model.proofs.NamedReading.{named_trans}
use Rattle.request_ends.proofs.Reading.{file_value, file_ok, file_on, reads_on}
use Rattle.request_ends.proofs.Failed.{never_some}
use Rattle.request_ends.proofs.Common.{◌≡◌, Option, sym, subst, err_from_is_err_and, Ino, held_of, IsInode}
use Rattle.directories.specs.Rows.{Finds, IsEntry}
use Rattle.std.specs.Prelude.{IfOk, IfSome}
use Rattle.file_tree.proofs.LookedAt.{unrefused_on}
use Rattle.file_tree.proofs.finding.row_near.Goals as goal

pub returns-in_err-i-clause-other : goal.returns-in_err-i-clause-other
returns-in_err-i-clause-other g c =
    let p = err_from_is_err_and c.from_residual.result c.from_residual.ensures.1 in
    unrefused_on 0 _ c.entry_at.result c.from_residual.result _ p.0 c.in_err-i.was p.1 p.2 c.entry_at.ensures.other

pub returns-in-Some-clause-found : goal.returns-in-Some-clause-found
returns-in-Some-clause-found g c = subst (λ (o : Option Ino). IfSome o (λ (i : Ino). IsEntry (held_of c.args.shape.now (g.V.Blocks.seen c.args.v.now).words c.args.dir.0) c.args.slot c.args.name.now i.0)) c.in-Some.is c.in_ok-i.ensures.found

pub scan-requires-clause-dir : goal.scan-requires-clause-dir
scan-requires-clause-dir g c = subst (λ f. (held_of c.args.shape.now f c.args.dir.0).kind ≡ 1) (sym c.entry_at.ensures.read.looks.looks.words) c.requires.dir

pub scan-requires-clause-inode : goal.scan-requires-clause-inode
scan-requires-clause-inode g c = subst (λ f. IsInode f c.args.dir.0 c.args.inode.now) (sym c.entry_at.ensures.read.looks.looks.words) c.requires.inode

pub returns-clause-found : goal.returns-clause-found
returns-clause-found g c = subst (λ f. IfOk c.scan.result (Finds (held_of c.args.shape.now f c.args.dir.0) c.args.name.now)) c.entry_at.ensures.read.looks.looks.words c.scan.ensures.found

pub returns-in_err-i-clause-found : goal.returns-in_err-i-clause-found
returns-in_err-i-clause-found g c = let p = err_from_is_err_and c.from_residual.result c.from_residual.ensures.1 in never_some _ _ p.0 p.1

pub returns-in_err-i-clause-read : goal.returns-in_err-i-clause-read
returns-in_err-i-clause-read g c = file_on c.entry_at.result c.from_residual.result c.in_err-i.was c.from_residual.ensures.1 c.entry_at.ensures.read

pub returns-in-Some-clause-read : goal.returns-in-Some-clause-read
returns-in-Some-clause-read g c = file_value _ (file_ok c.entry_at.result _ c.in_ok-i.was c.entry_at.ensures.read)

pub returns-clause-read : goal.returns-clause-read
returns-clause-read g c = read_then g.met.V.Blocks.passes_trans (named_trans c.args.shape.now) (file_ok c.entry_at.result _ c.in_ok-i.was c.entry_at.ensures.read) c.scan.ensures.read

pub entry_at-requires-clause-can : goal.entry_at-requires-clause-can
entry_at-requires-clause-can g c = c.requires.can

pub scan-requires-clause-can : goal.scan-requires-clause-can
scan-requires-clause-can g c = can_on c.entry_at.ensures.read (reads_on c.args.shape.now _ _ c.requires.can.meets)
