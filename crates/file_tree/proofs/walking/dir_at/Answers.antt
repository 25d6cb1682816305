use Rattle.rio_base.proofs.Frames.{can_on, read_then}
use Rattle.rio_model.proofs.NamedReading.{named_trans}
use Rattle.request_ends.proofs.Reading.{file_value, file_ok, file_on, reads_on}
use Rattle.request_ends.proofs.Failed.{never_some}
use Rattle.request_ends.proofs.Common.{◌≡◌, ◌<◌, ap, sym, subst, err_from_is_err_and, ◌then◌, held_of, names_of, walk, IsInode}
use Rattle.request_ends.specs.Failures.{Refuses}
use Rattle.file_tree.specs.Walks.{ino_in}
use Rattle.file_tree.proofs.LookedAt.{to_dir_leaf, to_dir_ok, to_dir_walk}
use Rattle.file_tree.proofs.walking.dir_at.Goals as goal

pub returns-in_err-dir-clause-value : goal.returns-in_err-dir-clause-value
returns-in_err-dir-clause-value g c =
    let p = err_from_is_err_and c.from_residual.result c.from_residual.ensures.1 in
    λ s reads. to_dir_walk s (walk s 1 (names_of c.args.path.now)) c.walk.result (ino_in c.from_residual.result) _ p.0 c.in_err-dir.was (ap ino_in p.1) p.2 (c.walk.ensures.value s reads)

pub must_be_dir-requires-clause-used : goal.must_be_dir-requires-clause-used
must_be_dir-requires-clause-used g c = subst (λ f. 0 < (held_of c.args.shape.now f c.in_ok-dir.dir.0).kind) (sym c.walk.ensures.read.looks.looks.words) c.in_ok-dir.ensures.used

pub returns-in_err-inode-clause-value : goal.returns-in_err-inode-clause-value
returns-in_err-inode-clause-value g c =
    let p = err_from_is_err_and c.from_residual-in_err-inode.result c.from_residual-in_err-inode.ensures.1 in
    λ s reads. to_dir_leaf c.args.shape.now (g.V.Blocks.seen c.args.v.now).words s (walk s 1 (names_of c.args.path.now)) c.in_ok-dir.dir.0 c.must_be_dir.result (ino_in c.from_residual-in_err-inode.result) _ p.0 (c.in_ok-dir.ensures.value s reads) c.in_err-inode.was (ap ino_in p.1) p.2 (subst (λ f. Refuses c.must_be_dir.result 4 ((held_of c.args.shape.now f c.in_ok-dir.dir.0).kind ≡ 1 → ⊥)) c.walk.ensures.read.looks.looks.words c.must_be_dir.ensures.refused) reads

pub returns-clause-value : goal.returns-clause-value
returns-clause-value g c = λ s reads. to_dir_ok c.args.shape.now (g.V.Blocks.seen c.args.v.now).words s (walk s 1 (names_of c.args.path.now)) c.in_ok-dir.dir.0 (c.in_ok-dir.ensures.value s reads) (subst (λ f. (held_of c.args.shape.now f c.in_ok-dir.dir.0).kind ≡ 1) c.walk.ensures.read.looks.looks.words c.in_ok-inode.ensures.ok) reads

pub returns-clause-dir : goal.returns-clause-dir
returns-clause-dir g c = subst (λ f. (held_of c.args.shape.now f c.in_ok-dir.dir.0).kind ≡ 1) c.walk.ensures.read.looks.looks.words c.in_ok-inode.ensures.ok

pub returns-clause-inode : goal.returns-clause-inode
returns-clause-inode g c = subst (λ f. IsInode f c.in_ok-dir.dir.0 c.in_ok-inode.inode) c.walk.ensures.read.looks.looks.words c.in_ok-inode.ensures.inode

pub returns-in_err-dir-clause-dir : goal.returns-in_err-dir-clause-dir
returns-in_err-dir-clause-dir g c = let p = err_from_is_err_and c.from_residual.result c.from_residual.ensures.1 in never_some _ _ p.0 p.1

pub returns-in_err-dir-clause-inode : goal.returns-in_err-dir-clause-inode
returns-in_err-dir-clause-inode g c = let p = err_from_is_err_and c.from_residual.result c.from_residual.ensures.1 in never_some _ _ p.0 p.1

pub returns-in_err-inode-clause-dir : goal.returns-in_err-inode-clause-dir
returns-in_err-inode-clause-dir g c = let p = err_from_is_err_and c.from_residual-in_err-inode.result c.from_residual-in_err-inode.ensures.1 in never_some _ _ p.0 p.1

pub returns-in_err-inode-clause-inode : goal.returns-in_err-inode-clause-inode
returns-in_err-inode-clause-inode g c = let p = err_from_is_err_and c.from_residual-in_err-inode.result c.from_residual-in_err-inode.ensures.1 in never_some _ _ p.0 p.1

pub returns-in_err-dir-clause-read : goal.returns-in_err-dir-clause-read
returns-in_err-dir-clause-read g c = file_on c.walk.result c.from_residual.result c.in_err-dir.was c.from_residual.ensures.1 c.walk.ensures.read

pub returns-in_err-inode-clause-read : goal.returns-in_err-inode-clause-read
returns-in_err-inode-clause-read g c = read_then g.met.V.Blocks.passes_trans (named_trans c.args.shape.now) (file_ok c.walk.result _ c.in_ok-dir.was c.walk.ensures.read) (file_on c.must_be_dir.result c.from_residual-in_err-inode.result c.in_err-inode.was c.from_residual-in_err-inode.ensures.1 c.must_be_dir.ensures.read)

pub returns-clause-read : goal.returns-clause-read
returns-clause-read g c = file_value _ (read_then g.met.V.Blocks.passes_trans (named_trans c.args.shape.now) (file_ok c.walk.result _ c.in_ok-dir.was c.walk.ensures.read) (file_ok c.must_be_dir.result _ c.in_ok-inode.was c.must_be_dir.ensures.read))

pub must_be_dir-requires-clause-can : goal.must_be_dir-requires-clause-can
must_be_dir-requires-clause-can g c = can_on c.walk.ensures.read (reads_on c.args.shape.now _ _ c.requires.can.meets)

pub walk-requires-clause-can : goal.walk-requires-clause-can
walk-requires-clause-can g c = c.requires.can
