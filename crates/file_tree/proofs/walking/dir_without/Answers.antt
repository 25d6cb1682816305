use Rattle.rio_base.proofs.Frames.{can_on, read_then}
use Rattle.rio_model.proofs.NamedReading.{named_trans}
use Rattle.request_ends.proofs.Reading.{file_value, file_refused, file_ok, file_on, reads_on}
use Rattle.request_ends.proofs.Failed.{never_some}
use Rattle.request_ends.proofs.Common.{◌≡◌, ap, sym, subst, ◌∙◌, err_from_is_err_and, ◌then◌, held_of, names_of, IsInode}
use Rattle.directories.specs.Rows.{Finds}
use Rattle.file_tree.specs.Walks.{ino_in}
use Rattle.file_tree.proofs.RowReads.{none_found}
use Rattle.file_tree.proofs.FreeRows.{free_fails, free_over, free_unrefused}
use Rattle.file_tree.proofs.LookedAt.{no_row}
use Rattle.file_tree.proofs.MemoSteps.{same_step}
use Rattle.file_tree.proofs.walking.dir_without.Goals as goal

pub returns-in_err-dir-clause-value : goal.returns-in_err-dir-clause-value
returns-in_err-dir-clause-value g c =
    let p = err_from_is_err_and c.from_residual.result c.from_residual.ensures.1 in
    λ s reads. free_fails s (names_of c.args.path.now) c.args.name.now (ino_in c.dir_at.result) c.from_residual.result _ p.0 (ap ino_in c.in_err-dir.was) p.1 p.2 (c.dir_at.ensures.value s reads)

pub look_up-requires-clause-in_step : goal.look_up-requires-clause-in_step
look_up-requires-clause-in_step g c = same_step c.args.shape.now _ _ _ c.dir_at.ensures.read.looks.looks.words c.dir_at.ensures.in_step

pub look_up-requires-clause-dir : goal.look_up-requires-clause-dir
look_up-requires-clause-dir g c = subst (λ f. (held_of c.args.shape.now f c.in_ok-dir.dir.0).kind ≡ 1) (sym c.dir_at.ensures.read.looks.looks.words) c.in_ok-dir.ensures.dir

pub look_up-requires-clause-inode : goal.look_up-requires-clause-inode
look_up-requires-clause-inode g c = subst (λ f. IsInode f c.in_ok-dir.dir.0 c.in_ok-dir.inode) (sym c.dir_at.ensures.read.looks.looks.words) c.in_ok-dir.ensures.inode

pub returns-in_err-look_up-clause-value : goal.returns-in_err-look_up-clause-value
returns-in_err-look_up-clause-value g c =
    let p = err_from_is_err_and c.from_residual-in_err-look_up.result c.from_residual-in_err-look_up.ensures.1 in
    λ s reads. free_unrefused s (names_of c.args.path.now) c.args.name.now c.look_up.result c.from_residual-in_err-look_up.result _ p.0 c.in_err-look_up.was p.1 p.2 c.look_up.ensures.other

pub returns-in_err-look_up-clause-in_step : goal.returns-in_err-look_up-clause-in_step
returns-in_err-look_up-clause-in_step g c = same_step c.args.shape.now _ _ _ (sym c.dir_at.ensures.read.looks.looks.words) c.look_up.ensures.in_step

pub returns-then-is_some-clause-value : goal.returns-then-is_some-clause-value
returns-then-is_some-clause-value g c =
    let shape = c.args.shape.now in
    let f = (g.V.Blocks.seen c.args.v.now).words in
    let dir = c.in_ok-dir.dir.0 in
    let name = c.args.name.now in
    let finds : Finds (held_of shape f dir) name c.in_ok-look_up.field-0 = subst (λ h. Finds (held_of shape h dir) name c.in_ok-look_up.field-0) c.dir_at.ensures.read.looks.looks.words c.in_ok-look_up.ensures.found in
    λ s reads. free_over shape f s (names_of c.args.path.now) name dir c.in_ok-look_up.field-0 reads (c.in_ok-dir.ensures.value s reads) c.in_ok-dir.ensures.dir finds (sym c.is_some.ensures ∙ c.if-is_some.true)

pub returns-then-is_some-clause-in_step : goal.returns-then-is_some-clause-in_step
returns-then-is_some-clause-in_step g c = same_step c.args.shape.now _ _ _ (sym c.dir_at.ensures.read.looks.looks.words) c.look_up.ensures.in_step

pub returns-clause-absent : goal.returns-clause-absent
returns-clause-absent g c =
    let shape = c.args.shape.now in
    let f = (g.V.Blocks.seen c.args.v.now).words in
    let dir = c.in_ok-dir.dir.0 in
    let name = c.args.name.now in
    let finds : Finds (held_of shape f dir) name c.in_ok-look_up.field-0 = subst (λ h. Finds (held_of shape h dir) name c.in_ok-look_up.field-0) c.dir_at.ensures.read.looks.looks.words c.in_ok-look_up.ensures.found in
    none_found (held_of shape f dir) name c.in_ok-look_up.field-0 finds (sym c.is_some.ensures ∙ c.if-is_some.false)

pub returns-clause-value : goal.returns-clause-value
returns-clause-value g c = λ s reads. (c.in_ok-dir.ensures.value s reads, no_row c.args.shape.now (g.V.Blocks.seen c.args.v.now).words s c.in_ok-dir.dir.0 c.args.name.now reads (returns-clause-absent g c))

pub returns-clause-in_step : goal.returns-clause-in_step
returns-clause-in_step g c = same_step c.args.shape.now _ _ _ (sym c.dir_at.ensures.read.looks.looks.words) c.look_up.ensures.in_step

pub returns-in_err-dir-clause-dir : goal.returns-in_err-dir-clause-dir
returns-in_err-dir-clause-dir g c = let p = err_from_is_err_and c.from_residual.result c.from_residual.ensures.1 in never_some _ _ p.0 p.1

pub returns-in_err-dir-clause-absent : goal.returns-in_err-dir-clause-absent
returns-in_err-dir-clause-absent g c = let p = err_from_is_err_and c.from_residual.result c.from_residual.ensures.1 in never_some _ _ p.0 p.1

pub returns-in_err-look_up-clause-dir : goal.returns-in_err-look_up-clause-dir
returns-in_err-look_up-clause-dir g c = let p = err_from_is_err_and c.from_residual-in_err-look_up.result c.from_residual-in_err-look_up.ensures.1 in never_some _ _ p.0 p.1

pub returns-in_err-look_up-clause-absent : goal.returns-in_err-look_up-clause-absent
returns-in_err-look_up-clause-absent g c = let p = err_from_is_err_and c.from_residual-in_err-look_up.result c.from_residual-in_err-look_up.ensures.1 in never_some _ _ p.0 p.1

pub returns-in_err-dir-clause-read : goal.returns-in_err-dir-clause-read
returns-in_err-dir-clause-read g c = file_on c.dir_at.result c.from_residual.result c.in_err-dir.was c.from_residual.ensures.1 c.dir_at.ensures.read

pub returns-in_err-look_up-clause-read : goal.returns-in_err-look_up-clause-read
returns-in_err-look_up-clause-read g c = read_then g.met.V.Blocks.passes_trans (named_trans c.args.shape.now) (file_ok c.dir_at.result _ c.in_ok-dir.was c.dir_at.ensures.read) (file_on c.look_up.result c.from_residual-in_err-look_up.result c.in_err-look_up.was c.from_residual-in_err-look_up.ensures.1 c.look_up.ensures.read)

pub returns-then-is_some-clause-read : goal.returns-then-is_some-clause-read
returns-then-is_some-clause-read g c = file_refused 3 (read_then g.met.V.Blocks.passes_trans (named_trans c.args.shape.now) (file_ok c.dir_at.result _ c.in_ok-dir.was c.dir_at.ensures.read) (file_ok c.look_up.result _ c.in_ok-look_up.was c.look_up.ensures.read))

pub returns-clause-read : goal.returns-clause-read
returns-clause-read g c = file_value _ (read_then g.met.V.Blocks.passes_trans (named_trans c.args.shape.now) (file_ok c.dir_at.result _ c.in_ok-dir.was c.dir_at.ensures.read) (file_ok c.look_up.result _ c.in_ok-look_up.was c.look_up.ensures.read))

pub dir_at-requires-clause-can : goal.dir_at-requires-clause-can
dir_at-requires-clause-can g c = c.requires.can

pub look_up-requires-clause-can : goal.look_up-requires-clause-can
look_up-requires-clause-can g c = can_on c.dir_at.ensures.read (reads_on c.args.shape.now _ _ c.requires.can.meets)
