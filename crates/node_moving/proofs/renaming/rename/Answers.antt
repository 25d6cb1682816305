use Rattle.request_ends.proofs.Reading.{can_read, file_served}
use Rattle.request_ends.proofs.Failed.{never_ok}
use Rattle.request_ends.proofs.Common.{◌≡◌, ◌<◌, ◌∙◌, refl, sym, ap, subst, get, err_from_is_err_and, ◌then◌, last_of, held_of, names_of, volume_layout, ReadsAs, LeavesInUse, NoneDone, Forgets}
use Rattle.std.specs.Prelude.{OnOk}
use Rattle.rio_model.specs.Paths.{walk_to_dir as walk_to_dir_of}
use Rattle.rio_requests.specs.Answers.{rename as rename_of, rename_row as rename_row_of}
use Rattle.request_ends.specs.Ends.{FileEnds, SaysDone}
use Rattle.file_tree.specs.Walks.{IsRow, ino_numbers}
use Rattle.request_ends.proofs.AnsweredAt.{ends_look}
use Rattle.request_ends.proofs.CallEnds.{after_well, ends_on, ends_refused, well}
use Rattle.file_tree.proofs.MemoSteps.{same_step}
use Rattle.node_moving.proofs.RenamedAs.{Walked, ends_by_call, ends_no, fails_from, fails_row, fails_to, rename_inside, rename_moves, rename_new_root, rename_old_root, rename_out}
use Rattle.request_ends.proofs.Unchanged.{leaves_then}
use Rattle.node_moving.proofs.renaming.rename.Goals as goal

pub returns-in_err-walk-clause-leaves : goal.returns-in_err-walk-clause-leaves
returns-in_err-walk-clause-leaves g c =
    let shape = c.args.shape.now in
    let x = g.V.Blocks.seen c.args.v.now in
    let k = g.V.Volume.kept c.args.v.now in
    let w = g.V.Blocks.seen c.walk.new.v in
    let p = g.V.Volume.kept c.walk.new.v in
    let path = names_of c.args.path.now in
    let to = names_of c.args.to.now in
    let busy = ino_numbers c.args.busy.now in
    let e = err_from_is_err_and c.from_residual.result c.from_residual.ensures.1 in
    λ s reads. ends_look SaysDone shape x k w p s (rename_of s c.args.path.now c.args.to.now busy) (NoneDone s) c.from_residual.result _ e.0 e.1 e.2 c.requires.can.ready (g.met.V.Volume.settled _ c.requires.sound) (file_served g.met.V.Volume.passes_keeps c.requires.can c.walk.ensures.read).leaves reads (refl, refl) (fails_from s busy path to c.walk.result _ c.in_err-walk.was (c.walk.ensures.value s reads))

pub returns-in_err-walk-clause-ends : goal.returns-in_err-walk-clause-ends
returns-in_err-walk-clause-ends g c =
    let e = err_from_is_err_and c.from_residual.result c.from_residual.ensures.1 in
    ends_on _ _ c.walk.result c.from_residual.result _ e.0 c.in_err-walk.was e.1 e.2 c.walk.ensures.read.ends

pub returns-then-is_root-clause-leaves : goal.returns-then-is_root-clause-leaves
returns-then-is_root-clause-leaves g c =
    let shape = c.args.shape.now in
    let x = g.V.Blocks.seen c.args.v.now in
    let k = g.V.Volume.kept c.args.v.now in
    let w = g.V.Blocks.seen c.walk.new.v in
    let p = g.V.Volume.kept c.walk.new.v in
    let path = names_of c.args.path.now in
    let to = names_of c.args.to.now in
    let busy = ino_numbers c.args.busy.now in
    λ s reads. ends_no {T = Unit {0}} SaysDone shape x k w p s (rename_of s c.args.path.now c.args.to.now busy) (NoneDone s) 9 (rename_new_root s busy path to c.in_ok-walk.field-0.0 (c.in_ok-walk.ensures.value s reads) (c.is_root.ensures.root c.if-is_root.true)) (file_served g.met.V.Volume.passes_keeps c.requires.can c.walk.ensures.read).leaves

pub returns-then-is_root-clause-ends : goal.returns-then-is_root-clause-ends
returns-then-is_root-clause-ends g c = ends_refused _ _ 9 (well _ _ c.walk.result _ c.in_ok-walk.was c.walk.ensures.read.ends)

pub returns-in_err-dir-clause-leaves : goal.returns-in_err-dir-clause-leaves
returns-in_err-dir-clause-leaves g c =
    let shape = c.args.shape.now in
    let x = g.V.Blocks.seen c.args.v.now in
    let k = g.V.Volume.kept c.args.v.now in
    let w = g.V.Blocks.seen c.walk.new.v in
    let p = g.V.Volume.kept c.walk.new.v in
    let u = g.V.Blocks.seen c.walk_to_dir.new.v in
    let q = g.V.Volume.kept c.walk_to_dir.new.v in
    let leaves : LeavesInUse (volume_layout shape x.words) x k u q = leaves_then shape x k w p u q (file_served g.met.V.Volume.passes_keeps c.requires.can c.walk.ensures.read).leaves c.walk.ensures.read.looks.looks.words (file_served g.met.V.Volume.passes_keeps (file_served g.met.V.Volume.passes_keeps c.requires.can c.walk.ensures.read).can c.walk_to_dir.ensures.read).leaves in
    let path = names_of c.args.path.now in
    let to = names_of c.args.to.now in
    let busy = ino_numbers c.args.busy.now in
    let e = err_from_is_err_and c.from_residual-in_err-dir.result c.from_residual-in_err-dir.ensures.1 in
    λ s reads. ends_look SaysDone shape x k u q s (rename_of s c.args.path.now c.args.to.now busy) (NoneDone s) c.from_residual-in_err-dir.result _ e.0 e.1 e.2 c.requires.can.ready (g.met.V.Volume.settled _ c.requires.sound) leaves reads (refl, refl) (fails_to s busy path to (names_of c.cut_last.result.0.now) c.in_ok-walk.field-0.0 c.walk_to_dir.result _ (c.in_ok-walk.ensures.value s reads) (c.is_root.ensures.not c.if-is_root.false) c.cut_last.ensures.front c.in_err-dir.was (c.walk_to_dir.ensures.value s (subst (λ f. ReadsAs shape f s) (sym c.walk.ensures.read.looks.looks.words) reads)))

pub returns-in_err-dir-clause-goes : goal.returns-in_err-dir-clause-goes
returns-in_err-dir-clause-goes g c = (g.met.V.Volume.passes_keeps _ _ c.walk.ensures.read.passed).goes then (g.met.V.Volume.passes_keeps _ _ c.walk_to_dir.ensures.read.passed).goes

pub returns-in_err-dir-clause-ends : goal.returns-in_err-dir-clause-ends
returns-in_err-dir-clause-ends g c =
    let e = err_from_is_err_and c.from_residual-in_err-dir.result c.from_residual-in_err-dir.ensures.1 in
    after_well _ _ _ _ _ (well _ _ c.walk.result _ c.in_ok-walk.was c.walk.ensures.read.ends) (ends_on _ _ c.walk_to_dir.result c.from_residual-in_err-dir.result _ e.0 c.in_err-dir.was e.1 e.2 c.walk_to_dir.ensures.read.ends)

pub returns-then-is_root-2-clause-leaves : goal.returns-then-is_root-2-clause-leaves
returns-then-is_root-2-clause-leaves g c =
    let shape = c.args.shape.now in
    let x = g.V.Blocks.seen c.args.v.now in
    let k = g.V.Volume.kept c.args.v.now in
    let w = g.V.Blocks.seen c.walk.new.v in
    let p = g.V.Volume.kept c.walk.new.v in
    let u = g.V.Blocks.seen c.walk_to_dir.new.v in
    let q = g.V.Volume.kept c.walk_to_dir.new.v in
    let leaves : LeavesInUse (volume_layout shape x.words) x k u q = leaves_then shape x k w p u q (file_served g.met.V.Volume.passes_keeps c.requires.can c.walk.ensures.read).leaves c.walk.ensures.read.looks.looks.words (file_served g.met.V.Volume.passes_keeps (file_served g.met.V.Volume.passes_keeps c.requires.can c.walk.ensures.read).can c.walk_to_dir.ensures.read).leaves in
    let path = names_of c.args.path.now in
    let to = names_of c.args.to.now in
    let busy = ino_numbers c.args.busy.now in
    λ s reads. (let walked : Walked s path to c.in_ok-walk.field-0.0 c.in_ok-dir.dir.0 = record { from = (c.in_ok-walk.ensures.value s reads); some = (c.is_root.ensures.not c.if-is_root.false); to = ap (walk_to_dir_of s) c.cut_last.ensures.front ∙ c.in_ok-dir.ensures.value s (subst (λ f. ReadsAs shape f s) (sym c.walk.ensures.read.looks.looks.words) reads) } in
    ends_no {T = Unit {0}} SaysDone shape x k u q s (rename_of s c.args.path.now c.args.to.now busy) (NoneDone s) 9 (rename_old_root s busy path to c.in_ok-walk.field-0.0 c.in_ok-dir.dir.0 walked (c.is_root-2.ensures.root c.if-is_root-2.true)) leaves)

pub returns-then-is_root-2-clause-goes : goal.returns-then-is_root-2-clause-goes
returns-then-is_root-2-clause-goes g c = (g.met.V.Volume.passes_keeps _ _ c.walk.ensures.read.passed).goes then (g.met.V.Volume.passes_keeps _ _ c.walk_to_dir.ensures.read.passed).goes

pub returns-then-is_root-2-clause-ends : goal.returns-then-is_root-2-clause-ends
returns-then-is_root-2-clause-ends g c = ends_refused _ _ 9 (after_well _ _ _ _ _ (well _ _ c.walk.result _ c.in_ok-walk.was c.walk.ensures.read.ends) (well _ _ c.walk_to_dir.result _ c.in_ok-dir.was c.walk_to_dir.ensures.read.ends))

pub returns-then-is_below-clause-leaves : goal.returns-then-is_below-clause-leaves
returns-then-is_below-clause-leaves g c =
    let shape = c.args.shape.now in
    let x = g.V.Blocks.seen c.args.v.now in
    let k = g.V.Volume.kept c.args.v.now in
    let w = g.V.Blocks.seen c.walk.new.v in
    let p = g.V.Volume.kept c.walk.new.v in
    let u = g.V.Blocks.seen c.walk_to_dir.new.v in
    let q = g.V.Volume.kept c.walk_to_dir.new.v in
    let leaves : LeavesInUse (volume_layout shape x.words) x k u q = leaves_then shape x k w p u q (file_served g.met.V.Volume.passes_keeps c.requires.can c.walk.ensures.read).leaves c.walk.ensures.read.looks.looks.words (file_served g.met.V.Volume.passes_keeps (file_served g.met.V.Volume.passes_keeps c.requires.can c.walk.ensures.read).can c.walk_to_dir.ensures.read).leaves in
    let path = names_of c.args.path.now in
    let to = names_of c.args.to.now in
    let busy = ino_numbers c.args.busy.now in
    λ s reads. (let walked : Walked s path to c.in_ok-walk.field-0.0 c.in_ok-dir.dir.0 = record { from = (c.in_ok-walk.ensures.value s reads); some = (c.is_root.ensures.not c.if-is_root.false); to = ap (walk_to_dir_of s) c.cut_last.ensures.front ∙ c.in_ok-dir.ensures.value s (subst (λ f. ReadsAs shape f s) (sym c.walk.ensures.read.looks.looks.words) reads) } in
    ends_no {T = Unit {0}} SaysDone shape x k u q s (rename_of s c.args.path.now c.args.to.now busy) (NoneDone s) 21 (rename_inside s busy path to c.in_ok-walk.field-0.0 c.in_ok-dir.dir.0 walked (c.is_root-2.ensures.not c.if-is_root-2.false) (sym c.is_below.ensures.is ∙ c.if-is_below.true)) leaves)

pub returns-then-is_below-clause-goes : goal.returns-then-is_below-clause-goes
returns-then-is_below-clause-goes g c = (g.met.V.Volume.passes_keeps _ _ c.walk.ensures.read.passed).goes then (g.met.V.Volume.passes_keeps _ _ c.walk_to_dir.ensures.read.passed).goes

pub returns-then-is_below-clause-ends : goal.returns-then-is_below-clause-ends
returns-then-is_below-clause-ends g c = ends_refused _ _ 21 (after_well _ _ _ _ _ (well _ _ c.walk.result _ c.in_ok-walk.was c.walk.ensures.read.ends) (well _ _ c.walk_to_dir.result _ c.in_ok-dir.was c.walk_to_dir.ensures.read.ends))

pub returns-in_err-from-clause-leaves : goal.returns-in_err-from-clause-leaves
returns-in_err-from-clause-leaves g c =
    let shape = c.args.shape.now in
    let x = g.V.Blocks.seen c.args.v.now in
    let k = g.V.Volume.kept c.args.v.now in
    let w = g.V.Blocks.seen c.walk.new.v in
    let p = g.V.Volume.kept c.walk.new.v in
    let u = g.V.Blocks.seen c.walk_to_dir.new.v in
    let q = g.V.Volume.kept c.walk_to_dir.new.v in
    let y = g.V.Blocks.seen c.walk_to_row.new.v in
    let j = g.V.Volume.kept c.walk_to_row.new.v in
    let before : LeavesInUse (volume_layout shape x.words) x k u q = leaves_then shape x k w p u q (file_served g.met.V.Volume.passes_keeps c.requires.can c.walk.ensures.read).leaves c.walk.ensures.read.looks.looks.words (file_served g.met.V.Volume.passes_keeps (file_served g.met.V.Volume.passes_keeps c.requires.can c.walk.ensures.read).can c.walk_to_dir.ensures.read).leaves in
    let leaves : LeavesInUse (volume_layout shape x.words) x k y j = leaves_then shape x k u q y j before (c.walk_to_dir.ensures.read.looks.looks.words ∙ c.walk.ensures.read.looks.looks.words) (file_served g.met.V.Volume.passes_keeps (file_served g.met.V.Volume.passes_keeps (file_served g.met.V.Volume.passes_keeps c.requires.can c.walk.ensures.read).can c.walk_to_dir.ensures.read).can c.walk_to_row.ensures.read).leaves in
    let path = names_of c.args.path.now in
    let busy = ino_numbers c.args.busy.now in
    let e = err_from_is_err_and c.from_residual-in_err-from.result c.from_residual-in_err-from.ensures.1 in
    λ s reads. ends_look SaysDone shape x k y j s (rename_of s c.args.path.now c.args.to.now busy) (NoneDone s) c.from_residual-in_err-from.result _ e.0 e.1 e.2 c.requires.can.ready (g.met.V.Volume.settled _ c.requires.sound) leaves reads (refl, refl) (fails_row s (rename_of s c.args.path.now c.args.to.now busy) path c.in_ok-walk.field-0.0 c.walk_to_row.result _ (c.is_root-2.ensures.not c.if-is_root-2.false) (c.in_ok-walk.ensures.value s reads) c.in_err-from.was (c.walk_to_row.ensures.value s (subst (λ f. ReadsAs shape f s) (sym (c.walk_to_dir.ensures.read.looks.looks.words ∙ c.walk.ensures.read.looks.looks.words)) reads)))

pub returns-in_err-from-clause-goes : goal.returns-in_err-from-clause-goes
returns-in_err-from-clause-goes g c = (g.met.V.Volume.passes_keeps _ _ c.walk.ensures.read.passed).goes then (g.met.V.Volume.passes_keeps _ _ c.walk_to_dir.ensures.read.passed).goes then (g.met.V.Volume.passes_keeps _ _ c.walk_to_row.ensures.read.passed).goes

pub returns-in_err-from-clause-ends : goal.returns-in_err-from-clause-ends
returns-in_err-from-clause-ends g c =
    let e = err_from_is_err_and c.from_residual-in_err-from.result c.from_residual-in_err-from.ensures.1 in
    after_well _ _ _ _ _ (after_well _ _ _ _ _ (well _ _ c.walk.result _ c.in_ok-walk.was c.walk.ensures.read.ends) (well _ _ c.walk_to_dir.result _ c.in_ok-dir.was c.walk_to_dir.ensures.read.ends)) (ends_on _ _ c.walk_to_row.result c.from_residual-in_err-from.result _ e.0 c.in_err-from.was e.1 e.2 c.walk_to_row.ensures.read.ends)

pub rename_row-requires-clause-from : goal.rename_row-requires-clause-from
rename_row-requires-clause-from g c =
    let shape = c.args.shape.now in
    let path = names_of c.args.path.now in
    subst (λ n. IsRow shape (g.V.Blocks.seen c.walk_to_row.new.v).words n c.in_ok-from.from) c.cut_last-2.ensures.last
    (subst (λ f. IsRow shape f (last_of path) c.in_ok-from.from) (sym c.walk_to_row.ensures.read.looks.looks.words) c.in_ok-from.ensures.row)

pub rename_row-requires-clause-used : goal.rename_row-requires-clause-used
rename_row-requires-clause-used g c =
    let shape = c.args.shape.now in
    subst (λ f. 0 < (held_of shape f c.in_ok-from.from.ino.0).kind) (sym c.walk_to_row.ensures.read.looks.looks.words) c.in_ok-from.ensures.used

pub rename_row-requires-clause-dir : goal.rename_row-requires-clause-dir
rename_row-requires-clause-dir g c =
    let shape = c.args.shape.now in
    subst (λ f. (held_of shape f c.in_ok-dir.dir.0).kind ≡ 1) (sym (c.walk_to_row.ensures.read.looks.looks.words ∙ c.walk_to_dir.ensures.read.looks.looks.words)) c.in_ok-dir.ensures.dir

pub returns-clause-leaves : goal.returns-clause-leaves
returns-clause-leaves g c =
    let shape = c.args.shape.now in
    let x = g.V.Blocks.seen c.args.v.now in
    let k = g.V.Volume.kept c.args.v.now in
    let w = g.V.Blocks.seen c.walk.new.v in
    let p = g.V.Volume.kept c.walk.new.v in
    let u = g.V.Blocks.seen c.walk_to_dir.new.v in
    let q = g.V.Volume.kept c.walk_to_dir.new.v in
    let y = g.V.Blocks.seen c.walk_to_row.new.v in
    let j = g.V.Volume.kept c.walk_to_row.new.v in
    let before : LeavesInUse (volume_layout shape x.words) x k u q = leaves_then shape x k w p u q (file_served g.met.V.Volume.passes_keeps c.requires.can c.walk.ensures.read).leaves c.walk.ensures.read.looks.looks.words (file_served g.met.V.Volume.passes_keeps (file_served g.met.V.Volume.passes_keeps c.requires.can c.walk.ensures.read).can c.walk_to_dir.ensures.read).leaves in
    let leaves : LeavesInUse (volume_layout shape x.words) x k y j = leaves_then shape x k u q y j before (c.walk_to_dir.ensures.read.looks.looks.words ∙ c.walk.ensures.read.looks.looks.words) (file_served g.met.V.Volume.passes_keeps (file_served g.met.V.Volume.passes_keeps (file_served g.met.V.Volume.passes_keeps c.requires.can c.walk.ensures.read).can c.walk_to_dir.ensures.read).can c.walk_to_row.ensures.read).leaves in
    let path = names_of c.args.path.now in
    let to = names_of c.args.to.now in
    let busy = ino_numbers c.args.busy.now in
    let z = g.V.Blocks.seen c.rename_row.new.v in
    let l = g.V.Volume.kept c.rename_row.new.v in
    let same : y.words ≡ x.words = c.walk_to_row.ensures.read.looks.looks.words ∙ c.walk_to_dir.ensures.read.looks.looks.words ∙ c.walk.ensures.read.looks.looks.words in
    let from = c.in_ok-from.from in
    let name = c.cut_last.result.1.now in
    λ s reads. (let walked : Walked s path to c.in_ok-walk.field-0.0 c.in_ok-dir.dir.0 = record { from = (c.in_ok-walk.ensures.value s reads); some = (c.is_root.ensures.not c.if-is_root.false); to = ap (walk_to_dir_of s) c.cut_last.ensures.front ∙ c.in_ok-dir.ensures.value s (subst (λ f. ReadsAs shape f s) (sym c.walk.ensures.read.looks.looks.words) reads) } in
    let row = c.in_ok-from.ensures.value s (subst (λ f. ReadsAs shape f s) (sym (c.walk_to_dir.ensures.read.looks.looks.words ∙ c.walk.ensures.read.looks.looks.words)) reads) in
    let beside = sym c.is_below.ensures.is ∙ c.if-is_below.false in
    ends_by_call SaysDone shape x k y j z l s (rename_of s c.args.path.now c.args.to.now busy) (rename_row_of s busy from.dir.0 (last_of path) c.in_ok-dir.dir.0 name from.ino.0 (get s.names (c.in_ok-dir.dir.0, name))) (NoneDone s) c.rename_row.result
    (rename_moves s busy path to c.in_ok-walk.field-0.0 c.in_ok-dir.dir.0 from name walked (c.is_root-2.ensures.not c.if-is_root-2.false) beside row c.cut_last.ensures.last) leaves same
    (subst (λ a. FileEnds SaysDone shape y j z l s (rename_row_of s busy from.dir.0 a c.in_ok-dir.dir.0 name from.ino.0 (get s.names (c.in_ok-dir.dir.0, name))) (NoneDone s) c.rename_row.result) (sym c.cut_last-2.ensures.last) (c.rename_row.ensures.leaves s (subst (λ f. ReadsAs shape f s) (sym same) reads))))

pub returns-clause-forgets : goal.returns-clause-forgets
returns-clause-forgets g c =
    let shape = c.args.shape.now in
    let z = g.V.Blocks.seen c.rename_row.new.v in
    subst (λ f. OnOk c.rename_row.result (Forgets (volume_layout shape f) (volume_layout shape z.words) z)) (c.walk_to_row.ensures.read.looks.looks.words ∙ c.walk_to_dir.ensures.read.looks.looks.words ∙ c.walk.ensures.read.looks.looks.words) c.rename_row.ensures.forgets

pub returns-clause-goes : goal.returns-clause-goes
returns-clause-goes g c = (g.met.V.Volume.passes_keeps _ _ c.walk.ensures.read.passed).goes then (g.met.V.Volume.passes_keeps _ _ c.walk_to_dir.ensures.read.passed).goes then (g.met.V.Volume.passes_keeps _ _ c.walk_to_row.ensures.read.passed).goes then c.rename_row.ensures.goes

pub returns-clause-ends : goal.returns-clause-ends
returns-clause-ends g c = after_well _ _ _ _ _ (after_well _ _ _ _ _ (after_well _ _ _ _ _ (well _ _ c.walk.result _ c.in_ok-walk.was c.walk.ensures.read.ends) (well _ _ c.walk_to_dir.result _ c.in_ok-dir.was c.walk_to_dir.ensures.read.ends)) (well _ _ c.walk_to_row.result _ c.in_ok-from.was c.walk_to_row.ensures.read.ends)) c.rename_row.ensures.ends

pub returns-in_err-walk-clause-in_step : goal.returns-in_err-walk-clause-in_step
returns-in_err-walk-clause-in_step g c = λ on. same_step c.args.shape.now _ _ _ c.walk.ensures.read.looks.looks.words c.walk.ensures.in_step

pub returns-then-is_root-clause-in_step : goal.returns-then-is_root-clause-in_step
returns-then-is_root-clause-in_step g c = λ on. same_step c.args.shape.now _ _ _ c.walk.ensures.read.looks.looks.words c.walk.ensures.in_step

pub walk_to_dir-requires-clause-in_step : goal.walk_to_dir-requires-clause-in_step
walk_to_dir-requires-clause-in_step g c = same_step c.args.shape.now _ _ _ c.walk.ensures.read.looks.looks.words c.walk.ensures.in_step

pub returns-in_err-dir-clause-in_step : goal.returns-in_err-dir-clause-in_step
returns-in_err-dir-clause-in_step g c = λ on. same_step c.args.shape.now _ _ _ c.walk_to_dir.ensures.read.looks.looks.words c.walk_to_dir.ensures.in_step

pub returns-then-is_root-2-clause-in_step : goal.returns-then-is_root-2-clause-in_step
returns-then-is_root-2-clause-in_step g c = λ on. same_step c.args.shape.now _ _ _ c.walk_to_dir.ensures.read.looks.looks.words c.walk_to_dir.ensures.in_step

pub returns-then-is_below-clause-in_step : goal.returns-then-is_below-clause-in_step
returns-then-is_below-clause-in_step g c = λ on. same_step c.args.shape.now _ _ _ c.walk_to_dir.ensures.read.looks.looks.words c.walk_to_dir.ensures.in_step

pub walk_to_row-requires-clause-in_step : goal.walk_to_row-requires-clause-in_step
walk_to_row-requires-clause-in_step g c = same_step c.args.shape.now _ _ _ c.walk_to_dir.ensures.read.looks.looks.words c.walk_to_dir.ensures.in_step

pub returns-in_err-from-clause-in_step : goal.returns-in_err-from-clause-in_step
returns-in_err-from-clause-in_step g c = λ on. same_step c.args.shape.now _ _ _ c.walk_to_row.ensures.read.looks.looks.words c.walk_to_row.ensures.in_step

pub cut_last-requires-2-clause-some : goal.cut_last-requires-2-clause-some
cut_last-requires-2-clause-some g c = c.is_root-2.ensures.not c.if-is_root-2.false

pub rename_row-requires-clause-in_step : goal.rename_row-requires-clause-in_step
rename_row-requires-clause-in_step g c = same_step c.args.shape.now _ _ _ c.walk_to_row.ensures.read.looks.looks.words c.walk_to_row.ensures.in_step

pub rename_row-requires-clause-out : goal.rename_row-requires-clause-out
rename_row-requires-clause-out g c =
    let shape = c.args.shape.now in
    let path = names_of c.args.path.now in
    let to = names_of c.args.to.now in
    let from = c.in_ok-from.from in
    let same = c.walk_to_row.ensures.read.looks.looks.words ∙ c.walk_to_dir.ensures.read.looks.looks.words ∙ c.walk.ensures.read.looks.looks.words in
    λ s after. (let reads = subst (λ f. ReadsAs shape f s) same after in
    let walked : Walked s path to c.in_ok-walk.field-0.0 c.in_ok-dir.dir.0 = record { from = (c.in_ok-walk.ensures.value s reads); some = (c.is_root.ensures.not c.if-is_root.false); to = ap (walk_to_dir_of s) c.cut_last.ensures.front ∙ c.in_ok-dir.ensures.value s (subst (λ f. ReadsAs shape f s) (sym c.walk.ensures.read.looks.looks.words) reads) } in
    let row = c.in_ok-from.ensures.value s (subst (λ f. ReadsAs shape f s) (sym (c.walk_to_dir.ensures.read.looks.looks.words ∙ c.walk.ensures.read.looks.looks.words)) reads) in
    rename_out s path to c.in_ok-walk.field-0.0 c.in_ok-dir.dir.0 from reads.tree walked (c.is_root-2.ensures.not c.if-is_root-2.false) (sym c.is_below.ensures.is ∙ c.if-is_below.false) row)

pub cut_last-requires-clause-some : goal.cut_last-requires-clause-some
cut_last-requires-clause-some g c = c.is_root.ensures.not c.if-is_root.false

pub is_below-requires-clause-some : goal.is_below-requires-clause-some
is_below-requires-clause-some g c = c.is_root-2.ensures.not c.if-is_root-2.false

pub walk_to_row-requires-clause-some : goal.walk_to_row-requires-clause-some
walk_to_row-requires-clause-some g c = c.is_root-2.ensures.not c.if-is_root-2.false

pub returns-in_err-walk-clause-forgets : goal.returns-in_err-walk-clause-forgets
returns-in_err-walk-clause-forgets g c = let p = err_from_is_err_and c.from_residual.result c.from_residual.ensures.1 in never_ok _ _ p.0 p.1

pub returns-in_err-dir-clause-forgets : goal.returns-in_err-dir-clause-forgets
returns-in_err-dir-clause-forgets g c = let p = err_from_is_err_and c.from_residual-in_err-dir.result c.from_residual-in_err-dir.ensures.1 in never_ok _ _ p.0 p.1

pub returns-in_err-from-clause-forgets : goal.returns-in_err-from-clause-forgets
returns-in_err-from-clause-forgets g c = let p = err_from_is_err_and c.from_residual-in_err-from.result c.from_residual-in_err-from.ensures.1 in never_ok _ _ p.0 p.1

pub walk-requires-clause-can : goal.walk-requires-clause-can
walk-requires-clause-can g c = can_read c.requires.sound c.requires.can

pub walk_to_dir-requires-clause-can : goal.walk_to_dir-requires-clause-can
walk_to_dir-requires-clause-can g c = can_read c.walk.ensures.read.keeps (file_served g.met.V.Volume.passes_keeps c.requires.can c.walk.ensures.read).can

pub walk_to_row-requires-clause-can : goal.walk_to_row-requires-clause-can
walk_to_row-requires-clause-can g c = can_read c.walk_to_dir.ensures.read.keeps (file_served g.met.V.Volume.passes_keeps (file_served g.met.V.Volume.passes_keeps c.requires.can c.walk.ensures.read).can c.walk_to_dir.ensures.read).can

pub rename_row-requires-clause-can : goal.rename_row-requires-clause-can
rename_row-requires-clause-can g c = (file_served g.met.V.Volume.passes_keeps (file_served g.met.V.Volume.passes_keeps (file_served g.met.V.Volume.passes_keeps c.requires.can c.walk.ensures.read).can c.walk_to_dir.ensures.read).can c.walk_to_row.ensures.read).can

pub returns-in_err-walk-clause-goes : goal.returns-in_err-walk-clause-goes
returns-in_err-walk-clause-goes g c = (g.met.V.Volume.passes_keeps _ _ c.walk.ensures.read.passed).goes

pub returns-then-is_root-clause-goes : goal.returns-then-is_root-clause-goes
returns-then-is_root-clause-goes g c = (g.met.V.Volume.passes_keeps _ _ c.walk.ensures.read.passed).goes
