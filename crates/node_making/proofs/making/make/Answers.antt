use Rattle.request_ends.proofs.Reading.{can_read, file_served}
use Rattle.request_ends.proofs.Failed.{never_ok}
use Rattle.request_ends.proofs.Common.{◌≡◌, ℕ, le_refl, refl, sym, ap, subst, err_from_is_err_and, ◌then◌, ends_by_well, held_of, names_of, volume_layout, ReadsAs, Forgets, leaves_refl, NoneDone, goes_refl}
use Rattle.directories.specs.Rows.{HasRow}
use Rattle.std.specs.Prelude.{OnOk}
use Rattle.rio_model.specs.States.{least_free as least_of}
use Rattle.rio_requests.specs.Answers.{make as make_of, make_new as make_new_of, empty_node}
use Rattle.request_ends.specs.Ends.{SaysIno}
use Rattle.request_ends.specs.declared.failures.FileFail.TheVariants.{Refused}
use Rattle.request_ends.proofs.AnsweredAt.{ends_after, ends_look, ends_as}
use Rattle.request_ends.proofs.CallEnds.{after_well, ends_on, ends_refused, well}
use Rattle.node_making.proofs.RowsMade.{fails_make, made_free}
use Rattle.file_tree.proofs.MemoSteps.{same_step}
use Rattle.node_making.proofs.making.make.Goals as goal

pub returns-then-is_root-clause-leaves : goal.returns-then-is_root-clause-leaves
returns-then-is_root-clause-leaves g c =
    let shape = c.args.shape.now in
    let x = g.V.Blocks.seen c.args.v.now in
    let k = g.V.Volume.kept c.args.v.now in
    let names = names_of c.args.path.now in
    let node = empty_node c.args.kind in
    λ s reads. ends_look SaysIno shape x k x k s (make_of s names node) (NoneDone s) _ (Refused 3) (Refused 3) refl refl c.requires.can.ready (g.met.V.Volume.settled _ c.requires.sound) (leaves_refl shape x k c.requires.can.ready) reads (refl, refl) (ap (λ ns. make_of s ns node) (c.is_root.ensures.root c.if-is_root.true))

pub returns-then-is_root-clause-ends : goal.returns-then-is_root-clause-ends
returns-then-is_root-clause-ends g c = ends_refused _ _ 3 (ends_by_well _ _ _ _ (le_refl _) refl (λ a. a) (λ a. a))

pub cut_last-requires-clause-some : goal.cut_last-requires-clause-some
cut_last-requires-clause-some g c = c.is_root.ensures.not c.if-is_root.false

pub returns-in_err-dir-clause-leaves : goal.returns-in_err-dir-clause-leaves
returns-in_err-dir-clause-leaves g c =
    let shape = c.args.shape.now in
    let x = g.V.Blocks.seen c.args.v.now in
    let k = g.V.Volume.kept c.args.v.now in
    let names = names_of c.args.path.now in
    let node = empty_node c.args.kind in
    let front = names_of c.cut_last.result.0.now in
    let name = c.cut_last.result.1.now in
    let m = g.V.Blocks.seen c.dir_without.new.v in
    let l = g.V.Volume.kept c.dir_without.new.v in
    let some = c.is_root.ensures.not c.if-is_root.false in
    let p = err_from_is_err_and c.from_residual.result c.from_residual.ensures.1 in
    λ s reads. ends_look SaysIno shape x k m l s (make_of s names node) (NoneDone s) c.from_residual.result _ p.0 p.1 p.2 c.requires.can.ready (g.met.V.Volume.settled _ c.requires.sound) (file_served g.met.V.Volume.passes_keeps c.requires.can c.dir_without.ensures.read).leaves reads (refl, refl)
    (fails_make s names front name node c.dir_without.result _ some c.cut_last.ensures.front c.cut_last.ensures.last c.in_err-dir.was (c.dir_without.ensures.value s reads))

pub returns-in_err-dir-clause-ends : goal.returns-in_err-dir-clause-ends
returns-in_err-dir-clause-ends g c =
    let p = err_from_is_err_and c.from_residual.result c.from_residual.ensures.1 in
    ends_on _ _ c.dir_without.result c.from_residual.result _ p.0 c.in_err-dir.was p.1 p.2 c.dir_without.ensures.read.ends

pub make_new-requires-clause-dir : goal.make_new-requires-clause-dir
make_new-requires-clause-dir g c = subst (λ f. (held_of c.args.shape.now f c.in_ok-dir.dir.0).kind ≡ 1) (sym c.dir_without.ensures.read.looks.looks.words) c.in_ok-dir.ensures.dir

pub make_new-requires-clause-absent : goal.make_new-requires-clause-absent
make_new-requires-clause-absent g c = subst (λ f. (n : ℕ) → HasRow (held_of c.args.shape.now f c.in_ok-dir.dir.0) c.cut_last.result.1.now n → ⊥) (sym c.dir_without.ensures.read.looks.looks.words) c.in_ok-dir.ensures.absent

pub returns-clause-leaves : goal.returns-clause-leaves
returns-clause-leaves g c =
    let shape = c.args.shape.now in
    let x = g.V.Blocks.seen c.args.v.now in
    let k = g.V.Volume.kept c.args.v.now in
    let names = names_of c.args.path.now in
    let node = empty_node c.args.kind in
    let front = names_of c.cut_last.result.0.now in
    let name = c.cut_last.result.1.now in
    let m = g.V.Blocks.seen c.dir_without.new.v in
    let l = g.V.Volume.kept c.dir_without.new.v in
    let some = c.is_root.ensures.not c.if-is_root.false in
    let y = g.V.Blocks.seen c.make_new.new.v in
    let j = g.V.Volume.kept c.make_new.new.v in
    λ s reads. ends_after SaysIno shape x k m l y j s (make_of s names node) (NoneDone s) c.make_new.result (file_served g.met.V.Volume.passes_keeps c.requires.can c.dir_without.ensures.read).leaves c.dir_without.ensures.read.looks.looks.words
    (ends_as SaysIno shape m l y j s (make_of s names node) (make_new_of s c.in_ok-dir.dir.0 name node (least_of s)) (NoneDone s) c.make_new.result
    (made_free s names front name node c.in_ok-dir.dir some c.cut_last.ensures.front c.cut_last.ensures.last (c.in_ok-dir.ensures.value s reads))
    (c.make_new.ensures.leaves s (subst (λ f. ReadsAs shape f s) (sym c.dir_without.ensures.read.looks.looks.words) reads)))

pub returns-clause-forgets : goal.returns-clause-forgets
returns-clause-forgets g c =
    let shape = c.args.shape.now in
    let z = g.V.Blocks.seen c.make_new.new.v in
    subst (λ f. OnOk c.make_new.result (Forgets (volume_layout shape f) (volume_layout shape z.words) z)) c.dir_without.ensures.read.looks.looks.words c.make_new.ensures.forgets

pub returns-clause-goes : goal.returns-clause-goes
returns-clause-goes g c = (g.met.V.Volume.passes_keeps _ _ c.dir_without.ensures.read.passed).goes then c.make_new.ensures.goes

pub returns-clause-ends : goal.returns-clause-ends
returns-clause-ends g c = after_well _ _ _ _ _ (well _ _ c.dir_without.result _ c.in_ok-dir.was c.dir_without.ensures.read.ends) c.make_new.ensures.ends

pub returns-in_err-dir-clause-in_step : goal.returns-in_err-dir-clause-in_step
returns-in_err-dir-clause-in_step g c = λ on. same_step c.args.shape.now _ _ _ (c.dir_without.ensures.read.looks.looks.words) c.dir_without.ensures.in_step

pub make_new-requires-clause-in_step : goal.make_new-requires-clause-in_step
make_new-requires-clause-in_step g c = same_step c.args.shape.now _ _ _ (c.dir_without.ensures.read.looks.looks.words) c.dir_without.ensures.in_step

pub returns-then-is_root-clause-in_step : goal.returns-then-is_root-clause-in_step
returns-then-is_root-clause-in_step g c = λ on. c.requires.in_step

pub returns-then-is_root-clause-goes : goal.returns-then-is_root-clause-goes
returns-then-is_root-clause-goes g c = goes_refl _ _

pub returns-in_err-dir-clause-forgets : goal.returns-in_err-dir-clause-forgets
returns-in_err-dir-clause-forgets g c = let p = err_from_is_err_and c.from_residual.result c.from_residual.ensures.1 in never_ok _ _ p.0 p.1

pub dir_without-requires-clause-can : goal.dir_without-requires-clause-can
dir_without-requires-clause-can g c = can_read c.requires.sound c.requires.can

pub returns-in_err-dir-clause-goes : goal.returns-in_err-dir-clause-goes
returns-in_err-dir-clause-goes g c = (g.met.V.Volume.passes_keeps _ _ c.dir_without.ensures.read.passed).goes

pub make_new-requires-clause-can : goal.make_new-requires-clause-can
make_new-requires-clause-can g c = (file_served g.met.V.Volume.passes_keeps c.requires.can c.dir_without.ensures.read).can
