use Rattle.request_ends.proofs.Reading.{can_read, file_served}
use Rattle.request_ends.proofs.Failed.{never_ok}
use Rattle.request_ends.proofs.Common.{◌≡◌, ◌<◌, ℕ, refl, sym, ap, subst, None, Some, get, err_from_is_err_and, ◌then◌, held_of, volume_layout, ReadsAs, LeavesInUse, NoneDone, Forgets}
use Rattle.directories.specs.Rows.{Finds, HasRow, IsEntry}
use Rattle.std.specs.Prelude.{OnOk}
use Rattle.rio_requests.specs.Answers.{rename_row as rename_row_of}
use Rattle.request_ends.specs.Ends.{SaysDone}
use Rattle.file_tree.specs.Walks.{IsRow, ino_numbers}
use Rattle.request_ends.proofs.AnsweredAt.{ends_look, fails_unrefused}
use Rattle.request_ends.proofs.CallEnds.{after_well, ends_on, well}
use Rattle.file_tree.proofs.LookedAt.{no_row, row_read, row_used}
use Rattle.file_tree.proofs.MemoSteps.{same_step}
use Rattle.node_moving.proofs.RenamedAs.{ends_by_call}
use Rattle.node_moving.proofs.renaming.rename_row.Goals as goal

pub returns-in_err-found-clause-leaves : goal.returns-in_err-found-clause-leaves
returns-in_err-found-clause-leaves g c =
    let shape = c.args.shape.now in
    let x = g.V.Blocks.seen c.args.v.now in
    let k = g.V.Volume.kept c.args.v.now in
    let y = g.V.Blocks.seen c.look_up_in.new.v in
    let j = g.V.Volume.kept c.look_up_in.new.v in
    let leaves : LeavesInUse (volume_layout shape x.words) x k y j = (file_served g.met.V.Volume.passes_keeps c.requires.can c.look_up_in.ensures.read).leaves in
    let from = c.args.from in
    let old = c.args.old.now in
    let dir = c.args.dir.0 in
    let name = c.args.name.now in
    let busy = ino_numbers c.args.busy.now in
    let p = err_from_is_err_and c.from_residual.result c.from_residual.ensures.1 in
    λ s reads. ends_look SaysDone shape x k y j s (rename_row_of s busy from.dir.0 old dir name from.ino.0 (get s.names (dir, name))) (NoneDone s) c.from_residual.result _ p.0 p.1 p.2 c.requires.can.ready (g.met.V.Volume.settled _ c.requires.sound) leaves reads (refl, refl) (fails_unrefused s (rename_row_of s busy from.dir.0 old dir name from.ino.0 (get s.names (dir, name))) c.look_up_in.result _ c.in_err-found.was c.look_up_in.ensures.other)

pub returns-in_err-found-clause-ends : goal.returns-in_err-found-clause-ends
returns-in_err-found-clause-ends g c =
    let p = err_from_is_err_and c.from_residual.result c.from_residual.ensures.1 in
    ends_on _ _ c.look_up_in.result c.from_residual.result _ p.0 c.in_err-found.was p.1 p.2 c.look_up_in.ensures.read.ends

pub move_to-requires-clause-used : goal.move_to-requires-clause-used
move_to-requires-clause-used g c =
    let shape = c.args.shape.now in
    let same = c.look_up_in.ensures.read.looks.looks.words in
    subst (λ f. 0 < (held_of shape f c.args.from.ino.0).kind) (sym same) c.requires.used

pub put_over-requires-clause-used : goal.put_over-requires-clause-used
put_over-requires-clause-used g c =
    let shape = c.args.shape.now in
    let same = c.look_up_in.ensures.read.looks.looks.words in
    subst (λ f. 0 < (held_of shape f c.args.from.ino.0).kind) (sym same) c.requires.used

pub move_to-requires-clause-dir : goal.move_to-requires-clause-dir
move_to-requires-clause-dir g c =
    let shape = c.args.shape.now in
    let same = c.look_up_in.ensures.read.looks.looks.words in
    subst (λ f. (held_of shape f c.args.dir.0).kind ≡ 1) (sym same) c.requires.dir

pub move_to-requires-clause-absent : goal.move_to-requires-clause-absent
move_to-requires-clause-absent g c =
    let shape = c.args.shape.now in
    let x = g.V.Blocks.seen c.args.v.now in
    let same = c.look_up_in.ensures.read.looks.looks.words in
    let none : Finds (held_of shape x.words c.args.dir.0) c.args.name.now None = subst (λ o. Finds (held_of shape x.words c.args.dir.0) c.args.name.now o) c.in-None.is c.in_ok-found.ensures.found in
    subst (λ f. (n : ℕ) → HasRow (held_of shape f c.args.dir.0) c.args.name.now n → ⊥) (sym same) none

pub put_over-requires-clause-to : goal.put_over-requires-clause-to
put_over-requires-clause-to g c =
    let shape = c.args.shape.now in
    let x = g.V.Blocks.seen c.args.v.now in
    let same = c.look_up_in.ensures.read.looks.looks.words in
    let row = c.in-Some.row in
    let entry : IsEntry (held_of shape x.words c.args.dir.0) row.1 c.args.name.now row.0.0 = subst (λ o. Finds (held_of shape x.words c.args.dir.0) c.args.name.now o) c.in-Some.is c.in_ok-found.ensures.found in
    subst (λ f. IsRow shape f c.args.name.now (record { dir = c.args.dir; slot = row.1; ino = row.0 })) (sym same) (record { dir = c.requires.dir; entry = entry })

pub put_over-requires-clause-used_to : goal.put_over-requires-clause-used_to
put_over-requires-clause-used_to g c =
    let shape = c.args.shape.now in
    let x = g.V.Blocks.seen c.args.v.now in
    let same = c.look_up_in.ensures.read.looks.looks.words in
    let row = c.in-Some.row in
    let entry : IsEntry (held_of shape x.words c.args.dir.0) row.1 c.args.name.now row.0.0 = subst (λ o. Finds (held_of shape x.words c.args.dir.0) c.args.name.now o) c.in-Some.is c.in_ok-found.ensures.found in
    subst (λ f. 0 < (held_of shape f row.0.0).kind) (sym same) (row_used shape x.words c.requires.can.state c.args.dir.0 row.1 c.args.name.now row.0.0 c.requires.can.reads c.requires.dir entry)

pub returns-in-None-clause-leaves : goal.returns-in-None-clause-leaves
returns-in-None-clause-leaves g c =
    let shape = c.args.shape.now in
    let x = g.V.Blocks.seen c.args.v.now in
    let k = g.V.Volume.kept c.args.v.now in
    let y = g.V.Blocks.seen c.look_up_in.new.v in
    let j = g.V.Volume.kept c.look_up_in.new.v in
    let leaves : LeavesInUse (volume_layout shape x.words) x k y j = (file_served g.met.V.Volume.passes_keeps c.requires.can c.look_up_in.ensures.read).leaves in
    let from = c.args.from in
    let old = c.args.old.now in
    let dir = c.args.dir.0 in
    let name = c.args.name.now in
    let busy = ino_numbers c.args.busy.now in
    let same = c.look_up_in.ensures.read.looks.looks.words in
    let none : Finds (held_of shape x.words c.args.dir.0) c.args.name.now None = subst (λ o. Finds (held_of shape x.words c.args.dir.0) c.args.name.now o) c.in-None.is c.in_ok-found.ensures.found in
    let z = g.V.Blocks.seen c.move_to.new.v in
    λ s reads. ends_by_call SaysDone shape x k y j z (g.V.Volume.kept c.move_to.new.v) s (rename_row_of s busy from.dir.0 old dir name from.ino.0 (get s.names (dir, name))) (rename_row_of s busy from.dir.0 old dir name from.ino.0 None) (NoneDone s) c.move_to.result (ap (rename_row_of s busy from.dir.0 old dir name from.ino.0) (no_row shape x.words s dir name reads none)) leaves same (c.move_to.ensures.leaves s (subst (λ f. ReadsAs shape f s) (sym same) reads))

pub returns-in-None-clause-forgets : goal.returns-in-None-clause-forgets
returns-in-None-clause-forgets g c =
    let shape = c.args.shape.now in
    let z = g.V.Blocks.seen c.move_to.new.v in
    subst (λ f. OnOk c.move_to.result (Forgets (volume_layout shape f) (volume_layout shape z.words) z)) c.look_up_in.ensures.read.looks.looks.words c.move_to.ensures.forgets

pub returns-in-None-clause-goes : goal.returns-in-None-clause-goes
returns-in-None-clause-goes g c = (g.met.V.Volume.passes_keeps _ _ c.look_up_in.ensures.read.passed).goes then c.move_to.ensures.goes

pub returns-in-None-clause-ends : goal.returns-in-None-clause-ends
returns-in-None-clause-ends g c = after_well _ _ _ _ _ (well _ _ c.look_up_in.result _ c.in_ok-found.was c.look_up_in.ensures.read.ends) c.move_to.ensures.ends

pub returns-in-Some-clause-leaves : goal.returns-in-Some-clause-leaves
returns-in-Some-clause-leaves g c =
    let shape = c.args.shape.now in
    let x = g.V.Blocks.seen c.args.v.now in
    let k = g.V.Volume.kept c.args.v.now in
    let y = g.V.Blocks.seen c.look_up_in.new.v in
    let j = g.V.Volume.kept c.look_up_in.new.v in
    let leaves : LeavesInUse (volume_layout shape x.words) x k y j = (file_served g.met.V.Volume.passes_keeps c.requires.can c.look_up_in.ensures.read).leaves in
    let from = c.args.from in
    let old = c.args.old.now in
    let dir = c.args.dir.0 in
    let name = c.args.name.now in
    let busy = ino_numbers c.args.busy.now in
    let same = c.look_up_in.ensures.read.looks.looks.words in
    let row = c.in-Some.row in
    let entry : IsEntry (held_of shape x.words c.args.dir.0) row.1 c.args.name.now row.0.0 = subst (λ o. Finds (held_of shape x.words c.args.dir.0) c.args.name.now o) c.in-Some.is c.in_ok-found.ensures.found in
    let z = g.V.Blocks.seen c.put_over.new.v in
    λ s reads. ends_by_call SaysDone shape x k y j z (g.V.Volume.kept c.put_over.new.v) s (rename_row_of s busy from.dir.0 old dir name from.ino.0 (get s.names (dir, name))) (rename_row_of s busy from.dir.0 old dir name from.ino.0 (Some row.0.0)) (NoneDone s) c.put_over.result (ap (rename_row_of s busy from.dir.0 old dir name from.ino.0) (row_read shape x.words s dir row.1 name row.0.0 reads c.requires.dir entry)) leaves same (c.put_over.ensures.leaves s (subst (λ f. ReadsAs shape f s) (sym same) reads))

pub returns-in-Some-clause-forgets : goal.returns-in-Some-clause-forgets
returns-in-Some-clause-forgets g c =
    let shape = c.args.shape.now in
    let z = g.V.Blocks.seen c.put_over.new.v in
    subst (λ f. OnOk c.put_over.result (Forgets (volume_layout shape f) (volume_layout shape z.words) z)) c.look_up_in.ensures.read.looks.looks.words c.put_over.ensures.forgets

pub returns-in-Some-clause-goes : goal.returns-in-Some-clause-goes
returns-in-Some-clause-goes g c = (g.met.V.Volume.passes_keeps _ _ c.look_up_in.ensures.read.passed).goes then c.put_over.ensures.goes

pub returns-in-Some-clause-ends : goal.returns-in-Some-clause-ends
returns-in-Some-clause-ends g c = after_well _ _ _ _ _ (well _ _ c.look_up_in.result _ c.in_ok-found.was c.look_up_in.ensures.read.ends) c.put_over.ensures.ends

pub returns-in_err-found-clause-in_step : goal.returns-in_err-found-clause-in_step
returns-in_err-found-clause-in_step g c = λ on. same_step c.args.shape.now _ _ _ c.look_up_in.ensures.read.looks.looks.words c.look_up_in.ensures.in_step

pub move_to-requires-clause-in_step : goal.move_to-requires-clause-in_step
move_to-requires-clause-in_step g c = same_step c.args.shape.now _ _ _ c.look_up_in.ensures.read.looks.looks.words c.look_up_in.ensures.in_step

pub move_to-requires-clause-from : goal.move_to-requires-clause-from
move_to-requires-clause-from g c = subst (λ f. IsRow c.args.shape.now f c.args.old.now c.args.from) (sym c.look_up_in.ensures.read.looks.looks.words) c.requires.from

pub move_to-requires-clause-out : goal.move_to-requires-clause-out
move_to-requires-clause-out g c = λ s reads. c.requires.out s (subst (λ f. ReadsAs c.args.shape.now f s) c.look_up_in.ensures.read.looks.looks.words reads)

pub put_over-requires-clause-in_step : goal.put_over-requires-clause-in_step
put_over-requires-clause-in_step g c = same_step c.args.shape.now _ _ _ c.look_up_in.ensures.read.looks.looks.words c.look_up_in.ensures.in_step

pub put_over-requires-clause-from : goal.put_over-requires-clause-from
put_over-requires-clause-from g c = subst (λ f. IsRow c.args.shape.now f c.args.old.now c.args.from) (sym c.look_up_in.ensures.read.looks.looks.words) c.requires.from

pub returns-in_err-found-clause-forgets : goal.returns-in_err-found-clause-forgets
returns-in_err-found-clause-forgets g c = let p = err_from_is_err_and c.from_residual.result c.from_residual.ensures.1 in never_ok _ _ p.0 p.1

pub look_up_in-requires-clause-can : goal.look_up_in-requires-clause-can
look_up_in-requires-clause-can g c = can_read c.requires.sound c.requires.can

pub returns-in_err-found-clause-goes : goal.returns-in_err-found-clause-goes
returns-in_err-found-clause-goes g c = (g.met.V.Volume.passes_keeps _ _ c.look_up_in.ensures.read.passed).goes

pub move_to-requires-clause-can : goal.move_to-requires-clause-can
move_to-requires-clause-can g c = (file_served g.met.V.Volume.passes_keeps c.requires.can c.look_up_in.ensures.read).can

pub put_over-requires-clause-can : goal.put_over-requires-clause-can
put_over-requires-clause-can g c = (file_served g.met.V.Volume.passes_keeps c.requires.can c.look_up_in.ensures.read).can
