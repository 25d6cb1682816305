use Rattle.request_ends.proofs.Reading.{can_read, file_served}
use Rattle.request_ends.proofs.Failed.{never_ok}
use Rattle.request_ends.proofs.Common.{◌≢◌, inl, inr, ◌∙◌, refl, sym, subst, err_from_is_err_and, ◌then◌, answered, held_of, volume_layout, ReadsAs, IsInode, leaves_refl, NoneDone, Forgets, le_refl, ends_by_well, goes_refl, ◌<◌}
use Rattle.std.specs.Prelude.{OnOk}
use Rattle.rio_requests.specs.declared.reply.Reply.TheVariants.{Ok as Done}
use Rattle.rio_requests.specs.Answers.{replace_row as replace_row_of, replaced}
use Rattle.request_ends.specs.Ends.{SaysDone}
use Rattle.file_tree.specs.Walks.{IsRow, ino_numbers}
use Rattle.request_ends.proofs.AnsweredAt.{ends_answered, fails_unrefused}
use Rattle.request_ends.proofs.CallEnds.{after_well, ends_on, ends_refused, well, ends_ok}
use Rattle.node_updates.proofs.Planning.{ends_planning, leaves_on}
use Rattle.node_moving.proofs.RenamedAs.{InodesRead, ends_by_call, ends_no, gone_kind, moved_kind, replace_busy, replace_dir, replace_done, replace_same}
use Rattle.node_moving.proofs.moving.replace_row.Goals as goal

pub returns-then-from-to-clause-leaves : goal.returns-then-from-to-clause-leaves
returns-then-from-to-clause-leaves g c =
    let shape = c.args.shape.now in
    let x = g.V.Blocks.seen c.args.v.now in
    let k = g.V.Volume.kept c.args.v.now in
    λ s a reads is. ends_answered {T = Unit {0}} SaysDone _ shape x k x k s (replace_row_of s (ino_numbers c.args.busy.now) c.args.from.dir.0 a c.args.to.dir.0 c.args.name.now c.args.from.ino.0 c.args.to.ino.0) Done (NoneDone s) c.requires.can.ready (leaves_refl shape x k c.requires.can.ready) reads (replace_same s (ino_numbers c.args.busy.now) c.args.from.dir.0 a c.args.to.dir.0 c.args.name.now c.args.from.ino.0 c.args.to.ino.0 c.if-from-to.true) refl

pub returns-then-from-to-clause-forgets : goal.returns-then-from-to-clause-forgets
returns-then-from-to-clause-forgets g c = λ b lost. absurd (lost.1 lost.0)

pub returns-in_err-moved-clause-leaves : goal.returns-in_err-moved-clause-leaves
returns-in_err-moved-clause-leaves g c =
    let failed = err_from_is_err_and c.from_residual.result c.from_residual.ensures.1 in
    λ s a reads is. ends_planning SaysDone s (replace_row_of s (ino_numbers c.args.busy.now) c.args.from.dir.0 a c.args.to.dir.0 c.args.name.now c.args.from.ino.0 c.args.to.ino.0) c.from_residual.result _ failed c.requires.can (g.met.V.Volume.settled _ c.requires.sound) (file_served g.met.V.Volume.passes_keeps c.requires.can c.inode_of.ensures.read).leaves reads (fails_unrefused s (replace_row_of s (ino_numbers c.args.busy.now) c.args.from.dir.0 a c.args.to.dir.0 c.args.name.now c.args.from.ino.0 c.args.to.ino.0) c.inode_of.result _ c.in_err-moved.was c.inode_of.ensures.other)

pub returns-in_err-moved-clause-ends : goal.returns-in_err-moved-clause-ends
returns-in_err-moved-clause-ends g c =
    let failed = err_from_is_err_and c.from_residual.result c.from_residual.ensures.1 in
    ends_on _ _ c.inode_of.result c.from_residual.result _ failed.0 c.in_err-moved.was failed.1 failed.2 c.inode_of.ensures.read.ends

pub returns-in_err-gone-clause-leaves : goal.returns-in_err-gone-clause-leaves
returns-in_err-gone-clause-leaves g c =
    let failed = err_from_is_err_and c.from_residual-in_err-gone.result c.from_residual-in_err-gone.ensures.1 in
    λ s a reads is. ends_planning SaysDone s (replace_row_of s (ino_numbers c.args.busy.now) c.args.from.dir.0 a c.args.to.dir.0 c.args.name.now c.args.from.ino.0 c.args.to.ino.0) c.from_residual-in_err-gone.result _ failed c.requires.can (g.met.V.Volume.settled _ c.requires.sound) (leaves_on c.requires.can (file_served g.met.V.Volume.passes_keeps c.requires.can c.inode_of.ensures.read).leaves (file_served g.met.V.Volume.passes_keeps (file_served g.met.V.Volume.passes_keeps c.requires.can c.inode_of.ensures.read).can c.inode_of-2.ensures.read).leaves) reads (fails_unrefused s (replace_row_of s (ino_numbers c.args.busy.now) c.args.from.dir.0 a c.args.to.dir.0 c.args.name.now c.args.from.ino.0 c.args.to.ino.0) c.inode_of-2.result _ c.in_err-gone.was c.inode_of-2.ensures.other)

pub returns-in_err-gone-clause-goes : goal.returns-in_err-gone-clause-goes
returns-in_err-gone-clause-goes g c = (g.met.V.Volume.passes_keeps _ _ c.inode_of.ensures.read.passed).goes then (g.met.V.Volume.passes_keeps _ _ c.inode_of-2.ensures.read.passed).goes

pub returns-in_err-gone-clause-ends : goal.returns-in_err-gone-clause-ends
returns-in_err-gone-clause-ends g c =
    let failed = err_from_is_err_and c.from_residual-in_err-gone.result c.from_residual-in_err-gone.ensures.1 in
    after_well _ _ _ _ _ (well _ _ c.inode_of.result _ c.in_ok-moved.was c.inode_of.ensures.read.ends) (ends_on _ _ c.inode_of-2.result c.from_residual-in_err-gone.result _ failed.0 c.in_err-gone.was failed.1 failed.2 c.inode_of-2.ensures.read.ends)

pub returns-then-moved-eq-DIRECTORY-clause-leaves : goal.returns-then-moved-eq-DIRECTORY-clause-leaves
returns-then-moved-eq-DIRECTORY-clause-leaves g c =
    let read : InodesRead c.args.shape.now (g.V.Blocks.seen c.args.v.now).words c.args.from c.args.to c.in_ok-moved.moved c.in_ok-gone.gone = record { used = c.requires.used; used_to = c.requires.used_to; is_moved = c.in_ok-moved.ensures.value; is_gone = subst (λ f. IsInode f c.args.to.ino.0 c.in_ok-gone.gone) c.inode_of.ensures.read.looks.looks.words c.in_ok-gone.ensures.value } in
    λ s a reads is. ends_no {T = Unit {0}} SaysDone c.args.shape.now (g.V.Blocks.seen c.args.v.now) (g.V.Volume.kept c.args.v.now) (g.V.Blocks.seen c.inode_of-2.new.v) (g.V.Volume.kept c.inode_of-2.new.v) s (replace_row_of s (ino_numbers c.args.busy.now) c.args.from.dir.0 a c.args.to.dir.0 c.args.name.now c.args.from.ino.0 c.args.to.ino.0) (NoneDone s) 3 (replace_dir c.args.shape.now (g.V.Blocks.seen c.args.v.now).words s (ino_numbers c.args.busy.now) c.args.from a c.args.to c.args.name.now c.in_ok-moved.moved c.in_ok-gone.gone reads read c.if-from-to.false (inl c.if-moved-eq-DIRECTORY.true)) (leaves_on c.requires.can (file_served g.met.V.Volume.passes_keeps c.requires.can c.inode_of.ensures.read).leaves (file_served g.met.V.Volume.passes_keeps (file_served g.met.V.Volume.passes_keeps c.requires.can c.inode_of.ensures.read).can c.inode_of-2.ensures.read).leaves)

pub returns-then-moved-eq-DIRECTORY-clause-goes : goal.returns-then-moved-eq-DIRECTORY-clause-goes
returns-then-moved-eq-DIRECTORY-clause-goes g c = (g.met.V.Volume.passes_keeps _ _ c.inode_of.ensures.read.passed).goes then (g.met.V.Volume.passes_keeps _ _ c.inode_of-2.ensures.read.passed).goes

pub returns-then-moved-eq-DIRECTORY-clause-ends : goal.returns-then-moved-eq-DIRECTORY-clause-ends
returns-then-moved-eq-DIRECTORY-clause-ends g c = ends_refused _ _ 3 (after_well _ _ _ _ _ (well _ _ c.inode_of.result _ c.in_ok-moved.was c.inode_of.ensures.read.ends) (well _ _ c.inode_of-2.result _ c.in_ok-gone.was c.inode_of-2.ensures.read.ends))

pub returns-then-gone-eq-DIRECTORY-clause-leaves : goal.returns-then-gone-eq-DIRECTORY-clause-leaves
returns-then-gone-eq-DIRECTORY-clause-leaves g c =
    let read : InodesRead c.args.shape.now (g.V.Blocks.seen c.args.v.now).words c.args.from c.args.to c.in_ok-moved.moved c.in_ok-gone.gone = record { used = c.requires.used; used_to = c.requires.used_to; is_moved = c.in_ok-moved.ensures.value; is_gone = subst (λ f. IsInode f c.args.to.ino.0 c.in_ok-gone.gone) c.inode_of.ensures.read.looks.looks.words c.in_ok-gone.ensures.value } in
    λ s a reads is. ends_no {T = Unit {0}} SaysDone c.args.shape.now (g.V.Blocks.seen c.args.v.now) (g.V.Volume.kept c.args.v.now) (g.V.Blocks.seen c.inode_of-2.new.v) (g.V.Volume.kept c.inode_of-2.new.v) s (replace_row_of s (ino_numbers c.args.busy.now) c.args.from.dir.0 a c.args.to.dir.0 c.args.name.now c.args.from.ino.0 c.args.to.ino.0) (NoneDone s) 3 (replace_dir c.args.shape.now (g.V.Blocks.seen c.args.v.now).words s (ino_numbers c.args.busy.now) c.args.from a c.args.to c.args.name.now c.in_ok-moved.moved c.in_ok-gone.gone reads read c.if-from-to.false (inr c.if-gone-eq-DIRECTORY.true)) (leaves_on c.requires.can (file_served g.met.V.Volume.passes_keeps c.requires.can c.inode_of.ensures.read).leaves (file_served g.met.V.Volume.passes_keeps (file_served g.met.V.Volume.passes_keeps c.requires.can c.inode_of.ensures.read).can c.inode_of-2.ensures.read).leaves)

pub returns-then-gone-eq-DIRECTORY-clause-goes : goal.returns-then-gone-eq-DIRECTORY-clause-goes
returns-then-gone-eq-DIRECTORY-clause-goes g c = (g.met.V.Volume.passes_keeps _ _ c.inode_of.ensures.read.passed).goes then (g.met.V.Volume.passes_keeps _ _ c.inode_of-2.ensures.read.passed).goes

pub returns-then-gone-eq-DIRECTORY-clause-ends : goal.returns-then-gone-eq-DIRECTORY-clause-ends
returns-then-gone-eq-DIRECTORY-clause-ends g c = ends_refused _ _ 3 (after_well _ _ _ _ _ (well _ _ c.inode_of.result _ c.in_ok-moved.was c.inode_of.ensures.read.ends) (well _ _ c.inode_of-2.result _ c.in_ok-gone.was c.inode_of-2.ensures.read.ends))

pub returns-then-is_open-clause-leaves : goal.returns-then-is_open-clause-leaves
returns-then-is_open-clause-leaves g c =
    let read : InodesRead c.args.shape.now (g.V.Blocks.seen c.args.v.now).words c.args.from c.args.to c.in_ok-moved.moved c.in_ok-gone.gone = record { used = c.requires.used; used_to = c.requires.used_to; is_moved = c.in_ok-moved.ensures.value; is_gone = subst (λ f. IsInode f c.args.to.ino.0 c.in_ok-gone.gone) c.inode_of.ensures.read.looks.looks.words c.in_ok-gone.ensures.value } in
    λ s a reads is. ends_no {T = Unit {0}} SaysDone c.args.shape.now (g.V.Blocks.seen c.args.v.now) (g.V.Volume.kept c.args.v.now) (g.V.Blocks.seen c.inode_of-2.new.v) (g.V.Volume.kept c.inode_of-2.new.v) s (replace_row_of s (ino_numbers c.args.busy.now) c.args.from.dir.0 a c.args.to.dir.0 c.args.name.now c.args.from.ino.0 c.args.to.ino.0) (NoneDone s) 13 (replace_busy c.args.shape.now (g.V.Blocks.seen c.args.v.now).words s (ino_numbers c.args.busy.now) c.args.from a c.args.to c.args.name.now c.in_ok-moved.moved c.in_ok-gone.gone reads read c.if-from-to.false c.if-moved-eq-DIRECTORY.false c.if-gone-eq-DIRECTORY.false (sym c.is_open.ensures ∙ c.if-is_open.true)) (leaves_on c.requires.can (file_served g.met.V.Volume.passes_keeps c.requires.can c.inode_of.ensures.read).leaves (file_served g.met.V.Volume.passes_keeps (file_served g.met.V.Volume.passes_keeps c.requires.can c.inode_of.ensures.read).can c.inode_of-2.ensures.read).leaves)

pub returns-then-is_open-clause-goes : goal.returns-then-is_open-clause-goes
returns-then-is_open-clause-goes g c = (g.met.V.Volume.passes_keeps _ _ c.inode_of.ensures.read.passed).goes then (g.met.V.Volume.passes_keeps _ _ c.inode_of-2.ensures.read.passed).goes

pub returns-then-is_open-clause-ends : goal.returns-then-is_open-clause-ends
returns-then-is_open-clause-ends g c = ends_refused _ _ 13 (after_well _ _ _ _ _ (well _ _ c.inode_of.result _ c.in_ok-moved.was c.inode_of.ensures.read.ends) (well _ _ c.inode_of-2.result _ c.in_ok-gone.was c.inode_of-2.ensures.read.ends))

pub replace_within-requires-clause-leaf : goal.replace_within-requires-clause-leaf
replace_within-requires-clause-leaf g c =
    let read : InodesRead c.args.shape.now (g.V.Blocks.seen c.args.v.now).words c.args.from c.args.to c.in_ok-moved.moved c.in_ok-gone.gone = record { used = c.requires.used; used_to = c.requires.used_to; is_moved = c.in_ok-moved.ensures.value; is_gone = subst (λ f. IsInode f c.args.to.ino.0 c.in_ok-gone.gone) c.inode_of.ensures.read.looks.looks.words c.in_ok-gone.ensures.value } in
    subst (λ f. (held_of c.args.shape.now f c.args.from.ino.0).kind ≢ 1) (sym (c.inode_of-2.ensures.read.looks.looks.words ∙ c.inode_of.ensures.read.looks.looks.words)) (λ dir. c.if-moved-eq-DIRECTORY.false (moved_kind c.args.shape.now (g.V.Blocks.seen c.args.v.now).words c.args.from c.args.to c.in_ok-moved.moved c.in_ok-gone.gone read ∙ dir))

pub replace_within-requires-clause-leaf_to : goal.replace_within-requires-clause-leaf_to
replace_within-requires-clause-leaf_to g c =
    let read : InodesRead c.args.shape.now (g.V.Blocks.seen c.args.v.now).words c.args.from c.args.to c.in_ok-moved.moved c.in_ok-gone.gone = record { used = c.requires.used; used_to = c.requires.used_to; is_moved = c.in_ok-moved.ensures.value; is_gone = subst (λ f. IsInode f c.args.to.ino.0 c.in_ok-gone.gone) c.inode_of.ensures.read.looks.looks.words c.in_ok-gone.ensures.value } in
    subst (λ f. (held_of c.args.shape.now f c.args.to.ino.0).kind ≢ 1) (sym (c.inode_of-2.ensures.read.looks.looks.words ∙ c.inode_of.ensures.read.looks.looks.words)) (λ dir. c.if-gone-eq-DIRECTORY.false (gone_kind c.args.shape.now (g.V.Blocks.seen c.args.v.now).words c.args.from c.args.to c.in_ok-moved.moved c.in_ok-gone.gone read ∙ dir))

pub replace_across-requires-clause-leaf : goal.replace_across-requires-clause-leaf
replace_across-requires-clause-leaf g c =
    let read : InodesRead c.args.shape.now (g.V.Blocks.seen c.args.v.now).words c.args.from c.args.to c.in_ok-moved.moved c.in_ok-gone.gone = record { used = c.requires.used; used_to = c.requires.used_to; is_moved = c.in_ok-moved.ensures.value; is_gone = subst (λ f. IsInode f c.args.to.ino.0 c.in_ok-gone.gone) c.inode_of.ensures.read.looks.looks.words c.in_ok-gone.ensures.value } in
    subst (λ f. (held_of c.args.shape.now f c.args.from.ino.0).kind ≢ 1) (sym (c.inode_of-2.ensures.read.looks.looks.words ∙ c.inode_of.ensures.read.looks.looks.words)) (λ dir. c.if-moved-eq-DIRECTORY.false (moved_kind c.args.shape.now (g.V.Blocks.seen c.args.v.now).words c.args.from c.args.to c.in_ok-moved.moved c.in_ok-gone.gone read ∙ dir))

pub replace_across-requires-clause-leaf_to : goal.replace_across-requires-clause-leaf_to
replace_across-requires-clause-leaf_to g c =
    let read : InodesRead c.args.shape.now (g.V.Blocks.seen c.args.v.now).words c.args.from c.args.to c.in_ok-moved.moved c.in_ok-gone.gone = record { used = c.requires.used; used_to = c.requires.used_to; is_moved = c.in_ok-moved.ensures.value; is_gone = subst (λ f. IsInode f c.args.to.ino.0 c.in_ok-gone.gone) c.inode_of.ensures.read.looks.looks.words c.in_ok-gone.ensures.value } in
    subst (λ f. (held_of c.args.shape.now f c.args.to.ino.0).kind ≢ 1) (sym (c.inode_of-2.ensures.read.looks.looks.words ∙ c.inode_of.ensures.read.looks.looks.words)) (λ dir. c.if-gone-eq-DIRECTORY.false (gone_kind c.args.shape.now (g.V.Blocks.seen c.args.v.now).words c.args.from c.args.to c.in_ok-moved.moved c.in_ok-gone.gone read ∙ dir))

pub returns-then-from-to-2-clause-leaves : goal.returns-then-from-to-2-clause-leaves
returns-then-from-to-2-clause-leaves g c =
    let shape = c.args.shape.now in
    let read : InodesRead c.args.shape.now (g.V.Blocks.seen c.args.v.now).words c.args.from c.args.to c.in_ok-moved.moved c.in_ok-gone.gone = record { used = c.requires.used; used_to = c.requires.used_to; is_moved = c.in_ok-moved.ensures.value; is_gone = subst (λ f. IsInode f c.args.to.ino.0 c.in_ok-gone.gone) c.inode_of.ensures.read.looks.looks.words c.in_ok-gone.ensures.value } in
    λ s a reads is. ends_by_call SaysDone shape (g.V.Blocks.seen c.args.v.now) (g.V.Volume.kept c.args.v.now) (g.V.Blocks.seen c.inode_of-2.new.v) (g.V.Volume.kept c.inode_of-2.new.v) (g.V.Blocks.seen c.replace_within.new.v) (g.V.Volume.kept c.replace_within.new.v) s (replace_row_of s (ino_numbers c.args.busy.now) c.args.from.dir.0 a c.args.to.dir.0 c.args.name.now c.args.from.ino.0 c.args.to.ino.0) (answered (replaced s c.args.from.dir.0 a c.args.to.dir.0 c.args.name.now c.args.from.ino.0 c.args.to.ino.0) Done) (NoneDone s) c.replace_within.result
    (replace_done c.args.shape.now (g.V.Blocks.seen c.args.v.now).words s (ino_numbers c.args.busy.now) c.args.from a c.args.to c.args.name.now c.in_ok-moved.moved c.in_ok-gone.gone reads read c.if-from-to.false c.if-moved-eq-DIRECTORY.false c.if-gone-eq-DIRECTORY.false (sym c.is_open.ensures ∙ c.if-is_open.false)) (leaves_on c.requires.can (file_served g.met.V.Volume.passes_keeps c.requires.can c.inode_of.ensures.read).leaves (file_served g.met.V.Volume.passes_keeps (file_served g.met.V.Volume.passes_keeps c.requires.can c.inode_of.ensures.read).can c.inode_of-2.ensures.read).leaves) (c.inode_of-2.ensures.read.looks.looks.words ∙ c.inode_of.ensures.read.looks.looks.words)
    (c.replace_within.ensures.leaves s a c.args.name.now (subst (λ f. ReadsAs shape f s) (sym (c.inode_of-2.ensures.read.looks.looks.words ∙ c.inode_of.ensures.read.looks.looks.words)) reads) (subst (λ f. IsRow shape f a c.args.from) (sym (c.inode_of-2.ensures.read.looks.looks.words ∙ c.inode_of.ensures.read.looks.looks.words)) is) (subst (λ f. IsRow shape f c.args.name.now c.args.to) (sym (c.inode_of-2.ensures.read.looks.looks.words ∙ c.inode_of.ensures.read.looks.looks.words)) c.requires.to))

pub returns-then-from-to-2-clause-forgets : goal.returns-then-from-to-2-clause-forgets
returns-then-from-to-2-clause-forgets g c =
    let z = g.V.Blocks.seen c.replace_within.new.v in
    subst (λ f. OnOk c.replace_within.result (Forgets (volume_layout c.args.shape.now f) (volume_layout c.args.shape.now z.words) z)) (c.inode_of-2.ensures.read.looks.looks.words ∙ c.inode_of.ensures.read.looks.looks.words) c.replace_within.ensures.forgets

pub returns-then-from-to-2-clause-goes : goal.returns-then-from-to-2-clause-goes
returns-then-from-to-2-clause-goes g c = (g.met.V.Volume.passes_keeps _ _ c.inode_of.ensures.read.passed).goes then (g.met.V.Volume.passes_keeps _ _ c.inode_of-2.ensures.read.passed).goes then c.replace_within.ensures.goes

pub returns-then-from-to-2-clause-ends : goal.returns-then-from-to-2-clause-ends
returns-then-from-to-2-clause-ends g c = after_well _ _ _ _ _ (after_well _ _ _ _ _ (well _ _ c.inode_of.result _ c.in_ok-moved.was c.inode_of.ensures.read.ends) (well _ _ c.inode_of-2.result _ c.in_ok-gone.was c.inode_of-2.ensures.read.ends)) c.replace_within.ensures.ends

pub returns-else-from-to-2-clause-leaves : goal.returns-else-from-to-2-clause-leaves
returns-else-from-to-2-clause-leaves g c =
    let shape = c.args.shape.now in
    let read : InodesRead c.args.shape.now (g.V.Blocks.seen c.args.v.now).words c.args.from c.args.to c.in_ok-moved.moved c.in_ok-gone.gone = record { used = c.requires.used; used_to = c.requires.used_to; is_moved = c.in_ok-moved.ensures.value; is_gone = subst (λ f. IsInode f c.args.to.ino.0 c.in_ok-gone.gone) c.inode_of.ensures.read.looks.looks.words c.in_ok-gone.ensures.value } in
    λ s a reads is. ends_by_call SaysDone shape (g.V.Blocks.seen c.args.v.now) (g.V.Volume.kept c.args.v.now) (g.V.Blocks.seen c.inode_of-2.new.v) (g.V.Volume.kept c.inode_of-2.new.v) (g.V.Blocks.seen c.replace_across.new.v) (g.V.Volume.kept c.replace_across.new.v) s (replace_row_of s (ino_numbers c.args.busy.now) c.args.from.dir.0 a c.args.to.dir.0 c.args.name.now c.args.from.ino.0 c.args.to.ino.0) (answered (replaced s c.args.from.dir.0 a c.args.to.dir.0 c.args.name.now c.args.from.ino.0 c.args.to.ino.0) Done) (NoneDone s) c.replace_across.result
    (replace_done c.args.shape.now (g.V.Blocks.seen c.args.v.now).words s (ino_numbers c.args.busy.now) c.args.from a c.args.to c.args.name.now c.in_ok-moved.moved c.in_ok-gone.gone reads read c.if-from-to.false c.if-moved-eq-DIRECTORY.false c.if-gone-eq-DIRECTORY.false (sym c.is_open.ensures ∙ c.if-is_open.false)) (leaves_on c.requires.can (file_served g.met.V.Volume.passes_keeps c.requires.can c.inode_of.ensures.read).leaves (file_served g.met.V.Volume.passes_keeps (file_served g.met.V.Volume.passes_keeps c.requires.can c.inode_of.ensures.read).can c.inode_of-2.ensures.read).leaves) (c.inode_of-2.ensures.read.looks.looks.words ∙ c.inode_of.ensures.read.looks.looks.words)
    (c.replace_across.ensures.leaves s a (subst (λ f. ReadsAs shape f s) (sym (c.inode_of-2.ensures.read.looks.looks.words ∙ c.inode_of.ensures.read.looks.looks.words)) reads) (subst (λ f. IsRow shape f a c.args.from) (sym (c.inode_of-2.ensures.read.looks.looks.words ∙ c.inode_of.ensures.read.looks.looks.words)) is))

pub returns-else-from-to-2-clause-forgets : goal.returns-else-from-to-2-clause-forgets
returns-else-from-to-2-clause-forgets g c =
    let z = g.V.Blocks.seen c.replace_across.new.v in
    subst (λ f. OnOk c.replace_across.result (Forgets (volume_layout c.args.shape.now f) (volume_layout c.args.shape.now z.words) z)) (c.inode_of-2.ensures.read.looks.looks.words ∙ c.inode_of.ensures.read.looks.looks.words) c.replace_across.ensures.forgets

pub returns-else-from-to-2-clause-goes : goal.returns-else-from-to-2-clause-goes
returns-else-from-to-2-clause-goes g c = (g.met.V.Volume.passes_keeps _ _ c.inode_of.ensures.read.passed).goes then (g.met.V.Volume.passes_keeps _ _ c.inode_of-2.ensures.read.passed).goes then c.replace_across.ensures.goes

pub returns-else-from-to-2-clause-ends : goal.returns-else-from-to-2-clause-ends
returns-else-from-to-2-clause-ends g c = after_well _ _ _ _ _ (after_well _ _ _ _ _ (well _ _ c.inode_of.result _ c.in_ok-moved.was c.inode_of.ensures.read.ends) (well _ _ c.inode_of-2.result _ c.in_ok-gone.was c.inode_of-2.ensures.read.ends)) c.replace_across.ensures.ends

pub inode_of-requires-2-clause-used : goal.inode_of-requires-2-clause-used
inode_of-requires-2-clause-used g c = subst (λ f. 0 < (held_of c.args.shape.now f c.args.to.ino.0).kind) (sym c.inode_of.ensures.read.looks.looks.words) c.requires.used_to

pub returns-then-from-to-clause-goes : goal.returns-then-from-to-clause-goes
returns-then-from-to-clause-goes g c = goes_refl _ _

pub returns-then-from-to-clause-ends : goal.returns-then-from-to-clause-ends
returns-then-from-to-clause-ends g c = ends_ok _ _ _ (ends_by_well _ _ _ _ (le_refl _) refl (λ a. a) (λ a. a))

pub returns-in_err-moved-clause-forgets : goal.returns-in_err-moved-clause-forgets
returns-in_err-moved-clause-forgets g c = let p = err_from_is_err_and c.from_residual.result c.from_residual.ensures.1 in never_ok _ _ p.0 p.1

pub returns-in_err-gone-clause-forgets : goal.returns-in_err-gone-clause-forgets
returns-in_err-gone-clause-forgets g c = let p = err_from_is_err_and c.from_residual-in_err-gone.result c.from_residual-in_err-gone.ensures.1 in never_ok _ _ p.0 p.1

pub replace_within-requires-clause-from : goal.replace_within-requires-clause-from
replace_within-requires-clause-from g c = (c.requires.from.0, subst (λ f. IsRow c.args.shape.now f c.requires.from.0 c.args.from) (sym (c.inode_of-2.ensures.read.looks.looks.words ∙ c.inode_of.ensures.read.looks.looks.words)) c.requires.from.1)

pub replace_within-requires-clause-used : goal.replace_within-requires-clause-used
replace_within-requires-clause-used g c = subst (λ f. 0 < (held_of c.args.shape.now f c.args.from.ino.0).kind) (sym (c.inode_of-2.ensures.read.looks.looks.words ∙ c.inode_of.ensures.read.looks.looks.words)) c.requires.used

pub replace_within-requires-clause-used_to : goal.replace_within-requires-clause-used_to
replace_within-requires-clause-used_to g c = subst (λ f. 0 < (held_of c.args.shape.now f c.args.to.ino.0).kind) (sym (c.inode_of-2.ensures.read.looks.looks.words ∙ c.inode_of.ensures.read.looks.looks.words)) c.requires.used_to

pub replace_within-requires-clause-other : goal.replace_within-requires-clause-other
replace_within-requires-clause-other g c = c.if-from-to.false

pub replace_within-requires-clause-to : goal.replace_within-requires-clause-to
replace_within-requires-clause-to g c = (c.args.name.now, subst (λ f. IsRow c.args.shape.now f c.args.name.now c.args.to) (sym (c.inode_of-2.ensures.read.looks.looks.words ∙ c.inode_of.ensures.read.looks.looks.words)) c.requires.to)

pub replace_within-requires-clause-one : goal.replace_within-requires-clause-one
replace_within-requires-clause-one g c = c.if-from-to-2.true

pub replace_across-requires-clause-from : goal.replace_across-requires-clause-from
replace_across-requires-clause-from g c = (c.requires.from.0, subst (λ f. IsRow c.args.shape.now f c.requires.from.0 c.args.from) (sym (c.inode_of-2.ensures.read.looks.looks.words ∙ c.inode_of.ensures.read.looks.looks.words)) c.requires.from.1)

pub replace_across-requires-clause-used : goal.replace_across-requires-clause-used
replace_across-requires-clause-used g c = subst (λ f. 0 < (held_of c.args.shape.now f c.args.from.ino.0).kind) (sym (c.inode_of-2.ensures.read.looks.looks.words ∙ c.inode_of.ensures.read.looks.looks.words)) c.requires.used

pub replace_across-requires-clause-used_to : goal.replace_across-requires-clause-used_to
replace_across-requires-clause-used_to g c = subst (λ f. 0 < (held_of c.args.shape.now f c.args.to.ino.0).kind) (sym (c.inode_of-2.ensures.read.looks.looks.words ∙ c.inode_of.ensures.read.looks.looks.words)) c.requires.used_to

pub replace_across-requires-clause-other : goal.replace_across-requires-clause-other
replace_across-requires-clause-other g c = c.if-from-to.false

pub replace_across-requires-clause-to : goal.replace_across-requires-clause-to
replace_across-requires-clause-to g c = subst (λ f. IsRow c.args.shape.now f c.args.name.now c.args.to) (sym (c.inode_of-2.ensures.read.looks.looks.words ∙ c.inode_of.ensures.read.looks.looks.words)) c.requires.to

pub replace_across-requires-clause-two : goal.replace_across-requires-clause-two
replace_across-requires-clause-two g c = c.if-from-to-2.false

pub inode_of-requires-clause-can : goal.inode_of-requires-clause-can
inode_of-requires-clause-can g c = can_read c.requires.sound c.requires.can

pub inode_of-requires-2-clause-can : goal.inode_of-requires-2-clause-can
inode_of-requires-2-clause-can g c = can_read c.inode_of.ensures.read.keeps (file_served g.met.V.Volume.passes_keeps c.requires.can c.inode_of.ensures.read).can

pub returns-in_err-moved-clause-goes : goal.returns-in_err-moved-clause-goes
returns-in_err-moved-clause-goes g c = (g.met.V.Volume.passes_keeps _ _ c.inode_of.ensures.read.passed).goes

pub replace_within-requires-clause-can : goal.replace_within-requires-clause-can
replace_within-requires-clause-can g c = (file_served g.met.V.Volume.passes_keeps (file_served g.met.V.Volume.passes_keeps c.requires.can c.inode_of.ensures.read).can c.inode_of-2.ensures.read).can

pub replace_across-requires-clause-can : goal.replace_across-requires-clause-can
replace_across-requires-clause-can g c = (file_served g.met.V.Volume.passes_keeps (file_served g.met.V.Volume.passes_keeps c.requires.can c.inode_of.ensures.read).can c.inode_of-2.ensures.read).can
