use Rattle.std.proofs.Common.{rules}
use Rattle.request_ends.proofs.Failed.{never_ok}
use Rattle.request_ends.proofs.Common.{◌∙◌, ℕ, [], ◌∷◌, sym, ap, subst, err_from_is_err_and, ◌then◌, answered, HasEntry, Held}
use Rattle.rio_requests.specs.Answers.{replaced}
use Rattle.rio_requests.specs.declared.reply.Reply.TheVariants.{Ok as Done}
use Rattle.directories.specs.Rows.{InNoOther}
use Rattle.node_updates.specs.Changes.{of_dir}
use Rattle.request_ends.specs.Ends.{SaysDone}
use Rattle.request_ends.proofs.CallEnds.{after_well, ends_read, well_read}
use Rattle.region_view.proofs.UsedInodes.{used_ino}
use Rattle.node_updates.proofs.Planning.{can_still, ends_unread, leaves_on, look_still, looked, still, used_still}
use Rattle.node_moving.proofs.RenamedRows.{AcrossRow, across_leads, across_planned}
use Rattle.node_moving.proofs.moving.replace_across.Goals as goal

pub plan_remove-requires-clause-slot : goal.plan_remove-requires-clause-slot
plan_remove-requires-clause-slot g c = record { dir = c.requires.from.1.dir; within = c.requires.from.1.entry.within }

pub plan_set-requires-clause-ready : goal.plan_set-requires-clause-ready
plan_set-requires-clause-ready g c = (can_still c.requires.can c.plan_remove.ensures.leaves).ready

pub plan_set-requires-clause-entries : goal.plan_set-requires-clause-entries
plan_set-requires-clause-entries g c = (can_still c.requires.can c.plan_remove.ensures.leaves).reads.entries

pub plan_set-requires-clause-slot : goal.plan_set-requires-clause-slot
plan_set-requires-clause-slot g c = subst (λ (h : ℕ → Held). HasEntry h c.args.to.dir.0 c.args.to.slot) (still c.requires.can c.plan_remove.ensures.leaves) (record { dir = c.requires.to.dir; within = c.requires.to.entry.within })

pub plan_set-requires-clause-absent : goal.plan_set-requires-clause-absent
plan_set-requires-clause-absent g c =
    let to = c.args.to in
    subst (λ (h : ℕ → Held). InNoOther (h to.dir.0) to.slot c.args.name.now) (still c.requires.can c.plan_remove.ensures.leaves) (λ a within named. c.requires.can.reads.apart.each to.dir.0 a to.slot (record { dir = c.requires.to.dir; within = within }) (record { dir = c.requires.to.dir; within = c.requires.to.entry.within }) (named ∙ sym c.requires.to.entry.named))

pub blocks_of-requires-clause-ino : goal.blocks_of-requires-clause-ino
blocks_of-requires-clause-ino g c = used_ino c.args.shape.now (g.V.Blocks.seen c.args.v.now).words c.args.to.ino.0 c.requires.used_to

pub blocks_of-requires-clause-used : goal.blocks_of-requires-clause-used
blocks_of-requires-clause-used g c = used_still c.args.to.ino.0 c.requires.can (leaves_on c.requires.can c.plan_remove.ensures.leaves c.plan_set.ensures.leaves) c.requires.used_to

pub returns-in_err-goes-clause-leaves : goal.returns-in_err-goes-clause-leaves
returns-in_err-goes-clause-leaves g c =
    let failed = err_from_is_err_and c.from_residual.result c.from_residual.ensures.1 in
    λ s a reads row_is. ends_unread SaysDone s (answered (replaced s c.args.from.dir.0 a c.args.to.dir.0 c.args.name.now c.args.from.ino.0 c.args.to.ino.0) Done) c.from_residual.result _ failed c.requires.can (g.met.V.Volume.settled _ c.requires.sound) c.plan_remove.ensures.leaves reads

pub returns-in_err-goes-clause-ends : goal.returns-in_err-goes-clause-ends
returns-in_err-goes-clause-ends g c =
    let failed = err_from_is_err_and c.from_residual.result c.from_residual.ensures.1 in
    ends_read _ _ c.plan_remove.result c.from_residual.result _ failed.0 c.in_err-goes.was failed.1 failed.2 c.plan_remove.ensures.ends

pub returns-in_err-comes-clause-leaves : goal.returns-in_err-comes-clause-leaves
returns-in_err-comes-clause-leaves g c =
    let failed = err_from_is_err_and c.from_residual-in_err-comes.result c.from_residual-in_err-comes.ensures.1 in
    λ s a reads row_is. ends_unread SaysDone s (answered (replaced s c.args.from.dir.0 a c.args.to.dir.0 c.args.name.now c.args.from.ino.0 c.args.to.ino.0) Done) c.from_residual-in_err-comes.result _ failed c.requires.can (g.met.V.Volume.settled _ c.requires.sound) (leaves_on c.requires.can c.plan_remove.ensures.leaves c.plan_set.ensures.leaves) reads

pub returns-in_err-comes-clause-goes : goal.returns-in_err-comes-clause-goes
returns-in_err-comes-clause-goes g c = c.plan_remove.ensures.goes then c.plan_set.ensures.goes

pub returns-in_err-comes-clause-ends : goal.returns-in_err-comes-clause-ends
returns-in_err-comes-clause-ends g c =
    let failed = err_from_is_err_and c.from_residual-in_err-comes.result c.from_residual-in_err-comes.ensures.1 in
    after_well _ _ _ _ _ (well_read _ _ c.plan_remove.result _ c.in_ok-goes.was c.plan_remove.ensures.ends) (ends_read _ _ c.plan_set.result c.from_residual-in_err-comes.result _ failed.0 c.in_err-comes.was failed.1 failed.2 c.plan_set.ensures.ends)

pub returns-in_err-freed-clause-leaves : goal.returns-in_err-freed-clause-leaves
returns-in_err-freed-clause-leaves g c =
    let failed = err_from_is_err_and c.from_residual-in_err-freed.result c.from_residual-in_err-freed.ensures.1 in
    λ s a reads row_is. ends_unread SaysDone s (answered (replaced s c.args.from.dir.0 a c.args.to.dir.0 c.args.name.now c.args.from.ino.0 c.args.to.ino.0) Done) c.from_residual-in_err-freed.result _ failed c.requires.can (g.met.V.Volume.settled _ c.requires.sound) (leaves_on c.requires.can (leaves_on c.requires.can c.plan_remove.ensures.leaves c.plan_set.ensures.leaves) (looked (can_still c.requires.can (leaves_on c.requires.can c.plan_remove.ensures.leaves c.plan_set.ensures.leaves)) c.blocks_of.ensures.read.looks (g.met.V.Volume.passes_keeps _ _ c.blocks_of.ensures.read.passed))) reads

pub returns-in_err-freed-clause-goes : goal.returns-in_err-freed-clause-goes
returns-in_err-freed-clause-goes g c = c.plan_remove.ensures.goes then c.plan_set.ensures.goes then (g.met.V.Volume.passes_keeps _ _ c.blocks_of.ensures.read.passed).goes

pub returns-in_err-freed-clause-ends : goal.returns-in_err-freed-clause-ends
returns-in_err-freed-clause-ends g c =
    let failed = err_from_is_err_and c.from_residual-in_err-freed.result c.from_residual-in_err-freed.ensures.1 in
    after_well _ _ _ _ _ (after_well _ _ _ _ _ (well_read _ _ c.plan_remove.result _ c.in_ok-goes.was c.plan_remove.ensures.ends) (well_read _ _ c.plan_set.result _ c.in_ok-comes.was c.plan_set.ensures.ends)) (ends_read _ _ c.blocks_of.result c.from_residual-in_err-freed.result _ failed.0 c.in_err-freed.was failed.1 failed.2 c.blocks_of.ensures.read.ends)

pub commit_planned-requires-clause-planned : goal.commit_planned-requires-clause-planned
commit_planned-requires-clause-planned g c =
    let row : AcrossRow _ _ _ _ _ _ _ _ _ c.args.from c.args.to c.args.name.now _ _ _ _ = record { ready = c.requires.can.ready; settled = g.met.V.Volume.settled _ c.requires.sound; leaves = c.plan_remove.ensures.leaves; later = c.plan_set.ensures.leaves; last = looked (can_still c.requires.can (leaves_on c.requires.can c.plan_remove.ensures.leaves c.plan_set.ensures.leaves)) c.blocks_of.ensures.read.looks (g.met.V.Volume.passes_keeps _ _ c.blocks_of.ensures.read.passed); words = c.blocks_of.ensures.read.looks.looks.words; goes = c.in_ok-goes.ensures.ok; comes = c.in_ok-comes.ensures.ok; listed = c.in_ok-freed.ensures.value; gone = c.node_gone-gone.ensures; dir = c.requires.from.1.dir; to_dir = c.requires.to.dir; used = c.requires.used_to } in
    let is = ap (λ a. a ∷ c.from-2.result ∷ c.node_gone-gone.result ∷ []) c.from.ensures ∙ ap (λ a. of_dir c.in_ok-goes.goes ∷ a ∷ c.node_gone-gone.result ∷ []) c.from-2.ensures in
    (_, across_planned c.requires.can.state c.requires.from.0 row is c.requires.two c.requires.can.reads (record { old = c.requires.from.1; over = c.requires.to; other = c.requires.other; leaf = c.requires.leaf; leaf_to = c.requires.leaf_to }))

pub returns-clause-leaves : goal.returns-clause-leaves
returns-clause-leaves g c =
    let row : AcrossRow _ _ _ _ _ _ _ _ _ c.args.from c.args.to c.args.name.now _ _ _ _ = record { ready = c.requires.can.ready; settled = g.met.V.Volume.settled _ c.requires.sound; leaves = c.plan_remove.ensures.leaves; later = c.plan_set.ensures.leaves; last = looked (can_still c.requires.can (leaves_on c.requires.can c.plan_remove.ensures.leaves c.plan_set.ensures.leaves)) c.blocks_of.ensures.read.looks (g.met.V.Volume.passes_keeps _ _ c.blocks_of.ensures.read.passed); words = c.blocks_of.ensures.read.looks.looks.words; goes = c.in_ok-goes.ensures.ok; comes = c.in_ok-comes.ensures.ok; listed = c.in_ok-freed.ensures.value; gone = c.node_gone-gone.ensures; dir = c.requires.from.1.dir; to_dir = c.requires.to.dir; used = c.requires.used_to } in
    let is = ap (λ a. a ∷ c.from-2.result ∷ c.node_gone-gone.result ∷ []) c.from.ensures ∙ ap (λ a. of_dir c.in_ok-goes.goes ∷ a ∷ c.node_gone-gone.result ∷ []) c.from-2.ensures in
    λ s a reads row_is. c.commit_planned.ensures.leaves Done _ _ s _ (across_leads s a row is c.requires.two reads (record { old = row_is; over = c.requires.to; other = c.requires.other; leaf = c.requires.leaf; leaf_to = c.requires.leaf_to }))

pub returns-clause-forgets : goal.returns-clause-forgets
returns-clause-forgets g c =
    let row : AcrossRow _ _ _ _ _ _ _ _ _ c.args.from c.args.to c.args.name.now _ _ _ _ = record { ready = c.requires.can.ready; settled = g.met.V.Volume.settled _ c.requires.sound; leaves = c.plan_remove.ensures.leaves; later = c.plan_set.ensures.leaves; last = looked (can_still c.requires.can (leaves_on c.requires.can c.plan_remove.ensures.leaves c.plan_set.ensures.leaves)) c.blocks_of.ensures.read.looks (g.met.V.Volume.passes_keeps _ _ c.blocks_of.ensures.read.passed); words = c.blocks_of.ensures.read.looks.looks.words; goes = c.in_ok-goes.ensures.ok; comes = c.in_ok-comes.ensures.ok; listed = c.in_ok-freed.ensures.value; gone = c.node_gone-gone.ensures; dir = c.requires.from.1.dir; to_dir = c.requires.to.dir; used = c.requires.used_to } in
    let is = ap (λ a. a ∷ c.from-2.result ∷ c.node_gone-gone.result ∷ []) c.from.ensures ∙ ap (λ a. of_dir c.in_ok-goes.goes ∷ a ∷ c.node_gone-gone.result ∷ []) c.from-2.ensures in
    c.commit_planned.ensures.forgets _ (across_planned c.requires.can.state c.requires.from.0 row is c.requires.two c.requires.can.reads (record { old = c.requires.from.1; over = c.requires.to; other = c.requires.other; leaf = c.requires.leaf; leaf_to = c.requires.leaf_to }))

pub returns-clause-goes : goal.returns-clause-goes
returns-clause-goes g c = c.plan_remove.ensures.goes then c.plan_set.ensures.goes then (g.met.V.Volume.passes_keeps _ _ c.blocks_of.ensures.read.passed).goes then c.commit_planned.ensures.goes

pub returns-clause-ends : goal.returns-clause-ends
returns-clause-ends g c = after_well _ _ _ _ _ (after_well _ _ _ _ _ (after_well _ _ _ _ _ (well_read _ _ c.plan_remove.result _ c.in_ok-goes.was c.plan_remove.ensures.ends) (well_read _ _ c.plan_set.result _ c.in_ok-comes.was c.plan_set.ensures.ends)) (well_read _ _ c.blocks_of.result _ c.in_ok-freed.was c.blocks_of.ensures.read.ends)) c.commit_planned.ensures.ends

pub returns-in_err-goes-clause-forgets : goal.returns-in_err-goes-clause-forgets
returns-in_err-goes-clause-forgets g c = let p = err_from_is_err_and c.from_residual.result c.from_residual.ensures.1 in never_ok _ _ p.0 p.1

pub returns-in_err-comes-clause-forgets : goal.returns-in_err-comes-clause-forgets
returns-in_err-comes-clause-forgets g c = let p = err_from_is_err_and c.from_residual-in_err-comes.result c.from_residual-in_err-comes.ensures.1 in never_ok _ _ p.0 p.1

pub returns-in_err-freed-clause-forgets : goal.returns-in_err-freed-clause-forgets
returns-in_err-freed-clause-forgets g c = let p = err_from_is_err_and c.from_residual-in_err-freed.result c.from_residual-in_err-freed.ensures.1 in never_ok _ _ p.0 p.1

pub blocks_of-requires-clause-can : goal.blocks_of-requires-clause-can
blocks_of-requires-clause-can g c = record { keeps = (search rules); meets = look_still (can_still c.requires.can (leaves_on c.requires.can c.plan_remove.ensures.leaves c.plan_set.ensures.leaves)) }
