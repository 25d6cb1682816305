use Rattle.std.proofs.Common.{rules}
use Rattle.request_ends.proofs.Failed.{never_ok}
use Rattle.request_ends.proofs.Common.{◌∙◌, [], ◌∷◌, sym, ap, subst, err_from_is_err_and, ◌then◌, answered, HasEntry, entry_ino, held_of}
use Rattle.rio_requests.specs.Answers.{replaced}
use Rattle.rio_requests.specs.declared.reply.Reply.TheVariants.{Ok as Done}
use Rattle.request_ends.specs.Ends.{SaysDone}
use Rattle.request_ends.proofs.CallEnds.{after_well, ends_read, well_read}
use Rattle.region_view.proofs.UsedInodes.{used_ino}
use Rattle.node_updates.proofs.Planning.{can_still, ends_unread, leaves_on, look_still, looked, used_still}
use Rattle.node_moving.proofs.RenamedRows.{WithinRow, within_leads, within_planned}
use Rattle.node_moving.proofs.moving.replace_within.Goals as goal

pub plan_replace-requires-clause-slot : goal.plan_replace-requires-clause-slot
plan_replace-requires-clause-slot g c = record { dir = c.requires.to.1.dir; within = c.requires.to.1.entry.within }

pub plan_replace-requires-clause-gone : goal.plan_replace-requires-clause-gone
plan_replace-requires-clause-gone g c = subst (λ d. HasEntry (held_of c.args.shape.now (g.V.Blocks.seen c.args.v.now).words) d c.args.from.slot) c.requires.one (record { dir = c.requires.from.1.dir; within = c.requires.from.1.entry.within })

pub plan_replace-requires-clause-two : goal.plan_replace-requires-clause-two
plan_replace-requires-clause-two g c =
    let h = held_of c.args.shape.now (g.V.Blocks.seen c.args.v.now).words in
    λ same. c.requires.other (sym c.requires.from.1.entry.ino ∙ ap (λ d. entry_ino (h d) c.args.from.slot) c.requires.one ∙ ap (entry_ino (h c.args.to.dir.0)) (sym same) ∙ c.requires.to.1.entry.ino)

pub blocks_of-requires-clause-ino : goal.blocks_of-requires-clause-ino
blocks_of-requires-clause-ino g c = used_ino c.args.shape.now (g.V.Blocks.seen c.args.v.now).words c.args.to.ino.0 c.requires.used_to

pub blocks_of-requires-clause-used : goal.blocks_of-requires-clause-used
blocks_of-requires-clause-used g c = used_still c.args.to.ino.0 c.requires.can c.plan_replace.ensures.leaves c.requires.used_to

pub returns-in_err-replaced-clause-leaves : goal.returns-in_err-replaced-clause-leaves
returns-in_err-replaced-clause-leaves g c =
    let failed = err_from_is_err_and c.from_residual.result c.from_residual.ensures.1 in
    λ s a b reads row_is over. ends_unread SaysDone s (answered (replaced s c.args.from.dir.0 a c.args.to.dir.0 b c.args.from.ino.0 c.args.to.ino.0) Done) c.from_residual.result _ failed c.requires.can (g.met.V.Volume.settled _ c.requires.sound) c.plan_replace.ensures.leaves reads

pub returns-in_err-replaced-clause-ends : goal.returns-in_err-replaced-clause-ends
returns-in_err-replaced-clause-ends g c =
    let failed = err_from_is_err_and c.from_residual.result c.from_residual.ensures.1 in
    ends_read _ _ c.plan_replace.result c.from_residual.result _ failed.0 c.in_err-replaced.was failed.1 failed.2 c.plan_replace.ensures.ends

pub returns-in_err-freed-clause-leaves : goal.returns-in_err-freed-clause-leaves
returns-in_err-freed-clause-leaves g c =
    let failed = err_from_is_err_and c.from_residual-in_err-freed.result c.from_residual-in_err-freed.ensures.1 in
    λ s a b reads row_is over. ends_unread SaysDone s (answered (replaced s c.args.from.dir.0 a c.args.to.dir.0 b c.args.from.ino.0 c.args.to.ino.0) Done) c.from_residual-in_err-freed.result _ failed c.requires.can (g.met.V.Volume.settled _ c.requires.sound) (leaves_on c.requires.can c.plan_replace.ensures.leaves (looked (can_still c.requires.can c.plan_replace.ensures.leaves) c.blocks_of.ensures.read.looks (g.met.V.Volume.passes_keeps _ _ c.blocks_of.ensures.read.passed))) reads

pub returns-in_err-freed-clause-goes : goal.returns-in_err-freed-clause-goes
returns-in_err-freed-clause-goes g c = c.plan_replace.ensures.goes then (g.met.V.Volume.passes_keeps _ _ c.blocks_of.ensures.read.passed).goes

pub returns-in_err-freed-clause-ends : goal.returns-in_err-freed-clause-ends
returns-in_err-freed-clause-ends g c =
    let failed = err_from_is_err_and c.from_residual-in_err-freed.result c.from_residual-in_err-freed.ensures.1 in
    after_well _ _ _ _ _ (well_read _ _ c.plan_replace.result _ c.in_ok-replaced.was c.plan_replace.ensures.ends) (ends_read _ _ c.blocks_of.result c.from_residual-in_err-freed.result _ failed.0 c.in_err-freed.was failed.1 failed.2 c.blocks_of.ensures.read.ends)

pub commit_planned-requires-clause-planned : goal.commit_planned-requires-clause-planned
commit_planned-requires-clause-planned g c =
    let row : WithinRow _ _ _ _ _ _ _ c.args.from c.args.to _ _ _ = record { ready = c.requires.can.ready; settled = g.met.V.Volume.settled _ c.requires.sound; leaves = c.plan_replace.ensures.leaves; later = looked (can_still c.requires.can c.plan_replace.ensures.leaves) c.blocks_of.ensures.read.looks (g.met.V.Volume.passes_keeps _ _ c.blocks_of.ensures.read.passed); words = c.blocks_of.ensures.read.looks.looks.words; plan = c.in_ok-replaced.ensures.ok; listed = c.in_ok-freed.ensures.value; gone = c.node_gone.ensures; dir = c.requires.to.1.dir; used = c.requires.used_to } in
    (_, within_planned c.requires.can.state c.requires.from.0 c.requires.to.0 row (ap (λ a. a ∷ c.node_gone.result ∷ []) c.from.ensures) c.requires.one c.requires.can.reads (record { old = c.requires.from.1; over = c.requires.to.1; other = c.requires.other; leaf = c.requires.leaf; leaf_to = c.requires.leaf_to }))

pub returns-clause-leaves : goal.returns-clause-leaves
returns-clause-leaves g c =
    let row : WithinRow _ _ _ _ _ _ _ c.args.from c.args.to _ _ _ = record { ready = c.requires.can.ready; settled = g.met.V.Volume.settled _ c.requires.sound; leaves = c.plan_replace.ensures.leaves; later = looked (can_still c.requires.can c.plan_replace.ensures.leaves) c.blocks_of.ensures.read.looks (g.met.V.Volume.passes_keeps _ _ c.blocks_of.ensures.read.passed); words = c.blocks_of.ensures.read.looks.looks.words; plan = c.in_ok-replaced.ensures.ok; listed = c.in_ok-freed.ensures.value; gone = c.node_gone.ensures; dir = c.requires.to.1.dir; used = c.requires.used_to } in
    λ s a b reads row_is to_is. c.commit_planned.ensures.leaves Done _ _ s _ (within_leads s a b row (ap (λ a. a ∷ c.node_gone.result ∷ []) c.from.ensures) c.requires.one reads (record { old = row_is; over = to_is; other = c.requires.other; leaf = c.requires.leaf; leaf_to = c.requires.leaf_to }))

pub returns-clause-forgets : goal.returns-clause-forgets
returns-clause-forgets g c =
    let row : WithinRow _ _ _ _ _ _ _ c.args.from c.args.to _ _ _ = record { ready = c.requires.can.ready; settled = g.met.V.Volume.settled _ c.requires.sound; leaves = c.plan_replace.ensures.leaves; later = looked (can_still c.requires.can c.plan_replace.ensures.leaves) c.blocks_of.ensures.read.looks (g.met.V.Volume.passes_keeps _ _ c.blocks_of.ensures.read.passed); words = c.blocks_of.ensures.read.looks.looks.words; plan = c.in_ok-replaced.ensures.ok; listed = c.in_ok-freed.ensures.value; gone = c.node_gone.ensures; dir = c.requires.to.1.dir; used = c.requires.used_to } in
    c.commit_planned.ensures.forgets _ (within_planned c.requires.can.state c.requires.from.0 c.requires.to.0 row (ap (λ a. a ∷ c.node_gone.result ∷ []) c.from.ensures) c.requires.one c.requires.can.reads (record { old = c.requires.from.1; over = c.requires.to.1; other = c.requires.other; leaf = c.requires.leaf; leaf_to = c.requires.leaf_to }))

pub returns-clause-goes : goal.returns-clause-goes
returns-clause-goes g c = c.plan_replace.ensures.goes then (g.met.V.Volume.passes_keeps _ _ c.blocks_of.ensures.read.passed).goes then c.commit_planned.ensures.goes

pub returns-clause-ends : goal.returns-clause-ends
returns-clause-ends g c = after_well _ _ _ _ _ (after_well _ _ _ _ _ (well_read _ _ c.plan_replace.result _ c.in_ok-replaced.was c.plan_replace.ensures.ends) (well_read _ _ c.blocks_of.result _ c.in_ok-freed.was c.blocks_of.ensures.read.ends)) c.commit_planned.ensures.ends

pub returns-in_err-replaced-clause-forgets : goal.returns-in_err-replaced-clause-forgets
returns-in_err-replaced-clause-forgets g c = let p = err_from_is_err_and c.from_residual.result c.from_residual.ensures.1 in never_ok _ _ p.0 p.1

pub returns-in_err-freed-clause-forgets : goal.returns-in_err-freed-clause-forgets
returns-in_err-freed-clause-forgets g c = let p = err_from_is_err_and c.from_residual-in_err-freed.result c.from_residual-in_err-freed.ensures.1 in never_ok _ _ p.0 p.1

pub blocks_of-requires-clause-can : goal.blocks_of-requires-clause-can
blocks_of-requires-clause-can g c = record { keeps = (search rules); meets = look_still (can_still c.requires.can c.plan_replace.ensures.leaves) }
