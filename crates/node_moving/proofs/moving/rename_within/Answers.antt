use Rattle.request_ends.proofs.Failed.{never_ok}
use Rattle.request_ends.proofs.Common.{[], ◌∷◌, refl, ap, err_from_is_err_and, ◌then◌, entry_ino, held_of}
use Rattle.rio_requests.specs.declared.reply.Reply.TheVariants.{Ok as Done}
use Rattle.rio_requests.specs.Answers.{move_row as move_row_of}
use Rattle.request_ends.specs.Ends.{SaysDone}
use Rattle.request_ends.proofs.CallEnds.{after_well, ends_read, well_read}
use Rattle.node_updates.proofs.Planning.{ends_unread}
use Rattle.node_moving.proofs.RenamedRows.{RenamedRow, renamed_leads, renamed_planned}
use Rattle.node_moving.proofs.moving.rename_within.Goals as goal

pub plan_set-requires-clause-slot : goal.plan_set-requires-clause-slot
plan_set-requires-clause-slot g c = record { dir = c.requires.from.1.dir; within = c.requires.from.1.entry.within }

pub plan_set-requires-clause-absent : goal.plan_set-requires-clause-absent
plan_set-requires-clause-absent g c =
    let h = held_of c.args.shape.now (g.V.Blocks.seen c.args.v.now).words c.args.from.dir.0 in
    λ a within named. absurd (c.requires.absent (entry_ino h a) (a, record { within = within; named = named; ino = refl }))

pub returns-in_err-set-clause-leaves : goal.returns-in_err-set-clause-leaves
returns-in_err-set-clause-leaves g c =
    let from = c.args.from in
    let failed = err_from_is_err_and c.from_residual.result c.from_residual.ensures.1 in
    λ s a reads row_is apart. ends_unread SaysDone s (move_row_of s from.dir.0 a from.dir.0 c.args.name.now from.ino.0) c.from_residual.result _ failed c.requires.can (g.met.V.Volume.settled _ c.requires.sound) c.plan_set.ensures.leaves reads

pub returns-in_err-set-clause-ends : goal.returns-in_err-set-clause-ends
returns-in_err-set-clause-ends g c =
    let failed = err_from_is_err_and c.from_residual.result c.from_residual.ensures.1 in
    ends_read _ _ c.plan_set.result c.from_residual.result _ failed.0 c.in_err-set.was failed.1 failed.2 c.plan_set.ensures.ends

pub commit_planned-requires-clause-planned : goal.commit_planned-requires-clause-planned
commit_planned-requires-clause-planned g c =
    let row : RenamedRow _ _ _ _ _ c.args.from c.args.name.now _ = record { ready = c.requires.can.ready; settled = g.met.V.Volume.settled _ c.requires.sound; leaves = c.plan_set.ensures.leaves; plan = c.in_ok-set.ensures.ok; dir = c.requires.from.1.dir } in
    (_, renamed_planned row (ap (λ a. a ∷ []) c.from.ensures))

pub returns-clause-leaves : goal.returns-clause-leaves
returns-clause-leaves g c =
    let row : RenamedRow _ _ _ _ _ c.args.from c.args.name.now _ = record { ready = c.requires.can.ready; settled = g.met.V.Volume.settled _ c.requires.sound; leaves = c.plan_set.ensures.leaves; plan = c.in_ok-set.ensures.ok; dir = c.requires.from.1.dir } in
    λ s a reads row_is apart. c.commit_planned.ensures.leaves Done _ _ s _ (renamed_leads s a row (ap (λ a. a ∷ []) c.from.ensures) reads row_is c.requires.is_name c.requires.absent apart)

pub returns-clause-forgets : goal.returns-clause-forgets
returns-clause-forgets g c =
    let row : RenamedRow _ _ _ _ _ c.args.from c.args.name.now _ = record { ready = c.requires.can.ready; settled = g.met.V.Volume.settled _ c.requires.sound; leaves = c.plan_set.ensures.leaves; plan = c.in_ok-set.ensures.ok; dir = c.requires.from.1.dir } in
    c.commit_planned.ensures.forgets _ (renamed_planned row (ap (λ a. a ∷ []) c.from.ensures))

pub returns-clause-goes : goal.returns-clause-goes
returns-clause-goes g c = c.plan_set.ensures.goes then c.commit_planned.ensures.goes

pub returns-clause-ends : goal.returns-clause-ends
returns-clause-ends g c = after_well _ _ _ _ _ (well_read _ _ c.plan_set.result _ c.in_ok-set.was c.plan_set.ensures.ends) c.commit_planned.ensures.ends

pub returns-in_err-set-clause-forgets : goal.returns-in_err-set-clause-forgets
returns-in_err-set-clause-forgets g c = let p = err_from_is_err_and c.from_residual.result c.from_residual.ensures.1 in never_ok _ _ p.0 p.1
