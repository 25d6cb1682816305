use Rattle.std.proofs.Common.{rules}
use Rattle.request_ends.proofs.Failed.{never_ok}
use Rattle.request_ends.proofs.Common.{[], ◌∷◌, refl, ap, arith, err_from_is_err_and, ◌then◌, answered}
use Rattle.rio_requests.specs.Answers.{without}
use Rattle.rio_requests.specs.declared.reply.Reply.TheVariants.{Ok as Done}
use Rattle.request_ends.specs.Ends.{SaysDone}
use Rattle.request_ends.proofs.CallEnds.{after_well, ends_read, well_read}
use Rattle.region_view.proofs.UsedInodes.{used_ino}
use Rattle.node_updates.proofs.Planning.{can_still, ends_unread, leads, leaves_on, look_still, looked, planned_reached, used_still}
use Rattle.node_moving.proofs.RowsGone.{GoneRow, gone_reaches, gone_requested}
use Rattle.node_moving.proofs.removing.remove_row.Goals as goal

pub plan_remove-requires-clause-slot : goal.plan_remove-requires-clause-slot
plan_remove-requires-clause-slot g c = record { dir = c.requires.row.1.dir; within = c.requires.row.1.entry.within }

pub returns-in_err-goes-clause-leaves : goal.returns-in_err-goes-clause-leaves
returns-in_err-goes-clause-leaves g c =
    let failed = err_from_is_err_and c.from_residual.result c.from_residual.ensures.1 in
    λ s name reads is_row. ends_unread SaysDone s (answered (without s c.args.row.dir.0 name c.args.row.ino.0) Done) c.from_residual.result _ failed c.requires.can (g.met.V.Volume.settled _ c.requires.sound) c.plan_remove.ensures.leaves reads

pub returns-in_err-goes-clause-ends : goal.returns-in_err-goes-clause-ends
returns-in_err-goes-clause-ends g c =
    let failed = err_from_is_err_and c.from_residual.result c.from_residual.ensures.1 in
    ends_read _ _ c.plan_remove.result c.from_residual.result _ failed.0 c.in_err-goes.was failed.1 failed.2 c.plan_remove.ensures.ends

pub blocks_of-requires-clause-ino : goal.blocks_of-requires-clause-ino
blocks_of-requires-clause-ino g c = used_ino c.args.shape.now (g.V.Blocks.seen c.args.v.now).words c.args.row.ino.0 c.requires.used

pub blocks_of-requires-clause-used : goal.blocks_of-requires-clause-used
blocks_of-requires-clause-used g c = used_still c.args.row.ino.0 c.requires.can c.plan_remove.ensures.leaves c.requires.used

pub returns-in_err-freed-clause-leaves : goal.returns-in_err-freed-clause-leaves
returns-in_err-freed-clause-leaves g c =
    let failed = err_from_is_err_and c.from_residual-in_err-freed.result c.from_residual-in_err-freed.ensures.1 in
    λ s name reads is_row. ends_unread SaysDone s (answered (without s c.args.row.dir.0 name c.args.row.ino.0) Done) c.from_residual-in_err-freed.result _ failed c.requires.can (g.met.V.Volume.settled _ c.requires.sound) (leaves_on c.requires.can c.plan_remove.ensures.leaves (looked (can_still c.requires.can c.plan_remove.ensures.leaves) c.blocks_of.ensures.read.looks (g.met.V.Volume.passes_keeps _ _ c.blocks_of.ensures.read.passed))) reads

pub returns-in_err-freed-clause-goes : goal.returns-in_err-freed-clause-goes
returns-in_err-freed-clause-goes g c = c.plan_remove.ensures.goes then (g.met.V.Volume.passes_keeps _ _ c.blocks_of.ensures.read.passed).goes

pub returns-in_err-freed-clause-ends : goal.returns-in_err-freed-clause-ends
returns-in_err-freed-clause-ends g c =
    let failed = err_from_is_err_and c.from_residual-in_err-freed.result c.from_residual-in_err-freed.ensures.1 in
    after_well _ _ _ _ _ (well_read _ _ c.plan_remove.result _ c.in_ok-goes.was c.plan_remove.ensures.ends) (ends_read _ _ c.blocks_of.result c.from_residual-in_err-freed.result _ failed.0 c.in_err-freed.was failed.1 failed.2 c.blocks_of.ensures.read.ends)

pub commit_planned-requires-clause-planned : goal.commit_planned-requires-clause-planned
commit_planned-requires-clause-planned g c =
    let row : GoneRow _ _ _ _ _ _ _ c.args.row.dir.0 c.args.row.slot c.requires.row.0 c.args.row.ino.0 _ c.in_ok-goes.goes c.node_gone.result = record { ready = c.requires.can.ready; leaves = c.plan_remove.ensures.leaves; later = looked (can_still c.requires.can c.plan_remove.ensures.leaves) c.blocks_of.ensures.read.looks (g.met.V.Volume.passes_keeps _ _ c.blocks_of.ensures.read.passed); words = c.blocks_of.ensures.read.looks.looks.words; plan = c.in_ok-goes.ensures.ok; listed = c.in_ok-freed.ensures.value; gone = c.node_gone.ensures; dir = c.requires.row.1.dir; entry = c.requires.row.1.entry; used = c.requires.used; bare = c.requires.bare } in
    let is = ap (λ a. a ∷ c.node_gone.result ∷ []) c.from.ensures in
    (_, planned_reached is (omega arith) (gone_requested _ _ _ _ _ _ _ _ _ _ _ _ c.in_ok-goes.goes c.node_gone.result (g.met.V.Volume.settled _ c.requires.sound) row) (without c.requires.can.state c.args.row.dir.0 c.requires.row.0 c.args.row.ino.0) (λ z. gone_reaches _ _ _ _ _ _ _ z _ _ _ _ _ c.in_ok-goes.goes c.node_gone.result c.requires.can.state row c.requires.can.reads))

pub returns-clause-leaves : goal.returns-clause-leaves
returns-clause-leaves g c =
    let is = ap (λ a. a ∷ c.node_gone.result ∷ []) c.from.ensures in
    λ s name reads is_row. (let row : GoneRow _ _ _ _ _ _ _ c.args.row.dir.0 c.args.row.slot name c.args.row.ino.0 _ c.in_ok-goes.goes c.node_gone.result = record { ready = c.requires.can.ready; leaves = c.plan_remove.ensures.leaves; later = looked (can_still c.requires.can c.plan_remove.ensures.leaves) c.blocks_of.ensures.read.looks (g.met.V.Volume.passes_keeps _ _ c.blocks_of.ensures.read.passed); words = c.blocks_of.ensures.read.looks.looks.words; plan = c.in_ok-goes.ensures.ok; listed = c.in_ok-freed.ensures.value; gone = c.node_gone.ensures; dir = is_row.dir; entry = is_row.entry; used = c.requires.used; bare = c.requires.bare } in
    c.commit_planned.ensures.leaves Done _ _ s _ (leads Done s (answered (without s c.args.row.dir.0 name c.args.row.ino.0) Done) (without s c.args.row.dir.0 name c.args.row.ino.0) is (gone_requested _ _ _ _ _ _ _ _ _ _ _ _ c.in_ok-goes.goes c.node_gone.result (g.met.V.Volume.settled _ c.requires.sound) row) (λ z. gone_reaches _ _ _ _ _ _ _ z _ _ _ _ _ c.in_ok-goes.goes c.node_gone.result s row reads) refl reads))

pub returns-clause-forgets : goal.returns-clause-forgets
returns-clause-forgets g c =
    let row : GoneRow _ _ _ _ _ _ _ c.args.row.dir.0 c.args.row.slot c.requires.row.0 c.args.row.ino.0 _ c.in_ok-goes.goes c.node_gone.result = record { ready = c.requires.can.ready; leaves = c.plan_remove.ensures.leaves; later = looked (can_still c.requires.can c.plan_remove.ensures.leaves) c.blocks_of.ensures.read.looks (g.met.V.Volume.passes_keeps _ _ c.blocks_of.ensures.read.passed); words = c.blocks_of.ensures.read.looks.looks.words; plan = c.in_ok-goes.ensures.ok; listed = c.in_ok-freed.ensures.value; gone = c.node_gone.ensures; dir = c.requires.row.1.dir; entry = c.requires.row.1.entry; used = c.requires.used; bare = c.requires.bare } in
    let is = ap (λ a. a ∷ c.node_gone.result ∷ []) c.from.ensures in
    c.commit_planned.ensures.forgets _ (planned_reached is (omega arith) (gone_requested _ _ _ _ _ _ _ _ _ _ _ _ c.in_ok-goes.goes c.node_gone.result (g.met.V.Volume.settled _ c.requires.sound) row) (without c.requires.can.state c.args.row.dir.0 c.requires.row.0 c.args.row.ino.0) (λ z. gone_reaches _ _ _ _ _ _ _ z _ _ _ _ _ c.in_ok-goes.goes c.node_gone.result c.requires.can.state row c.requires.can.reads))

pub returns-clause-goes : goal.returns-clause-goes
returns-clause-goes g c = c.plan_remove.ensures.goes then (g.met.V.Volume.passes_keeps _ _ c.blocks_of.ensures.read.passed).goes then c.commit_planned.ensures.goes

pub returns-clause-ends : goal.returns-clause-ends
returns-clause-ends g c = after_well _ _ _ _ _ (after_well _ _ _ _ _ (well_read _ _ c.plan_remove.result _ c.in_ok-goes.was c.plan_remove.ensures.ends) (well_read _ _ c.blocks_of.result _ c.in_ok-freed.was c.blocks_of.ensures.read.ends)) c.commit_planned.ensures.ends

pub returns-in_err-goes-clause-forgets : goal.returns-in_err-goes-clause-forgets
returns-in_err-goes-clause-forgets g c = let p = err_from_is_err_and c.from_residual.result c.from_residual.ensures.1 in never_ok _ _ p.0 p.1

pub returns-in_err-freed-clause-forgets : goal.returns-in_err-freed-clause-forgets
returns-in_err-freed-clause-forgets g c = let p = err_from_is_err_and c.from_residual-in_err-freed.result c.from_residual-in_err-freed.ensures.1 in never_ok _ _ p.0 p.1

pub blocks_of-requires-clause-can : goal.blocks_of-requires-clause-can
blocks_of-requires-clause-can g c = record { keeps = (search rules); meets = look_still (can_still c.requires.can c.plan_remove.ensures.leaves) }
