use Rattle.request_ends.proofs.Failed.{never_ok}
use Rattle.request_ends.proofs.Common.{[], ◌∷◌, ap, ◌∙◌, arith, err_from_is_err_and, Some, ◌then◌, answered, with_new, Number, make_new}
use Rattle.rio_requests.specs.Answers.{empty_node}
use Rattle.request_ends.specs.Ends.{SaysNumber}
use Rattle.request_ends.proofs.CallEnds.{after_well, ends_size, well_size}
use Rattle.node_making.proofs.NewRows.{NewRow, fails_new, new_needs, new_reaches, new_requested}
use Rattle.node_updates.proofs.Planning.{ends_planning, leads, planned_reached}
use Rattle.file_tree.proofs.RowRoom.{row_fits, row_room}
use Rattle.node_making.proofs.making.make_row.Goals as goal

pub plan_add-requires-clause-room : goal.plan_add-requires-clause-room
plan_add-requires-clause-room g c = row_fits c.args.shape.now (g.V.Blocks.seen c.args.v.now).words c.requires.can.state c.args.dir.0 c.requires.can.reads c.requires.dir

pub returns-in_err-row-clause-leaves : goal.returns-in_err-row-clause-leaves
returns-in_err-row-clause-leaves g c =
    let failed = err_from_is_err_and c.from_residual.result c.from_residual.ensures.1 in
    λ s reads. ends_planning (SaysNumber c.args.i.0) s (make_new s c.args.dir.0 c.args.name.now (empty_node c.args.kind) (Some c.args.i.0)) c.from_residual.result _ failed c.requires.can (g.met.V.Volume.settled _ c.requires.sound) c.plan_add.ensures.leaves reads
    (fails_new c.args.shape.now (g.V.Blocks.seen c.args.v.now).words s c.args.dir.0 c.args.name.now c.args.i.0 c.args.kind c.plan_add.result _ c.requires.kind c.in_err-row.was reads c.requires.dir c.plan_add.ensures.no_space c.plan_add.ensures.fits)

pub returns-in_err-row-clause-ends : goal.returns-in_err-row-clause-ends
returns-in_err-row-clause-ends g c =
    let failed = err_from_is_err_and c.from_residual.result c.from_residual.ensures.1 in
    ends_size _ _ c.plan_add.result c.from_residual.result _ failed.0 c.in_err-row.was failed.1 failed.2 c.plan_add.ensures.ends

pub commit_planned-requires-clause-planned : goal.commit_planned-requires-clause-planned
commit_planned-requires-clause-planned g c =
    let m = c.node_made.result in
    let row : NewRow _ _ _ _ _ c.args.dir.0 c.args.name.now c.args.i.0 c.args.kind c.in_ok-row.row m = record { ready = c.requires.can.ready; leaves = c.plan_add.ensures.leaves; plan = c.in_ok-row.ensures.ok; made = c.node_made.ensures; dir = c.requires.dir; ino = c.requires.ino; free = c.requires.free; which = c.requires.kind; is_name = c.requires.is_name; absent = c.requires.absent } in
    let request = new_requested _ _ _ _ _ _ _ _ _ c.in_ok-row.row m (g.met.V.Volume.settled _ c.requires.sound) row in
    let is = ap (λ a. a ∷ m ∷ []) c.from.ensures in
    (_, planned_reached is (omega arith) request (with_new c.requires.can.state c.args.dir.0 c.args.name.now c.args.i.0 (empty_node c.args.kind)) (λ z. new_reaches _ _ _ _ _ z _ _ _ _ c.in_ok-row.row m c.requires.can.state row c.requires.can.reads))

pub returns-clause-leaves : goal.returns-clause-leaves
returns-clause-leaves g c =
    let m = c.node_made.result in
    let row : NewRow _ _ _ _ _ c.args.dir.0 c.args.name.now c.args.i.0 c.args.kind c.in_ok-row.row m = record { ready = c.requires.can.ready; leaves = c.plan_add.ensures.leaves; plan = c.in_ok-row.ensures.ok; made = c.node_made.ensures; dir = c.requires.dir; ino = c.requires.ino; free = c.requires.free; which = c.requires.kind; is_name = c.requires.is_name; absent = c.requires.absent } in
    let request = new_requested _ _ _ _ _ _ _ _ _ c.in_ok-row.row m (g.met.V.Volume.settled _ c.requires.sound) row in
    let is = ap (λ a. a ∷ m ∷ []) c.from.ensures in
    λ s reads. c.commit_planned.ensures.leaves (Number c.args.i.0) _ _ s _ (leads (Number c.args.i.0) s (make_new s c.args.dir.0 c.args.name.now (empty_node c.args.kind) (Some c.args.i.0)) (with_new s c.args.dir.0 c.args.name.now c.args.i.0 (empty_node c.args.kind)) is request (λ z. new_reaches _ _ _ _ _ z _ _ _ _ c.in_ok-row.row m s row reads)
    (new_needs s c.args.dir.0 c.args.name.now c.args.i.0 c.args.kind c.requires.kind ∙ row_room c.args.shape.now (g.V.Blocks.seen c.args.v.now).words s c.args.dir.0 (answered (with_new s c.args.dir.0 c.args.name.now c.args.i.0 (empty_node c.args.kind)) (Number c.args.i.0)) reads c.requires.dir c.in_ok-row.ensures.space) reads)

pub returns-clause-forgets : goal.returns-clause-forgets
returns-clause-forgets g c =
    let m = c.node_made.result in
    let row : NewRow _ _ _ _ _ c.args.dir.0 c.args.name.now c.args.i.0 c.args.kind c.in_ok-row.row m = record { ready = c.requires.can.ready; leaves = c.plan_add.ensures.leaves; plan = c.in_ok-row.ensures.ok; made = c.node_made.ensures; dir = c.requires.dir; ino = c.requires.ino; free = c.requires.free; which = c.requires.kind; is_name = c.requires.is_name; absent = c.requires.absent } in
    let request = new_requested _ _ _ _ _ _ _ _ _ c.in_ok-row.row m (g.met.V.Volume.settled _ c.requires.sound) row in
    let is = ap (λ a. a ∷ m ∷ []) c.from.ensures in
    c.commit_planned.ensures.forgets _ (planned_reached is (omega arith) request (with_new c.requires.can.state c.args.dir.0 c.args.name.now c.args.i.0 (empty_node c.args.kind)) (λ z. new_reaches _ _ _ _ _ z _ _ _ _ c.in_ok-row.row m c.requires.can.state row c.requires.can.reads))

pub returns-clause-goes : goal.returns-clause-goes
returns-clause-goes g c = c.plan_add.ensures.goes then c.commit_planned.ensures.goes

pub returns-clause-ends : goal.returns-clause-ends
returns-clause-ends g c = after_well _ _ _ _ _ (well_size _ _ c.plan_add.result _ c.in_ok-row.was c.plan_add.ensures.ends) c.commit_planned.ensures.ends

pub returns-in_err-row-clause-forgets : goal.returns-in_err-row-clause-forgets
returns-in_err-row-clause-forgets g c = let p = err_from_is_err_and c.from_residual.result c.from_residual.ensures.1 in never_ok _ _ p.0 p.1
