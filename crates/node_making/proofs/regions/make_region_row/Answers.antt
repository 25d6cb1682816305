use Rattle.request_ends.proofs.Failed.{never_ok}
use Rattle.request_ends.proofs.Common.{[], ◌∷◌, ap, arith, err_from_is_err_and, Some, ◌then◌, Region, with_new, make_new, Number}
use Rattle.rio_requests.specs.Answers.{new_region}
use Rattle.request_ends.specs.Ends.{SaysNumber}
use Rattle.request_ends.proofs.CallEnds.{after_well, ends_size, well_size}
use Rattle.file_tree.proofs.FreeFound.{free_held}
use Rattle.node_updates.proofs.Planning.{can_still, ends_planning, leads, leaves_on, planned_reached}
use Rattle.node_making.proofs.RegionRoom.{blocks_free, fails_region, fails_row, region_room}
use Rattle.node_making.proofs.RegionRows.{RegionRow, free_still, region_reaches, region_requested}
use Rattle.file_tree.proofs.RowRoom.{row_fits}
use Rattle.node_making.proofs.regions.make_region_row.Goals as goal

pub plan_add-requires-clause-room : goal.plan_add-requires-clause-room
plan_add-requires-clause-room g c = row_fits c.args.shape.now (g.V.Blocks.seen c.args.v.now).words c.requires.can.state c.args.dir.0 c.requires.can.reads c.requires.dir

pub returns-in_err-row-clause-leaves : goal.returns-in_err-row-clause-leaves
returns-in_err-row-clause-leaves g c =
    let failed = err_from_is_err_and c.from_residual.result c.from_residual.ensures.1 in
    λ s reads. ends_planning (SaysNumber c.args.i.0) s (make_new s c.args.dir.0 c.args.name.now (Region (new_region c.args.sizes.data_pages c.args.sizes.undo_pages)) (Some c.args.i.0)) c.from_residual.result _ failed c.requires.can (g.met.V.Volume.settled _ c.requires.sound) c.plan_add.ensures.leaves reads
    (fails_row c.args.shape.now (g.V.Blocks.seen c.args.v.now).words s c.args.dir.0 c.args.name.now c.args.i.0 c.args.sizes c.plan_add.result _ c.requires.sizes c.in_err-row.was reads c.requires.dir c.plan_add.ensures.no_space c.plan_add.ensures.fits)

pub returns-in_err-row-clause-ends : goal.returns-in_err-row-clause-ends
returns-in_err-row-clause-ends g c =
    let failed = err_from_is_err_and c.from_residual.result c.from_residual.ensures.1 in
    ends_size _ _ c.plan_add.result c.from_residual.result _ failed.0 c.in_err-row.was failed.1 failed.2 c.plan_add.ensures.ends

pub plan_region-requires-clause-ready : goal.plan_region-requires-clause-ready
plan_region-requires-clause-ready g c = (can_still c.requires.can c.plan_add.ensures.leaves).ready

pub plan_region-requires-clause-free : goal.plan_region-requires-clause-free
plan_region-requires-clause-free g c = free_still c.args.shape.now (g.V.Blocks.seen c.args.v.now) (g.V.Volume.kept c.args.v.now) (g.V.Blocks.seen c.plan_add.new.v) (g.V.Volume.kept c.plan_add.new.v) c.args.i.0 c.requires.can.ready c.plan_add.ensures.leaves c.requires.ino c.requires.free

pub plan_region-requires-clause-skip : goal.plan_region-requires-clause-skip
plan_region-requires-clause-skip g c = blocks_free c.args.shape.now (g.V.Blocks.seen c.args.v.now) (g.V.Volume.kept c.args.v.now) (g.V.Blocks.seen c.plan_add.new.v) (g.V.Volume.kept c.plan_add.new.v) c.args.dir.0 c.args.name.now c.args.i.0 c.in_ok-row.row c.requires.can.ready c.plan_add.ensures.leaves c.in_ok-row.ensures.ok

pub returns-in_err-node-clause-leaves : goal.returns-in_err-node-clause-leaves
returns-in_err-node-clause-leaves g c =
    let failed = err_from_is_err_and c.from_residual-in_err-node.result c.from_residual-in_err-node.ensures.1 in
    λ s reads. ends_planning (SaysNumber c.args.i.0) s (make_new s c.args.dir.0 c.args.name.now (Region (new_region c.args.sizes.data_pages c.args.sizes.undo_pages)) (Some c.args.i.0)) c.from_residual-in_err-node.result _ failed c.requires.can (g.met.V.Volume.settled _ c.requires.sound) (leaves_on c.requires.can c.plan_add.ensures.leaves c.plan_region.ensures.leaves) reads
    (fails_region c.args.shape.now (g.V.Blocks.seen c.args.v.now) (g.V.Volume.kept c.args.v.now) (g.V.Blocks.seen c.plan_add.new.v) (g.V.Volume.kept c.plan_add.new.v) c.args.dir.0 c.args.name.now c.args.i.0 c.args.sizes c.in_ok-row.row s c.plan_region.result _ c.requires.sizes c.in_err-node.was c.requires.can.ready c.plan_add.ensures.leaves reads c.requires.dir c.in_ok-row.ensures.ok c.in_ok-row.ensures.space c.plan_region.ensures.no_space c.plan_region.ensures.fits)

pub returns-in_err-node-clause-goes : goal.returns-in_err-node-clause-goes
returns-in_err-node-clause-goes g c = c.plan_add.ensures.goes then c.plan_region.ensures.goes

pub returns-in_err-node-clause-ends : goal.returns-in_err-node-clause-ends
returns-in_err-node-clause-ends g c =
    let failed = err_from_is_err_and c.from_residual-in_err-node.result c.from_residual-in_err-node.ensures.1 in
    after_well _ _ _ _ _ (well_size _ _ c.plan_add.result _ c.in_ok-row.was c.plan_add.ensures.ends) (ends_size _ _ c.plan_region.result c.from_residual-in_err-node.result _ failed.0 c.in_err-node.was failed.1 failed.2 c.plan_region.ensures.ends)

pub commit_planned-requires-clause-planned : goal.commit_planned-requires-clause-planned
commit_planned-requires-clause-planned g c =
    let a = c.in_ok-row.row in
    let n = c.in_ok-node.node in
    let row : RegionRow _ _ _ _ _ _ _ c.args.dir.0 c.args.name.now c.args.i.0 c.args.sizes a n = record { ready = c.requires.can.ready; leaves = c.plan_add.ensures.leaves; then = c.plan_region.ensures.leaves; spared = c.plan_region.ensures.spared; plan = c.in_ok-row.ensures.ok; region = c.in_ok-node.ensures.ok; fit = c.requires.sizes; dir = c.requires.dir; ino = c.requires.ino; free = free_held c.args.shape.now (g.V.Blocks.seen c.args.v.now).words c.args.i.0 c.requires.ino c.requires.free; is_name = c.requires.is_name; absent = c.requires.absent } in
    let request = region_requested _ _ _ _ _ _ _ _ _ _ _ a n (g.met.V.Volume.settled _ c.requires.sound) row in
    let is = ap (λ b. b ∷ n ∷ []) c.from.ensures in
    (_, planned_reached is (omega arith) request (with_new c.requires.can.state c.args.dir.0 c.args.name.now c.args.i.0 (Region (new_region c.args.sizes.data_pages c.args.sizes.undo_pages))) (λ z. region_reaches _ _ _ _ _ _ _ z _ _ _ _ a n c.requires.can.state row c.requires.can.reads))

pub returns-clause-leaves : goal.returns-clause-leaves
returns-clause-leaves g c =
    let a = c.in_ok-row.row in
    let n = c.in_ok-node.node in
    let row : RegionRow _ _ _ _ _ _ _ c.args.dir.0 c.args.name.now c.args.i.0 c.args.sizes a n = record { ready = c.requires.can.ready; leaves = c.plan_add.ensures.leaves; then = c.plan_region.ensures.leaves; spared = c.plan_region.ensures.spared; plan = c.in_ok-row.ensures.ok; region = c.in_ok-node.ensures.ok; fit = c.requires.sizes; dir = c.requires.dir; ino = c.requires.ino; free = free_held c.args.shape.now (g.V.Blocks.seen c.args.v.now).words c.args.i.0 c.requires.ino c.requires.free; is_name = c.requires.is_name; absent = c.requires.absent } in
    let request = region_requested _ _ _ _ _ _ _ _ _ _ _ a n (g.met.V.Volume.settled _ c.requires.sound) row in
    let is = ap (λ b. b ∷ n ∷ []) c.from.ensures in
    λ s reads. c.commit_planned.ensures.leaves (Number c.args.i.0) _ _ s _ (leads (Number c.args.i.0) s (make_new s c.args.dir.0 c.args.name.now (Region (new_region c.args.sizes.data_pages c.args.sizes.undo_pages)) (Some c.args.i.0)) (with_new s c.args.dir.0 c.args.name.now c.args.i.0 (Region (new_region c.args.sizes.data_pages c.args.sizes.undo_pages))) is request (λ z. region_reaches _ _ _ _ _ _ _ z _ _ _ _ a n s row reads)
    (region_room c.args.shape.now (g.V.Blocks.seen c.args.v.now) (g.V.Volume.kept c.args.v.now) (g.V.Blocks.seen c.plan_add.new.v) (g.V.Volume.kept c.plan_add.new.v) c.args.dir.0 c.args.name.now c.args.i.0 c.args.sizes a s c.requires.sizes c.requires.can.ready c.plan_add.ensures.leaves reads c.requires.dir c.in_ok-row.ensures.ok c.in_ok-row.ensures.space c.in_ok-node.ensures.space) reads)

pub returns-clause-forgets : goal.returns-clause-forgets
returns-clause-forgets g c =
    let a = c.in_ok-row.row in
    let n = c.in_ok-node.node in
    let row : RegionRow _ _ _ _ _ _ _ c.args.dir.0 c.args.name.now c.args.i.0 c.args.sizes a n = record { ready = c.requires.can.ready; leaves = c.plan_add.ensures.leaves; then = c.plan_region.ensures.leaves; spared = c.plan_region.ensures.spared; plan = c.in_ok-row.ensures.ok; region = c.in_ok-node.ensures.ok; fit = c.requires.sizes; dir = c.requires.dir; ino = c.requires.ino; free = free_held c.args.shape.now (g.V.Blocks.seen c.args.v.now).words c.args.i.0 c.requires.ino c.requires.free; is_name = c.requires.is_name; absent = c.requires.absent } in
    let request = region_requested _ _ _ _ _ _ _ _ _ _ _ a n (g.met.V.Volume.settled _ c.requires.sound) row in
    let is = ap (λ b. b ∷ n ∷ []) c.from.ensures in
    c.commit_planned.ensures.forgets _ (planned_reached is (omega arith) request (with_new c.requires.can.state c.args.dir.0 c.args.name.now c.args.i.0 (Region (new_region c.args.sizes.data_pages c.args.sizes.undo_pages))) (λ z. region_reaches _ _ _ _ _ _ _ z _ _ _ _ a n c.requires.can.state row c.requires.can.reads))

pub returns-clause-goes : goal.returns-clause-goes
returns-clause-goes g c = c.plan_add.ensures.goes then c.plan_region.ensures.goes then c.commit_planned.ensures.goes

pub returns-clause-ends : goal.returns-clause-ends
returns-clause-ends g c = after_well _ _ _ _ _ (after_well _ _ _ _ _ (well_size _ _ c.plan_add.result _ c.in_ok-row.was c.plan_add.ensures.ends) (well_size _ _ c.plan_region.result _ c.in_ok-node.was c.plan_region.ensures.ends)) c.commit_planned.ensures.ends

pub returns-in_err-row-clause-forgets : goal.returns-in_err-row-clause-forgets
returns-in_err-row-clause-forgets g c = let p = err_from_is_err_and c.from_residual.result c.from_residual.ensures.1 in never_ok _ _ p.0 p.1

pub returns-in_err-node-clause-forgets : goal.returns-in_err-node-clause-forgets
returns-in_err-node-clause-forgets g c = let p = err_from_is_err_and c.from_residual-in_err-node.result c.from_residual-in_err-node.ensures.1 in never_ok _ _ p.0 p.1
