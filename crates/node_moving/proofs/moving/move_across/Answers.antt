use Rattle.request_ends.proofs.Failed.{never_ok}
use Rattle.request_ends.proofs.Common.{◌≡◌, ◌≤◌, ◌+◌, ◌∙◌, ℕ, [], ◌∷◌, ap, subst, err_from_is_err_and, ◌then◌, Held, largest_size, reads_agree}
use Rattle.directories.specs.Rows.{HasRow}
use Rattle.rio_requests.specs.declared.reply.Reply.TheVariants.{Ok as Done}
use Rattle.rio_requests.specs.Answers.{move_row as move_row_of}
use Rattle.node_updates.specs.Changes.{of_dir}
use Rattle.request_ends.specs.Ends.{SaysDone}
use Rattle.request_ends.proofs.CallEnds.{after_well, ends_read, ends_size, well_read, well_size}
use Rattle.node_updates.proofs.Planning.{can_still, ends_planning, ends_unread, leaves_on, still}
use Rattle.node_moving.proofs.RenamedRows.{MovedRow, fails_move, moved_leads, moved_planned}
use Rattle.file_tree.proofs.RowRoom.{row_fits}
use Rattle.node_moving.proofs.moving.move_across.Goals as goal

pub plan_remove-requires-clause-slot : goal.plan_remove-requires-clause-slot
plan_remove-requires-clause-slot g c = record { dir = c.requires.from.1.dir; within = c.requires.from.1.entry.within }

pub plan_add-requires-clause-ready : goal.plan_add-requires-clause-ready
plan_add-requires-clause-ready g c = (can_still c.requires.can c.plan_remove.ensures.leaves).ready

pub plan_add-requires-clause-entries : goal.plan_add-requires-clause-entries
plan_add-requires-clause-entries g c = (can_still c.requires.can c.plan_remove.ensures.leaves).reads.entries

pub plan_add-requires-clause-dir : goal.plan_add-requires-clause-dir
plan_add-requires-clause-dir g c = subst (λ (h : ℕ → Held). (h c.args.dir.0).kind ≡ 1) (still c.requires.can c.plan_remove.ensures.leaves) c.requires.dir

pub plan_add-requires-clause-room : goal.plan_add-requires-clause-room
plan_add-requires-clause-room g c = subst (λ (h : ℕ → Held). (h c.args.dir.0).size + 64 ≤ largest_size) (still c.requires.can c.plan_remove.ensures.leaves) (row_fits c.args.shape.now (g.V.Blocks.seen c.args.v.now).words c.requires.can.state c.args.dir.0 c.requires.can.reads c.requires.dir)

pub plan_add-requires-clause-absent : goal.plan_add-requires-clause-absent
plan_add-requires-clause-absent g c = subst (λ (h : ℕ → Held). (n : ℕ) → HasRow (h c.args.dir.0) c.args.name.now n → ⊥) (still c.requires.can c.plan_remove.ensures.leaves) c.requires.absent

pub returns-in_err-goes-clause-leaves : goal.returns-in_err-goes-clause-leaves
returns-in_err-goes-clause-leaves g c =
    let from = c.args.from in
    let failed = err_from_is_err_and c.from_residual.result c.from_residual.ensures.1 in
    λ s a reads row_is apart. ends_unread SaysDone s (move_row_of s from.dir.0 a c.args.dir.0 c.args.name.now from.ino.0) c.from_residual.result _ failed c.requires.can (g.met.V.Volume.settled _ c.requires.sound) c.plan_remove.ensures.leaves reads

pub returns-in_err-goes-clause-ends : goal.returns-in_err-goes-clause-ends
returns-in_err-goes-clause-ends g c =
    let failed = err_from_is_err_and c.from_residual.result c.from_residual.ensures.1 in
    ends_read _ _ c.plan_remove.result c.from_residual.result _ failed.0 c.in_err-goes.was failed.1 failed.2 c.plan_remove.ensures.ends

pub returns-in_err-comes-clause-leaves : goal.returns-in_err-comes-clause-leaves
returns-in_err-comes-clause-leaves g c =
    let shape = c.args.shape.now in
    let x = g.V.Blocks.seen c.args.v.now in
    let w = g.V.Blocks.seen c.plan_remove.new.v in
    let from = c.args.from in
    let dir = c.args.dir.0 in
    let name = c.args.name.now in
    let is_dir = subst (λ (h : ℕ → Held). (h dir).kind ≡ 1) (still c.requires.can c.plan_remove.ensures.leaves) c.requires.dir in
    let failed = err_from_is_err_and c.from_residual-in_err-comes.result c.from_residual-in_err-comes.ensures.1 in
    λ s a reads row_is apart. ends_planning SaysDone s (move_row_of s from.dir.0 a dir name from.ino.0) c.from_residual-in_err-comes.result _ failed c.requires.can (g.met.V.Volume.settled _ c.requires.sound) (leaves_on c.requires.can c.plan_remove.ensures.leaves c.plan_add.ensures.leaves) reads
    (fails_move shape w.words s from.dir.0 a dir name from.ino.0 c.plan_add.result _ c.in_err-comes.was (reads_agree shape x.words w.words s reads c.plan_remove.ensures.leaves.words) c.requires.two is_dir c.plan_add.ensures.no_space c.plan_add.ensures.fits)

pub returns-in_err-comes-clause-goes : goal.returns-in_err-comes-clause-goes
returns-in_err-comes-clause-goes g c = c.plan_remove.ensures.goes then c.plan_add.ensures.goes

pub returns-in_err-comes-clause-ends : goal.returns-in_err-comes-clause-ends
returns-in_err-comes-clause-ends g c =
    let failed = err_from_is_err_and c.from_residual-in_err-comes.result c.from_residual-in_err-comes.ensures.1 in
    after_well _ _ _ _ _ (well_read _ _ c.plan_remove.result _ c.in_ok-goes.was c.plan_remove.ensures.ends) (ends_size _ _ c.plan_add.result c.from_residual-in_err-comes.result _ failed.0 c.in_err-comes.was failed.1 failed.2 c.plan_add.ensures.ends)

pub commit_planned-requires-clause-planned : goal.commit_planned-requires-clause-planned
commit_planned-requires-clause-planned g c =
    let row : MovedRow _ _ _ _ _ _ _ c.args.from c.args.dir.0 c.args.name.now _ _ = record { ready = c.requires.can.ready; settled = g.met.V.Volume.settled _ c.requires.sound; leaves = c.plan_remove.ensures.leaves; later = c.plan_add.ensures.leaves; goes = c.in_ok-goes.ensures.ok; comes = c.in_ok-comes.ensures.ok; dir = c.requires.from.1.dir; to = c.requires.dir } in
    (_, moved_planned row (ap (λ a. a ∷ c.from-2.result ∷ []) c.from.ensures ∙ ap (λ a. of_dir c.in_ok-goes.goes ∷ a ∷ []) c.from-2.ensures) c.requires.two)

pub returns-clause-leaves : goal.returns-clause-leaves
returns-clause-leaves g c =
    let row : MovedRow _ _ _ _ _ _ _ c.args.from c.args.dir.0 c.args.name.now _ _ = record { ready = c.requires.can.ready; settled = g.met.V.Volume.settled _ c.requires.sound; leaves = c.plan_remove.ensures.leaves; later = c.plan_add.ensures.leaves; goes = c.in_ok-goes.ensures.ok; comes = c.in_ok-comes.ensures.ok; dir = c.requires.from.1.dir; to = c.requires.dir } in
    let is = ap (λ a. a ∷ c.from-2.result ∷ []) c.from.ensures ∙ ap (λ a. of_dir c.in_ok-goes.goes ∷ a ∷ []) c.from-2.ensures in
    λ s a reads row_is apart. c.commit_planned.ensures.leaves Done _ _ s _ (moved_leads s a row is c.requires.two c.in_ok-comes.ensures.space reads row_is c.requires.is_name c.requires.absent apart)

pub returns-clause-forgets : goal.returns-clause-forgets
returns-clause-forgets g c =
    let row : MovedRow _ _ _ _ _ _ _ c.args.from c.args.dir.0 c.args.name.now _ _ = record { ready = c.requires.can.ready; settled = g.met.V.Volume.settled _ c.requires.sound; leaves = c.plan_remove.ensures.leaves; later = c.plan_add.ensures.leaves; goes = c.in_ok-goes.ensures.ok; comes = c.in_ok-comes.ensures.ok; dir = c.requires.from.1.dir; to = c.requires.dir } in
    c.commit_planned.ensures.forgets _ (moved_planned row (ap (λ a. a ∷ c.from-2.result ∷ []) c.from.ensures ∙ ap (λ a. of_dir c.in_ok-goes.goes ∷ a ∷ []) c.from-2.ensures) c.requires.two)

pub returns-clause-goes : goal.returns-clause-goes
returns-clause-goes g c = c.plan_remove.ensures.goes then c.plan_add.ensures.goes then c.commit_planned.ensures.goes

pub returns-clause-ends : goal.returns-clause-ends
returns-clause-ends g c = after_well _ _ _ _ _ (after_well _ _ _ _ _ (well_read _ _ c.plan_remove.result _ c.in_ok-goes.was c.plan_remove.ensures.ends) (well_size _ _ c.plan_add.result _ c.in_ok-comes.was c.plan_add.ensures.ends)) c.commit_planned.ensures.ends

pub returns-in_err-goes-clause-forgets : goal.returns-in_err-goes-clause-forgets
returns-in_err-goes-clause-forgets g c = let p = err_from_is_err_and c.from_residual.result c.from_residual.ensures.1 in never_ok _ _ p.0 p.1

pub returns-in_err-comes-clause-forgets : goal.returns-in_err-comes-clause-forgets
returns-in_err-comes-clause-forgets g c = let p = err_from_is_err_and c.from_residual-in_err-comes.result c.from_residual-in_err-comes.ensures.1 in never_ok _ _ p.0 p.1
