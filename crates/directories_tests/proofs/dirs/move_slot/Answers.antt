use Rattle.test_objects.specs.ListVolumes.{list_kept, list_seen}
use Rattle.directories.proofs.Common.{ℕ, ◌+◌, ◌≤◌, sym, subst, arith, Held, held_of}
use Rattle.directories.specs.RowChanges.{AddsRow, RemovesRow}
use Rattle.directories.specs.Rows.{HasRow}
use Rattle.directories_tests.specs.TestDirs.{IsTestDir}
use Rattle.directories_tests.proofs.BothPlans.{still_can, takes_none}
use Rattle.directories.proofs.CanRead.{dir_ino}
use Rattle.directories_tests.proofs.PlansMade.{add_keeps, can_make, dirs_can, dirs_left, left_held, remove_keeps}
use Rattle.directories_tests.proofs.dirs.move_slot.Goals as goal

pub plan_remove-requires-clause-slot : goal.plan_remove-requires-clause-slot
plan_remove-requires-clause-slot c = record { dir = c.requires.dirs.dirs 1 (record { from = omega arith; to = omega arith }); within = c.requires.slot }

pub plan_add-requires-clause-ready : goal.plan_add-requires-clause-ready
plan_add-requires-clause-ready c = (dirs_left c.args.shape.now _ _ _ _ c.requires.dirs c.plan_remove.ensures.leaves).ready

pub plan_add-requires-clause-entries : goal.plan_add-requires-clause-entries
plan_add-requires-clause-entries c = (dirs_left c.args.shape.now _ _ _ _ c.requires.dirs c.plan_remove.ensures.leaves).entries

pub plan_add-requires-clause-dir : goal.plan_add-requires-clause-dir
plan_add-requires-clause-dir c = (dirs_left c.args.shape.now _ _ _ _ c.requires.dirs c.plan_remove.ensures.leaves).dirs 2 (record { from = omega arith; to = omega arith })

pub plan_add-requires-clause-room : goal.plan_add-requires-clause-room
plan_add-requires-clause-room c = subst (λ (all : ℕ → Held). (all 2).size + 64 ≤ 4292608) (sym (left_held c.args.shape.now _ _ c.requires.dirs.ready.order.mapped c.plan_remove.ensures.leaves.words)) c.requires.room

pub plan_add-requires-clause-absent : goal.plan_add-requires-clause-absent
plan_add-requires-clause-absent c = subst (λ (all : ℕ → Held). (n : ℕ) → HasRow (all 2) c.args.name.now n → ⊥) (sym (left_held c.args.shape.now _ _ c.requires.dirs.ready.order.mapped c.plan_remove.ensures.leaves.words)) c.requires.absent

pub make_both-requires-clause-can_first : goal.make_both-requires-clause-can_first
make_both-requires-clause-can_first c =
    let shape = c.args.shape.now in
    let x = list_seen c.args.v.now in
    let k = list_kept c.args.v.now in
    let y = list_seen c.plan_remove.new.v in
    let j = list_kept c.plan_remove.new.v in
    let goes = c.in_ok-goes.goes in
    let slot = c.args.slot in
    let at : IsTestDir 1 = record { from = omega arith; to = omega arith } in
    let h = c.requires.dirs in
    let left = c.plan_remove.ensures.leaves in
    let plans = c.in_ok-goes.ensures.ok in
    let can = can_make shape x k y j 1 (RemovesRow slot) goes h at (dir_ino shape x.words 1 (h.dirs 1 at)) left (λ m row. remove_keeps (held_of shape x.words 1) m slot row) plans in
    still_can shape y j _ _ goes (dirs_left shape x k y j h left) can (takes_none shape x y j 1 slot goes (dirs_can shape x k 1 h at) plans) c.plan_add.ensures.leaves

pub make_both-requires-clause-can_second : goal.make_both-requires-clause-can_second
make_both-requires-clause-can_second c =
    let shape = c.args.shape.now in
    let y = list_seen c.plan_remove.new.v in
    let j = list_kept c.plan_remove.new.v in
    let i = c.args.i.0 in
    let name = c.args.name.now in
    let at : IsTestDir 2 = record { from = omega arith; to = omega arith } in
    let h = dirs_left shape _ _ y j c.requires.dirs c.plan_remove.ensures.leaves in
    can_make shape y j _ _ 2 (AddsRow name i) c.in_ok-comes.comes h at (dir_ino shape y.words 2 (h.dirs 2 at)) c.plan_add.ensures.leaves (λ m row. add_keeps (held_of shape y.words 2) m name i c.requires.is_name c.requires.ino row) c.in_ok-comes.ensures.ok

pub make_both-requires-clause-two : goal.make_both-requires-clause-two
make_both-requires-clause-two c = λ same. let goes = c.in_ok-goes.ensures.ok.dir in let comes = c.in_ok-comes.ensures.ok.dir in omega (arith, same, goes, comes)

pub make_both-requires-clause-none : goal.make_both-requires-clause-none
make_both-requires-clause-none c = takes_none c.args.shape.now (list_seen c.args.v.now) (list_seen c.plan_remove.new.v) (list_kept c.plan_remove.new.v) 1 c.args.slot c.in_ok-goes.goes (dirs_can c.args.shape.now _ _ 1 c.requires.dirs (record { from = omega arith; to = omega arith })) c.in_ok-goes.ensures.ok

pub make_both-requires-clause-dirs : goal.make_both-requires-clause-dirs
make_both-requires-clause-dirs c = dirs_left c.args.shape.now _ _ _ _ (dirs_left c.args.shape.now _ _ _ _ c.requires.dirs c.plan_remove.ensures.leaves) c.plan_add.ensures.leaves
