use Rattle.test_objects.specs.ListVolumes.{list_kept, list_seen}
use Rattle.directories.proofs.Common.{held_of, if_ok_map}
use Rattle.directories.specs.Plans.{PlansDir}
use Rattle.directories.specs.RowChanges.{RemovesRow}
use Rattle.directories_tests.specs.TestDirs.{CanMake}
use Rattle.directories.proofs.CanRead.{dir_ino}
use Rattle.directories_tests.proofs.PlansMade.{can_make, dirs_left, remove_keeps}
use Rattle.directories_tests.proofs.dirs.plan_gone.Goals as goal

pub returns-clause-can : goal.returns-clause-can
returns-clause-can c =
    let shape = c.args.shape.now in
    let x = list_seen c.args.v.now in
    let k = list_kept c.args.v.now in
    let y = list_seen c.plan_remove.new.v in
    let j = list_kept c.plan_remove.new.v in
    let d = c.args.dir.0 in
    let slot = c.args.slot in
    let kind = c.requires.dirs.dirs d c.requires.dir in
    if_ok_map (PlansDir shape x.words y j d (RemovesRow slot)) (CanMake shape y j) c.plan_remove.result
    (λ change p. can_make shape x k y j d (RemovesRow slot) change c.requires.dirs c.requires.dir (dir_ino shape x.words d kind) c.plan_remove.ensures.leaves (λ h row. remove_keeps (held_of shape x.words d) h slot row) p) c.plan_remove.ensures.ok

pub returns-clause-dirs : goal.returns-clause-dirs
returns-clause-dirs c = dirs_left c.args.shape.now _ _ _ _ c.requires.dirs c.plan_remove.ensures.leaves
