use Rattle.test_objects.specs.ListVolumes.{list_kept, list_seen}
use Rattle.directories.proofs.Common.{held_of, if_ok_map}
use Rattle.directories.specs.Plans.{PlansDir}
use Rattle.directories.specs.RowChanges.{ReplacesRow}
use Rattle.directories_tests.specs.TestDirs.{CanMake}
use Rattle.directories.proofs.CanRead.{dir_ino}
use Rattle.directories_tests.proofs.PlansMade.{can_make, dirs_left, replace_keeps}
use Rattle.directories_tests.proofs.dirs.plan_both.Goals as goal

pub plan_replace-requires-clause-slot : goal.plan_replace-requires-clause-slot
plan_replace-requires-clause-slot c = record { dir = c.requires.dirs.dirs c.args.dir.0 c.requires.dir; within = c.requires.slot }

pub plan_replace-requires-clause-gone : goal.plan_replace-requires-clause-gone
plan_replace-requires-clause-gone c = record { dir = c.requires.dirs.dirs c.args.dir.0 c.requires.dir; within = c.requires.gone }

pub returns-clause-can : goal.returns-clause-can
returns-clause-can c =
    let shape = c.args.shape.now in
    let x = list_seen c.args.v.now in
    let k = list_kept c.args.v.now in
    let y = list_seen c.plan_replace.new.v in
    let j = list_kept c.plan_replace.new.v in
    let d = c.args.dir.0 in
    let slot = c.args.slot in
    let gone = c.args.gone in
    let i = c.args.i.0 in
    let kind = c.requires.dirs.dirs d c.requires.dir in
    let named = (c.requires.dirs.entries.each d slot (record { dir = kind; within = c.requires.slot })).0 in
    if_ok_map (PlansDir shape x.words y j d (ReplacesRow slot i gone)) (CanMake shape y j) c.plan_replace.result
    (λ change p. can_make shape x k y j d (ReplacesRow slot i gone) change c.requires.dirs c.requires.dir (dir_ino shape x.words d kind) c.plan_replace.ensures.leaves (λ h row. replace_keeps (held_of shape x.words d) h slot i gone named c.requires.ino row) p) c.plan_replace.ensures.ok

pub returns-clause-dirs : goal.returns-clause-dirs
returns-clause-dirs c = dirs_left c.args.shape.now _ _ _ _ c.requires.dirs c.plan_replace.ensures.leaves
