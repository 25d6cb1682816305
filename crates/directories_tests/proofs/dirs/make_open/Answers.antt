use Rattle.directories.proofs.Common.{refl, subst, inl, None, caches_by_one, caches_by_trans, BlockWords, firm_trans, Applied, IsUpdated}
use Rattle.directories.proofs.MakingOrder.{plan_applies}
use Rattle.directories.specs.Plans.{dir_update}
use Rattle.directories_tests.specs.TestDirs.{KeepsRows}
use Rattle.directories_tests.proofs.BothPlans.{other_can}
use Rattle.directories_tests.proofs.OpenPlans.{can_touch}
use Rattle.directories_tests.proofs.PlansMade.{plan_order}
use Rattle.directories_tests.proofs.dirs.make_open.Goals as goal

pub touch_plan-requires-clause-can : goal.touch_plan-requires-clause-can
touch_plan-requires-clause-can g c = can_touch c.args.shape.now _ _ c.args.change.now c.requires.can

pub apply-requires-clause-can : goal.apply-requires-clause-can
apply-requires-clause-can g c = plan_applies c.args.shape.now _ _ _ _ KeepsRows c.args.change.now c.requires.can.plan

pub returns-clause-dirs : goal.returns-clause-dirs
returns-clause-dirs g c =
    let shape = c.args.shape.now in
    let change = c.args.change.now in
    let y = g.V.Blocks.seen c.args.v.now in
    let m = g.V.Blocks.seen c.touch_plan.new.v in
    let z = g.V.Blocks.seen c.apply.new.v in
    plan_order shape y (g.V.Volume.kept c.args.v.now) z (g.V.Volume.kept c.apply.new.v) change c.requires.dirs c.requires.can
    (subst (λ (f : BlockWords). Applied shape (dir_update change) f z.words) c.touch_plan.ensures.looks.words c.in_ok-apply.ensures.ok)
    c.apply.ensures.shape
    (caches_by_trans (IsUpdated change.dir.0 change.edits) y m z c.touch_plan.ensures.caches (caches_by_one (IsUpdated change.dir.0 change.edits) m z 1 None c.apply.ensures.caches (inl refl, refl)))
    (firm_trans _ _ _ c.touch_plan.ensures.firm c.apply.ensures.firm)

pub returns-clause-other : goal.returns-clause-other
returns-clause-other g c =
    let shape = c.args.shape.now in
    let change = c.args.change.now in
    let y = g.V.Blocks.seen c.args.v.now in
    let m = g.V.Blocks.seen c.touch_plan.new.v in
    let z = g.V.Blocks.seen c.apply.new.v in
    λ d can away none. other_can shape y (g.V.Volume.kept c.args.v.now) z (g.V.Volume.kept c.apply.new.v) change d c.requires.dirs c.requires.can can away none
    (subst (λ (f : BlockWords). Applied shape (dir_update change) f z.words) c.touch_plan.ensures.looks.words c.in_ok-apply.ensures.ok)
    (caches_by_trans (IsUpdated change.dir.0 change.edits) y m z c.touch_plan.ensures.caches (caches_by_one (IsUpdated change.dir.0 change.edits) m z 1 None c.apply.ensures.caches (inl refl, refl)))
    (firm_trans _ _ _ c.touch_plan.ensures.firm c.apply.ensures.firm)
