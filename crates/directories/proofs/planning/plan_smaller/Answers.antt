use Rattle.directories.proofs.Common.{ap, numbers, subst, PlansSize, ◌∙◌}
use Rattle.node_pages.specs.declared.failures.SizeFail.TheVariants.{Fault, Stopped, Memory}
use Rattle.directories.proofs.EndsSized.{ends_sized, ends_unsized}
use Rattle.directories.proofs.PlannedSizes.{dir_fits, none_skipped, none_twice, plans_dir_inode}
use Rattle.directories.proofs.planning.plan_smaller.Goals as goal

pub plan_size-requires-clause-inode : goal.plan_size-requires-clause-inode
plan_size-requires-clause-inode g c = plans_dir_inode c.args.shape.now (g.V.Blocks.seen c.args.v.now) c.args.dir.0 c.args.inode.now c.requires.can c.requires.inode

pub plan_size-requires-clause-fits : goal.plan_size-requires-clause-fits
plan_size-requires-clause-fits g c = λ most. dir_fits c.args.shape.now (g.V.Blocks.seen c.args.v.now) c.args.dir.0 c.args.len c.args.inode.now c.requires.can c.requires.inode c.requires.whole most

pub plan_size-requires-clause-skip : goal.plan_size-requires-clause-skip
plan_size-requires-clause-skip g c = none_skipped _ _ (c.from-skip.ensures ∙ c.new.ensures.items)

pub plan_size-requires-clause-once : goal.plan_size-requires-clause-once
plan_size-requires-clause-once g c = none_twice _ (ap numbers (c.from-skip.ensures ∙ c.new.ensures.items))

pub returns-in-Ok-clause-ok : goal.returns-in-Ok-clause-ok
returns-in-Ok-clause-ok g c =
    let none = ap numbers (c.from-skip.ensures ∙ c.new.ensures.items) in
    subst (λ skip. PlansSize c.args.shape.now (g.V.Blocks.seen c.args.v.now).words (g.V.Blocks.seen c.plan_size.new.v) (g.V.Volume.kept c.plan_size.new.v) c.args.dir.0 c.args.inode.now c.args.len skip c.in-Ok.change) none c.in-Ok.ensures.ok

pub returns-in-Ok-clause-ends : goal.returns-in-Ok-clause-ends
returns-in-Ok-clause-ends g c = ends_sized _ _ _ _ c.in-Ok.ensures.ends

pub returns-in-Err-Fault-clause-ends : goal.returns-in-Err-Fault-clause-ends
returns-in-Err-Fault-clause-ends g c = ends_unsized _ _ _ Fault c.in-Err-Fault.field-0-is c.in-Err-Fault.ensures.ends

pub returns-in-Err-Stopped-clause-ends : goal.returns-in-Err-Stopped-clause-ends
returns-in-Err-Stopped-clause-ends g c = ends_unsized _ _ _ Stopped c.in-Err-Stopped.field-0-is c.in-Err-Stopped.ensures.ends

pub returns-in-Err-Memory-clause-ends : goal.returns-in-Err-Memory-clause-ends
returns-in-Err-Memory-clause-ends g c = ends_unsized _ _ _ Memory c.in-Err-Memory.field-0-is c.in-Err-Memory.ensures.ends
