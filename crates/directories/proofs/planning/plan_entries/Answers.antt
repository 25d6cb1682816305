use Rattle.rio_base.proofs.Rules.{ends_by_well}
use Rattle.node_pages.proofs.Ends.{ends_read, ends_read_memory}
use Rattle.directories.proofs.Common.{err_from_is_err_and}
use Rattle.directories.proofs.PlannedRows.{entries_planned}
use Rattle.node_pages.proofs.EndsOn.{if_err}
use Rattle.directories.proofs.planning.plan_entries.Goals as goal

pub returns-clause-ok : goal.returns-clause-ok
returns-clause-ok g c = entries_planned c.args.shape.now (g.V.Blocks.seen c.args.v.now) (g.V.Volume.kept c.args.v.now) (g.V.Blocks.seen c.plan_smaller.new.v) (g.V.Volume.kept c.plan_smaller.new.v) c.args.dir c.args.len c.args.inode.now c.in_ok-change.change c.args.entries.now _ c.requires.can c.requires.ready c.in_ok-change.ensures.leaves c.requires.inode c.requires.less c.requires.few c.in_ok-change.ensures.ok
    (record { dir = c.in_ok-with_entries.ensures.dir; inode = c.in_ok-with_entries.ensures.inode; edits = c.in_ok-with_entries.ensures.edits; taken = c.in_ok-with_entries.ensures.taken; freed = c.in_ok-with_entries.ensures.freed })

pub returns-in_err-change-clause-ends : goal.returns-in_err-change-clause-ends
returns-in_err-change-clause-ends g c =
    let p = err_from_is_err_and c.from_residual.result c.from_residual.ensures.1 in
    ends_read _ _ c.plan_smaller.result c.from_residual.result _ _ c.in_err-change.was p.1 p.2 c.plan_smaller.ensures.ends

pub returns-in_err-with_entries-clause-ends : goal.returns-in_err-with_entries-clause-ends
returns-in_err-with_entries-clause-ends g c =
    let p = err_from_is_err_and c.from_residual-in_err-with_entries.result c.from_residual-in_err-with_entries.ensures.1 in
    ends_read_memory _ _ c.from_residual-in_err-with_entries.result _ p.1 p.2 c.in_ok-change.ensures.ends.later (c.in_ok-change.ensures.ends.runs (λ stop. cc))

pub returns-clause-ends : goal.returns-clause-ends
returns-clause-ends g c = ends_by_well _ _ _ _ c.in_ok-change.ensures.ends.later (c.in_ok-change.ensures.ends.runs (λ stop. cc)) (λ a. cc) (λ a. cc)

pub returns-in_err-change-clause-ok : goal.returns-in_err-change-clause-ok
returns-in_err-change-clause-ok g c = if_err c.from_residual.result _ c.from_residual.ensures.0

pub returns-in_err-with_entries-clause-ok : goal.returns-in_err-with_entries-clause-ok
returns-in_err-with_entries-clause-ok g c = if_err c.from_residual-in_err-with_entries.result _ c.from_residual-in_err-with_entries.ensures.0
