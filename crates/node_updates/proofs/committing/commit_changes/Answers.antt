use Rattle.inode_table.proofs.Exits.{ends_err}
use Rattle.rio_base.proofs.BlockRules.{ends_later}
use Rattle.node_updates.proofs.UpdateEnds.{ends_halted, ends_unhalted}
use Rattle.request_ends.proofs.Failed.{never_ok}
use Rattle.request_ends.proofs.Common.{err_from_is_err_and, ◌then◌}
use Rattle.std.proofs.Common.{rules}
use Rattle.node_updates.proofs.Several.{commits_done, commits_failed, commits_stopped, freed_place, touched_then}
use Rattle.node_updates.proofs.committing.commit_changes.Goals as goal

pub forget_freed-requires-clause-places : goal.forget_freed-requires-clause-places
forget_freed-requires-clause-places g c = freed_place _ (g.V.Blocks.seen c.args.v.now) _ _ c.requires.can c.change_nodes.ensures.shape

pub returns-in_err-change_nodes-clause-commits : goal.returns-in_err-change_nodes-clause-commits
returns-in_err-change_nodes-clause-commits g c = commits_failed c.args.shape.now c.args.changes.now (g.V.Blocks.seen c.args.v.now) (g.V.Volume.kept c.args.v.now) (g.V.Blocks.seen c.change_nodes.new.v) (g.V.Volume.kept c.change_nodes.new.v) c.from_residual.result c.from_residual.ensures.0 (search rules) c.change_nodes.ensures.stopped c.change_nodes.ensures.firm

pub returns-in_err-change_nodes-clause-touched : goal.returns-in_err-change_nodes-clause-touched
returns-in_err-change_nodes-clause-touched g c = record { has_shape = c.change_nodes.ensures.shape; caches = c.change_nodes.ensures.caches }

pub returns-in_err-forget_freed-clause-commits : goal.returns-in_err-forget_freed-clause-commits
returns-in_err-forget_freed-clause-commits g c =
    let made = c.in_ok-change_nodes.ensures.ok in
    let call = c.forget_freed.ensures in
    commits_stopped c.args.shape.now c.args.changes.now (g.V.Blocks.seen c.args.v.now) (g.V.Volume.kept c.args.v.now) (g.V.Blocks.seen c.change_nodes.new.v).words (g.V.Volume.kept c.change_nodes.new.v) (g.V.Blocks.seen c.forget_freed.new.v) (g.V.Volume.kept c.forget_freed.new.v) c.from_residual-in_err-forget_freed.result (search rules) made.0 made.1 c.change_nodes.ensures.firm call.standing call.firm

pub returns-in_err-forget_freed-clause-touched : goal.returns-in_err-forget_freed-clause-touched
returns-in_err-forget_freed-clause-touched g c = touched_then _ _ _ _ _ c.change_nodes.ensures.shape c.change_nodes.ensures.caches c.forget_freed.ensures.count c.forget_freed.ensures.drops

pub returns-clause-commits : goal.returns-clause-commits
returns-clause-commits g c =
    let made = c.in_ok-change_nodes.ensures.ok in
    let call = c.forget_freed.ensures in
    commits_done {T = Unit {0}} c.args.shape.now c.args.changes.now (g.V.Blocks.seen c.args.v.now) (g.V.Volume.kept c.args.v.now) (g.V.Blocks.seen c.change_nodes.new.v).words (g.V.Volume.kept c.change_nodes.new.v) (g.V.Blocks.seen c.forget_freed.new.v) (g.V.Volume.kept c.forget_freed.new.v) tt made.0 made.1 c.change_nodes.ensures.firm call.standing call.firm call.words call.idle

pub returns-clause-touched : goal.returns-clause-touched
returns-clause-touched g c = touched_then _ _ _ _ _ c.change_nodes.ensures.shape c.change_nodes.ensures.caches c.forget_freed.ensures.count c.forget_freed.ensures.drops

pub returns-in_err-change_nodes-clause-forgotten : goal.returns-in_err-change_nodes-clause-forgotten
returns-in_err-change_nodes-clause-forgotten g c = let p = err_from_is_err_and c.from_residual.result c.from_residual.ensures.1 in never_ok _ _ p.0 p.1

pub returns-in_err-change_nodes-clause-ends : goal.returns-in_err-change_nodes-clause-ends
returns-in_err-change_nodes-clause-ends g c = let p = err_from_is_err_and c.from_residual.result c.from_residual.ensures.1 in ends_err _ _ c.change_nodes.result c.from_residual.result _ p.0 c.in_err-change_nodes.was p.1 p.2 c.change_nodes.ensures.ends

pub returns-in_err-forget_freed-clause-forgotten : goal.returns-in_err-forget_freed-clause-forgotten
returns-in_err-forget_freed-clause-forgotten g c = let p = err_from_is_err_and c.from_residual-in_err-forget_freed.result c.from_residual-in_err-forget_freed.ensures.1 in never_ok _ _ p.0 p.1

pub returns-in_err-forget_freed-clause-goes : goal.returns-in_err-forget_freed-clause-goes
returns-in_err-forget_freed-clause-goes g c = c.change_nodes.ensures.goes then c.forget_freed.ensures.goes

pub returns-in_err-forget_freed-clause-ends : goal.returns-in_err-forget_freed-clause-ends
returns-in_err-forget_freed-clause-ends g c = let p = err_from_is_err_and c.from_residual-in_err-forget_freed.result c.from_residual-in_err-forget_freed.ensures.1 in ends_later _ _ _ _ c.change_nodes.ensures.ends.later c.in_ok-change_nodes.ensures.ends.cause (ends_halted _ _ c.forget_freed.result c.from_residual-in_err-forget_freed.result _ p.0 c.in_err-forget_freed.was p.1 p.2 c.forget_freed.ensures.ends)

pub returns-clause-goes : goal.returns-clause-goes
returns-clause-goes g c = c.change_nodes.ensures.goes then c.forget_freed.ensures.goes

pub returns-clause-ends : goal.returns-clause-ends
returns-clause-ends g c = ends_later _ _ _ _ c.change_nodes.ensures.ends.later c.in_ok-change_nodes.ensures.ends.cause (ends_unhalted _ _ _ _ c.in_ok-forget_freed.ensures.ends)
