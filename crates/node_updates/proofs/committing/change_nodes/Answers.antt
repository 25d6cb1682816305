use Rattle.inode_table.proofs.Exits.{ends_err}
use Rattle.rio_base.proofs.BlockRules.{ends_later, shape_dropped}
use Rattle.node_updates.proofs.UpdateEnds.{ends_halted, ends_unhalted, fault_handed, never_fault}
use Rattle.request_ends.proofs.Failed.{never_ok}
use Rattle.request_ends.proofs.Common.{caches_by_trans, err_from_is_err_and, firm_trans, inl, ◌then◌, ◌∙◌}
use Rattle.rio_base.proofs.BlockSets.{caches_by_drops}
use Rattle.node_updates.proofs.Several.{makes_fit}
use Rattle.node_updates.proofs.committing.change_nodes.Goals as goal

pub make_changes-requires-clause-can : goal.make_changes-requires-clause-can
make_changes-requires-clause-can g c = makes_fit _ (g.V.Blocks.seen c.args.v.now) _ c.requires.can

pub returns-in_err-make_changes-clause-firm : goal.returns-in_err-make_changes-clause-firm
returns-in_err-make_changes-clause-firm g c = firm_trans _ _ _ c.open_changes.ensures.firm c.make_changes.ensures.firm

pub returns-in_err-make_changes-clause-goes : goal.returns-in_err-make_changes-clause-goes
returns-in_err-make_changes-clause-goes g c = c.open_changes.ensures.goes then c.make_changes.ensures.goes

pub returns-in_err-make_changes-clause-ends : goal.returns-in_err-make_changes-clause-ends
returns-in_err-make_changes-clause-ends g c = let p = err_from_is_err_and c.from_residual-in_err-make_changes.result c.from_residual-in_err-make_changes.ensures.1 in ends_later _ _ _ _ c.open_changes.ensures.ends.later c.in_ok-open_changes.ensures.ends.cause (ends_halted _ _ c.make_changes.result c.from_residual-in_err-make_changes.result _ p.0 c.in_err-make_changes.was p.1 p.2 c.make_changes.ensures.ends)

pub returns-in_err-commit-clause-shape : goal.returns-in_err-commit-clause-shape
returns-in_err-commit-clause-shape g c = shape_dropped _ _ _ c.make_changes.ensures.shape c.commit.ensures.looks.count c.commit.ensures.drops

pub returns-in_err-commit-clause-firm : goal.returns-in_err-commit-clause-firm
returns-in_err-commit-clause-firm g c = firm_trans _ _ _ (firm_trans _ _ _ c.open_changes.ensures.firm c.make_changes.ensures.firm) c.commit.ensures.firm

pub returns-in_err-commit-clause-goes : goal.returns-in_err-commit-clause-goes
returns-in_err-commit-clause-goes g c = c.open_changes.ensures.goes then c.make_changes.ensures.goes then c.commit.ensures.goes

pub returns-in_err-commit-clause-ends : goal.returns-in_err-commit-clause-ends
returns-in_err-commit-clause-ends g c = let p = err_from_is_err_and c.from_residual-in_err-commit.result c.from_residual-in_err-commit.ensures.1 in ends_later _ _ _ _ c.open_changes.ensures.ends.later c.in_ok-open_changes.ensures.ends.cause (ends_later _ _ _ _ c.make_changes.ensures.ends.later c.in_ok-make_changes.ensures.ends.cause (ends_halted _ _ c.commit.result c.from_residual-in_err-commit.result _ p.0 c.in_err-commit.was p.1 p.2 c.commit.ensures.ends))

pub returns-clause-fault : goal.returns-clause-fault
returns-clause-fault g c = λ is. absurd cc

pub returns-clause-shape : goal.returns-clause-shape
returns-clause-shape g c = shape_dropped _ _ _ c.make_changes.ensures.shape c.commit.ensures.looks.count c.commit.ensures.drops

pub returns-clause-firm : goal.returns-clause-firm
returns-clause-firm g c = firm_trans _ _ _ (firm_trans _ _ _ c.open_changes.ensures.firm c.make_changes.ensures.firm) c.commit.ensures.firm

pub returns-clause-goes : goal.returns-clause-goes
returns-clause-goes g c = c.open_changes.ensures.goes then c.make_changes.ensures.goes then c.commit.ensures.goes

pub returns-in_err-open_changes-clause-stopped : goal.returns-in_err-open_changes-clause-stopped
returns-in_err-open_changes-clause-stopped g c = inl c.open_changes.ensures.standing

pub returns-in_err-make_changes-clause-stopped : goal.returns-in_err-make_changes-clause-stopped
returns-in_err-make_changes-clause-stopped g c = inl (c.make_changes.ensures.standing ∙ c.open_changes.ensures.standing)

pub returns-in_err-make_changes-clause-caches : goal.returns-in_err-make_changes-clause-caches
returns-in_err-make_changes-clause-caches g c = caches_by_trans _ _ _ _ c.open_changes.ensures.caches c.make_changes.ensures.caches

pub returns-in_err-commit-clause-caches : goal.returns-in_err-commit-clause-caches
returns-in_err-commit-clause-caches g c = caches_by_trans _ _ _ _ (caches_by_trans _ _ _ _ c.open_changes.ensures.caches c.make_changes.ensures.caches) (caches_by_drops _ _ _ c.commit.ensures.drops)

pub returns-clause-caches : goal.returns-clause-caches
returns-clause-caches g c = caches_by_trans _ _ _ _ (caches_by_trans _ _ _ _ c.open_changes.ensures.caches c.make_changes.ensures.caches) (caches_by_drops _ _ _ c.commit.ensures.drops)

pub returns-in_err-open_changes-clause-ok : goal.returns-in_err-open_changes-clause-ok
returns-in_err-open_changes-clause-ok g c = let p = err_from_is_err_and c.from_residual.result c.from_residual.ensures.1 in never_ok _ _ p.0 p.1

pub returns-in_err-open_changes-clause-ends : goal.returns-in_err-open_changes-clause-ends
returns-in_err-open_changes-clause-ends g c = let p = err_from_is_err_and c.from_residual.result c.from_residual.ensures.1 in ends_err _ _ c.open_changes.result c.from_residual.result _ p.0 c.in_err-open_changes.was p.1 p.2 c.open_changes.ensures.ends

pub returns-in_err-open_changes-clause-fault : goal.returns-in_err-open_changes-clause-fault
returns-in_err-open_changes-clause-fault g c = let p = err_from_is_err_and c.from_residual.result c.from_residual.ensures.1 in λ is. let fault = c.open_changes.ensures.fault (fault_handed _ _ _ p.0 c.in_err-open_changes.was p.1 p.2 is) in (fault.0, fault.1, c.open_changes.ensures.standing)

pub returns-in_err-make_changes-clause-ok : goal.returns-in_err-make_changes-clause-ok
returns-in_err-make_changes-clause-ok g c = let p = err_from_is_err_and c.from_residual-in_err-make_changes.result c.from_residual-in_err-make_changes.ensures.1 in never_ok _ _ p.0 p.1

pub returns-in_err-make_changes-clause-fault : goal.returns-in_err-make_changes-clause-fault
returns-in_err-make_changes-clause-fault g c = let p = err_from_is_err_and c.from_residual-in_err-make_changes.result c.from_residual-in_err-make_changes.ensures.1 in never_fault _ p.0 _ p.1 p.2

pub returns-in_err-commit-clause-ok : goal.returns-in_err-commit-clause-ok
returns-in_err-commit-clause-ok g c = let p = err_from_is_err_and c.from_residual-in_err-commit.result c.from_residual-in_err-commit.ensures.1 in never_ok _ _ p.0 p.1

pub returns-in_err-commit-clause-fault : goal.returns-in_err-commit-clause-fault
returns-in_err-commit-clause-fault g c = let p = err_from_is_err_and c.from_residual-in_err-commit.result c.from_residual-in_err-commit.ensures.1 in never_fault _ p.0 _ p.1 p.2

pub returns-clause-ends : goal.returns-clause-ends
returns-clause-ends g c = ends_later _ _ _ _ c.open_changes.ensures.ends.later c.in_ok-open_changes.ensures.ends.cause (ends_later _ _ _ _ c.make_changes.ensures.ends.later c.in_ok-make_changes.ensures.ends.cause (ends_unhalted _ _ _ _ c.in_ok-commit.ensures.ends))
