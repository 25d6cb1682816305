use Rattle.request_ends.proofs.Common.{sym, ap, subst, Result, VolFail, err_from_is_err_and}
use Rattle.node_updates.specs.Committing.{Commits}
use Rattle.node_updates.specs.Planned.{told}
use Rattle.request_ends.proofs.CallEnds.{ends_ok, ends_vol, well_vol}
use Rattle.node_updates.proofs.Planning.{ends_told, told_err}
use Rattle.node_updates.proofs.committing.commit_planned.Goals as goal

pub returns-in_err-commit_changes-clause-leaves : goal.returns-in_err-commit_changes-clause-leaves
returns-in_err-commit_changes-clause-leaves g c =
    let failed = err_from_is_err_and c.from_residual.result c.from_residual.ensures.1 in
    λ reply x k s a h. ends_told reply c.args.shape.now x k (g.V.Blocks.seen c.commit_changes.new.v) (g.V.Volume.kept c.commit_changes.new.v) s a c.commit_changes.result c.from_residual.result (told_err c.commit_changes.result c.from_residual.result _ c.in_err-commit_changes.was failed) (h.ends (g.V.Blocks.seen c.commit_changes.new.v) (g.V.Volume.kept c.commit_changes.new.v) c.commit_changes.result c.commit_changes.ensures.commits c.commit_changes.ensures.touched)

pub returns-in_err-commit_changes-clause-ends : goal.returns-in_err-commit_changes-clause-ends
returns-in_err-commit_changes-clause-ends g c =
    let failed = err_from_is_err_and c.from_residual.result c.from_residual.ensures.1 in
    ends_vol _ _ c.commit_changes.result c.from_residual.result _ failed.0 c.in_err-commit_changes.was failed.1 failed.2 c.commit_changes.ensures.ends

pub returns-clause-leaves : goal.returns-clause-leaves
returns-clause-leaves g c =
    λ reply x k s a h. ends_told reply c.args.shape.now x k (g.V.Blocks.seen c.commit_changes.new.v) (g.V.Volume.kept c.commit_changes.new.v) s a c.commit_changes.result _ (sym (ap (λ (v : Result (Unit {0}) VolFail). told v) c.in_ok-commit_changes.was)) (h.ends (g.V.Blocks.seen c.commit_changes.new.v) (g.V.Volume.kept c.commit_changes.new.v) c.commit_changes.result c.commit_changes.ensures.commits c.commit_changes.ensures.touched)

pub returns-clause-forgets : goal.returns-clause-forgets
returns-clause-forgets g c =
    let z = g.V.Blocks.seen c.commit_changes.new.v in
    let l = g.V.Volume.kept c.commit_changes.new.v in
    let commits = subst (λ (r : Result (Unit {0}) VolFail). Commits c.args.shape.now c.args.changes.now (g.V.Blocks.seen c.args.v.now) (g.V.Volume.kept c.args.v.now) z l r) c.in_ok-commit_changes.was c.commit_changes.ensures.commits in
    λ x h. h.forgets z l commits c.commit_changes.ensures.touched c.in_ok-commit_changes.ensures.forgotten

pub returns-clause-ends : goal.returns-clause-ends
returns-clause-ends g c = ends_ok _ _ _ (well_vol _ _ c.commit_changes.result _ c.in_ok-commit_changes.was c.commit_changes.ensures.ends)
