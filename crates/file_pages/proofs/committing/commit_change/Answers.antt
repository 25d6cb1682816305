use Rattle.rio_base.proofs.BlockRules.{shape_dropped}
use Rattle.rio_base.proofs.BlockSets.{caches_by_drops, caches_by_trans}
use Rattle.file_pages.proofs.Common.{Applied, caches_by_one, ends_by_after, err_from_is_err_and, firm_trans, inl, inr, refl, subst, sym, ◌then◌, ◌∙◌}
use Rattle.node_pages.specs.Changes.{size_update}
use Rattle.file_pages.proofs.Prepared.{change_of, committed_done, committed_err, committed_stop}
use Rattle.node_pages.proofs.Ends.{ends_vol_size, ends_well_ok, unrefused_ok, unrefused_vol}
use Rattle.file_pages.proofs.SizeEnds.{size_halted, unrefused_stop}
use Rattle.node_pages.proofs.EndsOn.{if_err}
use Rattle.file_pages.proofs.committing.commit_change.Goals as goal

pub returns-in_err-open_change-clause-leaves : goal.returns-in_err-open_change-clause-leaves
returns-in_err-open_change-clause-leaves g c = λ f m h.
    let p = err_from_is_err_and c.from_residual.result c.from_residual.ensures.1 in
    committed_err c.args.shape.now f _ _ c.args.i.0 m c.args.change.now _ _ c.open_change.result _ c.from_residual.result p.0 c.in_err-open_change.was p.1 p.2 (λ is. let undone = c.open_change.ensures.fault is in (undone.0, undone.1, c.open_change.ensures.standing)) (inl c.open_change.ensures.standing) c.open_change.ensures.shape c.open_change.ensures.caches c.open_change.ensures.firm h

pub returns-in_err-open_change-clause-change : goal.returns-in_err-open_change-clause-change
returns-in_err-open_change-clause-change g c = if_err c.from_residual.result _ c.from_residual.ensures.0

pub returns-in_err-open_change-clause-other : goal.returns-in_err-open_change-clause-other
returns-in_err-open_change-clause-other g c = let p = err_from_is_err_and c.from_residual.result c.from_residual.ensures.1 in unrefused_vol c.from_residual.result _ p.0 p.1 p.2

pub returns-in_err-open_change-clause-ends : goal.returns-in_err-open_change-clause-ends
returns-in_err-open_change-clause-ends g c = let p = err_from_is_err_and c.from_residual.result c.from_residual.ensures.1 in ends_vol_size _ _ c.open_change.result c.from_residual.result _ p.0 c.in_err-open_change.was p.1 p.2 c.open_change.ensures.ends

pub returns-in_err-apply-clause-leaves : goal.returns-in_err-apply-clause-leaves
returns-in_err-apply-clause-leaves g c = λ f m h.
    let p = err_from_is_err_and c.from_residual-in_err-apply.result c.from_residual-in_err-apply.ensures.1 in
    committed_stop c.args.shape.now f _ _ c.args.i.0 m c.args.change.now _ _ c.from_residual-in_err-apply.result p.0 p.1 p.2 (inl (c.apply.ensures.standing ∙ c.open_change.ensures.standing)) c.apply.ensures.shape (caches_by_trans _ _ _ _ c.open_change.ensures.caches (caches_by_one _ _ _ _ _ c.apply.ensures.caches (inl refl, refl))) (firm_trans _ _ _ c.open_change.ensures.firm c.apply.ensures.firm) h

pub returns-in_err-apply-clause-change : goal.returns-in_err-apply-clause-change
returns-in_err-apply-clause-change g c = if_err c.from_residual-in_err-apply.result _ c.from_residual-in_err-apply.ensures.0

pub returns-in_err-apply-clause-goes : goal.returns-in_err-apply-clause-goes
returns-in_err-apply-clause-goes g c = c.open_change.ensures.goes then c.apply.ensures.goes

pub returns-in_err-apply-clause-other : goal.returns-in_err-apply-clause-other
returns-in_err-apply-clause-other g c = let p = err_from_is_err_and c.from_residual-in_err-apply.result c.from_residual-in_err-apply.ensures.1 in unrefused_stop c.from_residual-in_err-apply.result p.0 p.1 p.2

pub returns-in_err-apply-clause-ends : goal.returns-in_err-apply-clause-ends
returns-in_err-apply-clause-ends g c = let p = err_from_is_err_and c.from_residual-in_err-apply.result c.from_residual-in_err-apply.ensures.1 in ends_by_after _ _ _ _ _ c.open_change.ensures.ends.later c.in_ok-open_change.ensures.ends.cause (size_halted _ _ c.apply.result c.from_residual-in_err-apply.result _ p.0 c.in_err-apply.was p.1 p.2 c.apply.ensures.ends)

pub returns-in_err-commit-clause-leaves : goal.returns-in_err-commit-clause-leaves
returns-in_err-commit-clause-leaves g c = λ f m h.
    let p = err_from_is_err_and c.from_residual-in_err-commit.result c.from_residual-in_err-commit.ensures.1 in
    committed_stop c.args.shape.now f _ _ c.args.i.0 m c.args.change.now _ _ c.from_residual-in_err-commit.result p.0 p.1 p.2
    (elim c.commit.ensures.stopped [ inl before ↦ inl (before ∙ c.apply.ensures.standing ∙ c.open_change.ensures.standing) | inr new ↦ inr (subst (λ f. Applied c.args.shape.now (size_update c.args.i.0 c.args.change.now) (g.V.Blocks.seen c.args.v.now).words f) (sym new) (subst (λ f. Applied c.args.shape.now (size_update c.args.i.0 c.args.change.now) f (g.V.Blocks.seen c.apply.new.v).words) c.in_ok-open_change.ensures.ok.2 c.in_ok-apply.ensures.ok)) ])
    (shape_dropped _ _ _ c.apply.ensures.shape c.commit.ensures.looks.count c.commit.ensures.drops) (caches_by_trans _ _ _ _ (caches_by_trans _ _ _ _ c.open_change.ensures.caches (caches_by_one _ _ _ _ _ c.apply.ensures.caches (inl refl, refl))) (caches_by_drops _ _ _ c.commit.ensures.drops)) (firm_trans _ _ _ (firm_trans _ _ _ c.open_change.ensures.firm c.apply.ensures.firm) c.commit.ensures.firm) h

pub returns-in_err-commit-clause-change : goal.returns-in_err-commit-clause-change
returns-in_err-commit-clause-change g c = if_err c.from_residual-in_err-commit.result _ c.from_residual-in_err-commit.ensures.0

pub returns-in_err-commit-clause-goes : goal.returns-in_err-commit-clause-goes
returns-in_err-commit-clause-goes g c = c.open_change.ensures.goes then c.apply.ensures.goes then c.commit.ensures.goes

pub returns-in_err-commit-clause-other : goal.returns-in_err-commit-clause-other
returns-in_err-commit-clause-other g c = let p = err_from_is_err_and c.from_residual-in_err-commit.result c.from_residual-in_err-commit.ensures.1 in unrefused_stop c.from_residual-in_err-commit.result p.0 p.1 p.2

pub returns-in_err-commit-clause-ends : goal.returns-in_err-commit-clause-ends
returns-in_err-commit-clause-ends g c = let p = err_from_is_err_and c.from_residual-in_err-commit.result c.from_residual-in_err-commit.ensures.1 in ends_by_after _ _ _ _ _ c.open_change.ensures.ends.later c.in_ok-open_change.ensures.ends.cause (ends_by_after _ _ _ _ _ c.apply.ensures.ends.later c.in_ok-apply.ensures.ends.cause (size_halted _ _ c.commit.result c.from_residual-in_err-commit.result _ p.0 c.in_err-commit.was p.1 p.2 c.commit.ensures.ends))

pub returns-clause-leaves : goal.returns-clause-leaves
returns-clause-leaves g c = λ f m h.
    committed_done c.args.shape.now f _ _ c.args.i.0 m c.args.change.now _ _ (subst (λ f. Applied c.args.shape.now (size_update c.args.i.0 c.args.change.now) (g.V.Blocks.seen c.args.v.now).words f) (sym c.commit.ensures.looks.words) (subst (λ f. Applied c.args.shape.now (size_update c.args.i.0 c.args.change.now) f (g.V.Blocks.seen c.apply.new.v).words) c.in_ok-open_change.ensures.ok.2 c.in_ok-apply.ensures.ok), c.in_ok-commit.ensures.ok.0 ∙ sym c.commit.ensures.looks.words, c.in_ok-commit.ensures.ok.1) (shape_dropped _ _ _ c.apply.ensures.shape c.commit.ensures.looks.count c.commit.ensures.drops) (caches_by_trans _ _ _ _ (caches_by_trans _ _ _ _ c.open_change.ensures.caches (caches_by_one _ _ _ _ _ c.apply.ensures.caches (inl refl, refl))) (caches_by_drops _ _ _ c.commit.ensures.drops)) (firm_trans _ _ _ (firm_trans _ _ _ c.open_change.ensures.firm c.apply.ensures.firm) c.commit.ensures.firm) h

pub returns-clause-change : goal.returns-clause-change
returns-clause-change g c = λ f m h. change_of c.args.shape.now f _ _ c.args.i.0 m c.args.change.now _ h (subst (λ f. Applied c.args.shape.now (size_update c.args.i.0 c.args.change.now) (g.V.Blocks.seen c.args.v.now).words f) (sym c.commit.ensures.looks.words) (subst (λ f. Applied c.args.shape.now (size_update c.args.i.0 c.args.change.now) f (g.V.Blocks.seen c.apply.new.v).words) c.in_ok-open_change.ensures.ok.2 c.in_ok-apply.ensures.ok))

pub returns-clause-goes : goal.returns-clause-goes
returns-clause-goes g c = c.open_change.ensures.goes then c.apply.ensures.goes then c.commit.ensures.goes

pub returns-clause-other : goal.returns-clause-other
returns-clause-other g c = unrefused_ok _

pub returns-clause-ends : goal.returns-clause-ends
returns-clause-ends g c = ends_by_after _ _ _ _ _ c.open_change.ensures.ends.later c.in_ok-open_change.ensures.ends.cause (ends_by_after _ _ _ _ _ c.apply.ensures.ends.later c.in_ok-apply.ensures.ends.cause (ends_well_ok _ _ _ c.commit.ensures.ends.later c.in_ok-commit.ensures.ends.cause))
