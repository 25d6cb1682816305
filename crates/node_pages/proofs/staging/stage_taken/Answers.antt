use Rattle.node_pages.proofs.Staged.{beside_drops, cleared_here, beside_caches, beside_trans, fresh_name, fresh_named}
use Rattle.node_pages.proofs.Common.{err_from_is_err_and, ◌then◌, ◌∙◌, subst, sym, ◌<◌}
use Rattle.node_pages.proofs.EndsOn.{ends_halted, if_err, on_ok}
use Rattle.rio_base.proofs.BlockRules.{ends_later}
use Rattle.node_pages.proofs.staging.stage_taken.Goals as goal

pub returns-in_err-forget-clause-ends : goal.returns-in_err-forget-clause-ends
returns-in_err-forget-clause-ends g c = let p = err_from_is_err_and c.from_residual.result c.from_residual.ensures.1 in ends_halted _ _ c.forget.result c.from_residual.result _ p.0 c.in_err-forget.was p.1 p.2 c.forget.ensures.ends

pub returns-clause-goes : goal.returns-clause-goes
returns-clause-goes g c = c.forget.ensures.goes then c.fresh.ensures.goes

pub returns-clause-ends : goal.returns-clause-ends
returns-clause-ends g c = ends_later _ _ _ _ c.forget.ensures.ends.later c.in_ok-forget.ensures.ends.cause c.fresh.ensures.ends

pub returns-in_err-forget-clause-beside : goal.returns-in_err-forget-clause-beside
returns-in_err-forget-clause-beside g c = beside_drops _ _ _ _ _ c.forget.ensures.count c.forget.ensures.others c.forget.ensures.standing c.forget.ensures.firm c.forget.ensures.drops

pub returns-clause-zeros : goal.returns-clause-zeros
returns-clause-zeros g c = on_ok c.fresh.result _ _ (λ h w. cleared_here _ _ _ w h.0) c.fresh.ensures.ok

pub returns-clause-firm : goal.returns-clause-firm
returns-clause-firm g c = on_ok c.fresh.result _ _ (λ h. h.1) c.fresh.ensures.ok

pub returns-clause-beside : goal.returns-clause-beside
returns-clause-beside g c = beside_trans _ _ _ _ _ _ _ (beside_drops _ _ _ _ _ c.forget.ensures.count c.forget.ensures.others c.forget.ensures.standing c.forget.ensures.firm c.forget.ensures.drops) (beside_caches _ _ _ _ _ _ c.fresh.ensures.count c.fresh.ensures.others c.fresh.ensures.standing c.fresh.ensures.firm c.fresh.ensures.caches)

pub returns-in_err-forget-clause-firm : goal.returns-in_err-forget-clause-firm
returns-in_err-forget-clause-firm g c = if_err c.from_residual.result _ c.from_residual.ensures.0

pub returns-in_err-forget-clause-named : goal.returns-in_err-forget-clause-named
returns-in_err-forget-clause-named g c = if_err c.from_residual.result _ c.from_residual.ensures.0

pub returns-in_err-forget-clause-zeros : goal.returns-in_err-forget-clause-zeros
returns-in_err-forget-clause-zeros g c = if_err c.from_residual.result _ c.from_residual.ensures.0

pub fresh-requires-clause-name : goal.fresh-requires-clause-name
fresh-requires-clause-name g c = fresh_name _ _ _ c.name_of-name.ensures.range c.in_ok-forget.ensures.ok.1

pub fresh-requires-clause-place : goal.fresh-requires-clause-place
fresh-requires-clause-place g c = subst (λ n. c.args.b.0 < n) (sym c.forget.ensures.count) c.requires.place

pub returns-clause-named : goal.returns-clause-named
returns-clause-named g c = on_ok c.fresh.result _ _ (λ h on. fresh_named _ _ _ _ c.in_ok-forget.ensures.ok.1 c.fresh.ensures.caches on ∙ c.name_of-name.ensures.name) c.fresh.ensures.ok
