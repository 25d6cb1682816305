use Rattle.rio_base.specs.Rules.{firm_refl}
use Rattle.rio_base.proofs.BlockSets.{caches_by_refl}
use Rattle.request_ends.proofs.Failed.{never_ok}
use Rattle.node_updates.proofs.UpdateEnds.{halts_later}
use Rattle.request_ends.proofs.Common.{◌∙◌, refl, sym, le_trans, arith, caches_by_trans, firm_trans, goes_trans, err_from_is_err_and, le_refl, goes_refl}
use Rattle.node_pages.proofs.Updated.{update_trans}
use Rattle.node_updates.proofs.Several.{all_made, caches_bitmap, touched_on, made_next}
use Rattle.node_updates.proofs.committing.make_changes.Goals as goal

pub make_change-requires-clause-can : goal.make_change-requires-clause-can
make_change-requires-clause-can g c = c.requires.can c.change-item.result (c.loop-change.change-index, c.loop-change-test.true, sym c.change-item.is)

pub make_change-requires-clause-touched : goal.make_change-requires-clause-touched
make_change-requires-clause-touched g c = touched_on c.args.changes.now c.change-item.result _ _ (c.loop-change.change-index, c.loop-change-test.true, sym c.change-item.is) c.loop-change.invariant.update c.requires.touched

pub returns-in_err-make_change-clause-caches : goal.returns-in_err-make_change-clause-caches
returns-in_err-make_change-clause-caches g c = caches_by_trans _ _ _ _ c.loop-change.invariant.caches (caches_bitmap _ _ _ c.make_change.ensures.caches)

pub loop-change-preserved : goal.loop-change-preserved
loop-change-preserved g c =
    let inv = c.loop-change.invariant in
    let now = c.in_ok-make_change.ensures in
    let call = c.make_change.ensures in
    let change = c.change-item.result in
    record {
      made = made_next _ c.args.changes.now change c.loop-change.change-index change.edits change.taken change.freed _ _ _ c.loop-change-test.true c.change-item.is refl refl refl now.ok inv.made;
      update = update_trans _ _ _ inv.update now.update;
      in_update = call.in_update;
      standing = call.standing ∙ inv.standing;
      firm = firm_trans _ _ _ inv.firm call.firm;
      shape = call.shape;
      caches = caches_by_trans _ _ _ _ inv.caches (caches_bitmap _ _ _ call.caches);
      goes = goes_trans _ _ _ _ _ _ inv.goes call.goes;
      later = le_trans inv.later call.ends.later;
      running = now.ends.cause ∙ inv.running;
      sound = call.sound;
    }

pub returns-clause-ok : goal.returns-clause-ok
returns-clause-ok g c = all_made _ c.args.changes.now c.loop-change.change-index _ _ (omega (arith, c.loop-change-test.false)) c.loop-change.invariant.made

pub loop-change-init : goal.loop-change-init
loop-change-init g c = record { made = λ h applied. applied; update = record { updating = refl; touched = refl; touches = refl }; in_update = c.requires.in_update; standing = refl; firm = firm_refl _; shape = c.requires.shape; caches = caches_by_refl _ _; goes = goes_refl _ _; later = le_refl _; running = refl; sound = c.requires.sound }

pub returns-in_err-make_change-clause-ok : goal.returns-in_err-make_change-clause-ok
returns-in_err-make_change-clause-ok g c = let p = err_from_is_err_and c.from_residual.result c.from_residual.ensures.1 in never_ok _ _ p.0 p.1

pub returns-in_err-make_change-clause-update : goal.returns-in_err-make_change-clause-update
returns-in_err-make_change-clause-update g c = let p = err_from_is_err_and c.from_residual.result c.from_residual.ensures.1 in never_ok _ _ p.0 p.1

pub returns-in_err-make_change-clause-standing : goal.returns-in_err-make_change-clause-standing
returns-in_err-make_change-clause-standing g c = c.make_change.ensures.standing ∙ c.loop-change.invariant.standing

pub returns-in_err-make_change-clause-firm : goal.returns-in_err-make_change-clause-firm
returns-in_err-make_change-clause-firm g c = firm_trans _ _ _ c.loop-change.invariant.firm c.make_change.ensures.firm

pub returns-in_err-make_change-clause-goes : goal.returns-in_err-make_change-clause-goes
returns-in_err-make_change-clause-goes g c = goes_trans _ _ _ _ _ _ c.loop-change.invariant.goes c.make_change.ensures.goes

pub returns-in_err-make_change-clause-ends : goal.returns-in_err-make_change-clause-ends
returns-in_err-make_change-clause-ends g c = let p = err_from_is_err_and c.from_residual.result c.from_residual.ensures.1 in halts_later _ _ _ c.make_change.result c.from_residual.result _ p.0 c.loop-change.invariant.later c.loop-change.invariant.running c.in_err-make_change.was p.1 c.make_change.ensures.ends

pub returns-clause-ends : goal.returns-clause-ends
returns-clause-ends g c = record { later = c.loop-change.invariant.later; stays = λ on. c.loop-change.invariant.running ∙ on; cause = c.loop-change.invariant.running }
