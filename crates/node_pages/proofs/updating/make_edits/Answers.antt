use Rattle.node_pages.proofs.Common.{◌<◌, ◌∙◌, ℕ, Bool, ap, arith, sym, subst, le_trans, firm_trans, goes_trans, err_from_is_err_and}
use Rattle.rio_base.proofs.Rules.{drops_trans}
use Rattle.node_pages.proofs.Updated.{behind_in, edits_behind, update_trans}
use Rattle.node_pages.proofs.EndsOn.{halts_later, halts_ok, halts_on, if_err}
use Rattle.node_pages.proofs.updating.make_edits.Goals as goal

pub make_run-requires-clause-blocks : goal.make_run-requires-clause-blocks
make_run-requires-clause-blocks g c = λ e on. subst (λ (n : ℕ). e.block.0 < n) (sym c.loop-rest.invariant.count) (c.requires.blocks e (c.loop-rest.invariant.within e on))

pub make_run-requires-clause-words : goal.make_run-requires-clause-words
make_run-requires-clause-words g c = λ e on. c.requires.words e (c.loop-rest.invariant.within e on)

pub make_run-requires-clause-touched : goal.make_run-requires-clause-touched
make_run-requires-clause-touched g c = λ e on. ap (λ (t : ℕ → Bool). t e.block.0) c.loop-rest.invariant.update.touched ∙ c.requires.touched e (c.loop-rest.invariant.within e on)

pub loop-rest-preserved : goal.loop-rest-preserved
loop-rest-preserved g c =
    let inv = c.loop-rest.invariant in
    let now = c.in_ok-n.ensures in
    let call = c.make_run.ensures in
    record {
      within = λ e on. inv.within e (behind_in c.loop-rest.rest.now _ e on);
      made = edits_behind c.loop-rest.rest.now _ _ _ now.made ∙ inv.made;
      update = update_trans _ _ _ inv.update now.update;
      in_update = call.in_update;
      standing = call.standing ∙ inv.standing;
      firm = firm_trans _ _ _ inv.firm call.firm;
      count = call.count ∙ inv.count;
      drops = drops_trans _ _ _ inv.drops call.drops;
      goes = goes_trans _ _ _ _ _ _ inv.goes call.goes;
      later = le_trans inv.later call.ends.later;
      running = now.ends.cause ∙ inv.running;
      sound = call.sound;
    }

pub offset_bounds-rest-n : goal.offset_bounds-rest-n
offset_bounds-rest-n g c = omega (arith, c.in_ok-n.ensures.most)

pub returns-in_err-n-clause-ok : goal.returns-in_err-n-clause-ok
returns-in_err-n-clause-ok g c = if_err c.from_residual.result _ c.from_residual.ensures.0

pub returns-in_err-n-clause-update : goal.returns-in_err-n-clause-update
returns-in_err-n-clause-update g c = if_err c.from_residual.result _ c.from_residual.ensures.0

pub returns-clause-ends : goal.returns-clause-ends
returns-clause-ends g c = halts_ok _ _ _ c.loop-rest.invariant.later c.loop-rest.invariant.running

pub returns-in_err-n-clause-count : goal.returns-in_err-n-clause-count
returns-in_err-n-clause-count g c = c.make_run.ensures.count ∙ c.loop-rest.invariant.count

pub returns-in_err-n-clause-standing : goal.returns-in_err-n-clause-standing
returns-in_err-n-clause-standing g c = c.make_run.ensures.standing ∙ c.loop-rest.invariant.standing

pub returns-in_err-n-clause-drops : goal.returns-in_err-n-clause-drops
returns-in_err-n-clause-drops g c = drops_trans _ _ _ c.loop-rest.invariant.drops c.make_run.ensures.drops

pub returns-in_err-n-clause-firm : goal.returns-in_err-n-clause-firm
returns-in_err-n-clause-firm g c = firm_trans _ _ _ c.loop-rest.invariant.firm c.make_run.ensures.firm

pub returns-in_err-n-clause-goes : goal.returns-in_err-n-clause-goes
returns-in_err-n-clause-goes g c = goes_trans _ _ _ _ _ _ c.loop-rest.invariant.goes c.make_run.ensures.goes

pub returns-in_err-n-clause-ends : goal.returns-in_err-n-clause-ends
returns-in_err-n-clause-ends g c = let p = err_from_is_err_and c.from_residual.result c.from_residual.ensures.1 in halts_later _ _ _ _ c.loop-rest.invariant.later c.loop-rest.invariant.running (halts_on _ _ c.make_run.result c.from_residual.result _ p.0 c.in_err-n.was p.1 c.make_run.ensures.ends)
