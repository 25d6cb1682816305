use Rattle.inode_table.proofs.Exits.{ends_err}
use Rattle.rio_base.proofs.BlockRules.{ends_later}
use Rattle.request_ends.proofs.Failed.{never_ok}
use Rattle.request_ends.proofs.Common.{◌<◌, ◌∙◌, le_refl, le_trans, refl, arith, subst, sym, caches_by_trans, firm_trans, goes_refl, goes_trans, looks_trans, err_from_is_err_and}
use Rattle.rio_base.proofs.BlockSets.{caches_by_refl}
use Rattle.rio_base.specs.Rules.{firm_refl}
use Rattle.rio_base.proofs.Rules.{looks_refl}
use Rattle.node_pages.proofs.Updated.{can_touch, touched_still}
use Rattle.node_updates.proofs.Several.{all_touched, caches_edit, edit_in_three, edit_place, edit_was_unnamed, edits_next, edits_unnamed, three_most, three_room, touches_three}
use Rattle.node_updates.proofs.committing.touch_edits.Goals as goal

pub loop-t-init : goal.loop-t-init
loop-t-init g c = record {
  done = λ s none. absurd (omega (arith, none));
  most = λ h. omega arith;
  more = λ b on. on;
  looks = looks_refl _;
  standing = refl;
  firm = firm_refl _;
  caches = caches_by_refl _ _;
  in_update = c.requires.in_update;
  goes = goes_refl _ _;
  later = le_refl _;
  running = refl;
  sound = c.requires.sound;
}

pub touch-requires-clause-place : goal.touch-requires-clause-place
touch-requires-clause-place g c = edit_place c.args.edits.now c.loop-t.t _ _ c.loop-t-test.true (λ e on. subst (λ n. e.block.0 < n) (sym c.loop-t.invariant.looks.count) (c.requires.places e on))

pub touch-requires-clause-metadata : goal.touch-requires-clause-metadata
touch-requires-clause-metadata g c = can_touch _ _ (edits_unnamed c.args.edits.now (g.V.Blocks.seen c.args.v.now) _ _ c.loop-t.invariant.caches (edit_was_unnamed c.args.edits.now c.loop-t.t _ (g.V.Blocks.seen c.args.v.now) c.loop-t-test.true c.requires.unnamed))

pub touch-requires-clause-room : goal.touch-requires-clause-room
touch-requires-clause-room g c = three_room c.args.edits.now c.requires.few _ _ _ (edit_in_three c.args.edits.now c.loop-t.t _ c.requires.few c.loop-t-test.true) c.requires.room (c.loop-t.invariant.most c.requires.few)

pub returns-clause-ok : goal.returns-clause-ok
returns-clause-ok g c = all_touched (g.V.Volume.kept c.loop-t.v) c.args.edits.now c.loop-t.t (omega (arith, c.loop-t-test.false)) c.loop-t.invariant.done

pub returns-clause-touches : goal.returns-clause-touches
returns-clause-touches g c = omega (arith, c.loop-t.invariant.most c.requires.few, three_most _ c.requires.few (g.V.Volume.kept c.loop-t.v), c.requires.room)

pub loop-t-preserved : goal.loop-t-preserved
loop-t-preserved g c =
    let inv = c.loop-t.invariant in
    let now = c.in_ok-touch.ensures in
    let call = c.touch.ensures in
    record {
      done = edits_next _ _ c.args.edits.now c.loop-t.t _ c.loop-t-test.true inv.done now.ok;
      most = λ h. touches_three c.args.edits.now h _ _ _ _ (edit_in_three c.args.edits.now c.loop-t.t _ h c.loop-t-test.true) now.ok (inv.most h);
      more = λ b was. touched_still _ b _ _ now.ok (inv.more b was);
      looks = looks_trans _ _ _ inv.looks call.looks;
      standing = call.standing ∙ inv.standing;
      firm = firm_trans _ _ _ inv.firm call.firm;
      caches = caches_by_trans _ _ _ _ inv.caches (caches_edit c.args.edits.now c.loop-t.t _ _ _ c.loop-t-test.true call.caches);
      in_update = call.in_update;
      goes = goes_trans _ _ _ _ _ _ inv.goes call.goes;
      later = le_trans inv.later call.ends.later;
      running = now.ends.cause ∙ inv.running;
      sound = call.sound;
    }

pub returns-in_err-touch-clause-ok : goal.returns-in_err-touch-clause-ok
returns-in_err-touch-clause-ok g c = let p = err_from_is_err_and c.from_residual.result c.from_residual.ensures.1 in never_ok _ _ p.0 p.1

pub returns-in_err-touch-clause-touches : goal.returns-in_err-touch-clause-touches
returns-in_err-touch-clause-touches g c = let p = err_from_is_err_and c.from_residual.result c.from_residual.ensures.1 in never_ok _ _ p.0 p.1

pub returns-in_err-touch-clause-more : goal.returns-in_err-touch-clause-more
returns-in_err-touch-clause-more g c = let p = err_from_is_err_and c.from_residual.result c.from_residual.ensures.1 in never_ok _ _ p.0 p.1

pub returns-in_err-touch-clause-looks : goal.returns-in_err-touch-clause-looks
returns-in_err-touch-clause-looks g c = looks_trans _ _ _ c.loop-t.invariant.looks c.touch.ensures.looks

pub returns-in_err-touch-clause-standing : goal.returns-in_err-touch-clause-standing
returns-in_err-touch-clause-standing g c = c.touch.ensures.standing ∙ c.loop-t.invariant.standing

pub returns-in_err-touch-clause-firm : goal.returns-in_err-touch-clause-firm
returns-in_err-touch-clause-firm g c = firm_trans _ _ _ c.loop-t.invariant.firm c.touch.ensures.firm

pub returns-in_err-touch-clause-caches : goal.returns-in_err-touch-clause-caches
returns-in_err-touch-clause-caches g c = caches_by_trans _ _ _ _ c.loop-t.invariant.caches (caches_edit c.args.edits.now c.loop-t.t _ _ _ c.loop-t-test.true c.touch.ensures.caches)

pub returns-in_err-touch-clause-goes : goal.returns-in_err-touch-clause-goes
returns-in_err-touch-clause-goes g c = goes_trans _ _ _ _ _ _ c.loop-t.invariant.goes c.touch.ensures.goes

pub returns-in_err-touch-clause-ends : goal.returns-in_err-touch-clause-ends
returns-in_err-touch-clause-ends g c = let p = err_from_is_err_and c.from_residual.result c.from_residual.ensures.1 in ends_later _ _ _ _ c.loop-t.invariant.later c.loop-t.invariant.running (ends_err _ _ c.touch.result c.from_residual.result _ p.0 c.in_err-touch.was p.1 p.2 c.touch.ensures.ends)

pub returns-clause-ends : goal.returns-clause-ends
returns-clause-ends g c = record { later = c.loop-t.invariant.later; stays = λ on. c.loop-t.invariant.running ∙ on; cause = c.loop-t.invariant.running }
