use Rattle.inode_table.proofs.Exits.{ends_err}
use Rattle.rio_base.proofs.BlockRules.{ends_later}
use Rattle.request_ends.proofs.Failed.{never_ok}
use Rattle.request_ends.proofs.Common.{◌∙◌, arith, le_trans, sym, caches_by_trans, firm_trans, goes_trans, looks_trans, err_from_is_err_and}
use Rattle.node_updates.proofs.Several.{all_are_touched, caches_bitmap, caches_node, can_make_on, shape_on, touched_none, touched_to_next}
use Rattle.node_updates.proofs.committing.touch_changes.Goals as goal

pub loop-change-init : goal.loop-change-init
loop-change-init g c =
    let now = c.in_ok-touch_bitmap.ensures in
    let call = c.touch_bitmap.ensures in
    record {
      bitmap = now.ok;
      done = touched_none _ _;
      most = omega (arith, now.touches);
      looks = call.looks;
      standing = call.standing;
      firm = call.firm;
      caches = caches_bitmap _ _ _ call.caches;
      in_update = call.in_update;
      goes = call.goes;
      later = call.ends.later;
      running = now.ends.cause;
      sound = call.sound;
    }

pub touch_node-requires-clause-shape : goal.touch_node-requires-clause-shape
touch_node-requires-clause-shape g c = shape_on _ _ _ _ c.requires.shape c.loop-change.invariant.looks.count c.loop-change.invariant.caches

pub touch_node-requires-clause-bitmap : goal.touch_node-requires-clause-bitmap
touch_node-requires-clause-bitmap g c = c.loop-change.invariant.bitmap c.change-item.result (c.loop-change.change-index, c.loop-change-test.true, sym c.change-item.is)

pub touch_node-requires-clause-room : goal.touch_node-requires-clause-room
touch_node-requires-clause-room g c = omega (arith, c.loop-change.invariant.most, c.loop-change-test.true, c.requires.can.few)

pub touch_node-requires-clause-can : goal.touch_node-requires-clause-can
touch_node-requires-clause-can g c = can_make_on _ _ c.change-item.result _ _ c.loop-change.invariant.caches (c.requires.can.each c.change-item.result (c.loop-change.change-index, c.loop-change-test.true, sym c.change-item.is))

pub returns-in_err-touch_node-clause-caches : goal.returns-in_err-touch_node-clause-caches
returns-in_err-touch_node-clause-caches g c = caches_by_trans _ _ _ _ c.loop-change.invariant.caches (caches_node _ c.change-item.result _ _ (c.loop-change.change-index, c.loop-change-test.true, sym c.change-item.is) c.touch_node.ensures.caches)

pub loop-change-preserved : goal.loop-change-preserved
loop-change-preserved g c =
    let inv = c.loop-change.invariant in
    let now = c.in_ok-touch_node.ensures in
    let call = c.touch_node.ensures in
    record {
      bitmap = λ d on marks. now.more 1 (inv.bitmap d on marks);
      done = touched_to_next _ _ _ _ c.change-item.result c.loop-change-test.true c.change-item.is inv.done now.more now.ok;
      most = omega (arith, inv.most, now.touches);
      looks = looks_trans _ _ _ inv.looks call.looks;
      standing = call.standing ∙ inv.standing;
      firm = firm_trans _ _ _ inv.firm call.firm;
      caches = caches_by_trans _ _ _ _ inv.caches (caches_node _ c.change-item.result _ _ (c.loop-change.change-index, c.loop-change-test.true, sym c.change-item.is) call.caches);
      in_update = call.in_update;
      goes = goes_trans _ _ _ _ _ _ inv.goes call.goes;
      later = le_trans inv.later call.ends.later;
      running = now.ends.cause ∙ inv.running;
      sound = call.sound;
    }

pub returns-clause-ok : goal.returns-clause-ok
returns-clause-ok g c = all_are_touched _ _ _ (omega (arith, c.loop-change-test.false)) c.loop-change.invariant.done

pub returns-in_err-touch_node-clause-ok : goal.returns-in_err-touch_node-clause-ok
returns-in_err-touch_node-clause-ok g c = let p = err_from_is_err_and c.from_residual-in_err-touch_node.result c.from_residual-in_err-touch_node.ensures.1 in never_ok _ _ p.0 p.1

pub returns-in_err-touch_node-clause-looks : goal.returns-in_err-touch_node-clause-looks
returns-in_err-touch_node-clause-looks g c = looks_trans _ _ _ c.loop-change.invariant.looks c.touch_node.ensures.looks

pub returns-in_err-touch_node-clause-standing : goal.returns-in_err-touch_node-clause-standing
returns-in_err-touch_node-clause-standing g c = c.touch_node.ensures.standing ∙ c.loop-change.invariant.standing

pub returns-in_err-touch_node-clause-firm : goal.returns-in_err-touch_node-clause-firm
returns-in_err-touch_node-clause-firm g c = firm_trans _ _ _ c.loop-change.invariant.firm c.touch_node.ensures.firm

pub returns-in_err-touch_node-clause-goes : goal.returns-in_err-touch_node-clause-goes
returns-in_err-touch_node-clause-goes g c = goes_trans _ _ _ _ _ _ c.loop-change.invariant.goes c.touch_node.ensures.goes

pub returns-in_err-touch_node-clause-shape : goal.returns-in_err-touch_node-clause-shape
returns-in_err-touch_node-clause-shape g c = shape_on _ _ _ _ c.requires.shape (looks_trans _ _ _ c.loop-change.invariant.looks c.touch_node.ensures.looks).count (caches_by_trans _ _ _ _ c.loop-change.invariant.caches (caches_node _ c.change-item.result _ _ (c.loop-change.change-index, c.loop-change-test.true, sym c.change-item.is) c.touch_node.ensures.caches))

pub returns-in_err-touch_node-clause-ends : goal.returns-in_err-touch_node-clause-ends
returns-in_err-touch_node-clause-ends g c = let p = err_from_is_err_and c.from_residual-in_err-touch_node.result c.from_residual-in_err-touch_node.ensures.1 in ends_later _ _ _ _ c.loop-change.invariant.later c.loop-change.invariant.running (ends_err _ _ c.touch_node.result c.from_residual-in_err-touch_node.result _ p.0 c.in_err-touch_node.was p.1 p.2 c.touch_node.ensures.ends)

pub returns-clause-shape : goal.returns-clause-shape
returns-clause-shape g c = shape_on _ _ _ _ c.requires.shape c.loop-change.invariant.looks.count c.loop-change.invariant.caches

pub returns-clause-ends : goal.returns-clause-ends
returns-clause-ends g c = record { later = c.loop-change.invariant.later; stays = λ on. c.loop-change.invariant.running ∙ on; cause = c.loop-change.invariant.running }

pub returns-in_err-touch_bitmap-clause-ok : goal.returns-in_err-touch_bitmap-clause-ok
returns-in_err-touch_bitmap-clause-ok g c = let p = err_from_is_err_and c.from_residual.result c.from_residual.ensures.1 in never_ok _ _ p.0 p.1

pub returns-in_err-touch_bitmap-clause-caches : goal.returns-in_err-touch_bitmap-clause-caches
returns-in_err-touch_bitmap-clause-caches g c = caches_bitmap _ _ _ c.touch_bitmap.ensures.caches

pub returns-in_err-touch_bitmap-clause-shape : goal.returns-in_err-touch_bitmap-clause-shape
returns-in_err-touch_bitmap-clause-shape g c = shape_on _ _ _ _ c.requires.shape c.touch_bitmap.ensures.looks.count (caches_bitmap c.args.changes.now _ _ c.touch_bitmap.ensures.caches)

pub returns-in_err-touch_bitmap-clause-ends : goal.returns-in_err-touch_bitmap-clause-ends
returns-in_err-touch_bitmap-clause-ends g c = let p = err_from_is_err_and c.from_residual.result c.from_residual.ensures.1 in ends_err _ _ c.touch_bitmap.result c.from_residual.result _ p.0 c.in_err-touch_bitmap.was p.1 p.2 c.touch_bitmap.ensures.ends
