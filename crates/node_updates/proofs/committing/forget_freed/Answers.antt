use Rattle.request_ends.proofs.Failed.{never_ok}
use Rattle.request_ends.proofs.Common.{◌<◌, refl, sym, subst, ◌∙◌, le_refl, le_trans, arith, firm_outside_trans, goes_refl, goes_trans, err_from_is_err_and}
use Rattle.rio_base.proofs.BlockSets.{firm_outside_refl, firm_outside_wider, same_outside_refl, same_outside_trans, same_outside_wider}
use Rattle.rio_base.proofs.Rules.{drops_trans}
use Rattle.node_updates.proofs.Forgotten.{forgotten_every, forgotten_next, forgotten_none}
use Rattle.node_updates.proofs.Several.{freed_in}
use Rattle.node_updates.proofs.committing.forget_freed.Goals as goal

pub loop-change-init : goal.loop-change-init
loop-change-init g c = record {
  forgotten = forgotten_none _ _;
  words = same_outside_refl _ _;
  standing = same_outside_refl _ _;
  firm = firm_outside_refl _ _;
  count = refl;
  drops = record { kept = λ b on. (on, refl) };
  idle = c.requires.idle;
  goes = goes_refl _ _;
  later = le_refl _;
  running = refl;
  sound = c.requires.sound;
}

pub forget_blocks-requires-clause-places : goal.forget_blocks-requires-clause-places
forget_blocks-requires-clause-places g c = λ b h. subst (λ n. b < n) (sym c.loop-change.invariant.count) (c.requires.places b (freed_in c.args.changes.now c.change-item.result _ b (c.loop-change.change-index, c.loop-change-test.true, sym c.change-item.is) c.as_slice.ensures h))

pub returns-in_err-forget_blocks-clause-words : goal.returns-in_err-forget_blocks-clause-words
returns-in_err-forget_blocks-clause-words g c = same_outside_trans _ _ _ _ c.loop-change.invariant.words (same_outside_wider _ _ _ _ (λ b h. freed_in c.args.changes.now c.change-item.result _ b (c.loop-change.change-index, c.loop-change-test.true, sym c.change-item.is) c.as_slice.ensures h) c.forget_blocks.ensures.words)

pub loop-change-preserved : goal.loop-change-preserved
loop-change-preserved g c =
    let inv = c.loop-change.invariant in
    let now = c.in_ok-forget_blocks.ensures in
    let call = c.forget_blocks.ensures in
    record {
      forgotten = forgotten_next _ _ c.args.changes.now c.loop-change.change-index c.change-item.result _ c.loop-change-test.true c.change-item.is c.as_slice.ensures inv.forgotten call.drops now.forgotten;
      words = same_outside_trans _ _ _ _ inv.words (same_outside_wider _ _ _ _ (λ b h. freed_in c.args.changes.now c.change-item.result _ b (c.loop-change.change-index, c.loop-change-test.true, sym c.change-item.is) c.as_slice.ensures h) call.words);
      standing = same_outside_trans _ _ _ _ inv.standing (same_outside_wider _ _ _ _ (λ b h. freed_in c.args.changes.now c.change-item.result _ b (c.loop-change.change-index, c.loop-change-test.true, sym c.change-item.is) c.as_slice.ensures h) call.standing);
      firm = firm_outside_trans _ _ _ _ inv.firm (firm_outside_wider _ _ _ _ (λ b h. freed_in c.args.changes.now c.change-item.result _ b (c.loop-change.change-index, c.loop-change-test.true, sym c.change-item.is) c.as_slice.ensures h) call.firm);
      count = call.count ∙ inv.count;
      drops = drops_trans _ _ _ inv.drops call.drops;
      idle = call.idle;
      goes = goes_trans _ _ _ _ _ _ inv.goes call.goes;
      later = le_trans inv.later call.ends.later;
      running = now.ends.cause ∙ inv.running;
      sound = call.sound;
    }

pub returns-clause-forgotten : goal.returns-clause-forgotten
returns-clause-forgotten g c = forgotten_every (g.V.Blocks.seen c.loop-change.v) c.args.changes.now c.loop-change.change-index (omega (arith, c.loop-change-test.false)) c.loop-change.invariant.forgotten

pub returns-in_err-forget_blocks-clause-forgotten : goal.returns-in_err-forget_blocks-clause-forgotten
returns-in_err-forget_blocks-clause-forgotten g c = let p = err_from_is_err_and c.from_residual.result c.from_residual.ensures.1 in never_ok _ _ p.0 p.1

pub returns-in_err-forget_blocks-clause-standing : goal.returns-in_err-forget_blocks-clause-standing
returns-in_err-forget_blocks-clause-standing g c = same_outside_trans _ _ _ _ c.loop-change.invariant.standing (same_outside_wider _ _ _ _ (λ b h. freed_in c.args.changes.now c.change-item.result _ b (c.loop-change.change-index, c.loop-change-test.true, sym c.change-item.is) c.as_slice.ensures h) c.forget_blocks.ensures.standing)

pub returns-in_err-forget_blocks-clause-firm : goal.returns-in_err-forget_blocks-clause-firm
returns-in_err-forget_blocks-clause-firm g c = firm_outside_trans _ _ _ _ c.loop-change.invariant.firm (firm_outside_wider _ _ _ _ (λ b h. freed_in c.args.changes.now c.change-item.result _ b (c.loop-change.change-index, c.loop-change-test.true, sym c.change-item.is) c.as_slice.ensures h) c.forget_blocks.ensures.firm)

pub returns-in_err-forget_blocks-clause-drops : goal.returns-in_err-forget_blocks-clause-drops
returns-in_err-forget_blocks-clause-drops g c = drops_trans _ _ _ c.loop-change.invariant.drops c.forget_blocks.ensures.drops

pub returns-in_err-forget_blocks-clause-count : goal.returns-in_err-forget_blocks-clause-count
returns-in_err-forget_blocks-clause-count g c = c.forget_blocks.ensures.count ∙ c.loop-change.invariant.count

pub returns-in_err-forget_blocks-clause-goes : goal.returns-in_err-forget_blocks-clause-goes
returns-in_err-forget_blocks-clause-goes g c = goes_trans _ _ _ _ _ _ c.loop-change.invariant.goes c.forget_blocks.ensures.goes

pub returns-clause-ends : goal.returns-clause-ends
returns-clause-ends g c = record { later = c.loop-change.invariant.later; stays = λ on. c.loop-change.invariant.running ∙ on; cause = c.loop-change.invariant.running }
