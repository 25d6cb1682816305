use Rattle.request_ends.proofs.Failed.{never_ok}
use Rattle.request_ends.proofs.Common.{◌≡◌, ◌≤◌, false, length, subst, ◌∙◌, le_trans, arith, firm_outside_trans, goes_trans, numbers, number_at, err_from_is_err_and, goes_refl, le_refl, refl}
use Rattle.rio_base.proofs.BlockSets.{firm_outside_one, same_outside_one, same_outside_trans, firm_outside_refl, same_outside_refl}
use Rattle.rio_base.proofs.Rules.{drops_trans}
use Rattle.node_pages.proofs.Forgotten.{forgotten_all, forgotten_more}
use Rattle.node_updates.proofs.Several.{number_in, number_place}
use Rattle.node_updates.proofs.committing.forget_blocks.Goals as goal

pub forget-requires-clause-place : goal.forget-requires-clause-place
forget-requires-clause-place g c = number_place c.args.blocks.now c.loop-t.t _ _ _ c.loop-t-test.true c.requires.places c.loop-t.invariant.count

pub returns-in_err-forget-clause-words : goal.returns-in_err-forget-clause-words
returns-in_err-forget-clause-words g c = same_outside_trans _ _ _ _ c.loop-t.invariant.words (same_outside_one _ _ _ _ (number_in c.args.blocks.now c.loop-t.t _ c.loop-t-test.true) c.forget.ensures.others)

pub returns-in_err-forget-clause-standing : goal.returns-in_err-forget-clause-standing
returns-in_err-forget-clause-standing g c = same_outside_trans _ _ _ _ c.loop-t.invariant.standing (same_outside_one _ _ _ _ (number_in c.args.blocks.now c.loop-t.t _ c.loop-t-test.true) c.forget.ensures.standing)

pub returns-in_err-forget-clause-firm : goal.returns-in_err-forget-clause-firm
returns-in_err-forget-clause-firm g c = firm_outside_trans _ _ _ _ c.loop-t.invariant.firm (firm_outside_one _ _ _ _ (number_in c.args.blocks.now c.loop-t.t _ c.loop-t-test.true) c.forget.ensures.firm)

pub returns-in_err-forget-clause-drops : goal.returns-in_err-forget-clause-drops
returns-in_err-forget-clause-drops g c = drops_trans _ _ _ c.loop-t.invariant.drops c.forget.ensures.drops

pub loop-t-preserved : goal.loop-t-preserved
loop-t-preserved g c =
    let inv = c.loop-t.invariant in
    let call = c.forget.ensures in
    let mine = number_in c.args.blocks.now c.loop-t.t _ c.loop-t-test.true in
    let y = g.V.Blocks.seen c.forget.new.self in
    record {
      forgotten = forgotten_more (numbers c.args.blocks.now) c.loop-t.t _ y call.drops inv.forgotten (subst (λ b. y.cached b ≡ false) (number_at c.args.blocks.now c.loop-t.t _ c.loop-t-test.true) c.in_ok-forget.ensures.ok.1);
      words = same_outside_trans _ _ _ _ inv.words (same_outside_one _ _ _ _ mine call.others);
      standing = same_outside_trans _ _ _ _ inv.standing (same_outside_one _ _ _ _ mine call.standing);
      firm = firm_outside_trans _ _ _ _ inv.firm (firm_outside_one _ _ _ _ mine call.firm);
      count = call.count ∙ inv.count;
      drops = drops_trans _ _ _ inv.drops call.drops;
      idle = call.idle;
      goes = goes_trans _ _ _ _ _ _ inv.goes call.goes;
      later = le_trans inv.later call.ends.later;
      running = c.in_ok-forget.ensures.ends.cause ∙ inv.running;
      sound = call.sound;
    }

pub returns-clause-forgotten : goal.returns-clause-forgotten
returns-clause-forgotten g c =
    let all : length c.args.blocks.now ≤ c.loop-t.t = omega (arith, c.loop-t-test.false) in
    forgotten_all c.args.blocks.now c.loop-t.t (g.V.Blocks.seen c.loop-t.v) all c.loop-t.invariant.forgotten

pub returns-in_err-forget-clause-forgotten : goal.returns-in_err-forget-clause-forgotten
returns-in_err-forget-clause-forgotten g c = let p = err_from_is_err_and c.from_residual.result c.from_residual.ensures.1 in never_ok _ _ p.0 p.1

pub returns-in_err-forget-clause-count : goal.returns-in_err-forget-clause-count
returns-in_err-forget-clause-count g c = c.forget.ensures.count ∙ c.loop-t.invariant.count

pub returns-in_err-forget-clause-goes : goal.returns-in_err-forget-clause-goes
returns-in_err-forget-clause-goes g c = goes_trans _ _ _ _ _ _ c.loop-t.invariant.goes c.forget.ensures.goes

pub returns-clause-ends : goal.returns-clause-ends
returns-clause-ends g c = record { later = c.loop-t.invariant.later; stays = λ on. c.loop-t.invariant.running ∙ on; cause = c.loop-t.invariant.running }

pub loop-t-init : goal.loop-t-init
loop-t-init g c = record {
  forgotten = λ s none. absurd (omega (arith, none));
  words = same_outside_refl _ _;
  standing = same_outside_refl _ _;
  firm = firm_outside_refl _ _;
  count = refl;
  drops = record { kept = λ b on. (on, refl) };
  idle = c.requires.idle;
  goes = goes_refl _ _;
  later = le_refl _;
  running = refl;
  sound = c.requires.sound;
}
