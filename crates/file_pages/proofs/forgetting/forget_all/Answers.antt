use Rattle.file_pages.proofs.SizeEnds.{well_err}
use Rattle.node_pages.proofs.EndsOn.{halts_later, halts_ok, halts_on, if_err}
use Rattle.file_pages.proofs.Common.{◌≡◌, ◌<◌, ◌≤◌, Err, false, length, ap, sym, subst, ◌∙◌, le_trans, arith, Contains, goes_trans, numbers, err_from_is_err_and}
use Rattle.node_pages.proofs.Forgotten.{forgotten_all, forgotten_more}
use Rattle.node_pages.proofs.Listed.{as_many, block_place, number_at, listed}
use Rattle.node_pages.proofs.Staged.{beside_drops, beside_trans, beside_wider}
use Rattle.file_pages.proofs.forgetting.forget_all.Goals as goal

pub forget-requires-clause-place : goal.forget-requires-clause-place
forget-requires-clause-place g c =
    let few : c.loop-t.t < length c.args.blocks.now = c.loop-t-test.true in
    block_place c.args.blocks.now c.loop-t.t _ _ _ few (c.requires.places c.loop-t.t few) c.loop-t.invariant.beside.count

pub returns-in_err-forget-clause-beside : goal.returns-in_err-forget-clause-beside
returns-in_err-forget-clause-beside g c =
    let blocks = numbers c.args.blocks.now in
    let few : c.loop-t.t < length c.args.blocks.now = c.loop-t-test.true in
    let is = number_at c.args.blocks.now c.loop-t.t _ few in
    let call = c.forget.ensures in
    beside_trans _ _ _ _ _ _ _ c.loop-t.invariant.beside (beside_wider _ (Contains blocks) _ _ _ _ (λ b e. subst (Contains blocks) (sym is ∙ sym e) (listed blocks c.loop-t.t (subst (λ n. c.loop-t.t < n) (sym (as_many c.args.blocks.now)) few))) (beside_drops _ _ _ _ _ call.count call.others call.standing call.firm call.drops))

pub loop-t-preserved : goal.loop-t-preserved
loop-t-preserved g c =
    let blocks = numbers c.args.blocks.now in
    let inv = c.loop-t.invariant in
    let few : c.loop-t.t < length c.args.blocks.now = c.loop-t-test.true in
    let is = number_at c.args.blocks.now c.loop-t.t _ few in
    let call = c.forget.ensures in
    let y = g.V.Blocks.seen c.forget.new.self in
    record {
      forgotten = forgotten_more blocks c.loop-t.t _ y call.drops inv.forgotten (subst (λ b. y.cached b ≡ false) is c.in_ok-forget.ensures.ok.1);
      beside = beside_trans _ _ _ _ _ _ _ inv.beside (beside_wider _ (Contains blocks) _ _ _ _ (λ b e. subst (Contains blocks) (sym is ∙ sym e) (listed blocks c.loop-t.t (subst (λ n. c.loop-t.t < n) (sym (as_many c.args.blocks.now)) few))) (beside_drops _ _ _ _ _ call.count call.others call.standing call.firm call.drops));
      idle = call.idle;
      goes = goes_trans _ _ _ _ _ _ inv.goes call.goes;
      later = le_trans inv.later call.ends.later;
      running = c.in_ok-forget.ensures.ends.cause ∙ inv.running;
      sound = call.sound;
    }

pub returns-clause-forgotten : goal.returns-clause-forgotten
returns-clause-forgotten g c =
    let all : length c.args.blocks.now ≤ c.loop-t.t = omega (arith, c.loop-t-test.false) in
    forgotten_all c.args.blocks.now c.loop-t.t (g.V.Blocks.seen c.loop-t.v) all c.loop-t.invariant.forgotten

pub returns-clause-ends : goal.returns-clause-ends
returns-clause-ends g c = halts_ok _ _ _ c.loop-t.invariant.later c.loop-t.invariant.running

pub returns-in_err-forget-clause-forgotten : goal.returns-in_err-forget-clause-forgotten
returns-in_err-forget-clause-forgotten g c = if_err c.from_residual.result _ c.from_residual.ensures.0

pub returns-in_err-forget-clause-goes : goal.returns-in_err-forget-clause-goes
returns-in_err-forget-clause-goes g c = goes_trans _ _ _ _ _ _ c.loop-t.invariant.goes c.forget.ensures.goes

pub returns-in_err-forget-clause-ends : goal.returns-in_err-forget-clause-ends
returns-in_err-forget-clause-ends g c = let p = err_from_is_err_and c.from_residual.result c.from_residual.ensures.1 in halts_later _ _ _ _ c.loop-t.invariant.later c.loop-t.invariant.running (halts_on _ _ c.forget.result c.from_residual.result _ p.0 c.in_err-forget.was p.1 c.forget.ensures.ends)

pub returns-in_err-forget-clause-stops : goal.returns-in_err-forget-clause-stops
returns-in_err-forget-clause-stops g c = let p = err_from_is_err_and c.from_residual.result c.from_residual.ensures.1 in λ is. p.1 ∙ ap Err p.2

pub returns-clause-stops : goal.returns-clause-stops
returns-clause-stops g c = λ is. absurd (well_err {T = Unit {0}} tt is)
