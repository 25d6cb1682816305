use Rattle.rio_base.proofs.BlockRules.{ends_later}
use Rattle.node_pages.proofs.EndsOn.{ends_vol, ends_vol_ok, if_err}
use Rattle.node_pages.proofs.Common.{◌≡◌, ◌<◌, sym, ap, subst, ◌∙◌, le_trans, length, Contains, slice_index, goes_trans, numbers, arith, err_from_is_err_and}
use Rattle.node_pages.specs.Staging.{taken_name, Beside, Zeroed}
use Rattle.node_pages.proofs.Staged.{beside_trans, beside_wider, staged_more}
use Rattle.node_pages.proofs.Listed.{as_many, number_at, listed, block_place}
use Rattle.node_pages.proofs.staging.stage_blocks.Goals as goal

pub returns-in_err-stage_taken-clause-beside : goal.returns-in_err-stage_taken-clause-beside
returns-in_err-stage_taken-clause-beside g c =
    let taken = numbers c.args.taken.now in
    let few : c.loop-t.t < length c.args.taken.now = c.loop-t-test.true in
    let is = number_at c.args.taken.now c.loop-t.t _ few in
    beside_trans _ _ _ _ _ _ _ c.loop-t.invariant.beside (beside_wider _ (Contains taken) _ _ _ _ (λ b e. subst (Contains taken) (sym is ∙ sym e) (listed taken c.loop-t.t (subst (λ n. c.loop-t.t < n) (sym (as_many c.args.taken.now)) few))) c.stage_taken.ensures.beside)

pub loop-t-preserved : goal.loop-t-preserved
loop-t-preserved g c =
    let taken = numbers c.args.taken.now in
    let inv = c.loop-t.invariant in
    let few : c.loop-t.t < length c.args.taken.now = c.loop-t-test.true in
    let within : c.loop-t.t < length taken = subst (λ n. c.loop-t.t < n) (sym (as_many c.args.taken.now)) few in
    let is = number_at c.args.taken.now c.loop-t.t _ few in
    let now = c.in_ok-stage_taken.ensures in
    let name = taken_name c.args.file.0 c.args.kind c.args.first c.args.count c.args.len in
    let y = g.V.Blocks.seen c.stage_taken.new.v in
    let j = g.V.Volume.kept c.stage_taken.new.v in
    let one : Beside (λ b. b ≡ slice_index taken c.loop-t.t) (g.V.Blocks.seen c.loop-t.v) (g.V.Volume.kept c.loop-t.v) y j = subst (λ x. Beside (λ b. b ≡ x) (g.V.Blocks.seen c.loop-t.v) (g.V.Volume.kept c.loop-t.v) y j) is c.stage_taken.ensures.beside in
    record {
      zeroed = staged_more taken name c.loop-t.t _ _ y j c.requires.apart within inv.zeroed one (λ w. ap (λ b. y.words b w) (sym is) ∙ now.zeros w) (ap j.loose (sym is) ∙ now.firm) (λ e. ap y.names (sym is) ∙ now.named (ap y.cached is ∙ e));
      beside = beside_trans _ _ _ _ _ _ _ inv.beside (beside_wider _ (Contains taken) _ _ _ _ (λ b e. subst (Contains taken) (sym e) (listed taken c.loop-t.t within)) one);
      idle = c.stage_taken.ensures.idle;
      goes = goes_trans _ _ _ _ _ _ inv.goes c.stage_taken.ensures.goes;
      later = le_trans inv.later c.stage_taken.ensures.ends.later;
      running = now.ends.cause ∙ inv.running;
      sound = c.stage_taken.ensures.sound;
    }

pub returns-clause-zeroed : goal.returns-clause-zeroed
returns-clause-zeroed g c = subst (λ n. Zeroed (numbers c.args.taken.now) (taken_name c.args.file.0 c.args.kind c.args.first c.args.count c.args.len) n (g.V.Blocks.seen c.loop-t.v) (g.V.Volume.kept c.loop-t.v)) (omega (arith, c.loop-t-test.false, c.loop-t.auto.t-end)) c.loop-t.invariant.zeroed

pub returns-clause-ends : goal.returns-clause-ends
returns-clause-ends g c = ends_vol_ok _ _ _ c.loop-t.invariant.later c.loop-t.invariant.running

pub returns-in_err-stage_taken-clause-ends : goal.returns-in_err-stage_taken-clause-ends
returns-in_err-stage_taken-clause-ends g c = let p = err_from_is_err_and c.from_residual.result c.from_residual.ensures.1 in ends_later _ _ _ _ c.loop-t.invariant.later c.loop-t.invariant.running (ends_vol _ _ c.stage_taken.result c.from_residual.result _ p.0 c.in_err-stage_taken.was p.1 p.2 c.stage_taken.ensures.ends)

pub returns-in_err-stage_taken-clause-goes : goal.returns-in_err-stage_taken-clause-goes
returns-in_err-stage_taken-clause-goes g c = goes_trans _ _ _ _ _ _ c.loop-t.invariant.goes c.stage_taken.ensures.goes

pub returns-in_err-stage_taken-clause-zeroed : goal.returns-in_err-stage_taken-clause-zeroed
returns-in_err-stage_taken-clause-zeroed g c = if_err c.from_residual.result _ c.from_residual.ensures.0

pub stage_taken-requires-clause-place : goal.stage_taken-requires-clause-place
stage_taken-requires-clause-place g c = block_place c.args.taken.now c.loop-t.t _ _ _ c.loop-t-test.true (c.requires.places c.loop-t.t c.loop-t-test.true) c.loop-t.invariant.beside.count
