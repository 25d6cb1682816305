use Rattle.std.proofs.Common.{◌∙◌, arith, le_refl, le_trans, refl, subst, sym}
use Rattle.std.proofs.lemmas.Result.{err_from_is_err_and, IfOk-from_err}
use Rattle.rio_base.specs.declared.places.VolumeShape.{VolumeShape}
use Rattle.rio_base.specs.Rules.{goes_refl, ◌then◌}
use Rattle.rio_base.proofs.BlockRules.{ends_later}
use Rattle.rio_model.specs.VolumeReady.{Ready}
use Rattle.inode_table.proofs.Exits.{ends_err, ends_none}
use Rattle.region_recovery.proofs.RecoverTurns.{as_long, asked, counted_all, few_regions, no_more, no_turn, no_turns, nth_region, one_more, recovered_all, recovered_none, some_state, states_turned, turn}
use Rattle.region_recovery.proofs.recovering.recover_regions.Goals as goal
use Rattle.region_recovery.proofs.recovering.recover_regions.Goals.{then-branch, else-branch}

pub recover_region-requires-clause-reads : goal.recover_region-requires-clause-reads
recover_region-requires-clause-reads g c =
    let inv = c.loop-n.invariant in
    some_state c.args.view.now.shape c.loop-n.view.shape (g.V.Blocks.seen c.args.view.now.v).words (g.V.Blocks.seen c.loop-n.view.v).words c.loop-n.n c.loop-n.undone inv.shape inv.walk c.requires.reads

pub recover_region-requires-clause-ino : goal.recover_region-requires-clause-ino
recover_region-requires-clause-ino g c =
    let shape = c.args.view.now.shape in
    let f = (g.V.Blocks.seen c.args.view.now.v).words in
    let inv = c.loop-n.invariant in
    let less = c.loop-n-test.true in
    (asked shape c.loop-n.view.shape f (g.V.Blocks.seen c.loop-n.view.v).words c.loop-n.n c.loop-n.undone _ inv.shape (omega (arith, less, as_long shape f c.args.regions.now c.requires.regions)) (nth_region shape f c.args.regions.now c.loop-n.n _ c.requires.regions less) inv.walk).0

pub recover_region-requires-clause-region : goal.recover_region-requires-clause-region
recover_region-requires-clause-region g c =
    let shape = c.args.view.now.shape in
    let f = (g.V.Blocks.seen c.args.view.now.v).words in
    let inv = c.loop-n.invariant in
    let less = c.loop-n-test.true in
    (asked shape c.loop-n.view.shape f (g.V.Blocks.seen c.loop-n.view.v).words c.loop-n.n c.loop-n.undone _ inv.shape (omega (arith, less, as_long shape f c.args.regions.now c.requires.regions)) (nth_region shape f c.args.regions.now c.loop-n.n _ c.requires.regions less) inv.walk).1

pub returns-in_err-recover_region-clause-reads : goal.returns-in_err-recover_region-clause-reads
returns-in_err-recover_region-clause-reads g c = states_turned c.args.view.now.shape c.loop-n.view.shape (g.V.Blocks.seen c.args.view.now.v).words (g.V.Blocks.seen c.loop-n.view.v).words (g.V.Blocks.seen c.recover_region.new.view.v).words c.loop-n.n c.loop-n.undone c.loop-n.invariant.shape c.loop-n.invariant.walk c.recover_region.ensures.reads

pub returns-in_err-recover_region-clause-goes : goal.returns-in_err-recover_region-clause-goes
returns-in_err-recover_region-clause-goes g c = c.loop-n.invariant.goes then c.recover_region.ensures.goes

pub returns-in_err-recover_region-clause-ends : goal.returns-in_err-recover_region-clause-ends
returns-in_err-recover_region-clause-ends g c =
    let p = err_from_is_err_and c.from_residual.result c.from_residual.ensures.1 in
    ends_later _ _ _ c.from_residual.result c.loop-n.invariant.later c.loop-n.invariant.running (ends_err _ _ c.recover_region.result c.from_residual.result _ p.0 c.in_err-recover_region.was p.1 p.2 c.recover_region.ensures.ends)

pub overflow_add-undone : goal.overflow_add-undone
overflow_add-undone g c =
    let inv = c.loop-n.invariant in
    omega (arith, inv.few, c.loop-n-test.true, few_regions c.args.view.now.shape (g.V.Blocks.seen c.args.view.now.v).words c.args.regions.now c.requires.ready.order.has_shape.sizes c.requires.regions)

pub loop-n-preserved : goal.loop-n-preserved
loop-n-preserved g c =
    let shape = c.args.view.now.shape in
    let f = (g.V.Blocks.seen c.args.view.now.v).words in
    let inv = c.loop-n.invariant in
    let call = c.in_ok-recover_region.ensures in
    let less = c.loop-n-test.true in
    let now = c.recover_region.new.view in
    let next = turn shape c.loop-n.view.shape f (g.V.Blocks.seen c.loop-n.view.v).words (g.V.Blocks.seen now.v).words c.loop-n.n c.loop-n.undone c.if-branch.undone _ c.in_ok-recover_region.field-0 inv.shape (omega (arith, less, as_long shape f c.args.regions.now c.requires.regions)) (nth_region shape f c.args.regions.now c.loop-n.n _ c.requires.regions less) inv.walk call.reads call.rest call.recovered call.held in
    record {
      walk = elim c.if-branch.branch [
        | then-branch w ↦ next (one_more c.loop-n.undone c.if-branch.undone _ w.if-branch.true w.undone-is)
        | else-branch w ↦ next (no_more c.loop-n.undone c.if-branch.undone _ w.if-branch.false w.undone-is)
      ];
      few = elim c.if-branch.branch [
        | then-branch w ↦ omega (arith, inv.few, w.undone-is)
        | else-branch w ↦ omega (arith, inv.few, w.undone-is)
      ];
      none = λ e. absurd (omega (arith, e));
      shape = call.shape ∙ inv.shape;
      ready = subst (λ (sh : VolumeShape). Ready sh (g.V.Blocks.seen now.v) (g.V.Volume.kept now.v)) inv.shape call.ready;
      sound = call.sound;
      goes = inv.goes then call.goes;
      later = le_trans inv.later call.ends.later;
      running = call.ends.cause ∙ inv.running;
    }

pub returns-clause-recovered : goal.returns-clause-recovered
returns-clause-recovered g c =
    let shape = c.args.view.now.shape in
    let f = (g.V.Blocks.seen c.args.view.now.v).words in
    recovered_all shape f (g.V.Blocks.seen c.loop-n.view.v).words c.loop-n.n c.loop-n.undone (omega (arith, c.loop-n-test.false, as_long shape f c.args.regions.now c.requires.regions)) c.loop-n.invariant.walk

pub recover_region-requires-clause-ready : goal.recover_region-requires-clause-ready
recover_region-requires-clause-ready g c = subst (λ (sh : VolumeShape). Ready sh (g.V.Blocks.seen c.loop-n.view.v) (g.V.Volume.kept c.loop-n.view.v)) (sym c.loop-n.invariant.shape) c.loop-n.invariant.ready

pub loop-n-init : goal.loop-n-init
loop-n-init g c = record {
  walk = recovered_none c.args.view.now.shape _;
  few = le_refl _;
  none = λ e. refl;
  shape = refl;
  ready = c.requires.ready;
  sound = c.requires.sound;
  goes = goes_refl _ _;
  later = le_refl _;
  running = refl;
}

pub returns-in_err-recover_region-clause-recovered : goal.returns-in_err-recover_region-clause-recovered
returns-in_err-recover_region-clause-recovered g c = IfOk-from_err c.from_residual.result _ c.from_residual.ensures.0

pub returns-in_err-recover_region-clause-count : goal.returns-in_err-recover_region-clause-count
returns-in_err-recover_region-clause-count g c = IfOk-from_err c.from_residual.result _ c.from_residual.ensures.0

pub returns-in_err-recover_region-clause-none : goal.returns-in_err-recover_region-clause-none
returns-in_err-recover_region-clause-none g c = λ none. absurd (no_turn c.args.view.now.shape _ c.args.regions.now c.loop-n.n c.requires.regions none c.loop-n-test.true)

pub returns-in_err-recover_region-clause-ready : goal.returns-in_err-recover_region-clause-ready
returns-in_err-recover_region-clause-ready g c = subst (λ (sh : VolumeShape). Ready sh (g.V.Blocks.seen c.recover_region.new.view.v) (g.V.Volume.kept c.recover_region.new.view.v)) c.loop-n.invariant.shape c.recover_region.ensures.ready

pub returns-in_err-recover_region-clause-shape : goal.returns-in_err-recover_region-clause-shape
returns-in_err-recover_region-clause-shape g c = c.recover_region.ensures.shape ∙ c.loop-n.invariant.shape

pub returns-clause-count : goal.returns-clause-count
returns-clause-count g c =
    let shape = c.args.view.now.shape in
    let f = (g.V.Blocks.seen c.args.view.now.v).words in
    counted_all shape f (g.V.Blocks.seen c.loop-n.view.v).words c.loop-n.n c.loop-n.undone (omega (arith, c.loop-n-test.false, as_long shape f c.args.regions.now c.requires.regions)) c.loop-n.invariant.walk

pub returns-clause-none : goal.returns-clause-none
returns-clause-none g c = λ none. c.loop-n.invariant.none (no_turns c.args.view.now.shape _ c.args.regions.now c.loop-n.n c.requires.regions none c.loop-n.auto.n-end)

pub returns-clause-ends : goal.returns-clause-ends
returns-clause-ends g c = ends_none _ _ _ c.loop-n.invariant.later c.loop-n.invariant.running
