use Rattle.std.proofs.Common.{◌+◌, ◌∙◌, ap, le_refl, le_trans, refl, sym}
use Rattle.std.proofs.lemmas.Result.{err_from_is_err_and, IfOk-from_err}
use Rattle.rio_base.specs.Blocks.{BlockWords}
use Rattle.rio_base.proofs.BlockSets.{caches_by_refl, caches_by_trans}
use Rattle.rio_base.proofs.Rules.{ends_by_after, looks_refl, looks_trans}
use Rattle.region_recovery.specs.RegionLists.{is_region}
use Rattle.region_recovery.proofs.EndsAs.{ends_listed, ends_memory, ends_vol_read}
use Rattle.region_recovery.proofs.Lists.{kind_on, listed_all, listed_none, nth_ino, listed_with, listed_without}
use Rattle.region_recovery.proofs.listing.list_regions.Goals as goal
use Rattle.region_recovery.proofs.listing.list_regions.Goals.{then-branch+in_ok-push, else-branch}

pub loop-n-preserved : goal.loop-n-preserved
loop-n-preserved g c =
    let shape = c.args.shape.now in
    let f = (g.V.Blocks.seen c.args.v.now).words in
    let inv = c.loop-n.invariant in
    let call = c.in_ok-is_region.ensures in
    let same = sym (ap (λ (h : BlockWords). is_region shape h (c.loop-n.n + 1)) inv.looks.words) ∙ sym call.value in
    record {
      listed = elim c.if-branch.branch [
        | then-branch+in_ok-push w ↦ rw (w.regions-is, w.in_ok-push.ensures.items) (listed_with (is_region shape f) c.loop-n.n c.loop-n.regions.items _ refl (same ∙ w.if-branch.true) inv.listed)
        | else-branch w ↦ rw w.regions-is (listed_without (is_region shape f) c.loop-n.n c.loop-n.regions.items (same ∙ w.if-branch.false) inv.listed)
      ];
      sound = call.sound;
      looks = looks_trans _ _ _ inv.looks call.looks;
      shape = call.shape;
      caches = caches_by_trans _ _ _ _ inv.caches call.caches;
      passes = g.met.V.Blocks.passes_trans _ _ _ inv.passes call.passes;
      later = le_trans inv.later call.ends.later;
      running = call.ends.cause ∙ inv.running;
    }

pub returns-clause-list : goal.returns-clause-list
returns-clause-list g c = listed_all c.args.shape.now (g.V.Blocks.seen c.args.v.now).words c.loop-n.n c.loop-n.regions.items c.loop-n.auto.n-end c.loop-n-test.false c.loop-n.invariant.listed

pub is_region-requires-clause-ino : goal.is_region-requires-clause-ino
is_region-requires-clause-ino g c = nth_ino c.args.shape.now c.loop-n.n c.loop-n-test.true

pub is_region-requires-clause-kind : goal.is_region-requires-clause-kind
is_region-requires-clause-kind g c = kind_on c.args.shape.now (g.V.Blocks.seen c.args.v.now).words _ _ c.requires.kinds (nth_ino c.args.shape.now c.loop-n.n c.loop-n-test.true) c.loop-n.invariant.looks.words

pub loop-n-init : goal.loop-n-init
loop-n-init g c = record {
  listed = listed_none (is_region c.args.shape.now (g.V.Blocks.seen c.args.v.now).words) _ c.new-regions.ensures.items;
  sound = c.requires.sound;
  looks = looks_refl _;
  shape = c.requires.shape;
  caches = caches_by_refl _ _;
  passes = g.met.V.Blocks.passes_refl _;
  later = le_refl _;
  running = refl;
}

pub returns-in_err-is_region-clause-list : goal.returns-in_err-is_region-clause-list
returns-in_err-is_region-clause-list g c = IfOk-from_err c.from_residual.result _ c.from_residual.ensures.0

pub returns-in_err-is_region-clause-looks : goal.returns-in_err-is_region-clause-looks
returns-in_err-is_region-clause-looks g c = looks_trans _ _ _ c.loop-n.invariant.looks c.is_region.ensures.looks

pub returns-in_err-is_region-clause-caches : goal.returns-in_err-is_region-clause-caches
returns-in_err-is_region-clause-caches g c = caches_by_trans _ _ _ _ c.loop-n.invariant.caches c.is_region.ensures.caches

pub returns-in_err-is_region-clause-passes : goal.returns-in_err-is_region-clause-passes
returns-in_err-is_region-clause-passes g c = g.met.V.Blocks.passes_trans _ _ _ c.loop-n.invariant.passes c.is_region.ensures.passes

pub returns-in_err-is_region-clause-ends : goal.returns-in_err-is_region-clause-ends
returns-in_err-is_region-clause-ends g c =
    let p = err_from_is_err_and c.from_residual.result c.from_residual.ensures.1 in
    ends_by_after _ _ _ _ _ c.loop-n.invariant.later c.loop-n.invariant.running (ends_vol_read _ _ c.is_region.result c.from_residual.result _ _ c.in_err-is_region.was p.1 p.2 c.is_region.ensures.ends)

pub returns-in_err-push-clause-list : goal.returns-in_err-push-clause-list
returns-in_err-push-clause-list g c = IfOk-from_err c.from_residual-in_err-push.result _ c.from_residual-in_err-push.ensures.0

pub returns-in_err-push-clause-looks : goal.returns-in_err-push-clause-looks
returns-in_err-push-clause-looks g c = looks_trans _ _ _ c.loop-n.invariant.looks c.is_region.ensures.looks

pub returns-in_err-push-clause-caches : goal.returns-in_err-push-clause-caches
returns-in_err-push-clause-caches g c = caches_by_trans _ _ _ _ c.loop-n.invariant.caches c.is_region.ensures.caches

pub returns-in_err-push-clause-passes : goal.returns-in_err-push-clause-passes
returns-in_err-push-clause-passes g c = g.met.V.Blocks.passes_trans _ _ _ c.loop-n.invariant.passes c.is_region.ensures.passes

pub returns-in_err-push-clause-ends : goal.returns-in_err-push-clause-ends
returns-in_err-push-clause-ends g c =
    let p = err_from_is_err_and c.from_residual-in_err-push.result c.from_residual-in_err-push.ensures.1 in
    ends_by_after _ _ _ _ _ c.loop-n.invariant.later c.loop-n.invariant.running (ends_memory _ _ c.from_residual-in_err-push.result _ p.1 p.2 c.is_region.ensures.ends.later c.in_ok-is_region.ensures.ends.cause)

pub returns-clause-ends : goal.returns-clause-ends
returns-clause-ends g c = ends_listed _ _ _ c.loop-n.invariant.later c.loop-n.invariant.running
