use Rattle.directories.proofs.Common.{◌≡◌, true, refl, subst, ◌∙◌, arith, inr, None, caches_by_one, caches_by_trans, firm_trans, Edit}
use Rattle.rio_base.proofs.BlockRules.{shape_beside}
use Rattle.rio_base.proofs.Rules.{looks_trans}
use Rattle.directories_tests.proofs.OpenPlans.{edit_on, three_most, touch_counts, touch_more, touch_named, touch_place, touched_next}
use Rattle.directories_tests.proofs.dirs.touch_edits.Goals as goal

pub loop-t-preserved : goal.loop-t-preserved
loop-t-preserved g c =
    let inv = c.loop-t.invariant in
    let es = c.args.edits.now in
    let t = c.loop-t.t in
    let few = c.loop-t-test.true in
    let k = g.V.Volume.kept c.loop-t.v in
    let l = g.V.Volume.kept c.touch.new.self in
    let call = c.touch.ensures in
    let now = c.in_ok-touch.ensures.ok in
    record {
      touched = touched_next es t _ k l few inv.touched now;
      more = λ b on. touch_more k l _ b now (inv.more b on);
      count = λ three. touch_counts es three k l _ _ (three.each _ (edit_on es t _ few)) now (inv.count three);
      looks = looks_trans _ _ _ inv.looks call.looks;
      firm = firm_trans _ _ _ inv.firm call.firm;
      shape = shape_beside c.args.shape.now _ _ _ None inv.shape call.looks.count (c.requires.can.from _ (edit_on es t _ few)) call.caches;
      caches = caches_by_trans _ _ _ _ inv.caches (caches_by_one _ _ _ _ None call.caches ((_, edit_on es t _ few, refl), refl));
      in_update = call.in_update;
      sound = call.sound;
    }

pub touch-requires-clause-place : goal.touch-requires-clause-place
touch-requires-clause-place g c = touch_place c.args.edits.now c.loop-t.t _ _ (g.V.Blocks.seen c.loop-t.v) c.loop-t-test.true c.requires.can.to (c.loop-t.invariant.looks.count ∙ c.requires.shape.count)

pub touch-requires-clause-metadata : goal.touch-requires-clause-metadata
touch-requires-clause-metadata g c = touch_named c.args.shape.now c.args.edits.now _ _ _ c.requires.can c.loop-t.invariant.caches (edit_on c.args.edits.now c.loop-t.t _ c.loop-t-test.true)

pub touch-requires-clause-room : goal.touch-requires-clause-room
touch-requires-clause-room g c =
    let count = c.loop-t.invariant.count c.requires.few in
    let most = three_most c.args.edits.now c.requires.few (g.V.Volume.kept c.loop-t.v).touched in
    let room = c.requires.room in
    inr (omega (arith, count, most, room))

pub returns-clause-ok : goal.returns-clause-ok
returns-clause-ok g c = λ e on.
    let past = c.loop-t-test.false in
    let at = on.1 in
    subst (λ (x : Edit). (g.V.Volume.kept c.loop-t.v).touched x.block.0 ≡ true) on.2 (c.loop-t.invariant.touched on.0 e (omega (arith, past, at)))

pub returns-clause-count : goal.returns-clause-count
returns-clause-count g c =
    let count = c.loop-t.invariant.count c.requires.few in
    let most = three_most c.args.edits.now c.requires.few (g.V.Volume.kept c.loop-t.v).touched in
    omega (arith, count, most)

pub returns-in_err-touch-clause-looks : goal.returns-in_err-touch-clause-looks
returns-in_err-touch-clause-looks g c = looks_trans _ _ _ c.loop-t.invariant.looks c.touch.ensures.looks

pub returns-in_err-touch-clause-firm : goal.returns-in_err-touch-clause-firm
returns-in_err-touch-clause-firm g c = firm_trans _ _ _ c.loop-t.invariant.firm c.touch.ensures.firm

pub returns-in_err-touch-clause-shape : goal.returns-in_err-touch-clause-shape
returns-in_err-touch-clause-shape g c = shape_beside c.args.shape.now _ _ _ None c.loop-t.invariant.shape c.touch.ensures.looks.count (c.requires.can.from _ (edit_on c.args.edits.now c.loop-t.t _ c.loop-t-test.true)) c.touch.ensures.caches

pub returns-in_err-touch-clause-caches : goal.returns-in_err-touch-clause-caches
returns-in_err-touch-clause-caches g c = caches_by_trans _ _ _ _ c.loop-t.invariant.caches (caches_by_one _ _ _ _ None c.touch.ensures.caches ((_, edit_on c.args.edits.now c.loop-t.t _ c.loop-t-test.true, refl), refl))
