use Rattle.std.proofs.Common.{◌∙◌, ◌<◌, Err, ap, arith, subst, sym}
use Rattle.std.proofs.lemmas.Result.{err_from_is_err_and}
use Rattle.rio_base.proofs.MachineRules.{never}
use Rattle.rio_base.specs.declared.failures.VolFail.TheVariants.{Fault, Stopped}
use Rattle.rio_model.specs.Standing.{none_apart}
use Rattle.page_restore.proofs.SettleTurns.{Settles, settled_all, settled_brings, settled_cut, settled_next, settled_none}
use Rattle.page_restore.proofs.Steps.{image_next, layout_now, phase_as, phase_told}
use Rattle.page_restore.proofs.Exits.{not_ok}
use Rattle.page_restore.proofs.settling.settle.Goals as goal

pub loop-k-init : goal.loop-k-init
loop-k-init g c = record { walk = settled_none _ _ c.requires.closed; room = c.requires.room }

pub settle_entry-requires-clause-image : goal.settle_entry-requires-clause-image
settle_entry-requires-clause-image g c = image_next none_apart _ _ _ _ _ _ c.requires.image c.loop-k.invariant.walk.endures c.loop-k.invariant.walk.ends

pub settle_entry-requires-clause-entry : goal.settle_entry-requires-clause-entry
settle_entry-requires-clause-entry g c = subst (λ f. c.loop-k.k < f) (c.frame_count-frames.ensures ∙ sym c.loop-k.invariant.walk.frames) c.loop-k-test.true

pub returns-in_err-settle_entry-clause-brings : goal.returns-in_err-settle_entry-clause-brings
returns-in_err-settle_entry-clause-brings g c =
    let less = subst (λ f. c.loop-k.k < f) c.frame_count-frames.ensures c.loop-k-test.true in
    let h = c.in_err-settle_entry.ensures in
    (settled_cut c.loop-k.k _ _ _ _ _ _ _ _ less c.loop-k.invariant.walk (record { endures = h.endures; marked = h.marked; one = h.one_entry; disk = h.disk; ends = h.ends })).brings

pub returns-in_err-settle_entry-clause-marked : goal.returns-in_err-settle_entry-clause-marked
returns-in_err-settle_entry-clause-marked g c =
    let less = subst (λ f. c.loop-k.k < f) c.frame_count-frames.ensures c.loop-k-test.true in
    let h = c.in_err-settle_entry.ensures in
    (settled_cut c.loop-k.k _ _ _ _ _ _ _ _ less c.loop-k.invariant.walk (record { endures = h.endures; marked = h.marked; one = h.one_entry; disk = h.disk; ends = h.ends })).marked

pub returns-in_err-settle_entry-clause-frames : goal.returns-in_err-settle_entry-clause-frames
returns-in_err-settle_entry-clause-frames g c =
    let less = subst (λ f. c.loop-k.k < f) c.frame_count-frames.ensures c.loop-k-test.true in
    let h = c.in_err-settle_entry.ensures in
    (settled_cut c.loop-k.k _ _ _ _ _ _ _ _ less c.loop-k.invariant.walk (record { endures = h.endures; marked = h.marked; one = h.one_entry; disk = h.disk; ends = h.ends })).frames

pub returns-in_err-settle_entry-clause-ends : goal.returns-in_err-settle_entry-clause-ends
returns-in_err-settle_entry-clause-ends g c =
    let less = subst (λ f. c.loop-k.k < f) c.frame_count-frames.ensures c.loop-k-test.true in
    let h = c.in_err-settle_entry.ensures in
    let p = err_from_is_err_and c.from_residual.result c.from_residual.ensures.1 in
    phase_told _ _ _ _ _ _ (p.1 ∙ ap Err p.2) (settled_cut c.loop-k.k _ _ _ _ _ _ _ _ less c.loop-k.invariant.walk (record { endures = h.endures; marked = h.marked; one = h.one_entry; disk = h.disk; ends = h.ends })).ends

pub loop-k-preserved : goal.loop-k-preserved
loop-k-preserved g c =
    let less = subst (λ f. c.loop-k.k < f) c.frame_count-frames.ensures c.loop-k-test.true in
    let h = c.in_ok-settle_entry.ensures in
    let turn : Settles c.loop-k.k (g.M.Machine.contents c.loop-k.m) (g.M.Machine.contents c.settle_entry.new.m) (g.M.Machine.run c.loop-k.m) (g.M.Machine.run c.settle_entry.new.m) _ _ = record { endures = h.endures; marked = h.marked; one = h.one_entry; disk = h.disk; ends = h.ends } in
    record { walk = settled_next c.loop-k.k _ _ _ _ _ _ _ _ (never _ Stopped) less c.loop-k.invariant.walk turn h.settled; room = h.room }

pub returns-clause-brings : goal.returns-clause-brings
returns-clause-brings g c = settled_brings c.loop-k.k _ _ _ _ c.loop-k.invariant.walk

pub returns-clause-settled : goal.returns-clause-settled
returns-clause-settled g c = settled_all c.loop-k.k _ _ _ _ (omega (arith, c.loop-k.auto.k-end, c.loop-k-test.false, c.frame_count-frames.ensures)) c.loop-k.invariant.walk

pub frame_count-frames-requires : goal.frame_count-frames-requires
frame_count-frames-requires g c = record { layout = layout_now _ _ c.requires.image }

pub returns-in_err-settle_entry-clause-settled : goal.returns-in_err-settle_entry-clause-settled
returns-in_err-settle_entry-clause-settled g c = not_ok _ c.from_residual.result c.from_residual.ensures.0

pub returns-in_err-settle_entry-clause-disk : goal.returns-in_err-settle_entry-clause-disk
returns-in_err-settle_entry-clause-disk g c = c.settle_entry.ensures.disk ∙ c.loop-k.invariant.walk.disk

pub returns-clause-ends : goal.returns-clause-ends
returns-clause-ends g c = phase_as _ _ _ _ ⊥ ⊥ _ _ (λ x. x) (never _ Fault) (never _ Stopped) c.loop-k.invariant.walk.ends
