use Rattle.std.proofs.Common.{◌∙◌, ◌<◌, Err, ap, arith, subst, sym}
use Rattle.std.proofs.lemmas.Result.{err_from_is_err_and}
use Rattle.rio_base.proofs.MachineRules.{never}
use Rattle.rio_base.specs.declared.failures.VolFail.TheVariants.{Fault, Stopped}
use Rattle.rio_model.specs.Standing.{stale_block}
use Rattle.page_restore.proofs.ClearTurns.{Clears, cleared_all, cleared_cut, cleared_next, cleared_none, home_then, synced_then}
use Rattle.page_restore.proofs.Steps.{image_next, layout_now, phase_as, phase_told}
use Rattle.page_restore.proofs.Exits.{not_ok}
use Rattle.page_restore.proofs.clearing.clear_entries.Goals as goal

pub loop-k-init : goal.loop-k-init
loop-k-init g c = cleared_none c.args.marks.now _ _ c.requires.closed

pub clear_entry-requires-clause-image : goal.clear_entry-requires-clause-image
clear_entry-requires-clause-image g c = image_next (stale_block c.args.marks.now (g.M.Machine.contents c.args.m.now).words) _ _ _ _ _ _ c.requires.image c.loop-k.invariant.endures c.loop-k.invariant.ends

pub clear_entry-requires-clause-entry : goal.clear_entry-requires-clause-entry
clear_entry-requires-clause-entry g c = subst (λ f. c.loop-k.k < f) (c.frame_count-frames.ensures ∙ sym c.loop-k.invariant.frames) c.loop-k-test.true

pub clear_entry-requires-clause-synced : goal.clear_entry-requires-clause-synced
clear_entry-requires-clause-synced g c = synced_then (g.M.Machine.contents c.args.m.now) (g.M.Machine.contents c.loop-k.m) c.loop-k.invariant.rest c.requires.synced

pub clear_entry-requires-clause-home : goal.clear_entry-requires-clause-home
clear_entry-requires-clause-home g c = home_then c.args.marks.now c.loop-k.k _ _ _ _ c.loop-k.invariant c.requires.home

pub returns-in_err-clear_entry-clause-endures : goal.returns-in_err-clear_entry-clause-endures
returns-in_err-clear_entry-clause-endures g c = (cleared_cut c.args.marks.now c.loop-k.k _ _ _ _ _ _ _ _ c.loop-k.invariant (record { endures = c.clear_entry.ensures.endures; rest = c.clear_entry.ensures.rest; one = c.clear_entry.ensures.one_entry; ends = c.in_err-clear_entry.ensures.ends })).endures

pub returns-in_err-clear_entry-clause-rest : goal.returns-in_err-clear_entry-clause-rest
returns-in_err-clear_entry-clause-rest g c = (cleared_cut c.args.marks.now c.loop-k.k _ _ _ _ _ _ _ _ c.loop-k.invariant (record { endures = c.clear_entry.ensures.endures; rest = c.clear_entry.ensures.rest; one = c.clear_entry.ensures.one_entry; ends = c.in_err-clear_entry.ensures.ends })).rest

pub returns-in_err-clear_entry-clause-ends : goal.returns-in_err-clear_entry-clause-ends
returns-in_err-clear_entry-clause-ends g c =
    let p = err_from_is_err_and c.from_residual.result c.from_residual.ensures.1 in
    phase_told _ _ _ _ _ _ (p.1 ∙ ap Err p.2) (cleared_cut c.args.marks.now c.loop-k.k _ _ _ _ _ _ _ _ c.loop-k.invariant (record { endures = c.clear_entry.ensures.endures; rest = c.clear_entry.ensures.rest; one = c.clear_entry.ensures.one_entry; ends = c.in_err-clear_entry.ensures.ends })).ends

pub loop-k-preserved : goal.loop-k-preserved
loop-k-preserved g c =
    let h = c.in_ok-clear_entry.ensures in
    let turn : Clears c.args.marks.now c.loop-k.k (g.M.Machine.contents c.loop-k.m) (g.M.Machine.contents c.clear_entry.new.m) (g.M.Machine.run c.loop-k.m) (g.M.Machine.run c.clear_entry.new.m) _ _ = record { endures = h.endures; rest = h.rest; one = h.one_entry; ends = h.ends } in
    cleared_next c.args.marks.now c.loop-k.k _ _ _ _ _ _ _ _ (never _ Stopped) (subst (λ f. c.loop-k.k < f) c.frame_count-frames.ensures c.loop-k-test.true) c.loop-k.invariant turn h.gone

pub returns-clause-gone : goal.returns-clause-gone
returns-clause-gone g c = cleared_all c.args.marks.now c.loop-k.k _ _ _ _ (omega (arith, c.loop-k.auto.k-end, c.loop-k-test.false, c.frame_count-frames.ensures)) c.loop-k.invariant

pub frame_count-frames-requires : goal.frame_count-frames-requires
frame_count-frames-requires g c = record { layout = layout_now _ _ c.requires.image }

pub returns-in_err-clear_entry-clause-gone : goal.returns-in_err-clear_entry-clause-gone
returns-in_err-clear_entry-clause-gone g c = not_ok _ c.from_residual.result c.from_residual.ensures.0

pub returns-clause-ends : goal.returns-clause-ends
returns-clause-ends g c = phase_as _ _ _ _ ⊥ ⊥ _ _ (λ x. x) (never _ Fault) (never _ Stopped) c.loop-k.invariant.ends
