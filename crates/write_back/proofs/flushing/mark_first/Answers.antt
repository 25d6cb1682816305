use Rattle.std.proofs.Common.{◌∙◌, Err, ◌<◌, ap, arith, subst, sym}
use Rattle.std.proofs.lemmas.Result.{err_from_is_err_and}
use Rattle.rio_base.proofs.MachineRules.{ends_after, ends_told, lasts_trans, never}
use Rattle.rio_model.proofs.CoverSteps.{keeps_trans}
use Rattle.write_back.proofs.Steps.{coherent_then, layout_now}
use Rattle.rio_model.proofs.HeldEntries.{held_each, held_then}
use Rattle.write_back.proofs.Marks.{Marks, marked_next, marked_none, marked_on_disk}
use Rattle.write_back.proofs.Exits.{not_ok, rest_then, told_back}
use Rattle.rio_base.specs.Disks.{is_pending}
use Rattle.rio_base.specs.Machine.{Contents}
use Rattle.rio_base.specs.declared.failures.VolFail.TheVariants.{Stopped}
use Rattle.write_back.specs.Flushing.{CleanedFirst}
use Rattle.write_back.proofs.flushing.mark_first.Goals as goal

pub loop-k-init : goal.loop-k-init
loop-k-init g c = marked_none c.args.count _ _

pub mark_if_dirty-requires-clause-coherent : goal.mark_if_dirty-requires-clause-coherent
mark_if_dirty-requires-clause-coherent g c = coherent_then _ _ _ _ c.requires.coherent c.loop-k.invariant.keeps c.loop-k.invariant.steps.scratch_count

pub mark_if_dirty-requires-clause-written : goal.mark_if_dirty-requires-clause-written
mark_if_dirty-requires-clause-written g c =
    marked_on_disk c.args.count c.loop-k.k c.loop-k.marked _ _ _ _ (subst (λ f. c.loop-k.k < f) c.frame_count-frames.ensures c.loop-k-test.true) c.if-marked-count.false c.loop-k.invariant c.requires.written

pub returns-in_err-dirty-clause-keeps : goal.returns-in_err-dirty-clause-keeps
returns-in_err-dirty-clause-keeps g c = keeps_trans _ _ _ c.loop-k.invariant.keeps c.mark_if_dirty.ensures.keeps

pub returns-in_err-dirty-clause-held : goal.returns-in_err-dirty-clause-held
returns-in_err-dirty-clause-held g c = λ j. held_then j _ _ _ (c.loop-k.invariant.held j) (held_each c.loop-k.k _ _ c.mark_if_dirty.ensures.one_entry c.mark_if_dirty.ensures.held j)

pub returns-in_err-dirty-clause-ends : goal.returns-in_err-dirty-clause-ends
returns-in_err-dirty-clause-ends g c =
    let p = err_from_is_err_and c.from_residual.result c.from_residual.ensures.1 in
    ends_told _ _ _ _ _ (p.1 ∙ ap Err p.2) (ends_after _ _ _ _ c.loop-k.invariant.steps c.loop-k.invariant.runs c.in_err-dirty.ensures.ends)

pub loop-k-preserved : goal.loop-k-preserved
loop-k-preserved g c =
    let h = c.in_ok-dirty.ensures in
    let turn : Marks c.loop-k.k c.in_ok-dirty.dirty (g.M.Machine.contents c.loop-k.m) (g.M.Machine.contents c.mark_if_dirty.new.m) (g.M.Machine.run c.loop-k.m) (g.M.Machine.run c.mark_if_dirty.new.m) = record {
      keeps = h.keeps;
      answer = h.answer;
      cleaned = h.cleaned;
      same = h.same;
      rest = h.rest;
      held = h.held;
      one = h.one_entry;
      lasts = h.lasts;
      steps = h.ends.steps;
      runs = h.ends.runs (λ e. cc);
    } in
    marked_next c.args.count c.loop-k.k c.loop-k.marked c.from-marked.result c.in_ok-dirty.dirty _ _ _ _ _ _ (subst (λ f. c.loop-k.k < f) c.frame_count-frames.ensures c.loop-k-test.true) c.if-marked-count.false c.from-marked.ensures c.loop-k.invariant turn

pub returns-in_err-dirty-clause-cleaned : goal.returns-in_err-dirty-clause-cleaned
returns-in_err-dirty-clause-cleaned g c = not_ok _ c.from_residual.result c.from_residual.ensures.0

pub returns-in_err-dirty-clause-rest : goal.returns-in_err-dirty-clause-rest
returns-in_err-dirty-clause-rest g c = rest_then (g.M.Machine.contents c.args.m.now) (g.M.Machine.contents c.loop-k.m) _ c.loop-k.invariant.rest c.mark_if_dirty.ensures.rest

pub returns-in_err-dirty-clause-lasts : goal.returns-in_err-dirty-clause-lasts
returns-in_err-dirty-clause-lasts g c = lasts_trans _ _ _ c.loop-k.invariant.lasts c.mark_if_dirty.ensures.lasts

pub returns-in_err-dirty-clause-fault : goal.returns-in_err-dirty-clause-fault
returns-in_err-dirty-clause-fault g c = let p = err_from_is_err_and c.from_residual.result c.from_residual.ensures.1 in λ e. c.in_err-dirty.ensures.fault (told_back _ _ _ (p.1 ∙ ap Err p.2) e)

pub frame_count-frames-requires : goal.frame_count-frames-requires
frame_count-frames-requires g c = record { layout = layout_now _ _ c.requires.coherent }

pub mark_if_dirty-requires-clause-closed : goal.mark_if_dirty-requires-clause-closed
mark_if_dirty-requires-clause-closed g c = ap (λ (m : Contents). m.open_page) c.loop-k.invariant.rest ∙ c.requires.closed

pub mark_if_dirty-requires-clause-entry : goal.mark_if_dirty-requires-clause-entry
mark_if_dirty-requires-clause-entry g c = subst (λ f. c.loop-k.k < f) (c.frame_count-frames.ensures ∙ sym c.loop-k.invariant.frames) c.loop-k-test.true

pub mark_if_dirty-requires-clause-shut : goal.mark_if_dirty-requires-clause-shut
mark_if_dirty-requires-clause-shut g c = λ shut. c.requires.shut (sym (c.loop-k.invariant.keeps.header 4 (omega arith)) ∙ shut)

pub mark_if_dirty-requires-clause-synced : goal.mark_if_dirty-requires-clause-synced
mark_if_dirty-requires-clause-synced g c = λ b. ap (λ (m : Contents). is_pending m.pending b) c.loop-k.invariant.rest ∙ c.requires.synced b

pub returns-then-marked-count-clause-closed : goal.returns-then-marked-count-clause-closed
returns-then-marked-count-clause-closed g c = ap (λ (m : Contents). m.open_page) c.loop-k.invariant.rest ∙ c.requires.closed

pub returns-then-marked-count-clause-fault : goal.returns-then-marked-count-clause-fault
returns-then-marked-count-clause-fault g c = never _ _

pub returns-then-marked-count-clause-ends : goal.returns-then-marked-count-clause-ends
returns-then-marked-count-clause-ends g c = record { steps = c.loop-k.invariant.steps; told = λ q. absurd (never _ Stopped q); runs = λ q. c.loop-k.invariant.runs }

pub returns-clause-closed : goal.returns-clause-closed
returns-clause-closed g c = ap (λ (m : Contents). m.open_page) c.loop-k.invariant.rest ∙ c.requires.closed

pub returns-clause-fault : goal.returns-clause-fault
returns-clause-fault g c = never _ _

pub returns-clause-ends : goal.returns-clause-ends
returns-clause-ends g c = record { steps = c.loop-k.invariant.steps; told = λ q. absurd (never _ Stopped q); runs = λ q. c.loop-k.invariant.runs }

pub returns-then-marked-count-clause-cleaned : goal.returns-then-marked-count-clause-cleaned
returns-then-marked-count-clause-cleaned g c = subst (λ w. CleanedFirst w (g.M.Machine.contents c.args.m.now).words (g.M.Machine.contents c.loop-k.m).words) c.if-marked-count.true c.loop-k.invariant.entries
