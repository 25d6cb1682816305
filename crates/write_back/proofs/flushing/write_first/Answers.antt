use Rattle.std.proofs.Common.{◌∙◌, ◌<◌, ◌≤◌, List, arith, inl, subst, sym, Err, ap, ℕ}
use Rattle.rio_base.proofs.MachineRules.{ends_after, ends_told, lasts_trans, never}
use Rattle.rio_model.proofs.CoverSteps.{keeps_trans}
use Rattle.write_back.proofs.Steps.{coherent_then, frame_next, layout_now}
use Rattle.write_back.proofs.Walks.{Writes, counts_small, once_small, wrote_by, wrote_first, wrote_next, wrote_none}
use Rattle.std.proofs.lemmas.Result.{err_from_is_err_and}
use Rattle.write_back.proofs.Exits.{fault_on, fault_told, not_ok}
use Rattle.rio_base.specs.declared.failures.VolFail.TheVariants.{Stopped}
use Rattle.rio_model.specs.Registry.{frames_of}
use Rattle.write_back.proofs.flushing.write_first.Goals as goal

pub loop-k-init : goal.loop-k-init
loop-k-init g c = wrote_none c.args.n _ _ c.requires.closed

pub returns-then-from-n-clause-written : goal.returns-then-from-n-clause-written
returns-then-from-n-clause-written g c =
    wrote_first c.args.n c.loop-k.k _ _ _ _ _ (subst (λ f. c.loop-k.k ≤ f) c.frame_count-frames.ensures c.loop-k.auto.k-end) c.loop-k.invariant (inl (sym c.from.ensures ∙ c.if-from-n.true))

pub write_if_dirty-requires-clause-coherent : goal.write_if_dirty-requires-clause-coherent
write_if_dirty-requires-clause-coherent g c = coherent_then _ _ _ _ c.requires.coherent c.loop-k.invariant.keeps c.loop-k.invariant.steps.scratch_count

pub write_if_dirty-requires-clause-page : goal.write_if_dirty-requires-clause-page
write_if_dirty-requires-clause-page g c = frame_next _ _ _ c.loop-k.k c.frame_page_of-first.ensures.page c.loop-k.invariant.words

pub returns-in_err-dirty-clause-keeps : goal.returns-in_err-dirty-clause-keeps
returns-in_err-dirty-clause-keeps g c = keeps_trans _ _ _ c.loop-k.invariant.keeps c.write_if_dirty.ensures.keeps

pub overflow_add-written : goal.overflow_add-written
overflow_add-written g c = omega (arith, counts_small c.args.n c.loop-k.k c.loop-k.written _ c.loop-k.invariant.count, c.from-written.ensures, once_small c.in_ok-dirty.dirty, c.loop-k.auto.k-end, c.loop-k-test.true, c.frame_count-frames.ensures, c.requires.coherent.sizes.most_frames)

pub loop-k-preserved : goal.loop-k-preserved
loop-k-preserved g c =
    let h = c.in_ok-dirty.ensures in
    let turn : Writes c.loop-k.k c.in_ok-dirty.dirty (g.M.Machine.contents c.loop-k.m) (g.M.Machine.contents c.write_if_dirty.new.m) (g.M.Machine.run c.loop-k.m) (g.M.Machine.run c.write_if_dirty.new.m) = record {
      keeps = h.keeps;
      words = h.words;
      answer = h.answer;
      written = h.written;
      others = h.others;
      counted = h.counted;
      closed = h.closed;
      lasts = h.lasts;
      steps = h.ends.steps;
      runs = h.ends.runs (λ e. cc);
    } in
    wrote_by c.args.n c.loop-k.k c.loop-k.written c.from-written.result c.in_ok-dirty.dirty _ _ _ _ c.from-written.ensures
    (wrote_next c.args.n c.loop-k.k c.loop-k.written c.in_ok-dirty.dirty _ _ _ _ _ _ (subst (λ f. c.loop-k.k < f) c.frame_count-frames.ensures c.loop-k-test.true) (λ e. c.if-from-n.false (c.from.ensures ∙ e)) c.loop-k.invariant turn)

pub returns-in_err-dirty-clause-words : goal.returns-in_err-dirty-clause-words
returns-in_err-dirty-clause-words g c = c.write_if_dirty.ensures.words ∙ c.loop-k.invariant.words

pub returns-in_err-dirty-clause-written : goal.returns-in_err-dirty-clause-written
returns-in_err-dirty-clause-written g c = not_ok _ c.from_residual.result c.from_residual.ensures.0

pub returns-in_err-dirty-clause-lasts : goal.returns-in_err-dirty-clause-lasts
returns-in_err-dirty-clause-lasts g c = lasts_trans _ _ _ c.loop-k.invariant.lasts c.write_if_dirty.ensures.lasts

pub returns-in_err-dirty-clause-fault : goal.returns-in_err-dirty-clause-fault
returns-in_err-dirty-clause-fault g c = let p = err_from_is_err_and c.from_residual.result c.from_residual.ensures.1 in fault_on _ _ _ _ c.loop-k.invariant.lasts.faults.later (fault_told _ _ _ (p.1 ∙ ap Err p.2) c.in_err-dirty.ensures.fault)

pub returns-in_err-dirty-clause-ends : goal.returns-in_err-dirty-clause-ends
returns-in_err-dirty-clause-ends g c = let p = err_from_is_err_and c.from_residual.result c.from_residual.ensures.1 in ends_after _ _ _ _ c.loop-k.invariant.steps c.loop-k.invariant.runs (ends_told _ _ _ _ _ (p.1 ∙ ap Err p.2) c.in_err-dirty.ensures.ends)

pub frame_count-frames-requires : goal.frame_count-frames-requires
frame_count-frames-requires g c = record { layout = layout_now _ _ c.requires.coherent }

pub frame_page_of-first-requires-clause-layout : goal.frame_page_of-first-requires-clause-layout
frame_page_of-first-requires-clause-layout g c = layout_now _ _ c.requires.coherent

pub write_if_dirty-requires-clause-entry : goal.write_if_dirty-requires-clause-entry
write_if_dirty-requires-clause-entry g c = subst (λ f. c.loop-k.k < f) (c.frame_count-frames.ensures ∙ ap (λ (ws : List ℕ). frames_of ws) (sym c.loop-k.invariant.words)) c.loop-k-test.true

pub returns-then-from-n-clause-fault : goal.returns-then-from-n-clause-fault
returns-then-from-n-clause-fault g c = λ q. absurd (never _ _ q)

pub returns-then-from-n-clause-ends : goal.returns-then-from-n-clause-ends
returns-then-from-n-clause-ends g c = record { steps = c.loop-k.invariant.steps; told = λ q. absurd (never _ Stopped q); runs = λ q. c.loop-k.invariant.runs }

pub returns-clause-fault : goal.returns-clause-fault
returns-clause-fault g c = λ q. absurd (never _ _ q)

pub returns-clause-ends : goal.returns-clause-ends
returns-clause-ends g c = record { steps = c.loop-k.invariant.steps; told = λ q. absurd (never _ Stopped q); runs = λ q. c.loop-k.invariant.runs }
