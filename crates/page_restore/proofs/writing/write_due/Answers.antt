use Rattle.std.proofs.Common.{◌∙◌, ◌<◌, ◌+◌, ◌≡◌, Err, List, ap, arith, subst, sym, ℕ}
use Rattle.std.proofs.lemmas.Result.{err_from_is_err_and}
use Rattle.rio_base.proofs.MachineRules.{never}
use Rattle.rio_base.specs.declared.failures.VolFail.TheVariants.{Fault, Stopped}
use Rattle.rio_model.specs.Registry.{frames_of}
use Rattle.rio_model.specs.Standing.{none_apart}
use Rattle.page_restore.specs.Phases.{due_before, is_due}
use Rattle.page_restore.proofs.Due.{byte_small, due_more, due_none, due_small}
use Rattle.page_restore.proofs.Steps.{image_next, layout_now, phase_as, phase_told}
use Rattle.page_restore.proofs.WriteTurns.{Writes, all_brought, wrote_cut, wrote_next, wrote_none}
use Rattle.page_restore.proofs.Exits.{not_ok}
use Rattle.page_restore.proofs.writing.write_due.Goals as goal

pub loop-k-init : goal.loop-k-init
loop-k-init g c = record { walk = wrote_none c.args.kind c.args.marks.now _ _ c.requires.closed; counted = sym (due_none c.args.kind c.args.marks.now _) }

pub write_if_due-requires-clause-image : goal.write_if_due-requires-clause-image
write_if_due-requires-clause-image g c = image_next none_apart _ _ _ _ _ _ c.requires.image c.loop-k.invariant.walk.endures c.loop-k.invariant.walk.ends

pub write_if_due-requires-clause-entry : goal.write_if_due-requires-clause-entry
write_if_due-requires-clause-entry g c = subst (λ f. c.loop-k.k < f) (c.frame_count-frames.ensures ∙ ap (λ (ws : List ℕ). frames_of ws) (sym c.loop-k.invariant.walk.words)) c.loop-k-test.true

pub write_if_due-requires-clause-marks : goal.write_if_due-requires-clause-marks
write_if_due-requires-clause-marks g c = c.requires.marks ∙ ap (λ (ws : List ℕ). frames_of ws) (sym c.loop-k.invariant.walk.words)

pub overflow_add-count : goal.overflow_add-count
overflow_add-count g c = omega (arith, due_small c.args.kind c.args.marks.now (g.M.Machine.contents c.args.m.now).words c.loop-k.k, c.loop-k.invariant.counted, c.from-count.ensures, byte_small c.in_ok-due.due, c.loop-k.auto.k-end, c.loop-k-test.true, c.frame_count-frames.ensures, c.requires.image.sizes.most_frames)

pub loop-k-preserved : goal.loop-k-preserved
loop-k-preserved g c =
    let h = c.in_ok-due.ensures in
    let turn : Writes c.args.kind c.args.marks.now c.loop-k.k (g.M.Machine.contents c.loop-k.m) (g.M.Machine.contents c.write_if_due.new.m) (g.M.Machine.run c.loop-k.m) (g.M.Machine.run c.write_if_due.new.m) _ _ = record { endures = h.endures; words = h.words; same = h.same; others = h.others; ends = h.ends } in
    record {
      walk = wrote_next c.args.kind c.args.marks.now c.loop-k.k _ _ _ _ _ _ _ _ (never _ Stopped) c.requires.image.rules.blocks (subst (λ f. c.loop-k.k < f) c.frame_count-frames.ensures c.loop-k-test.true) c.loop-k.invariant.walk turn h.home;
      counted = ap (λ n. n + c.from-count.result) c.loop-k.invariant.counted ∙ sym (due_more c.args.kind c.args.marks.now (g.M.Machine.contents c.args.m.now).words c.loop-k.k c.from-count.result c.in_ok-due.due c.from-count.ensures (h.answer ∙ ap (λ (ws : List ℕ). is_due c.args.kind c.args.marks.now ws c.loop-k.k) c.loop-k.invariant.walk.words));
    }

-- ---- a turn that was cut off

pub returns-in_err-due-clause-endures : goal.returns-in_err-due-clause-endures
returns-in_err-due-clause-endures g c =
    let less = subst (λ f. c.loop-k.k < f) c.frame_count-frames.ensures c.loop-k-test.true in
    let h = c.in_err-due.ensures in
    (wrote_cut c.args.kind c.args.marks.now c.loop-k.k _ _ _ _ _ _ _ _ less c.loop-k.invariant.walk (record { endures = h.endures; words = h.words; same = h.same; others = h.others; ends = h.ends })).endures

pub returns-in_err-due-clause-words : goal.returns-in_err-due-clause-words
returns-in_err-due-clause-words g c = c.write_if_due.ensures.words ∙ c.loop-k.invariant.walk.words

pub returns-in_err-due-clause-writes : goal.returns-in_err-due-clause-writes
returns-in_err-due-clause-writes g c =
    let less = subst (λ f. c.loop-k.k < f) c.frame_count-frames.ensures c.loop-k-test.true in
    let h = c.in_err-due.ensures in
    (wrote_cut c.args.kind c.args.marks.now c.loop-k.k _ _ _ _ _ _ _ _ less c.loop-k.invariant.walk (record { endures = h.endures; words = h.words; same = h.same; others = h.others; ends = h.ends })).writes

pub returns-in_err-due-clause-ends : goal.returns-in_err-due-clause-ends
returns-in_err-due-clause-ends g c =
    let less = subst (λ f. c.loop-k.k < f) c.frame_count-frames.ensures c.loop-k-test.true in
    let h = c.in_err-due.ensures in
    let p = err_from_is_err_and c.from_residual.result c.from_residual.ensures.1 in
    phase_told _ _ _ _ _ _ (p.1 ∙ ap Err p.2) (wrote_cut c.args.kind c.args.marks.now c.loop-k.k _ _ _ _ _ _ _ _ less c.loop-k.invariant.walk (record { endures = h.endures; words = h.words; same = h.same; others = h.others; ends = h.ends })).ends

-- ---- after the last

pub returns-clause-brought : goal.returns-clause-brought
returns-clause-brought g c = all_brought c.args.kind c.args.marks.now c.loop-k.k _ _ _ _ (omega (arith, c.loop-k.auto.k-end, c.loop-k-test.false, c.frame_count-frames.ensures)) c.loop-k.invariant.walk

pub returns-clause-count : goal.returns-clause-count
returns-clause-count g c =
    let all : c.loop-k.k ≡ c.frame_count-frames.result = omega (arith, c.loop-k.auto.k-end, c.loop-k-test.false) in
    c.loop-k.invariant.counted ∙ ap (due_before c.args.kind c.args.marks.now (g.M.Machine.contents c.args.m.now).words) (all ∙ c.frame_count-frames.ensures)

pub frame_count-frames-requires : goal.frame_count-frames-requires
frame_count-frames-requires g c = record { layout = layout_now _ _ c.requires.image }

pub returns-in_err-due-clause-brought : goal.returns-in_err-due-clause-brought
returns-in_err-due-clause-brought g c = not_ok _ c.from_residual.result c.from_residual.ensures.0

pub returns-in_err-due-clause-count : goal.returns-in_err-due-clause-count
returns-in_err-due-clause-count g c = not_ok _ c.from_residual.result c.from_residual.ensures.0

pub returns-clause-ends : goal.returns-clause-ends
returns-clause-ends g c = phase_as _ _ _ _ ⊥ ⊥ _ _ (λ x. x) (never _ Fault) (never _ Stopped) c.loop-k.invariant.walk.ends
