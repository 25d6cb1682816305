use Rattle.std.proofs.Common.{◌∙◌, Err, ap, refl, sym}
use Rattle.std.proofs.lemmas.Result.{err_from_is_err_and}
use Rattle.rio_base.proofs.MachineRules.{never}
use Rattle.rio_base.specs.Rules.{true_false}
use Rattle.rio_base.specs.declared.failures.VolFail.TheVariants.{Fault, Stopped}
use Rattle.rio_model.specs.Standing.{none_apart}
use Rattle.rio_model.proofs.RebootSteps.{endures_refl}
use Rattle.page_restore.proofs.Exits.{not_ok, phase_well}
use Rattle.page_restore.proofs.Steps.{layout_now, phase_none, phase_told}
use Rattle.page_restore.proofs.WriteTurns.{dirty_due, valid_due}
use Rattle.page_restore.proofs.writing.write_if_due.Goals as goal

pub is_due-requires-clause-layout : goal.is_due-requires-clause-layout
is_due-requires-clause-layout g c = layout_now _ _ c.requires.image

pub write_page-requires-clause-valid : goal.write_page-requires-clause-valid
write_page-requires-clause-valid g c = valid_due c.args.kind c.args.marks.now _ c.args.k c.requires.entry (sym c.is_due.ensures ∙ c.if-not-is_due.false)

pub write_page-requires-clause-dirty : goal.write_page-requires-clause-dirty
write_page-requires-clause-dirty g c = dirty_due c.args.kind c.args.marks.now _ c.args.k (sym c.is_due.ensures ∙ c.if-not-is_due.false)

-- ---- a page that is not due

pub returns-then-not-is_due-clause-endures : goal.returns-then-not-is_due-clause-endures
returns-then-not-is_due-clause-endures g c = endures_refl none_apart _

pub returns-then-not-is_due-clause-answer : goal.returns-then-not-is_due-clause-answer
returns-then-not-is_due-clause-answer g c = sym c.if-not-is_due.true ∙ c.is_due.ensures

pub returns-then-not-is_due-clause-home : goal.returns-then-not-is_due-clause-home
returns-then-not-is_due-clause-home g c = λ due. absurd (true_false (sym due ∙ sym c.is_due.ensures ∙ c.if-not-is_due.true))

pub returns-then-not-is_due-clause-same : goal.returns-then-not-is_due-clause-same
returns-then-not-is_due-clause-same g c = λ out. refl

pub returns-then-not-is_due-clause-others : goal.returns-then-not-is_due-clause-others
returns-then-not-is_due-clause-others g c = λ b ne. refl

pub returns-then-not-is_due-clause-ends : goal.returns-then-not-is_due-clause-ends
returns-then-not-is_due-clause-ends g c = phase_none _ _ _ _ c.requires.closed (never _ Fault) (never _ Stopped)

-- ---- a write that failed

pub returns-in_err-write_page-clause-answer : goal.returns-in_err-write_page-clause-answer
returns-in_err-write_page-clause-answer g c = not_ok _ c.from_residual.result c.from_residual.ensures.0

pub returns-in_err-write_page-clause-home : goal.returns-in_err-write_page-clause-home
returns-in_err-write_page-clause-home g c = not_ok _ c.from_residual.result c.from_residual.ensures.0

pub returns-in_err-write_page-clause-same : goal.returns-in_err-write_page-clause-same
returns-in_err-write_page-clause-same g c = λ out. absurd (true_false (sym c.if-not-is_due.false ∙ c.is_due.ensures ∙ out))

pub returns-in_err-write_page-clause-ends : goal.returns-in_err-write_page-clause-ends
returns-in_err-write_page-clause-ends g c =
    let p = err_from_is_err_and c.from_residual.result c.from_residual.ensures.1 in
    phase_told _ _ _ _ _ _ (p.1 ∙ ap Err p.2) c.in_err-write_page.ensures.ends

-- ---- a page that was written

pub returns-clause-answer : goal.returns-clause-answer
returns-clause-answer g c = sym c.if-not-is_due.false ∙ c.is_due.ensures

pub returns-clause-home : goal.returns-clause-home
returns-clause-home g c = λ due. c.in_ok-write_page.ensures.home

pub returns-clause-same : goal.returns-clause-same
returns-clause-same g c = λ out. absurd (true_false (sym c.if-not-is_due.false ∙ c.is_due.ensures ∙ out))

pub returns-clause-ends : goal.returns-clause-ends
returns-clause-ends g c = phase_well _ _ _ _ _ _ c.in_ok-write_page.ensures.ends
