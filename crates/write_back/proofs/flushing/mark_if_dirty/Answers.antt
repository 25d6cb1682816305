use Rattle.std.proofs.Common.{◌∙◌, Err, ap, inl, refl, sym}
use Rattle.std.proofs.lemmas.Result.{err_from_is_err_and}
use Rattle.rio_base.specs.declared.failures.VolFail.TheVariants.{Fault, Stopped}
use Rattle.rio_base.specs.Rules.{true_false}
use Rattle.rio_base.proofs.MachineRules.{ends_err, ends_none, lasts_refl, never, steps_refl}
use Rattle.rio_model.specs.Registry.{is_dirty, is_valid}
use Rattle.rio_model.proofs.CoverSteps.{keeps_refl}
use Rattle.rio_model.proofs.HeldEntries.{held_same}
use Rattle.write_back.proofs.Exits.{needs_both, not_dirty, not_fault, not_ok, not_valid, one_same}
use Rattle.write_back.proofs.Steps.{layout_now}
use Rattle.write_back.proofs.flushing.mark_if_dirty.Goals as goal

pub returns-then-not-is_valid-clause-keeps : goal.returns-then-not-is_valid-clause-keeps
returns-then-not-is_valid-clause-keeps g c = keeps_refl _

pub returns-then-not-is_valid-clause-answer : goal.returns-then-not-is_valid-clause-answer
returns-then-not-is_valid-clause-answer g c = sym (not_valid _ c.args.k (ap is_valid (sym c.load_tag-tag.ensures) ∙ sym c.is_valid.ensures ∙ c.if-not-is_valid.true))

pub returns-then-not-is_valid-clause-cleaned : goal.returns-then-not-is_valid-clause-cleaned
returns-then-not-is_valid-clause-cleaned g c = λ e. absurd (true_false (sym e ∙ (not_valid _ c.args.k (ap is_valid (sym c.load_tag-tag.ensures) ∙ sym c.is_valid.ensures ∙ c.if-not-is_valid.true))))

pub returns-then-not-is_valid-clause-same : goal.returns-then-not-is_valid-clause-same
returns-then-not-is_valid-clause-same g c = λ e. refl

pub returns-then-not-is_valid-clause-held : goal.returns-then-not-is_valid-clause-held
returns-then-not-is_valid-clause-held g c = held_same c.args.k _ _ refl

pub returns-then-not-is_valid-clause-one_entry : goal.returns-then-not-is_valid-clause-one_entry
returns-then-not-is_valid-clause-one_entry g c = one_same c.args.k _ _ refl

pub returns-then-not-is_valid-clause-lasts : goal.returns-then-not-is_valid-clause-lasts
returns-then-not-is_valid-clause-lasts g c = lasts_refl _

pub returns-then-not-is_valid-clause-fault : goal.returns-then-not-is_valid-clause-fault
returns-then-not-is_valid-clause-fault g c = λ e. never _ Fault e

pub returns-then-not-is_valid-clause-ends : goal.returns-then-not-is_valid-clause-ends
returns-then-not-is_valid-clause-ends g c = ends_none _ _ (never _ Stopped)

pub returns-then-not-is_dirty-clause-keeps : goal.returns-then-not-is_dirty-clause-keeps
returns-then-not-is_dirty-clause-keeps g c = keeps_refl _

pub returns-then-not-is_dirty-clause-answer : goal.returns-then-not-is_dirty-clause-answer
returns-then-not-is_dirty-clause-answer g c = sym (not_dirty _ c.args.k (ap is_valid (sym c.load_tag-tag.ensures) ∙ sym c.is_valid.ensures ∙ c.if-not-is_valid.false) (ap is_dirty (sym c.load_tag-tag.ensures) ∙ sym c.is_dirty.ensures ∙ c.if-not-is_dirty.true))

pub returns-then-not-is_dirty-clause-cleaned : goal.returns-then-not-is_dirty-clause-cleaned
returns-then-not-is_dirty-clause-cleaned g c = λ e. absurd (true_false (sym e ∙ (not_dirty _ c.args.k (ap is_valid (sym c.load_tag-tag.ensures) ∙ sym c.is_valid.ensures ∙ c.if-not-is_valid.false) (ap is_dirty (sym c.load_tag-tag.ensures) ∙ sym c.is_dirty.ensures ∙ c.if-not-is_dirty.true))))

pub returns-then-not-is_dirty-clause-same : goal.returns-then-not-is_dirty-clause-same
returns-then-not-is_dirty-clause-same g c = λ e. refl

pub returns-then-not-is_dirty-clause-held : goal.returns-then-not-is_dirty-clause-held
returns-then-not-is_dirty-clause-held g c = held_same c.args.k _ _ refl

pub returns-then-not-is_dirty-clause-one_entry : goal.returns-then-not-is_dirty-clause-one_entry
returns-then-not-is_dirty-clause-one_entry g c = one_same c.args.k _ _ refl

pub returns-then-not-is_dirty-clause-lasts : goal.returns-then-not-is_dirty-clause-lasts
returns-then-not-is_dirty-clause-lasts g c = lasts_refl _

pub returns-then-not-is_dirty-clause-fault : goal.returns-then-not-is_dirty-clause-fault
returns-then-not-is_dirty-clause-fault g c = λ e. never _ Fault e

pub returns-then-not-is_dirty-clause-ends : goal.returns-then-not-is_dirty-clause-ends
returns-then-not-is_dirty-clause-ends g c = ends_none _ _ (never _ Stopped)

pub mark_clean-requires-clause-valid : goal.mark_clean-requires-clause-valid
mark_clean-requires-clause-valid g c = record { within = c.requires.entry; valid = (ap is_valid (sym c.load_tag-tag.ensures) ∙ sym c.is_valid.ensures ∙ c.if-not-is_valid.false) }

pub mark_clean-requires-clause-bare : goal.mark_clean-requires-clause-bare
mark_clean-requires-clause-bare g c = inl c.requires.shut

pub mark_clean-requires-clause-written : goal.mark_clean-requires-clause-written
mark_clean-requires-clause-written g c = c.requires.written (needs_both _ c.args.k (ap is_valid (sym c.load_tag-tag.ensures) ∙ sym c.is_valid.ensures ∙ c.if-not-is_valid.false) (ap is_dirty (sym c.load_tag-tag.ensures) ∙ sym c.is_dirty.ensures ∙ c.if-not-is_dirty.false))

pub mark_clean-requires-clause-synced : goal.mark_clean-requires-clause-synced
mark_clean-requires-clause-synced g c = c.requires.synced _

pub returns-in_err-mark_clean-clause-answer : goal.returns-in_err-mark_clean-clause-answer
returns-in_err-mark_clean-clause-answer g c = not_ok _ c.from_residual.result c.from_residual.ensures.0

pub returns-in_err-mark_clean-clause-cleaned : goal.returns-in_err-mark_clean-clause-cleaned
returns-in_err-mark_clean-clause-cleaned g c = not_ok _ c.from_residual.result c.from_residual.ensures.0

pub returns-in_err-mark_clean-clause-same : goal.returns-in_err-mark_clean-clause-same
returns-in_err-mark_clean-clause-same g c = λ e. c.in_err-mark_clean.ensures.same

pub returns-in_err-mark_clean-clause-fault : goal.returns-in_err-mark_clean-clause-fault
returns-in_err-mark_clean-clause-fault g c = let p = err_from_is_err_and c.from_residual.result c.from_residual.ensures.1 in λ e. not_fault _ (p.1 ∙ ap Err p.2) e

pub returns-in_err-mark_clean-clause-ends : goal.returns-in_err-mark_clean-clause-ends
returns-in_err-mark_clean-clause-ends g c = let p = err_from_is_err_and c.from_residual.result c.from_residual.ensures.1 in ends_err _ _ _ _ _ refl (p.1 ∙ ap Err p.2) (steps_refl _) c.in_err-mark_clean.ensures.ends

pub returns-clause-answer : goal.returns-clause-answer
returns-clause-answer g c = sym (needs_both _ c.args.k (ap is_valid (sym c.load_tag-tag.ensures) ∙ sym c.is_valid.ensures ∙ c.if-not-is_valid.false) (ap is_dirty (sym c.load_tag-tag.ensures) ∙ sym c.is_dirty.ensures ∙ c.if-not-is_dirty.false))

pub returns-clause-cleaned : goal.returns-clause-cleaned
returns-clause-cleaned g c = λ e. c.in_ok-mark_clean.ensures.cleaned

pub returns-clause-same : goal.returns-clause-same
returns-clause-same g c = λ e. absurd (true_false (sym (needs_both _ c.args.k (ap is_valid (sym c.load_tag-tag.ensures) ∙ sym c.is_valid.ensures ∙ c.if-not-is_valid.false) (ap is_dirty (sym c.load_tag-tag.ensures) ∙ sym c.is_dirty.ensures ∙ c.if-not-is_dirty.false)) ∙ e))

pub returns-clause-fault : goal.returns-clause-fault
returns-clause-fault g c = λ e. never _ Fault e

pub returns-clause-ends : goal.returns-clause-ends
returns-clause-ends g c = let ends = c.in_ok-mark_clean.ensures.ends in record { steps = ends.steps; told = λ e. absurd (never _ Stopped e); runs = λ n. ends.runs (λ e. true_false (sym e)) }

pub load_tag-tag-requires-clause-layout : goal.load_tag-tag-requires-clause-layout
load_tag-tag-requires-clause-layout g c = layout_now _ _ c.requires.coherent
