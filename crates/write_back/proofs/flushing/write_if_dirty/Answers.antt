use Rattle.std.proofs.Common.{◌∙◌, Err, ap, sym}
use Rattle.std.proofs.lemmas.Result.{err_from_is_err_and}
use Rattle.rio_base.specs.declared.failures.VolFail.TheVariants.{Fault, Stopped}
use Rattle.rio_base.specs.Rules.{true_false}
use Rattle.rio_base.proofs.MachineRules.{ends_none, ends_told, lasts_refl, never}
use Rattle.rio_model.specs.Registry.{is_dirty, is_valid}
use Rattle.rio_model.proofs.CoverSteps.{keeps_refl}
use Rattle.write_back.proofs.Exits.{fault_told, needs_both, not_dirty, not_ok, not_valid, one_more}
use Rattle.write_back.proofs.Walks.{raised_none}
use Rattle.write_back.proofs.flushing.write_if_dirty.Goals as goal

pub returns-then-not-is_valid-clause-keeps : goal.returns-then-not-is_valid-clause-keeps
returns-then-not-is_valid-clause-keeps g c = keeps_refl _

pub returns-then-not-is_valid-clause-answer : goal.returns-then-not-is_valid-clause-answer
returns-then-not-is_valid-clause-answer g c = sym (not_valid _ c.args.k (ap is_valid (sym c.load_tag-tag.ensures) ∙ sym c.is_valid.ensures ∙ c.if-not-is_valid.true))

pub returns-then-not-is_valid-clause-written : goal.returns-then-not-is_valid-clause-written
returns-then-not-is_valid-clause-written g c = λ e. absurd (true_false (sym e ∙ (not_valid _ c.args.k (ap is_valid (sym c.load_tag-tag.ensures) ∙ sym c.is_valid.ensures ∙ c.if-not-is_valid.true))))

pub returns-then-not-is_valid-clause-others : goal.returns-then-not-is_valid-clause-others
returns-then-not-is_valid-clause-others g c = λ j v ne d. d

pub returns-then-not-is_valid-clause-counted : goal.returns-then-not-is_valid-clause-counted
returns-then-not-is_valid-clause-counted g c = sym (raised_none _)

pub returns-then-not-is_valid-clause-one_write : goal.returns-then-not-is_valid-clause-one_write
returns-then-not-is_valid-clause-one_write g c = one_more _

pub returns-then-not-is_valid-clause-lasts : goal.returns-then-not-is_valid-clause-lasts
returns-then-not-is_valid-clause-lasts g c = lasts_refl _

pub returns-then-not-is_valid-clause-fault : goal.returns-then-not-is_valid-clause-fault
returns-then-not-is_valid-clause-fault g c = λ e. absurd (never _ Fault e)

pub returns-then-not-is_valid-clause-ends : goal.returns-then-not-is_valid-clause-ends
returns-then-not-is_valid-clause-ends g c = ends_none _ _ (never _ Stopped)

pub returns-then-not-is_dirty-clause-keeps : goal.returns-then-not-is_dirty-clause-keeps
returns-then-not-is_dirty-clause-keeps g c = keeps_refl _

pub returns-then-not-is_dirty-clause-answer : goal.returns-then-not-is_dirty-clause-answer
returns-then-not-is_dirty-clause-answer g c = sym (not_dirty _ c.args.k (ap is_valid (sym c.load_tag-tag.ensures) ∙ sym c.is_valid.ensures ∙ c.if-not-is_valid.false) (ap is_dirty (sym c.load_tag-tag.ensures) ∙ sym c.is_dirty.ensures ∙ c.if-not-is_dirty.true))

pub returns-then-not-is_dirty-clause-written : goal.returns-then-not-is_dirty-clause-written
returns-then-not-is_dirty-clause-written g c = λ e. absurd (true_false (sym e ∙ (not_dirty _ c.args.k (ap is_valid (sym c.load_tag-tag.ensures) ∙ sym c.is_valid.ensures ∙ c.if-not-is_valid.false) (ap is_dirty (sym c.load_tag-tag.ensures) ∙ sym c.is_dirty.ensures ∙ c.if-not-is_dirty.true))))

pub returns-then-not-is_dirty-clause-others : goal.returns-then-not-is_dirty-clause-others
returns-then-not-is_dirty-clause-others g c = λ j v ne d. d

pub returns-then-not-is_dirty-clause-counted : goal.returns-then-not-is_dirty-clause-counted
returns-then-not-is_dirty-clause-counted g c = sym (raised_none _)

pub returns-then-not-is_dirty-clause-one_write : goal.returns-then-not-is_dirty-clause-one_write
returns-then-not-is_dirty-clause-one_write g c = one_more _

pub returns-then-not-is_dirty-clause-lasts : goal.returns-then-not-is_dirty-clause-lasts
returns-then-not-is_dirty-clause-lasts g c = lasts_refl _

pub returns-then-not-is_dirty-clause-fault : goal.returns-then-not-is_dirty-clause-fault
returns-then-not-is_dirty-clause-fault g c = λ e. absurd (never _ Fault e)

pub returns-then-not-is_dirty-clause-ends : goal.returns-then-not-is_dirty-clause-ends
returns-then-not-is_dirty-clause-ends g c = ends_none _ _ (never _ Stopped)

pub write_entry-requires-clause-valid : goal.write_entry-requires-clause-valid
write_entry-requires-clause-valid g c = record { within = c.requires.entry; valid = (ap is_valid (sym c.load_tag-tag.ensures) ∙ sym c.is_valid.ensures ∙ c.if-not-is_valid.false) }

pub write_entry-requires-clause-dirty : goal.write_entry-requires-clause-dirty
write_entry-requires-clause-dirty g c = (ap is_dirty (sym c.load_tag-tag.ensures) ∙ sym c.is_dirty.ensures ∙ c.if-not-is_dirty.false)

pub returns-in_err-write_entry-clause-answer : goal.returns-in_err-write_entry-clause-answer
returns-in_err-write_entry-clause-answer g c = not_ok _ c.from_residual.result c.from_residual.ensures.0

pub returns-in_err-write_entry-clause-written : goal.returns-in_err-write_entry-clause-written
returns-in_err-write_entry-clause-written g c = not_ok _ c.from_residual.result c.from_residual.ensures.0

pub returns-in_err-write_entry-clause-counted : goal.returns-in_err-write_entry-clause-counted
returns-in_err-write_entry-clause-counted g c = not_ok _ c.from_residual.result c.from_residual.ensures.0

pub returns-in_err-write_entry-clause-fault : goal.returns-in_err-write_entry-clause-fault
returns-in_err-write_entry-clause-fault g c = let p = err_from_is_err_and c.from_residual.result c.from_residual.ensures.1 in fault_told _ _ _ (p.1 ∙ ap Err p.2) c.in_err-write_entry.ensures.fault

pub returns-in_err-write_entry-clause-ends : goal.returns-in_err-write_entry-clause-ends
returns-in_err-write_entry-clause-ends g c = let p = err_from_is_err_and c.from_residual.result c.from_residual.ensures.1 in ends_told _ _ _ _ _ (p.1 ∙ ap Err p.2) c.in_err-write_entry.ensures.ends

pub returns-clause-answer : goal.returns-clause-answer
returns-clause-answer g c = sym (needs_both _ c.args.k (ap is_valid (sym c.load_tag-tag.ensures) ∙ sym c.is_valid.ensures ∙ c.if-not-is_valid.false) (ap is_dirty (sym c.load_tag-tag.ensures) ∙ sym c.is_dirty.ensures ∙ c.if-not-is_dirty.false))

pub returns-clause-written : goal.returns-clause-written
returns-clause-written g c = λ e. c.in_ok-write_entry.ensures.written

pub returns-clause-fault : goal.returns-clause-fault
returns-clause-fault g c = λ e. absurd (never _ Fault e)

pub returns-clause-ends : goal.returns-clause-ends
returns-clause-ends g c = let ends = c.in_ok-write_entry.ensures.ends in record { steps = ends.steps; told = λ e. absurd (never _ Stopped e); runs = λ n. ends.runs (never _ Stopped) }
