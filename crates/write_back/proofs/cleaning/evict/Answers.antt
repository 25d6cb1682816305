use Rattle.std.proofs.Common.{◌∙◌, Err, ap, refl, sym}
use Rattle.std.proofs.lemmas.Result.{err_from_is_err_and}
use Rattle.rio_base.specs.Rules.{true_false}
use Rattle.rio_base.specs.declared.failures.VolFail.TheVariants.{Stopped, Fault}
use Rattle.rio_base.proofs.MachineRules.{ends_as, ends_err, never, ends_told, lasts_trans}
use Rattle.write_back.proofs.Steps.{coherent_then, keeps_then}
use Rattle.rio_model.proofs.HeldEntries.{held_then, narrows_gone, narrows_held, one_entry_then}
use Rattle.rio_model.specs.Registry.{is_dirty, tag_at}
use Rattle.write_back.proofs.Exits.{at_err, disk_on, fault_told, few_on, not_fault, not_ok, writes_rest}
use Rattle.write_back.proofs.cleaning.evict.Goals as goal

pub drop_entry-requires-clause-coherent : goal.drop_entry-requires-clause-coherent
drop_entry-requires-clause-coherent g c = coherent_then _ _ _ _ c.requires.coherent c.clean.ensures.keeps c.clean.ensures.ends.steps.scratch_count

pub returns-in_err-drop_entry-clause-narrows : goal.returns-in_err-drop_entry-clause-narrows
returns-in_err-drop_entry-clause-narrows g c =
    narrows_held c.args.k _ _ c.requires.coherent.rules.blocks (one_entry_then c.args.k _ _ _ c.clean.ensures.one_entry c.drop_entry.ensures.one_entry) (held_then c.args.k _ _ _ c.clean.ensures.held c.in_err-drop_entry.ensures.held)

pub returns-clause-narrows : goal.returns-clause-narrows
returns-clause-narrows g c =
    narrows_gone c.args.k _ _ c.requires.coherent.rules.blocks (one_entry_then c.args.k _ _ _ c.clean.ensures.one_entry c.drop_entry.ensures.one_entry) c.in_ok-drop_entry.ensures.gone

pub returns-in_err-drop_entry-clause-ends : goal.returns-in_err-drop_entry-clause-ends
returns-in_err-drop_entry-clause-ends g c =
    let p = err_from_is_err_and c.from_residual-in_err-drop_entry.result c.from_residual-in_err-drop_entry.ensures.1 in
    ends_err _ _ _ _ _ refl (p.1 ∙ ap Err p.2) c.clean.ensures.ends.steps c.in_err-drop_entry.ensures.ends

pub returns-clause-ends : goal.returns-clause-ends
returns-clause-ends g c =
    ends_as _ _ _ _ _ _ (never _ Stopped) c.in_ok-clean.ensures.ends c.in_ok-drop_entry.ensures.ends (λ e. absurd (never _ Stopped e)) (λ e. absurd (true_false (sym e)))

pub returns-in_err-clean-clause-marks : goal.returns-in_err-clean-clause-marks
returns-in_err-clean-clause-marks g c = λ dirty. ap (λ ws. is_dirty (tag_at ws c.args.k)) (sym c.in_err-clean.ensures.same) ∙ dirty

pub returns-in_err-drop_entry-clause-marks : goal.returns-in_err-drop_entry-clause-marks
returns-in_err-drop_entry-clause-marks g c = λ dirty. absurd (true_false (sym dirty ∙ ap (λ ws. is_dirty (tag_at ws c.args.k)) c.in_err-drop_entry.ensures.same ∙ c.in_ok-clean.ensures.cleaned.clean))

pub returns-clause-marks : goal.returns-clause-marks
returns-clause-marks g c = λ dirty. absurd (true_false (sym dirty ∙ ap is_dirty c.in_ok-drop_entry.ensures.gone))

pub returns-in_err-clean-clause-gone : goal.returns-in_err-clean-clause-gone
returns-in_err-clean-clause-gone g c = not_ok _ c.from_residual.result c.from_residual.ensures.0

pub returns-in_err-clean-clause-held : goal.returns-in_err-clean-clause-held
returns-in_err-clean-clause-held g c = at_err c.from_residual.result c.from_residual.ensures.0 c.clean.ensures.held

pub returns-in_err-clean-clause-fault : goal.returns-in_err-clean-clause-fault
returns-in_err-clean-clause-fault g c = let p = err_from_is_err_and c.from_residual.result c.from_residual.ensures.1 in fault_told _ _ _ (p.1 ∙ ap Err p.2) c.in_err-clean.ensures.fault

pub returns-in_err-clean-clause-ends : goal.returns-in_err-clean-clause-ends
returns-in_err-clean-clause-ends g c = let p = err_from_is_err_and c.from_residual.result c.from_residual.ensures.1 in ends_told _ _ _ _ _ (p.1 ∙ ap Err p.2) c.in_err-clean.ensures.ends

pub returns-in_err-drop_entry-clause-keeps : goal.returns-in_err-drop_entry-clause-keeps
returns-in_err-drop_entry-clause-keeps g c = keeps_then _ _ _ c.clean.ensures.keeps c.drop_entry.ensures.keeps

pub returns-in_err-drop_entry-clause-gone : goal.returns-in_err-drop_entry-clause-gone
returns-in_err-drop_entry-clause-gone g c = not_ok _ c.from_residual-in_err-drop_entry.result c.from_residual-in_err-drop_entry.ensures.0

pub returns-in_err-drop_entry-clause-held : goal.returns-in_err-drop_entry-clause-held
returns-in_err-drop_entry-clause-held g c = at_err c.from_residual-in_err-drop_entry.result c.from_residual-in_err-drop_entry.ensures.0 (held_then c.args.k _ _ _ c.clean.ensures.held c.in_err-drop_entry.ensures.held)

pub returns-in_err-drop_entry-clause-one_entry : goal.returns-in_err-drop_entry-clause-one_entry
returns-in_err-drop_entry-clause-one_entry g c = one_entry_then c.args.k _ _ _ c.clean.ensures.one_entry c.drop_entry.ensures.one_entry

pub returns-in_err-drop_entry-clause-clean_entry : goal.returns-in_err-drop_entry-clause-clean_entry
returns-in_err-drop_entry-clause-clean_entry g c = λ clean. disk_on _ _ _ (c.clean.ensures.clean_entry clean) c.drop_entry.ensures.rest

pub returns-in_err-drop_entry-clause-one_write : goal.returns-in_err-drop_entry-clause-one_write
returns-in_err-drop_entry-clause-one_write g c = few_on _ _ _ (writes_rest (g.M.Machine.contents c.clean.new.m) _ c.drop_entry.ensures.rest) c.clean.ensures.one_write

pub returns-in_err-drop_entry-clause-lasts : goal.returns-in_err-drop_entry-clause-lasts
returns-in_err-drop_entry-clause-lasts g c = lasts_trans _ _ _ c.clean.ensures.lasts c.drop_entry.ensures.lasts

pub returns-in_err-drop_entry-clause-fault : goal.returns-in_err-drop_entry-clause-fault
returns-in_err-drop_entry-clause-fault g c = let p = err_from_is_err_and c.from_residual-in_err-drop_entry.result c.from_residual-in_err-drop_entry.ensures.1 in λ e. absurd (not_fault _ (p.1 ∙ ap Err p.2) e)

pub returns-clause-keeps : goal.returns-clause-keeps
returns-clause-keeps g c = keeps_then _ _ _ c.clean.ensures.keeps c.drop_entry.ensures.keeps

pub returns-clause-one_entry : goal.returns-clause-one_entry
returns-clause-one_entry g c = one_entry_then c.args.k _ _ _ c.clean.ensures.one_entry c.drop_entry.ensures.one_entry

pub returns-clause-clean_entry : goal.returns-clause-clean_entry
returns-clause-clean_entry g c = λ clean. disk_on _ _ _ (c.clean.ensures.clean_entry clean) c.drop_entry.ensures.rest

pub returns-clause-one_write : goal.returns-clause-one_write
returns-clause-one_write g c = few_on _ _ _ (writes_rest (g.M.Machine.contents c.clean.new.m) _ c.drop_entry.ensures.rest) c.clean.ensures.one_write

pub returns-clause-lasts : goal.returns-clause-lasts
returns-clause-lasts g c = lasts_trans _ _ _ c.clean.ensures.lasts c.drop_entry.ensures.lasts

pub returns-clause-fault : goal.returns-clause-fault
returns-clause-fault g c = λ e. absurd (never _ Fault e)
