use Rattle.std.proofs.Common.{◌∙◌, Err, ap, arith, refl, sym, subst}
use Rattle.std.proofs.lemmas.Result.{err_from_is_err_and}
use Rattle.rio_base.specs.declared.failures.VolFail.TheVariants.{Stopped, Fault}
use Rattle.rio_base.specs.Rules.{true_false}
use Rattle.rio_base.proofs.MachineRules.{ends_as, ends_err, ends_then, ends_told, lasts_trans, never, steps_trans, ends_none, lasts_refl}
use Rattle.write_back.proofs.Steps.{coherent_then, keeps_then, layout_now}
use Rattle.rio_model.proofs.HeldEntries.{narrows_after, held_same}
use Rattle.rio_model.specs.Registry.{is_dirty, IsValid}
use Rattle.rio_model.proofs.CoverSteps.{keeps_refl}
use Rattle.write_back.proofs.Exits.{at_err, cleaned_from, fault_on, fault_told, few_on, held_from, narrows_same, not_fault, not_ok, one_from, one_more, one_same, writes_rest, on_disk_same}
use Rattle.rio_model.specs.Cover.{IsBare}
use Rattle.write_back.proofs.cleaning.clean.Goals as goal

pub mark_clean-requires-clause-synced : goal.mark_clean-requires-clause-synced
mark_clean-requires-clause-synced g c = search arith

pub mark_clean-requires-clause-coherent : goal.mark_clean-requires-clause-coherent
mark_clean-requires-clause-coherent g c =
    coherent_then _ _ _ _ (coherent_then _ _ _ _ c.requires.coherent c.write_entry.ensures.keeps c.write_entry.ensures.ends.steps.scratch_count) c.sync_disk.ensures.keeps c.sync_disk.ensures.ends.steps.scratch_count

pub returns-in_err-mark_clean-clause-narrows : goal.returns-in_err-mark_clean-clause-narrows
returns-in_err-mark_clean-clause-narrows g c =
    narrows_after c.args.k _ _ _ c.requires.coherent.rules.blocks (c.sync_disk.ensures.words ∙ c.write_entry.ensures.words) c.mark_clean.ensures.one_entry c.mark_clean.ensures.held

pub returns-clause-narrows : goal.returns-clause-narrows
returns-clause-narrows g c =
    narrows_after c.args.k _ _ _ c.requires.coherent.rules.blocks (c.sync_disk.ensures.words ∙ c.write_entry.ensures.words) c.mark_clean.ensures.one_entry c.mark_clean.ensures.held

pub returns-in_err-mark_clean-clause-ends : goal.returns-in_err-mark_clean-clause-ends
returns-in_err-mark_clean-clause-ends g c =
    let p = err_from_is_err_and c.from_residual-in_err-mark_clean.result c.from_residual-in_err-mark_clean.ensures.1 in
    ends_err _ _ _ _ _ refl (p.1 ∙ ap Err p.2) (steps_trans _ _ _ c.write_entry.ensures.ends.steps c.sync_disk.ensures.ends.steps) c.in_err-mark_clean.ensures.ends

pub returns-clause-ends : goal.returns-clause-ends
returns-clause-ends g c =
    ends_as _ _ _ _ _ _ (never _ Stopped) (ends_then _ _ _ _ _ (never _ Stopped) c.in_ok-write_entry.ensures.ends c.in_ok-sync_disk.ensures.ends) c.in_ok-mark_clean.ensures.ends (λ e. absurd (never _ Stopped e)) (λ e. absurd (true_false (sym e)))

pub returns-in_err-mark_clean-clause-lasts : goal.returns-in_err-mark_clean-clause-lasts
returns-in_err-mark_clean-clause-lasts g c = lasts_trans _ _ _ (lasts_trans _ _ _ c.write_entry.ensures.lasts c.sync_disk.ensures.lasts) c.mark_clean.ensures.lasts

pub returns-clause-lasts : goal.returns-clause-lasts
returns-clause-lasts g c = lasts_trans _ _ _ (lasts_trans _ _ _ c.write_entry.ensures.lasts c.sync_disk.ensures.lasts) c.mark_clean.ensures.lasts

pub returns-then-not-is_dirty-clause-keeps : goal.returns-then-not-is_dirty-clause-keeps
returns-then-not-is_dirty-clause-keeps g c = keeps_refl _

pub returns-then-not-is_dirty-clause-cleaned : goal.returns-then-not-is_dirty-clause-cleaned
returns-then-not-is_dirty-clause-cleaned g c = record { valid = c.requires.valid; clean = (ap is_dirty (sym c.load_tag.ensures) ∙ sym c.is_dirty.ensures ∙ c.if-not-is_dirty.true); block = refl; shadow = refl }

pub returns-then-not-is_dirty-clause-held : goal.returns-then-not-is_dirty-clause-held
returns-then-not-is_dirty-clause-held g c = held_same c.args.k _ _ refl

pub returns-then-not-is_dirty-clause-one_entry : goal.returns-then-not-is_dirty-clause-one_entry
returns-then-not-is_dirty-clause-one_entry g c = one_same c.args.k _ _ refl

pub returns-then-not-is_dirty-clause-narrows : goal.returns-then-not-is_dirty-clause-narrows
returns-then-not-is_dirty-clause-narrows g c = narrows_same _ _ c.requires.coherent.rules.blocks refl

pub returns-then-not-is_dirty-clause-clean_entry : goal.returns-then-not-is_dirty-clause-clean_entry
returns-then-not-is_dirty-clause-clean_entry g c = λ e. record { disk = refl; pending = refl; writes = refl }

pub returns-then-not-is_dirty-clause-one_write : goal.returns-then-not-is_dirty-clause-one_write
returns-then-not-is_dirty-clause-one_write g c = one_more _

pub returns-then-not-is_dirty-clause-lasts : goal.returns-then-not-is_dirty-clause-lasts
returns-then-not-is_dirty-clause-lasts g c = lasts_refl _

pub returns-then-not-is_dirty-clause-fault : goal.returns-then-not-is_dirty-clause-fault
returns-then-not-is_dirty-clause-fault g c = λ e. absurd (never _ Fault e)

pub returns-then-not-is_dirty-clause-ends : goal.returns-then-not-is_dirty-clause-ends
returns-then-not-is_dirty-clause-ends g c = ends_none _ _ (never _ Stopped)

pub write_entry-requires-clause-dirty : goal.write_entry-requires-clause-dirty
write_entry-requires-clause-dirty g c = (ap is_dirty (sym c.load_tag.ensures) ∙ sym c.is_dirty.ensures ∙ c.if-not-is_dirty.false)

pub returns-in_err-write_entry-clause-cleaned : goal.returns-in_err-write_entry-clause-cleaned
returns-in_err-write_entry-clause-cleaned g c = not_ok _ c.from_residual.result c.from_residual.ensures.0

pub returns-in_err-write_entry-clause-same : goal.returns-in_err-write_entry-clause-same
returns-in_err-write_entry-clause-same g c = at_err c.from_residual.result c.from_residual.ensures.0 c.write_entry.ensures.words

pub returns-in_err-write_entry-clause-held : goal.returns-in_err-write_entry-clause-held
returns-in_err-write_entry-clause-held g c = held_same c.args.k _ _ c.write_entry.ensures.words

pub returns-in_err-write_entry-clause-one_entry : goal.returns-in_err-write_entry-clause-one_entry
returns-in_err-write_entry-clause-one_entry g c = one_same c.args.k _ _ c.write_entry.ensures.words

pub returns-in_err-write_entry-clause-narrows : goal.returns-in_err-write_entry-clause-narrows
returns-in_err-write_entry-clause-narrows g c = narrows_same _ _ c.requires.coherent.rules.blocks c.write_entry.ensures.words

pub returns-in_err-write_entry-clause-clean_entry : goal.returns-in_err-write_entry-clause-clean_entry
returns-in_err-write_entry-clause-clean_entry g c = λ clean. absurd (true_false (sym (ap is_dirty (sym c.load_tag.ensures) ∙ sym c.is_dirty.ensures ∙ c.if-not-is_dirty.false) ∙ clean))

pub returns-in_err-write_entry-clause-fault : goal.returns-in_err-write_entry-clause-fault
returns-in_err-write_entry-clause-fault g c = let p = err_from_is_err_and c.from_residual.result c.from_residual.ensures.1 in fault_told _ _ _ (p.1 ∙ ap Err p.2) c.in_err-write_entry.ensures.fault

pub returns-in_err-write_entry-clause-ends : goal.returns-in_err-write_entry-clause-ends
returns-in_err-write_entry-clause-ends g c = let p = err_from_is_err_and c.from_residual.result c.from_residual.ensures.1 in ends_told _ _ _ _ _ (p.1 ∙ ap Err p.2) c.in_err-write_entry.ensures.ends

pub returns-in_err-sync_disk-clause-keeps : goal.returns-in_err-sync_disk-clause-keeps
returns-in_err-sync_disk-clause-keeps g c = keeps_then _ _ _ c.write_entry.ensures.keeps c.sync_disk.ensures.keeps

pub returns-in_err-sync_disk-clause-cleaned : goal.returns-in_err-sync_disk-clause-cleaned
returns-in_err-sync_disk-clause-cleaned g c = not_ok _ c.from_residual-in_err-sync_disk.result c.from_residual-in_err-sync_disk.ensures.0

pub returns-in_err-sync_disk-clause-same : goal.returns-in_err-sync_disk-clause-same
returns-in_err-sync_disk-clause-same g c = at_err c.from_residual-in_err-sync_disk.result c.from_residual-in_err-sync_disk.ensures.0 (c.sync_disk.ensures.words ∙ c.write_entry.ensures.words)

pub returns-in_err-sync_disk-clause-held : goal.returns-in_err-sync_disk-clause-held
returns-in_err-sync_disk-clause-held g c = held_same c.args.k _ _ (c.sync_disk.ensures.words ∙ c.write_entry.ensures.words)

pub returns-in_err-sync_disk-clause-one_entry : goal.returns-in_err-sync_disk-clause-one_entry
returns-in_err-sync_disk-clause-one_entry g c = one_same c.args.k _ _ (c.sync_disk.ensures.words ∙ c.write_entry.ensures.words)

pub returns-in_err-sync_disk-clause-narrows : goal.returns-in_err-sync_disk-clause-narrows
returns-in_err-sync_disk-clause-narrows g c = narrows_same _ _ c.requires.coherent.rules.blocks (c.sync_disk.ensures.words ∙ c.write_entry.ensures.words)

pub returns-in_err-sync_disk-clause-clean_entry : goal.returns-in_err-sync_disk-clause-clean_entry
returns-in_err-sync_disk-clause-clean_entry g c = λ clean. absurd (true_false (sym (ap is_dirty (sym c.load_tag.ensures) ∙ sym c.is_dirty.ensures ∙ c.if-not-is_dirty.false) ∙ clean))

pub returns-in_err-sync_disk-clause-one_write : goal.returns-in_err-sync_disk-clause-one_write
returns-in_err-sync_disk-clause-one_write g c = few_on _ _ _ c.sync_disk.ensures.writes c.write_entry.ensures.one_write

pub returns-in_err-sync_disk-clause-lasts : goal.returns-in_err-sync_disk-clause-lasts
returns-in_err-sync_disk-clause-lasts g c = lasts_trans _ _ _ c.write_entry.ensures.lasts c.sync_disk.ensures.lasts

pub returns-in_err-sync_disk-clause-fault : goal.returns-in_err-sync_disk-clause-fault
returns-in_err-sync_disk-clause-fault g c = let p = err_from_is_err_and c.from_residual-in_err-sync_disk.result c.from_residual-in_err-sync_disk.ensures.1 in fault_on _ _ _ _ c.write_entry.ensures.lasts.faults.later (fault_told _ _ _ (p.1 ∙ ap Err p.2) c.in_err-sync_disk.ensures.fault)

pub returns-in_err-sync_disk-clause-ends : goal.returns-in_err-sync_disk-clause-ends
returns-in_err-sync_disk-clause-ends g c = let p = err_from_is_err_and c.from_residual-in_err-sync_disk.result c.from_residual-in_err-sync_disk.ensures.1 in ends_then _ _ _ _ _ (never _ Stopped) c.in_ok-write_entry.ensures.ends (ends_told _ _ _ _ _ (p.1 ∙ ap Err p.2) c.in_err-sync_disk.ensures.ends)

pub returns-in_err-mark_clean-clause-keeps : goal.returns-in_err-mark_clean-clause-keeps
returns-in_err-mark_clean-clause-keeps g c = keeps_then _ _ _ (keeps_then _ _ _ c.write_entry.ensures.keeps c.sync_disk.ensures.keeps) c.mark_clean.ensures.keeps

pub returns-in_err-mark_clean-clause-cleaned : goal.returns-in_err-mark_clean-clause-cleaned
returns-in_err-mark_clean-clause-cleaned g c = not_ok _ c.from_residual-in_err-mark_clean.result c.from_residual-in_err-mark_clean.ensures.0

pub returns-in_err-mark_clean-clause-same : goal.returns-in_err-mark_clean-clause-same
returns-in_err-mark_clean-clause-same g c = at_err c.from_residual-in_err-mark_clean.result c.from_residual-in_err-mark_clean.ensures.0 (c.in_err-mark_clean.ensures.same ∙ c.sync_disk.ensures.words ∙ c.write_entry.ensures.words)

pub returns-in_err-mark_clean-clause-held : goal.returns-in_err-mark_clean-clause-held
returns-in_err-mark_clean-clause-held g c = held_from c.args.k _ _ _ (c.sync_disk.ensures.words ∙ c.write_entry.ensures.words) c.mark_clean.ensures.held

pub returns-in_err-mark_clean-clause-one_entry : goal.returns-in_err-mark_clean-clause-one_entry
returns-in_err-mark_clean-clause-one_entry g c = one_from c.args.k _ _ _ (c.sync_disk.ensures.words ∙ c.write_entry.ensures.words) c.mark_clean.ensures.one_entry

pub returns-in_err-mark_clean-clause-clean_entry : goal.returns-in_err-mark_clean-clause-clean_entry
returns-in_err-mark_clean-clause-clean_entry g c = λ clean. absurd (true_false (sym (ap is_dirty (sym c.load_tag.ensures) ∙ sym c.is_dirty.ensures ∙ c.if-not-is_dirty.false) ∙ clean))

pub returns-in_err-mark_clean-clause-one_write : goal.returns-in_err-mark_clean-clause-one_write
returns-in_err-mark_clean-clause-one_write g c = few_on _ _ _ (writes_rest (g.M.Machine.contents c.sync_disk.new.m) _ c.mark_clean.ensures.rest ∙ c.sync_disk.ensures.writes) c.write_entry.ensures.one_write

pub returns-in_err-mark_clean-clause-fault : goal.returns-in_err-mark_clean-clause-fault
returns-in_err-mark_clean-clause-fault g c = let p = err_from_is_err_and c.from_residual-in_err-mark_clean.result c.from_residual-in_err-mark_clean.ensures.1 in λ e. absurd (not_fault _ (p.1 ∙ ap Err p.2) e)

pub returns-clause-keeps : goal.returns-clause-keeps
returns-clause-keeps g c = keeps_then _ _ _ (keeps_then _ _ _ c.write_entry.ensures.keeps c.sync_disk.ensures.keeps) c.mark_clean.ensures.keeps

pub returns-clause-cleaned : goal.returns-clause-cleaned
returns-clause-cleaned g c = cleaned_from c.args.k _ _ _ (c.sync_disk.ensures.words ∙ c.write_entry.ensures.words) c.in_ok-mark_clean.ensures.cleaned

pub returns-clause-held : goal.returns-clause-held
returns-clause-held g c = held_from c.args.k _ _ _ (c.sync_disk.ensures.words ∙ c.write_entry.ensures.words) c.mark_clean.ensures.held

pub returns-clause-one_entry : goal.returns-clause-one_entry
returns-clause-one_entry g c = one_from c.args.k _ _ _ (c.sync_disk.ensures.words ∙ c.write_entry.ensures.words) c.mark_clean.ensures.one_entry

pub returns-clause-clean_entry : goal.returns-clause-clean_entry
returns-clause-clean_entry g c = λ clean. absurd (true_false (sym (ap is_dirty (sym c.load_tag.ensures) ∙ sym c.is_dirty.ensures ∙ c.if-not-is_dirty.false) ∙ clean))

pub returns-clause-one_write : goal.returns-clause-one_write
returns-clause-one_write g c = few_on _ _ _ (writes_rest (g.M.Machine.contents c.sync_disk.new.m) _ c.mark_clean.ensures.rest ∙ c.sync_disk.ensures.writes) c.write_entry.ensures.one_write

pub returns-clause-fault : goal.returns-clause-fault
returns-clause-fault g c = λ e. absurd (never _ Fault e)

pub load_tag-requires-clause-layout : goal.load_tag-requires-clause-layout
load_tag-requires-clause-layout g c = layout_now _ _ c.requires.coherent

pub frame_page_of-page-requires-clause-layout : goal.frame_page_of-page-requires-clause-layout
frame_page_of-page-requires-clause-layout g c = layout_now _ _ c.requires.coherent

pub mark_clean-requires-clause-valid : goal.mark_clean-requires-clause-valid
mark_clean-requires-clause-valid g c = subst (λ ws. IsValid ws c.args.k) (sym (c.sync_disk.ensures.words ∙ c.write_entry.ensures.words)) c.requires.valid

pub mark_clean-requires-clause-bare : goal.mark_clean-requires-clause-bare
mark_clean-requires-clause-bare g c = subst (λ ws. IsBare ws c.args.k) (sym (c.sync_disk.ensures.words ∙ c.write_entry.ensures.words)) c.requires.bare

pub mark_clean-requires-clause-written : goal.mark_clean-requires-clause-written
mark_clean-requires-clause-written g c = on_disk_same (g.M.Machine.contents c.write_entry.new.m) (g.M.Machine.contents c.sync_disk.new.m) c.args.k c.sync_disk.ensures.words c.sync_disk.ensures.disk c.in_ok-write_entry.ensures.written
