use Rattle.std.proofs.Common.{◌∙◌, arith, ◌≤◌, Err, ap, length, List, ℕ, subst, sym, slice_index}
use Rattle.rio_base.specs.declared.failures.VolFail.TheVariants.{Stopped, Fault}
use Rattle.rio_model.proofs.CoverSteps.{keeps_trans}
use Rattle.rio_base.proofs.MachineRules.{ends_as, ends_then, ends_told, never, lasts_trans}
use Rattle.write_back.proofs.Steps.{coherent_then}
use Rattle.rio_model.proofs.HeldEntries.{narrows_all, held_same}
use Rattle.std.proofs.lemmas.Result.{err_from_is_err_and}
use Rattle.rio_model.specs.Registry.{gate_of}
use Rattle.write_back.specs.Flushing.{dirty_entries}
use Rattle.write_back.proofs.Exits.{fault_on, fault_told, few_on, first_from, held_from, narrows_same, not_ok, told_back, writes_rest, on_disk_same}
use Rattle.rio_base.specs.Disks.{is_pending}
use Rattle.rio_base.specs.Machine.{Contents}
use Rattle.rio_model.specs.Cover.{OnDisk}
use Rattle.write_back.proofs.flushing.flush.Goals as goal

pub returns-in_err-sync_disk-clause-keeps : goal.returns-in_err-sync_disk-clause-keeps
returns-in_err-sync_disk-clause-keeps g c = keeps_trans _ _ _ c.write_first.ensures.keeps c.sync_disk.ensures.keeps

pub mark_first-requires-clause-coherent : goal.mark_first-requires-clause-coherent
mark_first-requires-clause-coherent g c =
    coherent_then _ _ _ _ (coherent_then _ _ _ _ c.requires.coherent c.write_first.ensures.keeps c.write_first.ensures.ends.steps.scratch_count) c.sync_disk.ensures.keeps c.sync_disk.ensures.ends.steps.scratch_count

pub returns-in_err-mark_first-clause-keeps : goal.returns-in_err-mark_first-clause-keeps
returns-in_err-mark_first-clause-keeps g c = keeps_trans _ _ _ (keeps_trans _ _ _ c.write_first.ensures.keeps c.sync_disk.ensures.keeps) c.mark_first.ensures.keeps

pub returns-in_err-mark_first-clause-narrows : goal.returns-in_err-mark_first-clause-narrows
returns-in_err-mark_first-clause-narrows g c =
    let keeps = keeps_trans _ _ _ (keeps_trans _ _ _ c.write_first.ensures.keeps c.sync_disk.ensures.keeps) c.mark_first.ensures.keeps in
    narrows_all _ _ _ c.requires.coherent.rules.blocks (c.sync_disk.ensures.words ∙ c.write_first.ensures.words) (keeps.header 2 (omega arith)) c.mark_first.ensures.held

pub returns-clause-keeps : goal.returns-clause-keeps
returns-clause-keeps g c = keeps_trans _ _ _ (keeps_trans _ _ _ c.write_first.ensures.keeps c.sync_disk.ensures.keeps) c.mark_first.ensures.keeps

pub returns-clause-narrows : goal.returns-clause-narrows
returns-clause-narrows g c =
    let keeps = keeps_trans _ _ _ (keeps_trans _ _ _ c.write_first.ensures.keeps c.sync_disk.ensures.keeps) c.mark_first.ensures.keeps in
    narrows_all _ _ _ c.requires.coherent.rules.blocks (c.sync_disk.ensures.words ∙ c.write_first.ensures.words) (keeps.header 2 (omega arith)) c.mark_first.ensures.held

pub returns-clause-ends : goal.returns-clause-ends
returns-clause-ends g c =
    ends_as _ _ _ _ _ _ (never _ Stopped) (ends_then _ _ _ _ _ (never _ Stopped) c.in_ok-written.ensures.ends c.in_ok-sync_disk.ensures.ends) c.in_ok-mark_first.ensures.ends (λ e. absurd (never _ Stopped e)) (λ e. absurd (never _ Stopped e))

pub mark_first-requires-clause-shut : goal.mark_first-requires-clause-shut
mark_first-requires-clause-shut g c = λ e. c.requires.shut (sym (ap (λ (ws : List ℕ). gate_of ws) (c.sync_disk.ensures.words ∙ c.write_first.ensures.words)) ∙ e)

pub mark_first-requires-clause-many : goal.mark_first-requires-clause-many
mark_first-requires-clause-many g c = subst (λ (ws : List ℕ). c.in_ok-written.written ≤ length (dirty_entries ws)) (sym (c.sync_disk.ensures.words ∙ c.write_first.ensures.words)) (omega (arith, c.in_ok-written.ensures.written.count))

pub returns-in_err-written-clause-flushed : goal.returns-in_err-written-clause-flushed
returns-in_err-written-clause-flushed g c = not_ok _ c.from_residual.result c.from_residual.ensures.0

pub returns-in_err-written-clause-unmarked : goal.returns-in_err-written-clause-unmarked
returns-in_err-written-clause-unmarked g c = λ e. c.write_first.ensures.words

pub returns-in_err-written-clause-held : goal.returns-in_err-written-clause-held
returns-in_err-written-clause-held g c = λ k less. held_same k _ _ c.write_first.ensures.words

pub returns-in_err-written-clause-narrows : goal.returns-in_err-written-clause-narrows
returns-in_err-written-clause-narrows g c = narrows_same _ _ c.requires.coherent.rules.blocks c.write_first.ensures.words

pub returns-in_err-written-clause-fault : goal.returns-in_err-written-clause-fault
returns-in_err-written-clause-fault g c = let p = err_from_is_err_and c.from_residual.result c.from_residual.ensures.1 in fault_told _ _ _ (p.1 ∙ ap Err p.2) c.in_err-written.ensures.fault

pub returns-in_err-written-clause-ends : goal.returns-in_err-written-clause-ends
returns-in_err-written-clause-ends g c = let p = err_from_is_err_and c.from_residual.result c.from_residual.ensures.1 in ends_told _ _ _ _ _ (p.1 ∙ ap Err p.2) c.in_err-written.ensures.ends

pub returns-in_err-sync_disk-clause-flushed : goal.returns-in_err-sync_disk-clause-flushed
returns-in_err-sync_disk-clause-flushed g c = not_ok _ c.from_residual-in_err-sync_disk.result c.from_residual-in_err-sync_disk.ensures.0

pub returns-in_err-sync_disk-clause-unmarked : goal.returns-in_err-sync_disk-clause-unmarked
returns-in_err-sync_disk-clause-unmarked g c = λ e. c.sync_disk.ensures.words ∙ c.write_first.ensures.words

pub returns-in_err-sync_disk-clause-few_writes : goal.returns-in_err-sync_disk-clause-few_writes
returns-in_err-sync_disk-clause-few_writes g c = few_on _ _ _ c.sync_disk.ensures.writes c.write_first.ensures.few

pub returns-in_err-sync_disk-clause-held : goal.returns-in_err-sync_disk-clause-held
returns-in_err-sync_disk-clause-held g c = λ k less. held_same k _ _ (c.sync_disk.ensures.words ∙ c.write_first.ensures.words)

pub returns-in_err-sync_disk-clause-narrows : goal.returns-in_err-sync_disk-clause-narrows
returns-in_err-sync_disk-clause-narrows g c = narrows_same _ _ c.requires.coherent.rules.blocks (c.sync_disk.ensures.words ∙ c.write_first.ensures.words)

pub returns-in_err-sync_disk-clause-lasts : goal.returns-in_err-sync_disk-clause-lasts
returns-in_err-sync_disk-clause-lasts g c = lasts_trans _ _ _ c.write_first.ensures.lasts c.sync_disk.ensures.lasts

pub returns-in_err-sync_disk-clause-fault : goal.returns-in_err-sync_disk-clause-fault
returns-in_err-sync_disk-clause-fault g c = let p = err_from_is_err_and c.from_residual-in_err-sync_disk.result c.from_residual-in_err-sync_disk.ensures.1 in fault_on _ _ _ _ c.write_first.ensures.lasts.faults.later (fault_told _ _ _ (p.1 ∙ ap Err p.2) c.in_err-sync_disk.ensures.fault)

pub returns-in_err-sync_disk-clause-ends : goal.returns-in_err-sync_disk-clause-ends
returns-in_err-sync_disk-clause-ends g c = let p = err_from_is_err_and c.from_residual-in_err-sync_disk.result c.from_residual-in_err-sync_disk.ensures.1 in ends_then _ _ _ _ _ (never _ Stopped) c.in_ok-written.ensures.ends (ends_told _ _ _ _ _ (p.1 ∙ ap Err p.2) c.in_err-sync_disk.ensures.ends)

pub returns-in_err-mark_first-clause-flushed : goal.returns-in_err-mark_first-clause-flushed
returns-in_err-mark_first-clause-flushed g c = not_ok _ c.from_residual-in_err-mark_first.result c.from_residual-in_err-mark_first.ensures.0

pub returns-in_err-mark_first-clause-unmarked : goal.returns-in_err-mark_first-clause-unmarked
returns-in_err-mark_first-clause-unmarked g c = let p = err_from_is_err_and c.from_residual-in_err-mark_first.result c.from_residual-in_err-mark_first.ensures.1 in λ e. absurd (c.in_err-mark_first.ensures.fault (told_back _ _ _ (p.1 ∙ ap Err p.2) e))

pub returns-in_err-mark_first-clause-fault : goal.returns-in_err-mark_first-clause-fault
returns-in_err-mark_first-clause-fault g c = let p = err_from_is_err_and c.from_residual-in_err-mark_first.result c.from_residual-in_err-mark_first.ensures.1 in λ e. absurd (c.in_err-mark_first.ensures.fault (told_back _ _ _ (p.1 ∙ ap Err p.2) e))

pub returns-in_err-mark_first-clause-ends : goal.returns-in_err-mark_first-clause-ends
returns-in_err-mark_first-clause-ends g c = let p = err_from_is_err_and c.from_residual-in_err-mark_first.result c.from_residual-in_err-mark_first.ensures.1 in ends_then _ _ _ _ _ (never _ Stopped) (ends_then _ _ _ _ _ (never _ Stopped) c.in_ok-written.ensures.ends c.in_ok-sync_disk.ensures.ends) (ends_told _ _ _ _ _ (p.1 ∙ ap Err p.2) c.in_err-mark_first.ensures.ends)

pub returns-in_err-mark_first-clause-few_writes : goal.returns-in_err-mark_first-clause-few_writes
returns-in_err-mark_first-clause-few_writes g c = few_on _ _ _ (writes_rest (g.M.Machine.contents c.sync_disk.new.m) _ c.mark_first.ensures.rest ∙ c.sync_disk.ensures.writes) c.write_first.ensures.few

pub returns-in_err-mark_first-clause-held : goal.returns-in_err-mark_first-clause-held
returns-in_err-mark_first-clause-held g c = λ k less. held_from k _ _ _ (c.sync_disk.ensures.words ∙ c.write_first.ensures.words) (c.mark_first.ensures.held k)

pub returns-in_err-mark_first-clause-lasts : goal.returns-in_err-mark_first-clause-lasts
returns-in_err-mark_first-clause-lasts g c = lasts_trans _ _ _ (lasts_trans _ _ _ c.write_first.ensures.lasts c.sync_disk.ensures.lasts) c.mark_first.ensures.lasts

pub returns-clause-flushed : goal.returns-clause-flushed
returns-clause-flushed g c = record { count = c.in_ok-written.ensures.written.count; entries = first_from _ _ _ _ (c.sync_disk.ensures.words ∙ c.write_first.ensures.words) c.in_ok-mark_first.ensures.cleaned; writes = writes_rest (g.M.Machine.contents c.sync_disk.new.m) _ c.mark_first.ensures.rest ∙ c.sync_disk.ensures.writes ∙ c.in_ok-written.ensures.written.writes; synced = λ b. ap (λ (x : Contents). is_pending x.pending b) c.mark_first.ensures.rest ∙ c.in_ok-sync_disk.ensures.synced b }

pub returns-clause-unmarked : goal.returns-clause-unmarked
returns-clause-unmarked g c = λ e. absurd (never _ Fault e)

pub returns-clause-fault : goal.returns-clause-fault
returns-clause-fault g c = λ e. absurd (never _ Fault e)

pub returns-clause-few_writes : goal.returns-clause-few_writes
returns-clause-few_writes g c = few_on _ _ _ (writes_rest (g.M.Machine.contents c.sync_disk.new.m) _ c.mark_first.ensures.rest ∙ c.sync_disk.ensures.writes) c.write_first.ensures.few

pub returns-clause-held : goal.returns-clause-held
returns-clause-held g c = λ k less. held_from k _ _ _ (c.sync_disk.ensures.words ∙ c.write_first.ensures.words) (c.mark_first.ensures.held k)

pub returns-clause-lasts : goal.returns-clause-lasts
returns-clause-lasts g c = lasts_trans _ _ _ (lasts_trans _ _ _ c.write_first.ensures.lasts c.sync_disk.ensures.lasts) c.mark_first.ensures.lasts

pub mark_first-requires-clause-written : goal.mark_first-requires-clause-written
mark_first-requires-clause-written g c =
    let old = g.M.Machine.contents c.write_first.new.m in
    let new = g.M.Machine.contents c.sync_disk.new.m in
    λ x less. subst (λ ws. OnDisk new (slice_index (dirty_entries ws) x)) (sym (c.sync_disk.ensures.words ∙ c.write_first.ensures.words)) (on_disk_same old new _ c.sync_disk.ensures.words c.sync_disk.ensures.disk (c.in_ok-written.ensures.written.on_disk x less))
