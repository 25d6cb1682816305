use Rattle.std.proofs.Common.{◌∙◌, Err, ap, length, sym}
use Rattle.std.proofs.lemmas.Result.{err_from_is_err_and}
use Rattle.rio_base.proofs.MachineRules.{never}
use Rattle.rio_base.specs.Disks.{is_pending}
use Rattle.rio_base.specs.Machine.{Contents}
use Rattle.rio_base.specs.Rules.{true_false}
use Rattle.rio_base.specs.declared.failures.DiskFail.TheVariants.{Stopped as DiskStopped}
use Rattle.rio_base.specs.declared.failures.VolFail.TheVariants.{Stopped}
use Rattle.rio_model.specs.Standing.{none_apart}
use Rattle.rio_model.proofs.CoverSteps.{none_pending}
use Rattle.rio_model.proofs.RebootSteps.{endures_marked, endures_trans}
use Rattle.page_restore.proofs.Steps.{phase_then, phase_told}
use Rattle.page_restore.proofs.WriteTurns.{home_synced, writes_disk}
use Rattle.page_restore.proofs.Exits.{not_ok, phase_step}
use Rattle.page_restore.proofs.ReadEnds.{runs_on, step_failed}
use Rattle.page_restore.proofs.writing.bring.Goals as goal

pub sync-requires : goal.sync-requires
sync-requires g c = record { closed = c.write_due.ensures.ends.closed }

pub returns-in_err-count-clause-ends : goal.returns-in_err-count-clause-ends
returns-in_err-count-clause-ends g c =
    let p = err_from_is_err_and c.from_residual.result c.from_residual.ensures.1 in
    phase_told _ _ _ _ _ _ (p.1 ∙ ap Err p.2) c.in_err-count.ensures.ends

pub returns-in_err-count-clause-brought : goal.returns-in_err-count-clause-brought
returns-in_err-count-clause-brought g c = not_ok _ c.from_residual.result c.from_residual.ensures.0

pub returns-in_err-count-clause-synced : goal.returns-in_err-count-clause-synced
returns-in_err-count-clause-synced g c = not_ok _ c.from_residual.result c.from_residual.ensures.0

pub returns-in_err-count-clause-count : goal.returns-in_err-count-clause-count
returns-in_err-count-clause-count g c = not_ok _ c.from_residual.result c.from_residual.ensures.0

pub returns-in_err-count-clause-running : goal.returns-in_err-count-clause-running
returns-in_err-count-clause-running g c = not_ok _ c.from_residual.result c.from_residual.ensures.0

-- ---- a sync that failed

pub returns-in_err-sync-clause-endures : goal.returns-in_err-sync-clause-endures
returns-in_err-sync-clause-endures g c =
    let e = c.in_err-sync.ensures.same in
    endures_trans none_apart _ _ _ c.write_due.ensures.endures (endures_marked _ _ (ap (λ (m : Contents). m.words) e) (ap (λ (m : Contents). m.disk) e) (λ b p. sym (ap (λ (m : Contents). is_pending m.pending b) e) ∙ p))

pub returns-in_err-sync-clause-words : goal.returns-in_err-sync-clause-words
returns-in_err-sync-clause-words g c = (ap (λ (m : Contents). m.words) c.in_err-sync.ensures.same) ∙ c.write_due.ensures.words

pub returns-in_err-sync-clause-writes : goal.returns-in_err-sync-clause-writes
returns-in_err-sync-clause-writes g c = writes_disk c.args.kind c.args.marks.now _ _ _ (ap (λ (m : Contents). m.disk) c.in_err-sync.ensures.same) c.write_due.ensures.writes

pub returns-in_err-sync-clause-brought : goal.returns-in_err-sync-clause-brought
returns-in_err-sync-clause-brought g c = not_ok _ c.from_residual-in_err-sync.result c.from_residual-in_err-sync.ensures.0

pub returns-in_err-sync-clause-synced : goal.returns-in_err-sync-clause-synced
returns-in_err-sync-clause-synced g c = not_ok _ c.from_residual-in_err-sync.result c.from_residual-in_err-sync.ensures.0

pub returns-in_err-sync-clause-count : goal.returns-in_err-sync-clause-count
returns-in_err-sync-clause-count g c = not_ok _ c.from_residual-in_err-sync.result c.from_residual-in_err-sync.ensures.0

pub returns-in_err-sync-clause-running : goal.returns-in_err-sync-clause-running
returns-in_err-sync-clause-running g c = not_ok _ c.from_residual-in_err-sync.result c.from_residual-in_err-sync.ensures.0

pub returns-in_err-sync-clause-ends : goal.returns-in_err-sync-clause-ends
returns-in_err-sync-clause-ends g c =
    let p = err_from_is_err_and c.from_residual-in_err-sync.result c.from_residual-in_err-sync.ensures.1 in
    let h = c.in_err-sync.ensures in
    phase_then _ _ _ _ _ _ _ _ _ _ (never _ Stopped) c.in_ok-count.ensures.ends (step_failed _ _ _ _ _ _ (p.1 ∙ ap Err p.2) c.write_due.ensures.ends.closed (ap (λ (m : Contents). m.open_page) h.same) h.lasts h.fault h.ends)

-- ---- one that did not

pub returns-clause-endures : goal.returns-clause-endures
returns-clause-endures g c =
    let e = c.in_ok-sync.ensures.synced in
    endures_trans none_apart _ _ _ c.write_due.ensures.endures (endures_marked _ _ (ap (λ (m : Contents). m.words) e) (ap (λ (m : Contents). m.disk) e) (λ b p. absurd (true_false (sym p ∙ ap (λ (m : Contents). is_pending m.pending b) e ∙ none_pending (length (g.M.Machine.contents c.write_due.new.m).disk) b))))

pub returns-clause-words : goal.returns-clause-words
returns-clause-words g c = (ap (λ (m : Contents). m.words) c.in_ok-sync.ensures.synced) ∙ c.write_due.ensures.words

pub returns-clause-brought : goal.returns-clause-brought
returns-clause-brought g c = λ k v why. home_synced _ _ k (ap (λ (m : Contents). m.words) c.in_ok-sync.ensures.synced) (ap (λ (m : Contents). m.disk) c.in_ok-sync.ensures.synced) (c.in_ok-count.ensures.brought k v why)

pub returns-clause-writes : goal.returns-clause-writes
returns-clause-writes g c = writes_disk c.args.kind c.args.marks.now _ _ _ (ap (λ (m : Contents). m.disk) c.in_ok-sync.ensures.synced) c.write_due.ensures.writes

pub returns-clause-synced : goal.returns-clause-synced
returns-clause-synced g c = λ b. ap (λ (m : Contents). is_pending m.pending b) c.in_ok-sync.ensures.synced ∙ none_pending (length (g.M.Machine.contents c.write_due.new.m).disk) b

pub returns-clause-running : goal.returns-clause-running
returns-clause-running g c = runs_on _ _ _ (never _ DiskStopped) c.in_ok-sync.ensures.halted c.in_ok-sync.ensures.ends

pub returns-clause-ends : goal.returns-clause-ends
returns-clause-ends g c = phase_then _ _ _ _ _ _ _ _ _ _ (never _ Stopped) c.in_ok-count.ensures.ends (phase_step _ _ _ _ _ _ (never _ DiskStopped) ((ap (λ (m : Contents). m.open_page) c.in_ok-sync.ensures.synced) ∙ c.write_due.ensures.ends.closed) c.sync.ensures.lasts c.in_ok-sync.ensures.ends)
