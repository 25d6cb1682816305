use Rattle.std.proofs.Common.{ap, ◌∙◌, sym, length}
use Rattle.rio_base.specs.Disks.{is_pending}
use Rattle.rio_base.specs.Machine.{Contents}
use Rattle.rio_base.specs.Rules.{true_false}
use Rattle.rio_model.proofs.CoverSteps.{keeps_marks, none_pending}
use Rattle.std.proofs.lemmas.Result.{err_from_is_err_and}
use Rattle.std.specs.Prelude.{Err}
use Rattle.rio_base.proofs.MachineRules.{never}
use Rattle.rio_base.specs.declared.failures.DiskFail.TheVariants.{Stopped as DiskStopped}
use Rattle.rio_base.specs.declared.failures.VolFail.TheVariants.{Stopped}
use Rattle.write_back.proofs.Exits.{at_err, disk_ends, disk_fault, not_ok, step_well}
use Rattle.write_back.proofs.cleaning.sync_disk.Goals as goal

pub returns-clause-keeps : goal.returns-clause-keeps
returns-clause-keeps g c =
    let e = c.in_ok-sync.ensures.synced in
    keeps_marks _ _ (ap (λ (m : Contents). m.words) e) (ap (λ (m : Contents). m.disk) e) (λ b p. absurd (true_false (sym p ∙ ap (λ (m : Contents). is_pending m.pending b) e ∙ none_pending (length (g.M.Machine.contents c.args.m.now).disk) b)))

pub returns-in_err-sync-clause-keeps : goal.returns-in_err-sync-clause-keeps
returns-in_err-sync-clause-keeps g c =
    let e = c.in_err-sync.ensures.same in
    keeps_marks _ _ (ap (λ (m : Contents). m.words) e) (ap (λ (m : Contents). m.disk) e) (λ b p. sym (ap (λ (m : Contents). is_pending m.pending b) e) ∙ p)

pub sync-requires : goal.sync-requires
sync-requires g c = record { closed = c.requires.closed }

pub returns-clause-words : goal.returns-clause-words
returns-clause-words g c = ap (λ (m : Contents). m.words) c.in_ok-sync.ensures.synced

pub returns-clause-disk : goal.returns-clause-disk
returns-clause-disk g c = ap (λ (m : Contents). m.disk) c.in_ok-sync.ensures.synced

pub returns-clause-writes : goal.returns-clause-writes
returns-clause-writes g c = ap (λ (m : Contents). m.writes) c.in_ok-sync.ensures.synced

pub returns-clause-closed : goal.returns-clause-closed
returns-clause-closed g c = ap (λ (m : Contents). m.open_page) c.in_ok-sync.ensures.synced ∙ c.requires.closed

pub returns-in_err-sync-clause-words : goal.returns-in_err-sync-clause-words
returns-in_err-sync-clause-words g c = ap (λ (m : Contents). m.words) c.in_err-sync.ensures.same

pub returns-in_err-sync-clause-disk : goal.returns-in_err-sync-clause-disk
returns-in_err-sync-clause-disk g c = ap (λ (m : Contents). m.disk) c.in_err-sync.ensures.same

pub returns-in_err-sync-clause-writes : goal.returns-in_err-sync-clause-writes
returns-in_err-sync-clause-writes g c = ap (λ (m : Contents). m.writes) c.in_err-sync.ensures.same

pub returns-in_err-sync-clause-closed : goal.returns-in_err-sync-clause-closed
returns-in_err-sync-clause-closed g c = ap (λ (m : Contents). m.open_page) c.in_err-sync.ensures.same ∙ c.requires.closed

pub returns-clause-synced : goal.returns-clause-synced
returns-clause-synced g c = λ b. ap (λ (m : Contents). is_pending m.pending b) c.in_ok-sync.ensures.synced ∙ none_pending (length (g.M.Machine.contents c.args.m.now).disk) b

pub returns-clause-fault : goal.returns-clause-fault
returns-clause-fault g c = λ q. absurd (never _ _ q)

pub returns-clause-ends : goal.returns-clause-ends
returns-clause-ends g c = step_well _ _ _ _ (never _ DiskStopped) (never _ Stopped) c.in_ok-sync.ensures.ends

pub returns-in_err-sync-clause-synced : goal.returns-in_err-sync-clause-synced
returns-in_err-sync-clause-synced g c = not_ok _ c.from_residual.result c.from_residual.ensures.0

pub returns-in_err-sync-clause-same : goal.returns-in_err-sync-clause-same
returns-in_err-sync-clause-same g c = at_err c.from_residual.result c.from_residual.ensures.0 (ap (λ (m : Contents). m.pending) c.in_err-sync.ensures.same)

pub returns-in_err-sync-clause-fault : goal.returns-in_err-sync-clause-fault
returns-in_err-sync-clause-fault g c =
    let p = err_from_is_err_and c.from_residual.result c.from_residual.ensures.1 in
    disk_fault _ _ _ (p.1 ∙ ap Err p.2) c.in_err-sync.ensures.fault

pub returns-in_err-sync-clause-ends : goal.returns-in_err-sync-clause-ends
returns-in_err-sync-clause-ends g c =
    let p = err_from_is_err_and c.from_residual.result c.from_residual.ensures.1 in
    disk_ends _ _ _ _ (p.1 ∙ ap Err p.2) c.in_err-sync.ensures.ends
