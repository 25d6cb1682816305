use Rattle.std.proofs.Common.{◌≡◌, ◌∙◌, Err, ap, refl, sym, true}
use Rattle.std.proofs.lemmas.Result.{err_from_is_err_and}
use Rattle.rio_base.proofs.MachineRules.{never}
use Rattle.rio_base.specs.Rules.{true_false}
use Rattle.rio_base.specs.declared.failures.VolFail.TheVariants.{Fault, Stopped}
use Rattle.rio_model.specs.Registry.{IsValid, is_valid, tag_at}
use Rattle.rio_model.proofs.RebootClears.{endures_cleared_stale}
use Rattle.rio_model.proofs.RebootSteps.{endures_refl}
use Rattle.registry.proofs.Retags.{retagged}
use Rattle.page_restore.proofs.Exits.{endures_same, not_ok, one_same, phase_step, phase_stop}
use Rattle.page_restore.proofs.Steps.{layout_now, phase_none}
use Rattle.page_restore.proofs.clearing.clear_entry.Goals as goal

pub returns-clause-endures : goal.returns-clause-endures
returns-clause-endures g c =
    let valid : is_valid (tag_at (g.M.Machine.contents c.args.m.now).words c.args.k) ≡ true = ap is_valid (sym c.load_tag.ensures) ∙ sym c.is_valid.ensures ∙ c.if-not-is_valid.false in
    let v : IsValid (g.M.Machine.contents c.args.m.now).words c.args.k = record { within = c.requires.entry; valid = valid } in
    endures_cleared_stale c.args.marks.now _ c.args.k _ _ c.requires.image c.in_ok-clear.ensures.changes.rest v c.requires.synced (c.requires.home v) (retagged c.args.k 0 _ _ c.in_ok-clear.ensures.changes.one_entry c.in_ok-clear.ensures.entry)

pub load_tag-requires-clause-layout : goal.load_tag-requires-clause-layout
load_tag-requires-clause-layout g c = layout_now _ _ c.requires.image

pub clear-requires : goal.clear-requires
clear-requires g c = record { can = record { layout = layout_now _ _ c.requires.image; closed = c.requires.closed; entry = c.requires.entry } }

pub returns-clause-gone : goal.returns-clause-gone
returns-clause-gone g c = (retagged c.args.k 0 _ _ c.in_ok-clear.ensures.changes.one_entry c.in_ok-clear.ensures.entry).tag

pub returns-clause-ends : goal.returns-clause-ends
returns-clause-ends g c = phase_step _ _ _ _ _ _ (λ e. true_false (sym e)) c.clear.ensures.changes.closed c.clear.ensures.changes.lasts c.in_ok-clear.ensures.changes.ends

-- ---- a stop

pub returns-in_err-clear-clause-endures : goal.returns-in_err-clear-clause-endures
returns-in_err-clear-clause-endures g c = endures_same _ _ _ c.in_err-clear.ensures.same

pub returns-in_err-clear-clause-gone : goal.returns-in_err-clear-clause-gone
returns-in_err-clear-clause-gone g c = not_ok _ c.from_residual.result c.from_residual.ensures.0

pub returns-in_err-clear-clause-ends : goal.returns-in_err-clear-clause-ends
returns-in_err-clear-clause-ends g c =
    let p = err_from_is_err_and c.from_residual.result c.from_residual.ensures.1 in
    phase_stop _ _ _ _ _ _ refl (p.1 ∙ ap Err p.2) c.clear.ensures.changes.closed c.clear.ensures.changes.lasts c.in_err-clear.ensures.changes.ends

-- ---- an entry that is not valid

pub returns-then-not-is_valid-clause-endures : goal.returns-then-not-is_valid-clause-endures
returns-then-not-is_valid-clause-endures g c = endures_refl _ _

pub returns-then-not-is_valid-clause-one_entry : goal.returns-then-not-is_valid-clause-one_entry
returns-then-not-is_valid-clause-one_entry g c = one_same c.args.k _ _ refl

pub returns-then-not-is_valid-clause-ends : goal.returns-then-not-is_valid-clause-ends
returns-then-not-is_valid-clause-ends g c = phase_none _ _ _ _ c.requires.closed (never _ Fault) (never _ Stopped)
