use Rattle.std.proofs.Common.{◌∙◌, Err, ap, refl, sym}
use Rattle.std.proofs.lemmas.Result.{err_from_is_err_and}
use Rattle.rio_base.proofs.MachineRules.{never}
use Rattle.rio_base.specs.Machine.{Contents}
use Rattle.rio_base.specs.Rules.{true_false}
use Rattle.rio_base.specs.declared.failures.VolFail.TheVariants.{Fault, Stopped}
use Rattle.rio_model.specs.Registry.{is_dirty, is_valid}
use Rattle.rio_model.specs.Standing.{none_apart}
use Rattle.rio_model.proofs.RebootSteps.{endures_dirtied, endures_read, endures_refl, endures_trans, now_dirty}
use Rattle.registry.proofs.Retags.{retagged}
use Rattle.page_restore.proofs.Exits.{endures_same, home_from, marked_from, marked_read, not_ok, one_from, one_same, phase_step, phase_stop, phase_well, valid_same}
use Rattle.page_restore.proofs.SettleTurns.{marked_now, marked_words, settled_dirty, settled_invalid}
use Rattle.page_restore.proofs.Steps.{image_next, layout_now, phase_none, phase_then, phase_told}
use Rattle.page_restore.proofs.settling.settle_entry.Goals as goal

pub load_tag-tag-requires-clause-layout : goal.load_tag-tag-requires-clause-layout
load_tag-tag-requires-clause-layout g c = layout_now _ _ c.requires.image

pub is_home-requires-clause-valid : goal.is_home-requires-clause-valid
is_home-requires-clause-valid g c = record { within = c.requires.entry; valid = ap is_valid (sym c.load_tag-tag.ensures) ∙ sym c.is_valid.ensures ∙ c.if-not-is_valid.false }

pub set_dirty-requires-clause-can : goal.set_dirty-requires-clause-can
set_dirty-requires-clause-can g c = record { layout = layout_now _ _ (image_next none_apart _ _ _ _ _ _ c.requires.image (endures_read _ _ c.is_home.ensures.same) c.is_home.ensures.ends); closed = c.is_home.ensures.ends.closed; entry = (valid_same c.args.k _ _ (ap (λ (x : Contents). x.words) c.is_home.ensures.same) (record { within = c.requires.entry; valid = ap is_valid (sym c.load_tag-tag.ensures) ∙ sym c.is_valid.ensures ∙ c.if-not-is_valid.false })).within }

-- ---- an entry that is not valid

pub returns-then-not-is_valid-clause-endures : goal.returns-then-not-is_valid-clause-endures
returns-then-not-is_valid-clause-endures g c = endures_refl none_apart _

pub returns-then-not-is_valid-clause-settled : goal.returns-then-not-is_valid-clause-settled
returns-then-not-is_valid-clause-settled g c = settled_invalid _ c.args.k (ap is_valid (sym c.load_tag-tag.ensures) ∙ sym c.is_valid.ensures ∙ c.if-not-is_valid.true)

pub returns-then-not-is_valid-clause-marked : goal.returns-then-not-is_valid-clause-marked
returns-then-not-is_valid-clause-marked g c = marked_words _ _ c.args.k refl

pub returns-then-not-is_valid-clause-one_entry : goal.returns-then-not-is_valid-clause-one_entry
returns-then-not-is_valid-clause-one_entry g c = one_same c.args.k _ _ refl

pub returns-then-not-is_valid-clause-ends : goal.returns-then-not-is_valid-clause-ends
returns-then-not-is_valid-clause-ends g c = phase_none _ _ _ _ c.requires.closed (never _ Fault) (never _ Stopped)

-- ---- one that is dirty

pub returns-then-is_dirty-clause-endures : goal.returns-then-is_dirty-clause-endures
returns-then-is_dirty-clause-endures g c = endures_refl none_apart _

pub returns-then-is_dirty-clause-settled : goal.returns-then-is_dirty-clause-settled
returns-then-is_dirty-clause-settled g c = settled_dirty _ c.args.k (ap is_dirty (sym c.load_tag-tag.ensures) ∙ sym c.is_dirty.ensures ∙ c.if-is_dirty.true)

pub returns-then-is_dirty-clause-marked : goal.returns-then-is_dirty-clause-marked
returns-then-is_dirty-clause-marked g c = marked_words _ _ c.args.k refl

pub returns-then-is_dirty-clause-one_entry : goal.returns-then-is_dirty-clause-one_entry
returns-then-is_dirty-clause-one_entry g c = one_same c.args.k _ _ refl

pub returns-then-is_dirty-clause-ends : goal.returns-then-is_dirty-clause-ends
returns-then-is_dirty-clause-ends g c = phase_none _ _ _ _ c.requires.closed (never _ Fault) (never _ Stopped)

-- ---- a read that failed

pub returns-in_err-home-clause-endures : goal.returns-in_err-home-clause-endures
returns-in_err-home-clause-endures g c = endures_read _ _ c.is_home.ensures.same

pub returns-in_err-home-clause-settled : goal.returns-in_err-home-clause-settled
returns-in_err-home-clause-settled g c = not_ok _ c.from_residual.result c.from_residual.ensures.0

pub returns-in_err-home-clause-marked : goal.returns-in_err-home-clause-marked
returns-in_err-home-clause-marked g c = marked_read _ _ c.args.k c.is_home.ensures.same

pub returns-in_err-home-clause-one_entry : goal.returns-in_err-home-clause-one_entry
returns-in_err-home-clause-one_entry g c = one_same c.args.k _ _ (ap (λ (x : Contents). x.words) c.is_home.ensures.same)

pub returns-in_err-home-clause-disk : goal.returns-in_err-home-clause-disk
returns-in_err-home-clause-disk g c = ap (λ (x : Contents). x.disk) c.is_home.ensures.same

pub returns-in_err-home-clause-ends : goal.returns-in_err-home-clause-ends
returns-in_err-home-clause-ends g c =
    let p = err_from_is_err_and c.from_residual.result c.from_residual.ensures.1 in
    phase_told _ _ _ _ _ _ (p.1 ∙ ap Err p.2) c.in_err-home.ensures.ends

-- ---- a page that is the disk's block

pub returns-then-home-clause-endures : goal.returns-then-home-clause-endures
returns-then-home-clause-endures g c = endures_read _ _ c.is_home.ensures.same

pub returns-then-home-clause-marked : goal.returns-then-home-clause-marked
returns-then-home-clause-marked g c = marked_read _ _ c.args.k c.is_home.ensures.same

pub returns-then-home-clause-one_entry : goal.returns-then-home-clause-one_entry
returns-then-home-clause-one_entry g c = one_same c.args.k _ _ (ap (λ (x : Contents). x.words) c.is_home.ensures.same)

pub returns-then-home-clause-disk : goal.returns-then-home-clause-disk
returns-then-home-clause-disk g c = ap (λ (x : Contents). x.disk) c.is_home.ensures.same

pub returns-then-home-clause-ends : goal.returns-then-home-clause-ends
returns-then-home-clause-ends g c = phase_well _ _ _ _ _ _ c.in_ok-home.ensures.ends

-- ---- a mark that failed

pub returns-in_err-set_dirty-clause-endures : goal.returns-in_err-set_dirty-clause-endures
returns-in_err-set_dirty-clause-endures g c = endures_trans none_apart _ _ _ (endures_read _ _ c.is_home.ensures.same) (endures_same none_apart _ _ c.in_err-set_dirty.ensures.same)

pub returns-in_err-set_dirty-clause-settled : goal.returns-in_err-set_dirty-clause-settled
returns-in_err-set_dirty-clause-settled g c = not_ok _ c.from_residual-in_err-set_dirty.result c.from_residual-in_err-set_dirty.ensures.0

pub returns-in_err-set_dirty-clause-marked : goal.returns-in_err-set_dirty-clause-marked
returns-in_err-set_dirty-clause-marked g c = marked_from _ _ _ c.args.k c.is_home.ensures.same (marked_words _ _ c.args.k (ap (λ (x : Contents). x.words) c.in_err-set_dirty.ensures.same))

pub returns-in_err-set_dirty-clause-one_entry : goal.returns-in_err-set_dirty-clause-one_entry
returns-in_err-set_dirty-clause-one_entry g c = one_from c.args.k _ _ _ (ap (λ (x : Contents). x.words) c.is_home.ensures.same) c.set_dirty.ensures.changes.one_entry

pub returns-in_err-set_dirty-clause-disk : goal.returns-in_err-set_dirty-clause-disk
returns-in_err-set_dirty-clause-disk g c = ap (λ (x : Contents). x.disk) c.set_dirty.ensures.changes.rest ∙ ap (λ (x : Contents). x.disk) c.is_home.ensures.same

pub returns-in_err-set_dirty-clause-ends : goal.returns-in_err-set_dirty-clause-ends
returns-in_err-set_dirty-clause-ends g c =
    let p = err_from_is_err_and c.from_residual-in_err-set_dirty.result c.from_residual-in_err-set_dirty.ensures.1 in
    phase_then _ _ _ _ _ _ _ _ _ _ (never _ Stopped) c.in_ok-home.ensures.ends (phase_stop _ _ _ _ _ _ refl (p.1 ∙ ap Err p.2) c.set_dirty.ensures.changes.closed c.set_dirty.ensures.changes.lasts c.in_err-set_dirty.ensures.changes.ends)

-- ---- a mark that was made

pub returns-clause-endures : goal.returns-clause-endures
returns-clause-endures g c =
    let image = image_next none_apart _ _ _ _ _ _ c.requires.image (endures_read _ _ c.is_home.ensures.same) c.is_home.ensures.ends in
    let valid = valid_same c.args.k _ _ (ap (λ (x : Contents). x.words) c.is_home.ensures.same) (record { within = c.requires.entry; valid = ap is_valid (sym c.load_tag-tag.ensures) ∙ sym c.is_valid.ensures ∙ c.if-not-is_valid.false }) in
    endures_trans none_apart _ _ _ (endures_read _ _ c.is_home.ensures.same) (endures_dirtied _ c.args.k _ _ image c.in_ok-set_dirty.ensures.changes.rest valid (retagged c.args.k _ _ _ c.in_ok-set_dirty.ensures.changes.one_entry c.in_ok-set_dirty.ensures.entry))

pub returns-clause-settled : goal.returns-clause-settled
returns-clause-settled g c = settled_dirty _ c.args.k (now_dirty c.args.k _ _ (retagged c.args.k _ _ _ c.in_ok-set_dirty.ensures.changes.one_entry c.in_ok-set_dirty.ensures.entry))

pub returns-clause-marked : goal.returns-clause-marked
returns-clause-marked g c =
    let valid = valid_same c.args.k _ _ (ap (λ (x : Contents). x.words) c.is_home.ensures.same) (record { within = c.requires.entry; valid = ap is_valid (sym c.load_tag-tag.ensures) ∙ sym c.is_valid.ensures ∙ c.if-not-is_valid.false }) in
    marked_from _ _ _ c.args.k c.is_home.ensures.same (marked_now _ _ c.args.k valid (λ h. true_false (sym (c.in_ok-home.ensures.answer.1 (home_from _ _ c.args.k c.is_home.ensures.same h)) ∙ c.if-home.false)) (retagged c.args.k _ _ _ c.in_ok-set_dirty.ensures.changes.one_entry c.in_ok-set_dirty.ensures.entry))

pub returns-clause-one_entry : goal.returns-clause-one_entry
returns-clause-one_entry g c = one_from c.args.k _ _ _ (ap (λ (x : Contents). x.words) c.is_home.ensures.same) c.set_dirty.ensures.changes.one_entry

pub returns-clause-disk : goal.returns-clause-disk
returns-clause-disk g c = ap (λ (x : Contents). x.disk) c.set_dirty.ensures.changes.rest ∙ ap (λ (x : Contents). x.disk) c.is_home.ensures.same

pub returns-clause-ends : goal.returns-clause-ends
returns-clause-ends g c = phase_then _ _ _ _ _ _ _ _ _ _ (never _ Stopped) c.in_ok-home.ensures.ends (phase_step _ _ _ _ _ _ (λ e. true_false (sym e)) c.set_dirty.ensures.changes.closed c.set_dirty.ensures.changes.lasts c.in_ok-set_dirty.ensures.changes.ends)
