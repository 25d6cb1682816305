use Rattle.rio_model.proofs.RebootClears.{empty_gated, endures_gated}
use Rattle.std.proofs.Common.{Err, ◌≡◌, ◌<◌, ◌∙◌, ℕ, ap, refl, subst, sym}
use Rattle.std.proofs.lemmas.Result.{err_from_is_err_and}
use Rattle.rio_base.specs.Machine.{Contents}
use Rattle.rio_base.specs.Rules.{true_false}
use Rattle.rio_model.specs.Registry.{frames_of, tag_at}
use Rattle.rio_model.specs.Standing.{none_apart}
use Rattle.page_restore.proofs.Exits.{endures_same, not_ok, phase_step, phase_stop}
use Rattle.page_restore.proofs.clearing.shut_gate.Goals as goal

pub returns-clause-endures : goal.returns-clause-endures
returns-clause-endures g c = endures_gated _ _ _ c.requires.image c.requires.empty c.in_ok-put_word.ensures.stored

pub returns-clause-empty : goal.returns-clause-empty
returns-clause-empty g c = empty_gated _ _ _ c.requires.image c.in_ok-put_word.ensures.stored c.requires.empty

pub returns-in_err-put_word-clause-endures : goal.returns-in_err-put_word-clause-endures
returns-in_err-put_word-clause-endures g c = endures_same none_apart _ _ c.in_err-put_word.ensures.same

pub returns-in_err-put_word-clause-empty : goal.returns-in_err-put_word-clause-empty
returns-in_err-put_word-clause-empty g c = subst (λ (m : Contents). (k : ℕ) → k < frames_of m.words → tag_at m.words k ≡ 0) (sym c.in_err-put_word.ensures.same) c.requires.empty

pub returns-in_err-put_word-clause-shut : goal.returns-in_err-put_word-clause-shut
returns-in_err-put_word-clause-shut g c = not_ok _ c.from_residual.result c.from_residual.ensures.0

pub returns-in_err-put_word-clause-ends : goal.returns-in_err-put_word-clause-ends
returns-in_err-put_word-clause-ends g c =
    let p = err_from_is_err_and c.from_residual.result c.from_residual.ensures.1 in
    phase_stop _ _ _ _ _ _ refl (p.1 ∙ ap Err p.2) (ap (λ (m : Contents). m.open_page) c.in_err-put_word.ensures.same ∙ c.requires.closed) c.put_word.ensures.lasts c.in_err-put_word.ensures.ends

pub returns-clause-ends : goal.returns-clause-ends
returns-clause-ends g c = phase_step _ _ _ _ _ _ (λ q. true_false (sym q)) (ap (λ (m : Contents). m.open_page) c.in_ok-put_word.ensures.stored ∙ c.requires.closed) c.put_word.ensures.lasts c.in_ok-put_word.ensures.ends
