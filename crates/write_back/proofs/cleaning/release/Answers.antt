use Rattle.std.proofs.Common.{ap, refl, sym, ◌∙◌, List, ℕ}
use Rattle.rio_base.specs.Rules.{true_false}
use Rattle.rio_base.proofs.MachineRules.{ends_as, ends_err, lasts_trans, steps_refl}
use Rattle.write_back.proofs.Steps.{coherent_then, keeps_then}
use Rattle.rio_model.proofs.HeldEntries.{held_then, narrows_gone, narrows_held, one_entry_then}
use Rattle.rio_model.specs.Registry.{is_dirty, tag_at}
use Rattle.write_back.proofs.Exits.{at_err, narrows_same, not_ok, rest_then}
use Rattle.write_back.proofs.cleaning.release.Goals as goal

pub returns-then-not-is_dirty-clause-narrows : goal.returns-then-not-is_dirty-clause-narrows
returns-then-not-is_dirty-clause-narrows g c = narrows_gone c.args.k _ _ c.requires.coherent.rules.blocks c.drop_entry.ensures.one_entry c.in_ok-drop_entry.ensures.gone

pub drop_entry-requires-2-clause-coherent : goal.drop_entry-requires-2-clause-coherent
drop_entry-requires-2-clause-coherent g c = coherent_then _ _ _ _ c.requires.coherent c.mark_clean.ensures.keeps c.mark_clean.ensures.ends.steps.scratch_count

pub returns-in_err-drop_entry-2-clause-narrows : goal.returns-in_err-drop_entry-2-clause-narrows
returns-in_err-drop_entry-2-clause-narrows g c = narrows_held c.args.k _ _ c.requires.coherent.rules.blocks (one_entry_then c.args.k _ _ _ c.mark_clean.ensures.one_entry c.drop_entry-2.ensures.one_entry) (held_then c.args.k _ _ _ c.mark_clean.ensures.held c.in_err-drop_entry-2.ensures.held)

pub returns-clause-narrows : goal.returns-clause-narrows
returns-clause-narrows g c = narrows_gone c.args.k _ _ c.requires.coherent.rules.blocks (one_entry_then c.args.k _ _ _ c.mark_clean.ensures.one_entry c.drop_entry-2.ensures.one_entry) c.in_ok-drop_entry-2.ensures.gone

pub returns-clause-ends : goal.returns-clause-ends
returns-clause-ends g c = ends_as _ _ _ _ _ _ (λ e. absurd (true_false (sym e))) c.in_ok-mark_clean.ensures.ends c.in_ok-drop_entry-2.ensures.ends (λ e. absurd (true_false (sym e))) (λ e. absurd (true_false (sym e)))

pub drop_entry-requires-clause-clean : goal.drop_entry-requires-clause-clean
drop_entry-requires-clause-clean g c = (ap is_dirty (sym c.load_tag-tag.ensures) ∙ sym c.is_dirty.ensures ∙ c.if-not-is_dirty.true)

pub mark_clean-requires-clause-written : goal.mark_clean-requires-clause-written
mark_clean-requires-clause-written g c = c.requires.written (ap is_dirty (sym c.load_tag-tag.ensures) ∙ sym c.is_dirty.ensures ∙ c.if-not-is_dirty.false)

pub mark_clean-requires-clause-synced : goal.mark_clean-requires-clause-synced
mark_clean-requires-clause-synced g c = c.requires.synced (ap is_dirty (sym c.load_tag-tag.ensures) ∙ sym c.is_dirty.ensures ∙ c.if-not-is_dirty.false)

pub returns-in_err-drop_entry-clause-gone : goal.returns-in_err-drop_entry-clause-gone
returns-in_err-drop_entry-clause-gone g c = not_ok _ c.from_residual.result c.from_residual.ensures.0

pub returns-in_err-drop_entry-clause-held : goal.returns-in_err-drop_entry-clause-held
returns-in_err-drop_entry-clause-held g c = at_err c.from_residual.result c.from_residual.ensures.0 c.in_err-drop_entry.ensures.held

pub returns-in_err-drop_entry-clause-marks : goal.returns-in_err-drop_entry-clause-marks
returns-in_err-drop_entry-clause-marks g c = λ dirty. ap (λ (ws : List ℕ). is_dirty (tag_at ws c.args.k)) (sym c.in_err-drop_entry.ensures.same) ∙ dirty

pub returns-in_err-drop_entry-clause-narrows : goal.returns-in_err-drop_entry-clause-narrows
returns-in_err-drop_entry-clause-narrows g c = narrows_same _ _ c.requires.coherent.rules.blocks c.in_err-drop_entry.ensures.same

pub returns-in_err-drop_entry-clause-ends : goal.returns-in_err-drop_entry-clause-ends
returns-in_err-drop_entry-clause-ends g c = ends_err _ _ _ _ _ refl c.from_residual.ensures.0 (steps_refl _) c.in_err-drop_entry.ensures.ends

pub returns-in_err-mark_clean-clause-gone : goal.returns-in_err-mark_clean-clause-gone
returns-in_err-mark_clean-clause-gone g c = not_ok _ c.from_residual-in_err-mark_clean.result c.from_residual-in_err-mark_clean.ensures.0

pub returns-in_err-mark_clean-clause-held : goal.returns-in_err-mark_clean-clause-held
returns-in_err-mark_clean-clause-held g c = at_err c.from_residual-in_err-mark_clean.result c.from_residual-in_err-mark_clean.ensures.0 c.in_err-mark_clean.ensures.held

pub returns-in_err-mark_clean-clause-marks : goal.returns-in_err-mark_clean-clause-marks
returns-in_err-mark_clean-clause-marks g c = λ dirty. ap (λ (ws : List ℕ). is_dirty (tag_at ws c.args.k)) (sym c.in_err-mark_clean.ensures.same) ∙ dirty

pub returns-in_err-mark_clean-clause-narrows : goal.returns-in_err-mark_clean-clause-narrows
returns-in_err-mark_clean-clause-narrows g c = narrows_same _ _ c.requires.coherent.rules.blocks c.in_err-mark_clean.ensures.same

pub returns-in_err-mark_clean-clause-ends : goal.returns-in_err-mark_clean-clause-ends
returns-in_err-mark_clean-clause-ends g c = ends_err _ _ _ _ _ refl c.from_residual-in_err-mark_clean.ensures.0 (steps_refl _) c.in_err-mark_clean.ensures.ends

pub returns-then-not-is_dirty-clause-marks : goal.returns-then-not-is_dirty-clause-marks
returns-then-not-is_dirty-clause-marks g c = λ dirty. absurd (true_false (sym dirty ∙ ap is_dirty c.in_ok-drop_entry.ensures.gone))

pub returns-in_err-drop_entry-2-clause-keeps : goal.returns-in_err-drop_entry-2-clause-keeps
returns-in_err-drop_entry-2-clause-keeps g c = keeps_then _ _ _ c.mark_clean.ensures.keeps c.drop_entry-2.ensures.keeps

pub returns-in_err-drop_entry-2-clause-one_entry : goal.returns-in_err-drop_entry-2-clause-one_entry
returns-in_err-drop_entry-2-clause-one_entry g c = one_entry_then c.args.k _ _ _ c.mark_clean.ensures.one_entry c.drop_entry-2.ensures.one_entry

pub returns-in_err-drop_entry-2-clause-rest : goal.returns-in_err-drop_entry-2-clause-rest
returns-in_err-drop_entry-2-clause-rest g c = rest_then (g.M.Machine.contents c.args.m.now) (g.M.Machine.contents c.mark_clean.new.m) _ c.mark_clean.ensures.rest c.drop_entry-2.ensures.rest

pub returns-in_err-drop_entry-2-clause-lasts : goal.returns-in_err-drop_entry-2-clause-lasts
returns-in_err-drop_entry-2-clause-lasts g c = lasts_trans _ _ _ c.mark_clean.ensures.lasts c.drop_entry-2.ensures.lasts

pub returns-in_err-drop_entry-2-clause-gone : goal.returns-in_err-drop_entry-2-clause-gone
returns-in_err-drop_entry-2-clause-gone g c = not_ok _ c.from_residual-in_err-drop_entry-2.result c.from_residual-in_err-drop_entry-2.ensures.0

pub returns-in_err-drop_entry-2-clause-held : goal.returns-in_err-drop_entry-2-clause-held
returns-in_err-drop_entry-2-clause-held g c = at_err c.from_residual-in_err-drop_entry-2.result c.from_residual-in_err-drop_entry-2.ensures.0 (held_then c.args.k _ _ _ c.mark_clean.ensures.held c.in_err-drop_entry-2.ensures.held)

pub returns-in_err-drop_entry-2-clause-marks : goal.returns-in_err-drop_entry-2-clause-marks
returns-in_err-drop_entry-2-clause-marks g c = λ dirty. absurd (true_false (sym dirty ∙ ap (λ (ws : List ℕ). is_dirty (tag_at ws c.args.k)) c.in_err-drop_entry-2.ensures.same ∙ c.in_ok-mark_clean.ensures.cleaned.clean))

pub returns-in_err-drop_entry-2-clause-ends : goal.returns-in_err-drop_entry-2-clause-ends
returns-in_err-drop_entry-2-clause-ends g c = ends_err _ _ _ _ _ refl c.from_residual-in_err-drop_entry-2.ensures.0 c.mark_clean.ensures.ends.steps c.in_err-drop_entry-2.ensures.ends

pub returns-clause-keeps : goal.returns-clause-keeps
returns-clause-keeps g c = keeps_then _ _ _ c.mark_clean.ensures.keeps c.drop_entry-2.ensures.keeps

pub returns-clause-one_entry : goal.returns-clause-one_entry
returns-clause-one_entry g c = one_entry_then c.args.k _ _ _ c.mark_clean.ensures.one_entry c.drop_entry-2.ensures.one_entry

pub returns-clause-rest : goal.returns-clause-rest
returns-clause-rest g c = rest_then (g.M.Machine.contents c.args.m.now) (g.M.Machine.contents c.mark_clean.new.m) _ c.mark_clean.ensures.rest c.drop_entry-2.ensures.rest

pub returns-clause-lasts : goal.returns-clause-lasts
returns-clause-lasts g c = lasts_trans _ _ _ c.mark_clean.ensures.lasts c.drop_entry-2.ensures.lasts

pub returns-clause-marks : goal.returns-clause-marks
returns-clause-marks g c = λ dirty. absurd (true_false (sym dirty ∙ ap is_dirty c.in_ok-drop_entry-2.ensures.gone))
