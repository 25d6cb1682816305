use Rattle.cached_pages.proofs.Common.{◌∙◌, ap, arith, header_one, sym, true_false}
use Rattle.std.proofs.Common.{◌+◌, refl}
use Rattle.cached_pages.specs.declared.tables.CacheTables.{CacheTables}
use Rattle.cached_pages.proofs.Touches.{gives_had, gives_next, pages_held, pages_named, pages_trans}
use Rattle.cached_pages.proofs.Stills.{still_refl}
use Rattle.cached_pages.proofs.StoreCalls.{valid_cached}
use Rattle.rio_base.proofs.MachineRules.{ends_none, lasts_refl}
use Rattle.rio_model.proofs.CoverSteps.{keeps_refl}
use Rattle.write_back.proofs.Exits.{not_ok}
use Rattle.cached_pages.proofs.updating.shadow_frame.Goals as goal
use Rattle.cached_pages.proofs.Goes.{ends_ok, ends_stop}
use Rattle.cached_pages.proofs.Uses.{order_same}
use Rattle.cached_pages.proofs.Rooms.{keeps_then, lasts_then}
use Rattle.cached_pages.proofs.Stills.{still_trans}
use Rattle.cached_pages.proofs.DirtyMarks.{marks_held, marks_named, marks_trans}
use Rattle.cached_pages.proofs.DirtyMarks.{marks_refl}
use Rattle.rio_base.proofs.MachineRules.{ends_err}

pub returns-in_err-mark_dirty-clause-pages : goal.returns-in_err-mark_dirty-clause-pages
returns-in_err-mark_dirty-clause-pages g c = pages_held c.args.k _ _ c.mark_dirty.ensures.one_entry c.mark_dirty.ensures.held

pub returns-in_err-give_shadow-clause-pages : goal.returns-in_err-give_shadow-clause-pages
returns-in_err-give_shadow-clause-pages g c = pages_trans _ _ _ (pages_held c.args.k _ _ c.mark_dirty.ensures.one_entry c.mark_dirty.ensures.held) (pages_named _ _ c.give_shadow.ensures.names)

pub returns-clause-pages : goal.returns-clause-pages
returns-clause-pages g c = pages_trans _ _ _ (pages_held c.args.k _ _ c.mark_dirty.ensures.one_entry c.mark_dirty.ensures.held) (pages_named _ _ c.give_shadow.ensures.names)

pub returns-clause-gives : goal.returns-clause-gives
returns-clause-gives g c = gives_next c.args.k _ _ _ c.args.t.now _ c.mark_dirty.ensures.one_entry c.mark_dirty.ensures.held (sym c.shadow_of_entry.ensures ∙ c.if-shadow_of_entry-ne0.false) c.in_ok-give_shadow.ensures.given c.give_shadow.ensures.others (c.in_ok-give_shadow.ensures.count ∙ ap (λ (t : CacheTables). t.shadows + 1) c.mark_dirty.ensures.tables)

pub returns-in_err-give_shadow-clause-ends : goal.returns-in_err-give_shadow-clause-ends
returns-in_err-give_shadow-clause-ends g c =
    ends_err (g.M.Machine.run c.args.m.now) (g.M.Machine.run c.mark_dirty.new.m) (g.M.Machine.run c.give_shadow.new.m) _ _ refl c.from_residual-in_err-give_shadow.ensures.0 c.mark_dirty.ensures.ends.steps c.in_err-give_shadow.ensures.ends

pub returns-clause-ends : goal.returns-clause-ends
returns-clause-ends g c = ends_ok _ _ _ _ _ _ (λ q. true_false (sym q)) (λ q. true_false (sym q)) (λ q. true_false (sym q)) c.in_ok-mark_dirty.ensures.ends c.in_ok-give_shadow.ensures.ends

pub returns-in_err-give_shadow-clause-order : goal.returns-in_err-give_shadow-clause-order
returns-in_err-give_shadow-clause-order g c = c.give_shadow.ensures.order ∙ order_same _ _ c.mark_dirty.ensures.tables

pub returns-clause-order : goal.returns-clause-order
returns-clause-order g c = c.give_shadow.ensures.order ∙ order_same _ _ c.mark_dirty.ensures.tables

pub returns-in_err-mark_dirty-clause-forgotten : goal.returns-in_err-mark_dirty-clause-forgotten
returns-in_err-mark_dirty-clause-forgotten g c = ap (λ (t : CacheTables). t.forgotten) c.mark_dirty.ensures.tables

pub returns-in_err-mark_dirty-clause-order : goal.returns-in_err-mark_dirty-clause-order
returns-in_err-mark_dirty-clause-order g c = order_same _ _ c.mark_dirty.ensures.tables

pub returns-in_err-give_shadow-clause-keeps : goal.returns-in_err-give_shadow-clause-keeps
returns-in_err-give_shadow-clause-keeps g c = keeps_then _ _ _ c.mark_dirty.ensures.keeps c.give_shadow.ensures.keeps

pub returns-in_err-give_shadow-clause-forgotten : goal.returns-in_err-give_shadow-clause-forgotten
returns-in_err-give_shadow-clause-forgotten g c = c.give_shadow.ensures.forgotten ∙ ap (λ (t : CacheTables). t.forgotten) c.mark_dirty.ensures.tables

pub returns-in_err-give_shadow-clause-still : goal.returns-in_err-give_shadow-clause-still
returns-in_err-give_shadow-clause-still g c = still_trans _ _ _ c.mark_dirty.ensures.still c.give_shadow.ensures.still

pub returns-in_err-give_shadow-clause-lasts : goal.returns-in_err-give_shadow-clause-lasts
returns-in_err-give_shadow-clause-lasts g c = lasts_then _ _ _ c.mark_dirty.ensures.lasts c.give_shadow.ensures.lasts

pub returns-clause-keeps : goal.returns-clause-keeps
returns-clause-keeps g c = keeps_then _ _ _ c.mark_dirty.ensures.keeps c.give_shadow.ensures.keeps

pub returns-clause-forgotten : goal.returns-clause-forgotten
returns-clause-forgotten g c = c.give_shadow.ensures.forgotten ∙ ap (λ (t : CacheTables). t.forgotten) c.mark_dirty.ensures.tables

pub returns-clause-still : goal.returns-clause-still
returns-clause-still g c = still_trans _ _ _ c.mark_dirty.ensures.still c.give_shadow.ensures.still

pub returns-clause-lasts : goal.returns-clause-lasts
returns-clause-lasts g c = lasts_then _ _ _ c.mark_dirty.ensures.lasts c.give_shadow.ensures.lasts

pub returns-in_err-mark_dirty-clause-marks : goal.returns-in_err-mark_dirty-clause-marks
returns-in_err-mark_dirty-clause-marks g c = marks_held c.args.k _ _ c.mark_dirty.ensures.cached c.mark_dirty.ensures.one_entry c.mark_dirty.ensures.held

pub returns-in_err-give_shadow-clause-marks : goal.returns-in_err-give_shadow-clause-marks
returns-in_err-give_shadow-clause-marks g c = marks_trans _ _ _ _ (marks_held c.args.k _ _ c.mark_dirty.ensures.cached c.mark_dirty.ensures.one_entry c.mark_dirty.ensures.held) (marks_named _ _ _ c.give_shadow.ensures.names)

pub returns-clause-marks : goal.returns-clause-marks
returns-clause-marks g c = marks_trans _ _ _ _ (marks_held c.args.k _ _ c.mark_dirty.ensures.cached c.mark_dirty.ensures.one_entry c.mark_dirty.ensures.held) (marks_named _ _ _ c.give_shadow.ensures.names)

pub returns-then-shadow_of_entry-ne0-clause-marks : goal.returns-then-shadow_of_entry-ne0-clause-marks
returns-then-shadow_of_entry-ne0-clause-marks g c = marks_refl _ _

pub returns-then-shadow_of_entry-ne0-clause-keeps : goal.returns-then-shadow_of_entry-ne0-clause-keeps
returns-then-shadow_of_entry-ne0-clause-keeps g c = keeps_refl _

pub returns-then-shadow_of_entry-ne0-clause-pages : goal.returns-then-shadow_of_entry-ne0-clause-pages
returns-then-shadow_of_entry-ne0-clause-pages g c = record { frames = refl; found = λ b. refl; named = λ k less. refl }

pub returns-then-shadow_of_entry-ne0-clause-gives : goal.returns-then-shadow_of_entry-ne0-clause-gives
returns-then-shadow_of_entry-ne0-clause-gives g c = gives_had c.args.k _ _ (λ none. c.if-shadow_of_entry-ne0.true (c.shadow_of_entry.ensures ∙ none))

pub returns-then-shadow_of_entry-ne0-clause-still : goal.returns-then-shadow_of_entry-ne0-clause-still
returns-then-shadow_of_entry-ne0-clause-still g c = still_refl _

pub returns-then-shadow_of_entry-ne0-clause-lasts : goal.returns-then-shadow_of_entry-ne0-clause-lasts
returns-then-shadow_of_entry-ne0-clause-lasts g c = lasts_refl _

pub returns-then-shadow_of_entry-ne0-clause-ends : goal.returns-then-shadow_of_entry-ne0-clause-ends
returns-then-shadow_of_entry-ne0-clause-ends g c = ends_none _ _ (λ q. true_false (sym q))

pub returns-in_err-mark_dirty-clause-gives : goal.returns-in_err-mark_dirty-clause-gives
returns-in_err-mark_dirty-clause-gives g c = not_ok _ c.from_residual.result c.from_residual.ensures.0

pub returns-in_err-mark_dirty-clause-ends : goal.returns-in_err-mark_dirty-clause-ends
returns-in_err-mark_dirty-clause-ends g c = ends_stop (g.M.Machine.run c.args.m.now) (g.M.Machine.run c.mark_dirty.new.m) _ _ refl c.from_residual.ensures.0 c.in_err-mark_dirty.ensures.ends

pub returns-in_err-give_shadow-clause-gives : goal.returns-in_err-give_shadow-clause-gives
returns-in_err-give_shadow-clause-gives g c = not_ok _ c.from_residual-in_err-give_shadow.result c.from_residual-in_err-give_shadow.ensures.0

pub give_shadow-requires-clause-updating : goal.give_shadow-requires-clause-updating
give_shadow-requires-clause-updating g c = header_one c.args.k _ _ 4 c.mark_dirty.ensures.one_entry (omega arith) ∙ c.requires.updating

pub give_shadow-requires-clause-valid : goal.give_shadow-requires-clause-valid
give_shadow-requires-clause-valid g c = valid_cached _ _ (g.M.Machine.contents c.args.m.now) (g.M.Machine.contents c.mark_dirty.new.m) c.requires.sound.coherent c.requires.valid c.mark_dirty.ensures.cached

pub give_shadow-requires-clause-metadata : goal.give_shadow-requires-clause-metadata
give_shadow-requires-clause-metadata g c = c.mark_dirty.ensures.held.named ∙ c.requires.metadata

pub give_shadow-requires-clause-bare : goal.give_shadow-requires-clause-bare
give_shadow-requires-clause-bare g c = c.mark_dirty.ensures.held.shadow ∙ sym c.shadow_of_entry.ensures ∙ c.if-shadow_of_entry-ne0.false
