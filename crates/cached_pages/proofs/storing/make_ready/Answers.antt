use Rattle.cached_pages.proofs.Common.{true_false, sym}
use Rattle.cached_pages.proofs.StoreCalls.{named_after, widens_after, widens_cached}
use Rattle.cached_pages.proofs.Goes.{ends_ok, ends_stop}
use Rattle.write_back.proofs.Exits.{not_ok}
use Rattle.cached_pages.proofs.storing.make_ready.Goals as goal
use Rattle.cached_pages.proofs.Common.{◌∙◌, lasts_trans}
use Rattle.rio_model.proofs.CoverSteps.{keeps_trans}
use Rattle.cached_pages.proofs.Stills.{still_trans}
use Rattle.cached_pages.proofs.StoreCalls.{valid_cached, dirty_after}
use Rattle.cached_pages.proofs.DirtyMarks.{marks_any, marks_held, marks_trans}
use Rattle.rio_base.proofs.MachineRules.{ends_err}
use Rattle.std.proofs.Common.{refl}

pub returns-in_err-mark_dirty-clause-widens : goal.returns-in_err-mark_dirty-clause-widens
returns-in_err-mark_dirty-clause-widens g c = widens_cached _ c.args.k c.args.name (g.M.Machine.contents c.args.m.now) (g.M.Machine.contents c.mark_dirty.new.m) c.requires.sound.coherent c.requires.valid c.mark_dirty.ensures.cached

pub returns-in_err-widen-clause-widens : goal.returns-in_err-widen-clause-widens
returns-in_err-widen-clause-widens g c = widens_after _ c.args.k c.args.name (g.M.Machine.contents c.args.m.now) (g.M.Machine.contents c.mark_dirty.new.m) (g.M.Machine.contents c.widen.new.m) c.requires.sound.coherent c.requires.valid c.mark_dirty.ensures.cached c.widen.ensures.widens

pub returns-in_err-widen-clause-ends : goal.returns-in_err-widen-clause-ends
returns-in_err-widen-clause-ends g c =
    ends_err (g.M.Machine.run c.args.m.now) (g.M.Machine.run c.mark_dirty.new.m) (g.M.Machine.run c.widen.new.m) _ _ refl c.from_residual-in_err-widen.ensures.0 c.mark_dirty.ensures.ends.steps c.in_err-widen.ensures.ends

pub returns-clause-widens : goal.returns-clause-widens
returns-clause-widens g c = widens_after _ c.args.k c.args.name (g.M.Machine.contents c.args.m.now) (g.M.Machine.contents c.mark_dirty.new.m) (g.M.Machine.contents c.widen.new.m) c.requires.sound.coherent c.requires.valid c.mark_dirty.ensures.cached c.widen.ensures.widens

pub returns-clause-named : goal.returns-clause-named
returns-clause-named g c = named_after _ c.args.k c.args.name (g.M.Machine.contents c.args.m.now) (g.M.Machine.contents c.mark_dirty.new.m) (g.M.Machine.contents c.widen.new.m) c.requires.sound.coherent c.requires.valid c.mark_dirty.ensures.cached c.in_ok-widen.ensures.named

pub returns-clause-ends : goal.returns-clause-ends
returns-clause-ends g c = ends_ok _ _ _ _ _ _ (λ q. true_false (sym q)) (λ q. true_false (sym q)) (λ q. true_false (sym q)) c.in_ok-mark_dirty.ensures.ends c.in_ok-widen.ensures.ends

pub widen-requires-clause-valid : goal.widen-requires-clause-valid
widen-requires-clause-valid g c = valid_cached _ _ (g.M.Machine.contents c.args.m.now) (g.M.Machine.contents c.mark_dirty.new.m) c.requires.sound.coherent c.requires.valid c.mark_dirty.ensures.cached

pub returns-in_err-widen-clause-keeps : goal.returns-in_err-widen-clause-keeps
returns-in_err-widen-clause-keeps g c = keeps_trans _ _ _ c.mark_dirty.ensures.keeps c.widen.ensures.keeps

pub returns-in_err-widen-clause-tables : goal.returns-in_err-widen-clause-tables
returns-in_err-widen-clause-tables g c = c.widen.ensures.tables ∙ c.mark_dirty.ensures.tables

pub returns-in_err-widen-clause-still : goal.returns-in_err-widen-clause-still
returns-in_err-widen-clause-still g c = still_trans _ _ _ c.mark_dirty.ensures.still c.widen.ensures.still

pub returns-in_err-widen-clause-lasts : goal.returns-in_err-widen-clause-lasts
returns-in_err-widen-clause-lasts g c = lasts_trans _ _ _ c.mark_dirty.ensures.lasts c.widen.ensures.lasts

pub returns-clause-keeps : goal.returns-clause-keeps
returns-clause-keeps g c = keeps_trans _ _ _ c.mark_dirty.ensures.keeps c.widen.ensures.keeps

pub returns-clause-tables : goal.returns-clause-tables
returns-clause-tables g c = c.widen.ensures.tables ∙ c.mark_dirty.ensures.tables

pub returns-clause-still : goal.returns-clause-still
returns-clause-still g c = still_trans _ _ _ c.mark_dirty.ensures.still c.widen.ensures.still

pub returns-clause-lasts : goal.returns-clause-lasts
returns-clause-lasts g c = lasts_trans _ _ _ c.mark_dirty.ensures.lasts c.widen.ensures.lasts

pub returns-clause-dirty : goal.returns-clause-dirty
returns-clause-dirty g c = dirty_after c.args.k (g.M.Machine.contents c.mark_dirty.new.m).words _ c.widen.ensures.tag c.in_ok-mark_dirty.ensures.dirty

pub returns-in_err-mark_dirty-clause-marks : goal.returns-in_err-mark_dirty-clause-marks
returns-in_err-mark_dirty-clause-marks g c = marks_held c.args.k _ _ c.mark_dirty.ensures.cached c.mark_dirty.ensures.one_entry c.mark_dirty.ensures.held

pub returns-in_err-widen-clause-marks : goal.returns-in_err-widen-clause-marks
returns-in_err-widen-clause-marks g c = marks_trans _ _ _ _ (marks_held c.args.k _ _ c.mark_dirty.ensures.cached c.mark_dirty.ensures.one_entry c.mark_dirty.ensures.held) (marks_any _ _ _ c.widen.ensures.marks)

pub returns-clause-marks : goal.returns-clause-marks
returns-clause-marks g c = marks_trans _ _ _ _ (marks_held c.args.k _ _ c.mark_dirty.ensures.cached c.mark_dirty.ensures.one_entry c.mark_dirty.ensures.held) (marks_any _ _ _ c.widen.ensures.marks)

pub returns-in_err-mark_dirty-clause-named : goal.returns-in_err-mark_dirty-clause-named
returns-in_err-mark_dirty-clause-named g c = not_ok _ c.from_residual.result c.from_residual.ensures.0

pub returns-in_err-mark_dirty-clause-dirty : goal.returns-in_err-mark_dirty-clause-dirty
returns-in_err-mark_dirty-clause-dirty g c = not_ok _ c.from_residual.result c.from_residual.ensures.0

pub returns-in_err-mark_dirty-clause-ends : goal.returns-in_err-mark_dirty-clause-ends
returns-in_err-mark_dirty-clause-ends g c = ends_stop (g.M.Machine.run c.args.m.now) (g.M.Machine.run c.mark_dirty.new.m) _ _ refl c.from_residual.ensures.0 c.in_err-mark_dirty.ensures.ends

pub returns-in_err-widen-clause-named : goal.returns-in_err-widen-clause-named
returns-in_err-widen-clause-named g c = not_ok _ c.from_residual-in_err-widen.result c.from_residual-in_err-widen.ensures.0

pub returns-in_err-widen-clause-dirty : goal.returns-in_err-widen-clause-dirty
returns-in_err-widen-clause-dirty g c = not_ok _ c.from_residual-in_err-widen.result c.from_residual-in_err-widen.ensures.0
