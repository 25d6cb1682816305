use Rattle.cached_pages.proofs.Common.{◌∙◌, ap, subst, sym, true_false, Contents, Keeps, is_dirty}
use Rattle.cached_pages.proofs.Stores.{cached_held, cached_refl, cached_same, can_change, dirtied_held, dirtied_is, dirtied_keeps, dirtied_sound, held_refl, held_same, layout_of, one_refl, sound_same}
use Rattle.std.proofs.Common.{refl}
use Rattle.cached_pages.proofs.Goes.{ends_stop}
use Rattle.cached_pages.proofs.Stills.{still_refl, still_rest, still_same}
use Rattle.rio_base.proofs.MachineRules.{ends_none, lasts_refl}
use Rattle.rio_model.proofs.CoverSteps.{keeps_refl}
use Rattle.write_back.proofs.Exits.{not_ok}
use Rattle.cached_pages.proofs.storing.mark_dirty.Goals as goal

pub returns-clause-sound : goal.returns-clause-sound
returns-clause-sound g c =
    let old = g.M.Machine.contents c.args.m.now in
    let e = c.set_dirty.ensures.changes in
    dirtied_sound _ _ c.args.k old _ _ c.requires.sound (dirtied_keeps _ c.args.k old _ _ _ c.requires.sound c.in_ok-set_dirty.ensures.stored c.requires.valid e.one_entry c.in_ok-set_dirty.ensures.entry) e.ends.steps.scratch_count e.closed e.rest e.one_entry c.in_ok-set_dirty.ensures.entry

pub returns-clause-keeps : goal.returns-clause-keeps
returns-clause-keeps g c = dirtied_keeps _ c.args.k (g.M.Machine.contents c.args.m.now) _ _ _ c.requires.sound c.in_ok-set_dirty.ensures.stored c.requires.valid c.set_dirty.ensures.changes.one_entry c.in_ok-set_dirty.ensures.entry

pub returns-clause-cached : goal.returns-clause-cached
returns-clause-cached g c = let one = c.set_dirty.ensures.changes.one_entry in cached_held c.args.k _ _ one (dirtied_held c.args.k _ _ one c.in_ok-set_dirty.ensures.entry)

pub returns-in_err-set_dirty-clause-held : goal.returns-in_err-set_dirty-clause-held
returns-in_err-set_dirty-clause-held g c = held_same c.args.k _ _ (ap (λ (m : Contents). m.words) c.in_err-set_dirty.ensures.same)

pub returns-clause-held : goal.returns-clause-held
returns-clause-held g c = dirtied_held c.args.k _ _ c.set_dirty.ensures.changes.one_entry c.in_ok-set_dirty.ensures.entry

pub load_tag-requires-clause-layout : goal.load_tag-requires-clause-layout
load_tag-requires-clause-layout g c = layout_of _ (g.M.Machine.run c.args.m.now) _ c.requires.sound

pub set_dirty-requires-clause-can : goal.set_dirty-requires-clause-can
set_dirty-requires-clause-can g c = can_change c.args.k _ _ _ c.requires.sound c.requires.valid.within

pub returns-then-is_dirty-clause-keeps : goal.returns-then-is_dirty-clause-keeps
returns-then-is_dirty-clause-keeps g c = keeps_refl _

pub returns-then-is_dirty-clause-dirty : goal.returns-then-is_dirty-clause-dirty
returns-then-is_dirty-clause-dirty g c = ap is_dirty (sym c.load_tag.ensures) ∙ sym c.is_dirty.ensures ∙ c.if-is_dirty.true

pub returns-then-is_dirty-clause-one_entry : goal.returns-then-is_dirty-clause-one_entry
returns-then-is_dirty-clause-one_entry g c = one_refl _ _

pub returns-then-is_dirty-clause-held : goal.returns-then-is_dirty-clause-held
returns-then-is_dirty-clause-held g c = held_refl _ _

pub returns-then-is_dirty-clause-cached : goal.returns-then-is_dirty-clause-cached
returns-then-is_dirty-clause-cached g c = cached_refl _

pub returns-then-is_dirty-clause-still : goal.returns-then-is_dirty-clause-still
returns-then-is_dirty-clause-still g c = still_refl _

pub returns-then-is_dirty-clause-lasts : goal.returns-then-is_dirty-clause-lasts
returns-then-is_dirty-clause-lasts g c = lasts_refl _

pub returns-then-is_dirty-clause-ends : goal.returns-then-is_dirty-clause-ends
returns-then-is_dirty-clause-ends g c = ends_none _ _ (λ q. true_false (sym q))

pub returns-in_err-set_dirty-clause-sound : goal.returns-in_err-set_dirty-clause-sound
returns-in_err-set_dirty-clause-sound g c = sound_same _ _ (g.M.Machine.contents c.args.m.now) (g.M.Machine.contents c.set_dirty.new.m) c.args.t.now c.requires.sound c.set_dirty.ensures.changes.ends.steps.scratch_count c.in_err-set_dirty.ensures.same

pub returns-in_err-set_dirty-clause-keeps : goal.returns-in_err-set_dirty-clause-keeps
returns-in_err-set_dirty-clause-keeps g c = subst (λ m. Keeps (g.M.Machine.contents c.args.m.now) m) (sym c.in_err-set_dirty.ensures.same) (keeps_refl (g.M.Machine.contents c.args.m.now))

pub returns-in_err-set_dirty-clause-dirty : goal.returns-in_err-set_dirty-clause-dirty
returns-in_err-set_dirty-clause-dirty g c = not_ok _ c.from_residual.result c.from_residual.ensures.0

pub returns-in_err-set_dirty-clause-cached : goal.returns-in_err-set_dirty-clause-cached
returns-in_err-set_dirty-clause-cached g c = cached_same _ _ c.in_err-set_dirty.ensures.same

pub returns-in_err-set_dirty-clause-still : goal.returns-in_err-set_dirty-clause-still
returns-in_err-set_dirty-clause-still g c = still_same _ _ c.in_err-set_dirty.ensures.same

pub returns-in_err-set_dirty-clause-ends : goal.returns-in_err-set_dirty-clause-ends
returns-in_err-set_dirty-clause-ends g c = ends_stop (g.M.Machine.run c.args.m.now) (g.M.Machine.run c.set_dirty.new.m) _ _ refl c.from_residual.ensures.0 c.in_err-set_dirty.ensures.changes.ends

pub returns-clause-dirty : goal.returns-clause-dirty
returns-clause-dirty g c = dirtied_is c.args.k _ _ c.in_ok-set_dirty.ensures.entry

pub returns-clause-still : goal.returns-clause-still
returns-clause-still g c = still_rest _ _ c.set_dirty.ensures.changes.rest
