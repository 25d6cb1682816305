use Rattle.cached_pages.proofs.Common.{ap, arith, subst, sym, InRange, size_at, Entry, true_false, tag_at, Keeps}
use Rattle.std.proofs.Common.{◌<◌, refl}
use Rattle.cached_pages.specs.Stores.{Widens}
use Rattle.cached_pages.proofs.Widths.{larger_keeps, larger_sound, larger_widens, widens_same}
use Rattle.write_back.proofs.Exits.{not_ok}
use Rattle.cached_pages.proofs.storing.widen.Goals as goal
use Rattle.cached_pages.proofs.DirtyMarks.{marks_begun, marks_same}
use Rattle.cached_pages.proofs.Common.{None, Contents}
use Rattle.cached_pages.proofs.DirtyMarks.{marks_refl}
use Rattle.cached_pages.proofs.Goes.{ends_stop}
use Rattle.cached_pages.proofs.Stills.{still_rest, still_refl}
use Rattle.cached_pages.proofs.Stores.{can_change, layout_of, sound_same}
use Rattle.rio_base.proofs.MachineRules.{ends_none, lasts_refl}
use Rattle.rio_model.proofs.CoverSteps.{keeps_refl}

pub returns-clause-sound : goal.returns-clause-sound
returns-clause-sound g c =
    let old = g.M.Machine.contents c.args.m.now in
    let given = c.in-Some.name in
    let less : size_at old.words c.args.k < given.size = grind (arith, c.if-from-read_entry.false, c.from.ensures, ap (λ (x : Entry). x.size) c.read_entry.ensures) in
    let e = c.set_size.ensures.changes in
    larger_sound _ _ c.args.k given old _ _ c.requires.sound c.requires.valid (subst InRange c.in-Some.is c.requires.name) less e.rest e.one_entry c.in_ok-set_size.ensures.entry e.ends.steps.scratch_count e.closed

pub returns-clause-keeps : goal.returns-clause-keeps
returns-clause-keeps g c =
    let old = g.M.Machine.contents c.args.m.now in
    let given = c.in-Some.name in
    let less : size_at old.words c.args.k < given.size = grind (arith, c.if-from-read_entry.false, c.from.ensures, ap (λ (x : Entry). x.size) c.read_entry.ensures) in
    let e = c.set_size.ensures.changes in
    larger_keeps _ c.args.k given old _ _ c.requires.sound c.requires.valid (subst InRange c.in-Some.is c.requires.name) less e.rest e.one_entry c.in_ok-set_size.ensures.entry

pub returns-clause-widens : goal.returns-clause-widens
returns-clause-widens g c =
    let old = g.M.Machine.contents c.args.m.now in
    let new = g.M.Machine.contents c.set_size.new.m in
    let given = c.in-Some.name in
    let less : size_at old.words c.args.k < given.size = grind (arith, c.if-from-read_entry.false, c.from.ensures, ap (λ (x : Entry). x.size) c.read_entry.ensures) in
    let e = c.set_size.ensures.changes in
    subst (λ x. Widens c.args.k x old.words new.words) (sym c.in-Some.is) (larger_widens _ c.args.k given old new _ c.requires.sound c.requires.valid (subst InRange c.in-Some.is c.requires.name) less e.one_entry c.in_ok-set_size.ensures.entry)

pub returns-in_err-set_size-clause-marks : goal.returns-in_err-set_size-clause-marks
returns-in_err-set_size-clause-marks g c = marks_same None _ _ (ap (λ (m : Contents). m.words) c.in_err-set_size.ensures.same)

pub returns-clause-marks : goal.returns-clause-marks
returns-clause-marks g c = marks_begun None c.args.k _ _ c.set_size.ensures.changes.one_entry (ap (λ (x : Entry). x.tag) c.in_ok-set_size.ensures.entry)

pub returns-in_default-clause-marks : goal.returns-in_default-clause-marks
returns-in_default-clause-marks g c = marks_refl None _

pub returns-then-from-read_entry-clause-marks : goal.returns-then-from-read_entry-clause-marks
returns-then-from-read_entry-clause-marks g c = marks_refl None _

pub returns-clause-still : goal.returns-clause-still
returns-clause-still g c = still_rest (g.M.Machine.contents c.args.m.now) (g.M.Machine.contents c.set_size.new.m) c.set_size.ensures.changes.rest

pub returns-in_err-set_size-clause-still : goal.returns-in_err-set_size-clause-still
returns-in_err-set_size-clause-still g c = still_rest (g.M.Machine.contents c.args.m.now) (g.M.Machine.contents c.set_size.new.m) c.set_size.ensures.changes.rest

pub returns-clause-tag : goal.returns-clause-tag
returns-clause-tag g c = ap (λ (x : Entry). x.tag) c.in_ok-set_size.ensures.entry

pub returns-in_err-set_size-clause-ends : goal.returns-in_err-set_size-clause-ends
returns-in_err-set_size-clause-ends g c = ends_stop (g.M.Machine.run c.args.m.now) (g.M.Machine.run c.set_size.new.m) _ _ refl (grind (arith, c.from_residual.ensures)) c.in_err-set_size.ensures.changes.ends

pub returns-in_err-set_size-clause-sound : goal.returns-in_err-set_size-clause-sound
returns-in_err-set_size-clause-sound g c = sound_same _ _ (g.M.Machine.contents c.args.m.now) (g.M.Machine.contents c.set_size.new.m) c.args.t.now c.requires.sound c.set_size.ensures.changes.ends.steps.scratch_count c.in_err-set_size.ensures.same

pub returns-in_err-set_size-clause-tag : goal.returns-in_err-set_size-clause-tag
returns-in_err-set_size-clause-tag g c = ap (λ (m : Contents). tag_at m.words c.args.k) c.in_err-set_size.ensures.same

pub returns-in_err-set_size-clause-widens : goal.returns-in_err-set_size-clause-widens
returns-in_err-set_size-clause-widens g c = widens_same c.args.k c.args.name (g.M.Machine.contents c.args.m.now).words (g.M.Machine.contents c.set_size.new.m).words (ap (λ (m : Contents). m.words) c.in_err-set_size.ensures.same)

pub returns-in_err-set_size-clause-keeps : goal.returns-in_err-set_size-clause-keeps
returns-in_err-set_size-clause-keeps g c = subst (λ (m : Contents). Keeps (g.M.Machine.contents c.args.m.now) m) (sym c.in_err-set_size.ensures.same) (keeps_refl (g.M.Machine.contents c.args.m.now))

pub returns-in_default-clause-lasts : goal.returns-in_default-clause-lasts
returns-in_default-clause-lasts g c = lasts_refl (g.M.Machine.contents c.args.m.now)

pub returns-in_default-clause-still : goal.returns-in_default-clause-still
returns-in_default-clause-still g c = still_refl (g.M.Machine.contents c.args.m.now)

pub returns-in_default-clause-keeps : goal.returns-in_default-clause-keeps
returns-in_default-clause-keeps g c = keeps_refl (g.M.Machine.contents c.args.m.now)

pub returns-in_default-clause-ends : goal.returns-in_default-clause-ends
returns-in_default-clause-ends g c = ends_none (g.M.Machine.run c.args.m.now) _ (λ q. true_false (sym q))

pub returns-in_default-clause-widens : goal.returns-in_default-clause-widens
returns-in_default-clause-widens g c = widens_same c.args.k c.args.name (g.M.Machine.contents c.args.m.now).words (g.M.Machine.contents c.args.m.now).words refl

pub returns-then-from-read_entry-clause-lasts : goal.returns-then-from-read_entry-clause-lasts
returns-then-from-read_entry-clause-lasts g c = lasts_refl (g.M.Machine.contents c.args.m.now)

pub returns-then-from-read_entry-clause-still : goal.returns-then-from-read_entry-clause-still
returns-then-from-read_entry-clause-still g c = still_refl (g.M.Machine.contents c.args.m.now)

pub returns-then-from-read_entry-clause-keeps : goal.returns-then-from-read_entry-clause-keeps
returns-then-from-read_entry-clause-keeps g c = keeps_refl (g.M.Machine.contents c.args.m.now)

pub returns-then-from-read_entry-clause-ends : goal.returns-then-from-read_entry-clause-ends
returns-then-from-read_entry-clause-ends g c = ends_none (g.M.Machine.run c.args.m.now) _ (λ q. true_false (sym q))

pub returns-then-from-read_entry-clause-widens : goal.returns-then-from-read_entry-clause-widens
returns-then-from-read_entry-clause-widens g c = widens_same c.args.k c.args.name (g.M.Machine.contents c.args.m.now).words (g.M.Machine.contents c.args.m.now).words refl

pub read_entry-requires-clause-layout : goal.read_entry-requires-clause-layout
read_entry-requires-clause-layout g c = layout_of _ (g.M.Machine.run c.args.m.now) _ c.requires.sound

pub set_size-requires-clause-can : goal.set_size-requires-clause-can
set_size-requires-clause-can g c = can_change c.args.k _ _ _ c.requires.sound c.requires.valid.within

pub returns-in_err-set_size-clause-named : goal.returns-in_err-set_size-clause-named
returns-in_err-set_size-clause-named g c = not_ok _ c.from_residual.result c.from_residual.ensures.0
