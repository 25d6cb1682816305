use Rattle.cached_pages.proofs.EarlyStates.{loses_refl}
use Rattle.cached_pages.proofs.Common.{◌<◌, ap, subst, Contents, Entry, found_is, true_false, sym}
use Rattle.std.proofs.Common.{refl}
use Rattle.cached_pages.proofs.Stores.{sound_same}
use Rattle.cached_pages.proofs.Rooms.{frame_bound, narrows_gone}
use Rattle.cached_pages.proofs.Freed.{can_clear, cleared_frees, cleared_lost, cleared_sound, frees_same, narrows_same, unpinned_idle}
use Rattle.write_back.proofs.Exits.{at_err, not_ok}
use Rattle.cached_pages.proofs.freeing.drop_frame.Goals as goal
use Rattle.cached_pages.proofs.DirtyMarks.{marks_gone, marks_same}
use Rattle.cached_pages.proofs.Uses.{others_one, others_stay, stay_hit}
use Rattle.cached_pages.proofs.Common.{None}
use Rattle.cached_pages.proofs.Goes.{ends_stop}
use Rattle.cached_pages.proofs.Stills.{still_rest}

pub unbind-requires-clause-bound : goal.unbind-requires-clause-bound
unbind-requires-clause-bound g c = frame_bound c.args.k _ (g.M.Machine.contents c.args.m.now) _ c.requires.sound (found_is _ _ _ c.requires.found).0

pub unbind-requires-clause-unpinned : goal.unbind-requires-clause-unpinned
unbind-requires-clause-unpinned g c = unpinned_idle _ c.args.k (g.M.Machine.contents c.args.m.now) _ c.requires.sound c.requires.idle

pub returns-in_err-clear-clause-sound : goal.returns-in_err-clear-clause-sound
returns-in_err-clear-clause-sound g c = sound_same _ _ (g.M.Machine.contents c.args.m.now) (g.M.Machine.contents c.clear.new.m) c.args.t.now c.requires.sound c.clear.ensures.changes.ends.steps.scratch_count c.in_err-clear.ensures.same

pub returns-in_err-clear-clause-frees : goal.returns-in_err-clear-clause-frees
returns-in_err-clear-clause-frees g c = frees_same c.args.b.0 (g.M.Machine.contents c.args.m.now) (g.M.Machine.contents c.clear.new.m) c.in_err-clear.ensures.same

pub returns-in_err-clear-clause-narrows : goal.returns-in_err-clear-clause-narrows
returns-in_err-clear-clause-narrows g c = narrows_same (g.M.Machine.contents c.args.m.now) (g.M.Machine.contents c.clear.new.m) c.in_err-clear.ensures.same

pub returns-clause-frees : goal.returns-clause-frees
returns-clause-frees g c = let e = c.clear.ensures.changes in cleared_frees _ c.args.k c.args.b.0 (g.M.Machine.contents c.args.m.now) (g.M.Machine.contents c.clear.new.m) c.requires.sound.coherent e.rest e.one_entry (ap (λ (x : Entry). x.tag) c.in_ok-clear.ensures.entry) c.requires.found

pub returns-clause-gone : goal.returns-clause-gone
returns-clause-gone g c = let e = c.clear.ensures.changes in cleared_lost _ c.args.k c.args.b.0 (g.M.Machine.contents c.args.m.now) (g.M.Machine.contents c.clear.new.m) c.requires.sound.coherent e.one_entry (ap (λ (x : Entry). x.tag) c.in_ok-clear.ensures.entry) c.requires.found

pub returns-clause-narrows : goal.returns-clause-narrows
returns-clause-narrows g c = narrows_gone c.args.k _ (g.M.Machine.contents c.args.m.now) (g.M.Machine.contents c.clear.new.m).words c.requires.sound.coherent c.clear.ensures.changes.one_entry (ap (λ (x : Entry). x.tag) c.in_ok-clear.ensures.entry)

pub returns-clause-sound : goal.returns-clause-sound
returns-clause-sound g c =
    let e = c.clear.ensures.changes in
    let tag = ap (λ (x : Entry). x.tag) c.in_ok-clear.ensures.entry in
    let old = g.M.Machine.contents c.args.m.now in
    let new = g.M.Machine.contents c.clear.new.m in
    cleared_sound _ _ c.args.k c.args.b.0 old new _ _ c.requires.sound (cleared_frees _ c.args.k c.args.b.0 old new c.requires.sound.coherent e.rest e.one_entry tag c.requires.found) e.ends.steps.scratch_count e.closed (ap (λ (m : Contents). m.disk) e.rest) (ap (λ (m : Contents). m.pending) e.rest) e.one_entry tag (record { same = record { forgotten = refl; shadowed = refl; shadows = refl }; pool = record { frames = c.unbind.ensures.frames; blocks = c.unbind.ensures.blocks; pins = c.unbind.ensures.pins; count = c.unbind.ensures.pins_in }; first = refl; early = loses_refl _; buffer = refl }) c.unbind.ensures.unbound c.unbind.ensures.others

pub returns-clause-same : goal.returns-clause-same
returns-clause-same g c q = absurd (true_false (sym q))

pub returns-in_err-clear-clause-stay : goal.returns-in_err-clear-clause-stay
returns-in_err-clear-clause-stay g c = others_stay c.args.b.0 (g.M.Machine.contents c.args.m.now).words (g.M.Machine.contents c.clear.new.m).words (stay_hit (g.M.Machine.contents c.args.m.now) (g.M.Machine.contents c.clear.new.m) c.in_err-clear.ensures.same)

pub returns-clause-stay : goal.returns-clause-stay
returns-clause-stay g c =
    let e = c.clear.ensures.changes in
    let frees = cleared_frees _ c.args.k c.args.b.0 (g.M.Machine.contents c.args.m.now) (g.M.Machine.contents c.clear.new.m) c.requires.sound.coherent e.rest e.one_entry (ap (λ (x : Entry). x.tag) c.in_ok-clear.ensures.entry) c.requires.found in
    others_one c.args.b.0 c.args.k (g.M.Machine.contents c.args.m.now).words (g.M.Machine.contents c.clear.new.m).words e.one_entry (frees.coherent _ c.requires.sound.coherent).rules.blocks c.requires.found

pub returns-in_err-clear-clause-marks : goal.returns-in_err-clear-clause-marks
returns-in_err-clear-clause-marks g c = marks_same None (g.M.Machine.contents c.args.m.now).words (g.M.Machine.contents c.clear.new.m).words (ap (λ (m : Contents). m.words) c.in_err-clear.ensures.same)

pub returns-clause-marks : goal.returns-clause-marks
returns-clause-marks g c =
    let tag = ap (λ (x : Entry). x.tag) c.in_ok-clear.ensures.entry in
    marks_gone None c.args.k (g.M.Machine.contents c.args.m.now).words (g.M.Machine.contents c.clear.new.m).words (narrows_gone c.args.k _ (g.M.Machine.contents c.args.m.now) (g.M.Machine.contents c.clear.new.m).words c.requires.sound.coherent c.clear.ensures.changes.one_entry tag) c.clear.ensures.changes.one_entry tag

pub returns-clause-still : goal.returns-clause-still
returns-clause-still g c = still_rest (g.M.Machine.contents c.args.m.now) (g.M.Machine.contents c.clear.new.m) c.clear.ensures.changes.rest

pub returns-clause-tables : goal.returns-clause-tables
returns-clause-tables g c = record { forgotten = refl; shadowed = refl; shadows = refl }

pub returns-in_err-clear-clause-still : goal.returns-in_err-clear-clause-still
returns-in_err-clear-clause-still g c = still_rest (g.M.Machine.contents c.args.m.now) (g.M.Machine.contents c.clear.new.m) c.clear.ensures.changes.rest

pub returns-in_err-clear-clause-tables : goal.returns-in_err-clear-clause-tables
returns-in_err-clear-clause-tables g c = record { forgotten = refl; shadowed = refl; shadows = refl }

pub returns-in_err-clear-clause-ends : goal.returns-in_err-clear-clause-ends
returns-in_err-clear-clause-ends g c = ends_stop (g.M.Machine.run c.args.m.now) (g.M.Machine.run c.clear.new.m) _ _ refl c.from_residual.ensures.0 c.in_err-clear.ensures.changes.ends

pub clear-requires : goal.clear-requires
clear-requires g c = record { can = can_clear c.args.b.0 c.args.k _ _ _ c.requires.sound c.requires.found }

pub returns-in_err-clear-clause-gone : goal.returns-in_err-clear-clause-gone
returns-in_err-clear-clause-gone g c = not_ok _ c.from_residual.result c.from_residual.ensures.0

pub returns-in_err-clear-clause-freed : goal.returns-in_err-clear-clause-freed
returns-in_err-clear-clause-freed g c = not_ok _ c.from_residual.result c.from_residual.ensures.0

pub returns-in_err-clear-clause-order : goal.returns-in_err-clear-clause-order
returns-in_err-clear-clause-order g c = at_err c.from_residual.result c.from_residual.ensures.0 refl

pub unbind-requires-clause-within : goal.unbind-requires-clause-within
unbind-requires-clause-within g c = subst (λ f. c.args.k < f) (sym c.requires.sound.frames) (found_is _ _ _ c.requires.found).0.within
