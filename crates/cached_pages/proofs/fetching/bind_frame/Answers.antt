use Rattle.cached_pages.proofs.EarlyStates.{loses_refl}
use Rattle.std.proofs.Common.{false, refl}
use Rattle.cached_pages.proofs.Rooms.{adds_made, adds_narrows, begun_narrows, begun_sound, bound_made, found_new, frame_free, free_of, name_made, touches_begun, touches_made, unbound}
use Rattle.cached_pages.proofs.fetching.bind_frame.Goals as goal
use Rattle.cached_pages.proofs.Uses.{stay_begun, stay_made}
use Rattle.cached_pages.proofs.DirtyMarks.{marks_begun, marks_clean}
use Rattle.cached_pages.proofs.Common.{None, true_false, sym}
use Rattle.cached_pages.proofs.Rooms.{none_still}

pub install_clean-requires-clause-free : goal.install_clean-requires-clause-free
install_clean-requires-clause-free g c = free_of c.args.b.0 (g.M.Machine.contents c.args.m.now).words c.requires.uncached

pub bind-requires-clause-free : goal.bind-requires-clause-free
bind-requires-clause-free g c = frame_free c.args.k _ (g.M.Machine.contents c.args.m.now) c.args.t.now c.requires.sound c.requires.entry c.requires.invalid

pub bind-requires-clause-unbound : goal.bind-requires-clause-unbound
bind-requires-clause-unbound g c = unbound c.args.b.0 _ (g.M.Machine.contents c.args.m.now) c.args.t.now c.requires.sound c.requires.uncached

pub returns-in_err-install_clean-clause-sound : goal.returns-in_err-install_clean-clause-sound
returns-in_err-install_clean-clause-sound g c = begun_sound c.args.k _ _ (g.M.Machine.contents c.args.m.now) (g.M.Machine.contents c.install_clean.new.m) c.args.t.now c.requires.sound c.install_clean.ensures.keeps c.install_clean.ensures.still c.install_clean.ensures.ends.steps.scratch_count c.install_clean.ensures.closed c.install_clean.ensures.one_entry c.requires.invalid c.in_err-install_clean.ensures.tag

pub returns-in_err-install_clean-clause-adds : goal.returns-in_err-install_clean-clause-adds
returns-in_err-install_clean-clause-adds g c = adds_narrows c.args.b.0 c.args.name (g.M.Machine.contents c.args.m.now).words (g.M.Machine.contents c.install_clean.new.m).words (begun_narrows c.args.k (g.M.Machine.contents c.args.m.now).words (g.M.Machine.contents c.install_clean.new.m).words c.install_clean.ensures.one_entry c.in_err-install_clean.ensures.tag c.requires.invalid)

pub returns-in_err-install_clean-clause-touches : goal.returns-in_err-install_clean-clause-touches
returns-in_err-install_clean-clause-touches g c = touches_begun c.args.k _ (g.M.Machine.contents c.args.m.now) (g.M.Machine.contents c.install_clean.new.m) c.requires.sound.coherent c.install_clean.ensures.keeps c.install_clean.ensures.one_entry c.requires.invalid c.in_err-install_clean.ensures.tag

pub returns-clause-sound : goal.returns-clause-sound
returns-clause-sound g c = bound_made c.args.k c.args.b.0 _ _ (g.M.Machine.contents c.args.m.now) (g.M.Machine.contents c.install_clean.new.m) c.args.t.now _ c.requires.sound c.install_clean.ensures.keeps c.install_clean.ensures.still c.install_clean.ensures.ends.steps.scratch_count c.install_clean.ensures.closed c.in_ok-install_clean.ensures.made (record { same = record { forgotten = refl; shadowed = refl; shadows = refl }; pool = record { frames = c.bind.ensures.frames; blocks = c.bind.ensures.blocks; pins = c.bind.ensures.pins; count = c.bind.ensures.pins_in }; first = refl; early = loses_refl _; buffer = refl }) c.bind.ensures.bound c.bind.ensures.others

pub returns-clause-adds : goal.returns-clause-adds
returns-clause-adds g c = adds_made c.args.k c.args.b.0 c.args.name (g.M.Machine.contents c.args.m.now).words (g.M.Machine.contents c.install_clean.new.m).words c.in_ok-install_clean.ensures.made (c.install_clean.ensures.keeps.coherent _ c.requires.sound.coherent).rules.blocks (name_made c.args.k c.args.b.0 c.args.name (g.M.Machine.contents c.install_clean.new.m).words c.in_ok-install_clean.ensures.entry)

pub returns-clause-found : goal.returns-clause-found
returns-clause-found g c = found_new c.args.k c.args.b.0 (g.M.Machine.contents c.args.m.now).words (g.M.Machine.contents c.install_clean.new.m).words c.in_ok-install_clean.ensures.made (c.install_clean.ensures.keeps.coherent _ c.requires.sound.coherent).rules.blocks

pub returns-clause-touches : goal.returns-clause-touches
returns-clause-touches g c = touches_made c.args.k c.args.b.0 _ (g.M.Machine.contents c.args.m.now) (g.M.Machine.contents c.install_clean.new.m) c.requires.sound.coherent c.install_clean.ensures.keeps c.in_ok-install_clean.ensures.made

pub returns-in_err-install_clean-clause-stay : goal.returns-in_err-install_clean-clause-stay
returns-in_err-install_clean-clause-stay g c = stay_begun c.args.k (g.M.Machine.contents c.args.m.now).words (g.M.Machine.contents c.install_clean.new.m).words c.install_clean.ensures.one_entry c.in_err-install_clean.ensures.tag

pub returns-clause-stay : goal.returns-clause-stay
returns-clause-stay g c = stay_made c.args.k c.args.b.0 false (g.M.Machine.contents c.args.m.now).words (g.M.Machine.contents c.install_clean.new.m).words c.in_ok-install_clean.ensures.made

pub returns-in_err-install_clean-clause-marks : goal.returns-in_err-install_clean-clause-marks
returns-in_err-install_clean-clause-marks g c = marks_begun None c.args.k (g.M.Machine.contents c.args.m.now).words (g.M.Machine.contents c.install_clean.new.m).words c.install_clean.ensures.one_entry c.in_err-install_clean.ensures.tag

pub returns-clause-marks : goal.returns-clause-marks
returns-clause-marks g c =
    let made = c.in_ok-install_clean.ensures.made in
    let rule = (c.install_clean.ensures.keeps.coherent _ c.requires.sound.coherent).rules.blocks in
    marks_clean c.args.b.0 c.args.k c.args.name (g.M.Machine.contents c.args.m.now).words (g.M.Machine.contents c.install_clean.new.m).words (adds_made c.args.k c.args.b.0 c.args.name (g.M.Machine.contents c.args.m.now).words (g.M.Machine.contents c.install_clean.new.m).words made rule (name_made c.args.k c.args.b.0 c.args.name (g.M.Machine.contents c.install_clean.new.m).words c.in_ok-install_clean.ensures.entry)) made.one (found_new c.args.k c.args.b.0 (g.M.Machine.contents c.args.m.now).words (g.M.Machine.contents c.install_clean.new.m).words made rule) made.is

pub returns-in_err-install_clean-clause-unmade : goal.returns-in_err-install_clean-clause-unmade
returns-in_err-install_clean-clause-unmade g c q = none_still c.args.b.0 (g.M.Machine.contents c.args.m.now).words (g.M.Machine.contents c.install_clean.new.m).words (begun_narrows c.args.k (g.M.Machine.contents c.args.m.now).words (g.M.Machine.contents c.install_clean.new.m).words c.install_clean.ensures.one_entry c.in_err-install_clean.ensures.tag c.requires.invalid) c.requires.uncached

pub returns-clause-unmade : goal.returns-clause-unmade
returns-clause-unmade g c q = absurd (true_false (sym q))

pub returns-clause-still_order : goal.returns-clause-still_order
returns-clause-still_order g c q = absurd (true_false (sym q))
