use Rattle.cached_pages.proofs.EarlyStates.{loses_refl}
use Rattle.cached_pages.proofs.Common.{ap, Contents, true_false, sym}
use Rattle.std.proofs.Common.{refl, true}
use Rattle.cached_pages.proofs.Stills.{still_rest}
use Rattle.cached_pages.proofs.Rooms.{adds_narrows, begun_narrows, begun_sound, frame_free, free_of, unbound}
use Rattle.cached_pages.proofs.Zeros.{begun_keeps, frees_keeps, new_made, zeros_adds, zeros_frees, zeros_sound, made_found}
use Rattle.cached_pages.proofs.freeing.bind_zeros.Goals as goal
use Rattle.cached_pages.proofs.Uses.{stay_begun, stay_made}
use Rattle.cached_pages.proofs.DirtyMarks.{marks_begun, marks_made}
use Rattle.cached_pages.proofs.Common.{Some}
use Rattle.cached_pages.proofs.Rooms.{none_still}

pub install-requires-clause-free : goal.install-requires-clause-free
install-requires-clause-free g c = free_of c.args.b.0 (g.M.Machine.contents c.args.m.now).words c.requires.uncached

pub bind-requires-clause-free : goal.bind-requires-clause-free
bind-requires-clause-free g c = frame_free c.args.k _ _ _ c.requires.sound c.requires.entry c.requires.invalid

pub bind-requires-clause-unbound : goal.bind-requires-clause-unbound
bind-requires-clause-unbound g c = unbound c.args.b.0 _ _ _ c.requires.sound c.requires.uncached

pub returns-in_err-install-clause-sound : goal.returns-in_err-install-clause-sound
returns-in_err-install-clause-sound g c = begun_sound c.args.k _ _ (g.M.Machine.contents c.args.m.now) (g.M.Machine.contents c.install.new.m) _ c.requires.sound (begun_keeps _ c.args.k (g.M.Machine.contents c.args.m.now) (g.M.Machine.contents c.install.new.m) _ c.requires.sound c.install.ensures.changes.rest c.install.ensures.changes.one_entry c.requires.entry c.requires.invalid c.in_err-install.ensures.begun) (still_rest _ _ c.install.ensures.changes.rest) c.install.ensures.changes.ends.steps.scratch_count c.install.ensures.changes.closed c.install.ensures.changes.one_entry c.requires.invalid c.in_err-install.ensures.begun

pub returns-in_err-install-clause-frees : goal.returns-in_err-install-clause-frees
returns-in_err-install-clause-frees g c = frees_keeps c.args.b.0 (g.M.Machine.contents c.args.m.now) (g.M.Machine.contents c.install.new.m) (begun_keeps _ c.args.k (g.M.Machine.contents c.args.m.now) (g.M.Machine.contents c.install.new.m) _ c.requires.sound c.install.ensures.changes.rest c.install.ensures.changes.one_entry c.requires.entry c.requires.invalid c.in_err-install.ensures.begun)

pub returns-in_err-install-clause-adds : goal.returns-in_err-install-clause-adds
returns-in_err-install-clause-adds g c = adds_narrows _ _ _ _ (begun_narrows c.args.k _ _ c.install.ensures.changes.one_entry c.in_err-install.ensures.begun c.requires.invalid)

pub returns-clause-reads : goal.returns-clause-reads
returns-clause-reads g c = (zeros_frees _ c.args.k c.args.b.0 (g.M.Machine.contents c.args.m.now) (g.M.Machine.contents c.install.new.m) c.requires.sound.coherent c.install.ensures.changes.rest (new_made c.args.k c.args.b.0 c.args.name (g.M.Machine.contents c.args.m.now) (g.M.Machine.contents c.install.new.m) c.install.ensures.changes.one_entry c.requires.entry c.requires.invalid c.requires.uncached c.requires.name c.in_ok-install.ensures.entry) c.requires.block c.requires.zeros).0

pub returns-clause-frees : goal.returns-clause-frees
returns-clause-frees g c = (zeros_frees _ c.args.k c.args.b.0 (g.M.Machine.contents c.args.m.now) (g.M.Machine.contents c.install.new.m) c.requires.sound.coherent c.install.ensures.changes.rest (new_made c.args.k c.args.b.0 c.args.name (g.M.Machine.contents c.args.m.now) (g.M.Machine.contents c.install.new.m) c.install.ensures.changes.one_entry c.requires.entry c.requires.invalid c.requires.uncached c.requires.name c.in_ok-install.ensures.entry) c.requires.block c.requires.zeros).1

pub returns-clause-firm : goal.returns-clause-firm
returns-clause-firm g c = (zeros_frees _ c.args.k c.args.b.0 (g.M.Machine.contents c.args.m.now) (g.M.Machine.contents c.install.new.m) c.requires.sound.coherent c.install.ensures.changes.rest (new_made c.args.k c.args.b.0 c.args.name (g.M.Machine.contents c.args.m.now) (g.M.Machine.contents c.install.new.m) c.install.ensures.changes.one_entry c.requires.entry c.requires.invalid c.requires.uncached c.requires.name c.in_ok-install.ensures.entry) c.requires.block c.requires.zeros).2

pub returns-clause-adds : goal.returns-clause-adds
returns-clause-adds g c = zeros_adds _ c.args.k c.args.b.0 c.args.name (g.M.Machine.contents c.args.m.now) (g.M.Machine.contents c.install.new.m) c.requires.sound.coherent (new_made c.args.k c.args.b.0 c.args.name (g.M.Machine.contents c.args.m.now) (g.M.Machine.contents c.install.new.m) c.install.ensures.changes.one_entry c.requires.entry c.requires.invalid c.requires.uncached c.requires.name c.in_ok-install.ensures.entry) c.in_ok-install.ensures.entry

pub returns-clause-sound : goal.returns-clause-sound
returns-clause-sound g c = zeros_sound _ _ c.args.k c.args.b.0 (g.M.Machine.contents c.args.m.now) (g.M.Machine.contents c.install.new.m) _ _ c.requires.sound (zeros_frees _ c.args.k c.args.b.0 (g.M.Machine.contents c.args.m.now) (g.M.Machine.contents c.install.new.m) c.requires.sound.coherent c.install.ensures.changes.rest (new_made c.args.k c.args.b.0 c.args.name (g.M.Machine.contents c.args.m.now) (g.M.Machine.contents c.install.new.m) c.install.ensures.changes.one_entry c.requires.entry c.requires.invalid c.requires.uncached c.requires.name c.in_ok-install.ensures.entry) c.requires.block c.requires.zeros).1 c.install.ensures.changes.ends.steps.scratch_count c.install.ensures.changes.closed (ap (λ (m : Contents). m.disk) c.install.ensures.changes.rest) (ap (λ (m : Contents). m.pending) c.install.ensures.changes.rest) (new_made c.args.k c.args.b.0 c.args.name (g.M.Machine.contents c.args.m.now) (g.M.Machine.contents c.install.new.m) c.install.ensures.changes.one_entry c.requires.entry c.requires.invalid c.requires.uncached c.requires.name c.in_ok-install.ensures.entry) (record { same = record { forgotten = refl; shadowed = refl; shadows = refl }; pool = record { frames = c.bind.ensures.frames; blocks = c.bind.ensures.blocks; pins = c.bind.ensures.pins; count = c.bind.ensures.pins_in }; first = refl; early = loses_refl _; buffer = refl }) c.bind.ensures.bound c.bind.ensures.others

pub returns-in_err-install-clause-stay : goal.returns-in_err-install-clause-stay
returns-in_err-install-clause-stay g c = stay_begun c.args.k _ _ c.install.ensures.changes.one_entry c.in_err-install.ensures.begun

pub returns-clause-stay : goal.returns-clause-stay
returns-clause-stay g c = stay_made c.args.k c.args.b.0 true _ _ (new_made c.args.k c.args.b.0 c.args.name (g.M.Machine.contents c.args.m.now) (g.M.Machine.contents c.install.new.m) c.install.ensures.changes.one_entry c.requires.entry c.requires.invalid c.requires.uncached c.requires.name c.in_ok-install.ensures.entry)

pub returns-clause-found : goal.returns-clause-found
returns-clause-found g c = made_found c.args.k c.args.b.0 (g.M.Machine.contents c.args.m.now) (g.M.Machine.contents c.install.new.m) _ c.requires.sound.coherent (new_made c.args.k c.args.b.0 c.args.name (g.M.Machine.contents c.args.m.now) (g.M.Machine.contents c.install.new.m) c.install.ensures.changes.one_entry c.requires.entry c.requires.invalid c.requires.uncached c.requires.name c.in_ok-install.ensures.entry)

pub returns-in_err-install-clause-marks : goal.returns-in_err-install-clause-marks
returns-in_err-install-clause-marks g c = marks_begun (Some c.args.b.0) c.args.k _ _ c.install.ensures.changes.one_entry c.in_err-install.ensures.begun

pub returns-clause-marks : goal.returns-clause-marks
returns-clause-marks g c =
    let old = g.M.Machine.contents c.args.m.now in
    let new = g.M.Machine.contents c.install.new.m in
    let made = new_made c.args.k c.args.b.0 c.args.name (g.M.Machine.contents c.args.m.now) (g.M.Machine.contents c.install.new.m) c.install.ensures.changes.one_entry c.requires.entry c.requires.invalid c.requires.uncached c.requires.name c.in_ok-install.ensures.entry in
    marks_made c.args.b.0 c.args.k c.args.name _ _ (zeros_adds _ c.args.k c.args.b.0 c.args.name old new c.requires.sound.coherent made c.in_ok-install.ensures.entry) c.install.ensures.changes.one_entry (made_found c.args.k c.args.b.0 old new _ c.requires.sound.coherent made)

pub returns-in_err-install-clause-unmade : goal.returns-in_err-install-clause-unmade
returns-in_err-install-clause-unmade g c q = none_still c.args.b.0 _ _ (begun_narrows c.args.k _ _ c.install.ensures.changes.one_entry c.in_err-install.ensures.begun c.requires.invalid) c.requires.uncached

pub returns-clause-unmade : goal.returns-clause-unmade
returns-clause-unmade g c q = absurd (true_false (sym q))

pub returns-clause-still_order : goal.returns-clause-still_order
returns-clause-still_order g c q = absurd (true_false (sym q))
