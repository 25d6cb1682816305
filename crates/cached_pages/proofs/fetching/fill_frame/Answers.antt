use Rattle.cached_pages.proofs.EarlyStates.{loses_refl}
use Rattle.rio_base.proofs.MachineRules.{ends_err, ends_told, never}
use Rattle.cached_pages.proofs.Common.{◌∙◌, ap, sym, coherent_on, Contents, true_false}
use Rattle.cached_pages.proofs.Fills.{layout_now}
use Rattle.std.proofs.Common.{refl}
use Rattle.cached_pages.proofs.Rooms.{filled_home, filled_narrows, filled_sound, filled_tag, read_sound, touches_filled}
use Rattle.std.proofs.lemmas.Result.{err_from_is_err_and}
use Rattle.std.specs.Prelude.{Err}
use Rattle.write_back.proofs.Exits.{fault_told, not_fault, not_ok}
use Rattle.cached_pages.proofs.fetching.fill_frame.Goals as goal
use Rattle.cached_pages.proofs.Uses.{stay_filled}
use Rattle.cached_pages.proofs.Common.{subst, is_valid, tag_at, frames_of, Narrows, ◌<◌}
use Rattle.rio_model.proofs.CoverStands.{narrows_refl}
use Rattle.cached_pages.proofs.Rooms.{keeps_then, lasts_then}
use Rattle.cached_pages.proofs.Stills.{still_trans, still_rest}
use Rattle.cached_pages.proofs.Touched.{touches_words}
use Rattle.cached_pages.proofs.Uses.{stay_words}
use Rattle.cached_pages.proofs.Goes.{ends_ok}
use Rattle.cached_pages.proofs.Common.{Stopped}
use Rattle.cached_pages.proofs.DirtyMarks.{marks_filled, marks_same}
use Rattle.cached_pages.proofs.Common.{None}

pub returns-in_err-read_home-clause-sound : goal.returns-in_err-read_home-clause-sound
returns-in_err-read_home-clause-sound g c = read_sound _ _ _ _ _ _ c.requires.sound c.read_home.ensures.keeps c.read_home.ensures.still c.read_home.ensures.ends.steps.scratch_count c.read_home.ensures.closed c.read_home.ensures.memory (record { same = record { forgotten = refl; shadowed = refl; shadows = refl }; pool = record { frames = refl; blocks = refl; pins = λ k. refl; count = refl }; first = refl; early = loses_refl _; buffer = c.read_home.ensures.room ∙ sym c.requires.sound.buffer }) (λ j. refl)

pub returns-in_err-fill-clause-sound : goal.returns-in_err-fill-clause-sound
returns-in_err-fill-clause-sound g c = filled_sound c.args.k _ _ (g.M.Machine.contents c.args.m.now) (g.M.Machine.contents c.read_home.new.m) _ _ _ c.requires.sound c.read_home.ensures.keeps c.fill.ensures.keeps (still_trans _ _ _ c.read_home.ensures.still (still_rest _ _ c.fill.ensures.rest)) (c.fill.ensures.ends.steps.scratch_count ∙ c.read_home.ensures.ends.steps.scratch_count) (ap (λ (m : Contents). m.open_page) c.fill.ensures.rest ∙ c.read_home.ensures.closed) c.read_home.ensures.memory c.fill.ensures.one_page (record { same = record { forgotten = refl; shadowed = refl; shadows = refl }; pool = record { frames = refl; blocks = refl; pins = λ k. refl; count = refl }; first = refl; early = loses_refl _; buffer = c.read_home.ensures.room ∙ sym c.requires.sound.buffer }) (λ j. refl)

pub returns-in_err-fill-clause-narrows : goal.returns-in_err-fill-clause-narrows
returns-in_err-fill-clause-narrows g c = filled_narrows (g.M.Machine.contents c.args.m.now) (g.M.Machine.contents c.read_home.new.m) c.args.k _ c.read_home.ensures.memory c.fill.ensures.one_page

pub returns-in_err-fill-clause-tag : goal.returns-in_err-fill-clause-tag
returns-in_err-fill-clause-tag g c = filled_tag (g.M.Machine.contents c.args.m.now) (g.M.Machine.contents c.read_home.new.m) c.args.k c.args.k _ c.read_home.ensures.memory c.fill.ensures.one_page c.requires.entry

pub returns-in_err-fill-clause-touches : goal.returns-in_err-fill-clause-touches
returns-in_err-fill-clause-touches g c = touches_filled (g.M.Machine.contents c.args.m.now) (g.M.Machine.contents c.read_home.new.m) c.args.k _ c.read_home.ensures.memory c.fill.ensures.one_page

pub returns-clause-sound : goal.returns-clause-sound
returns-clause-sound g c = filled_sound c.args.k _ _ (g.M.Machine.contents c.args.m.now) (g.M.Machine.contents c.read_home.new.m) _ _ _ c.requires.sound c.read_home.ensures.keeps c.fill.ensures.keeps (still_trans _ _ _ c.read_home.ensures.still (still_rest _ _ c.fill.ensures.rest)) (c.fill.ensures.ends.steps.scratch_count ∙ c.read_home.ensures.ends.steps.scratch_count) (ap (λ (m : Contents). m.open_page) c.fill.ensures.rest ∙ c.read_home.ensures.closed) c.read_home.ensures.memory c.fill.ensures.one_page (record { same = record { forgotten = refl; shadowed = refl; shadows = refl }; pool = record { frames = refl; blocks = refl; pins = λ k. refl; count = refl }; first = refl; early = loses_refl _; buffer = c.read_home.ensures.room ∙ sym c.requires.sound.buffer }) (λ j. refl)

pub returns-clause-narrows : goal.returns-clause-narrows
returns-clause-narrows g c = filled_narrows (g.M.Machine.contents c.args.m.now) (g.M.Machine.contents c.read_home.new.m) c.args.k _ c.read_home.ensures.memory c.fill.ensures.one_page

pub returns-clause-tag : goal.returns-clause-tag
returns-clause-tag g c = filled_tag (g.M.Machine.contents c.args.m.now) (g.M.Machine.contents c.read_home.new.m) c.args.k c.args.k _ c.read_home.ensures.memory c.fill.ensures.one_page c.requires.entry

pub returns-clause-touches : goal.returns-clause-touches
returns-clause-touches g c = touches_filled (g.M.Machine.contents c.args.m.now) (g.M.Machine.contents c.read_home.new.m) c.args.k _ c.read_home.ensures.memory c.fill.ensures.one_page

pub returns-clause-home : goal.returns-clause-home
returns-clause-home g c = filled_home (g.M.Machine.contents c.args.m.now) (g.M.Machine.contents c.read_home.new.m) (g.M.Machine.contents c.fill.new.m) c.args.k c.args.b.0 _ c.read_home.ensures.memory c.fill.ensures.one_page c.fill.ensures.rest c.read_home.ensures.disk (c.as_slice.ensures.value ∙ c.in_ok-read_home.ensures.words) c.in_ok-fill.ensures.filled

pub returns-in_err-fill-clause-stay : goal.returns-in_err-fill-clause-stay
returns-in_err-fill-clause-stay g c = stay_filled (g.M.Machine.contents c.args.m.now) (g.M.Machine.contents c.read_home.new.m) c.args.k _ c.read_home.ensures.memory c.fill.ensures.one_page

pub returns-clause-stay : goal.returns-clause-stay
returns-clause-stay g c = stay_filled (g.M.Machine.contents c.args.m.now) (g.M.Machine.contents c.read_home.new.m) c.args.k _ c.read_home.ensures.memory c.fill.ensures.one_page

pub returns-in_err-read_home-clause-narrows : goal.returns-in_err-read_home-clause-narrows
returns-in_err-read_home-clause-narrows g c = subst (λ ws. Narrows (g.M.Machine.contents c.args.m.now).words ws) (sym c.read_home.ensures.memory) (narrows_refl _)

pub returns-in_err-read_home-clause-tag : goal.returns-in_err-read_home-clause-tag
returns-in_err-read_home-clause-tag g c = ap (λ ws. tag_at ws c.args.k) c.read_home.ensures.memory

pub returns-in_err-read_home-clause-touches : goal.returns-in_err-read_home-clause-touches
returns-in_err-read_home-clause-touches g c = touches_words _ _ c.read_home.ensures.memory

pub returns-in_err-read_home-clause-stay : goal.returns-in_err-read_home-clause-stay
returns-in_err-read_home-clause-stay g c = stay_words _ _ c.read_home.ensures.memory

pub returns-in_err-read_home-clause-tables : goal.returns-in_err-read_home-clause-tables
returns-in_err-read_home-clause-tables g c = record { forgotten = refl; shadowed = refl; shadows = refl }

pub frame_page_of-page-requires-clause-layout : goal.frame_page_of-page-requires-clause-layout
frame_page_of-page-requires-clause-layout g c = layout_now _ _ (coherent_on _ _ _ c.read_home.ensures.ends.steps.scratch_count (c.read_home.ensures.keeps.coherent _ c.requires.sound.coherent))

pub frame_page_of-page-requires-clause-entry : goal.frame_page_of-page-requires-clause-entry
frame_page_of-page-requires-clause-entry g c = subst (λ ws. c.args.k < frames_of ws) (sym c.read_home.ensures.memory) c.requires.entry

pub fill-requires-clause-entry : goal.fill-requires-clause-entry
fill-requires-clause-entry g c = subst (λ ws. c.args.k < frames_of ws) (sym c.read_home.ensures.memory) c.requires.entry

pub fill-requires-clause-invalid : goal.fill-requires-clause-invalid
fill-requires-clause-invalid g c = ap (λ ws. is_valid (tag_at ws c.args.k)) c.read_home.ensures.memory ∙ c.requires.invalid

pub returns-in_err-fill-clause-keeps : goal.returns-in_err-fill-clause-keeps
returns-in_err-fill-clause-keeps g c = keeps_then _ _ _ c.read_home.ensures.keeps c.fill.ensures.keeps

pub returns-in_err-fill-clause-still : goal.returns-in_err-fill-clause-still
returns-in_err-fill-clause-still g c = still_trans _ _ _ c.read_home.ensures.still (still_rest _ _ c.fill.ensures.rest)

pub returns-in_err-fill-clause-tables : goal.returns-in_err-fill-clause-tables
returns-in_err-fill-clause-tables g c = record { forgotten = refl; shadowed = refl; shadows = refl }

pub returns-in_err-fill-clause-lasts : goal.returns-in_err-fill-clause-lasts
returns-in_err-fill-clause-lasts g c = lasts_then _ _ _ c.read_home.ensures.lasts c.fill.ensures.lasts

pub returns-clause-keeps : goal.returns-clause-keeps
returns-clause-keeps g c = keeps_then _ _ _ c.read_home.ensures.keeps c.fill.ensures.keeps

pub returns-clause-still : goal.returns-clause-still
returns-clause-still g c = still_trans _ _ _ c.read_home.ensures.still (still_rest _ _ c.fill.ensures.rest)

pub returns-clause-tables : goal.returns-clause-tables
returns-clause-tables g c = record { forgotten = refl; shadowed = refl; shadows = refl }

pub returns-clause-lasts : goal.returns-clause-lasts
returns-clause-lasts g c = lasts_then _ _ _ c.read_home.ensures.lasts c.fill.ensures.lasts

pub returns-clause-fault : goal.returns-clause-fault
returns-clause-fault g c q = absurd (never _ _ q)

pub returns-clause-ends : goal.returns-clause-ends
returns-clause-ends g c = ends_ok _ _ _ _ _ _ (never _ Stopped) (λ q. true_false (sym q)) (never _ Stopped) c.in_ok-read_home.ensures.ends c.in_ok-fill.ensures.ends

pub returns-in_err-fill-clause-ends : goal.returns-in_err-fill-clause-ends
returns-in_err-fill-clause-ends g c =
    let p = err_from_is_err_and c.from_residual-in_err-fill.result c.from_residual-in_err-fill.ensures.1 in
    ends_err _ _ _ _ _ refl (p.1 ∙ ap Err p.2) c.in_ok-read_home.ensures.ends.steps c.in_err-fill.ensures.ends

pub returns-in_err-read_home-clause-marks : goal.returns-in_err-read_home-clause-marks
returns-in_err-read_home-clause-marks g c = marks_same None _ _ c.read_home.ensures.memory

pub returns-in_err-fill-clause-marks : goal.returns-in_err-fill-clause-marks
returns-in_err-fill-clause-marks g c = marks_filled None (g.M.Machine.contents c.args.m.now) (g.M.Machine.contents c.read_home.new.m) c.args.k _ c.read_home.ensures.memory c.fill.ensures.one_page

pub returns-clause-marks : goal.returns-clause-marks
returns-clause-marks g c = marks_filled None (g.M.Machine.contents c.args.m.now) (g.M.Machine.contents c.read_home.new.m) c.args.k _ c.read_home.ensures.memory c.fill.ensures.one_page

pub returns-in_err-read_home-clause-home : goal.returns-in_err-read_home-clause-home
returns-in_err-read_home-clause-home g c = not_ok _ c.from_residual.result c.from_residual.ensures.0

pub returns-in_err-read_home-clause-fault : goal.returns-in_err-read_home-clause-fault
returns-in_err-read_home-clause-fault g c =
    let p = err_from_is_err_and c.from_residual.result c.from_residual.ensures.1 in
    fault_told _ _ _ (p.1 ∙ ap Err p.2) c.in_err-read_home.ensures.fault

pub returns-in_err-read_home-clause-ends : goal.returns-in_err-read_home-clause-ends
returns-in_err-read_home-clause-ends g c =
    let p = err_from_is_err_and c.from_residual.result c.from_residual.ensures.1 in
    ends_told _ _ _ _ _ (p.1 ∙ ap Err p.2) c.in_err-read_home.ensures.ends

pub returns-in_err-fill-clause-home : goal.returns-in_err-fill-clause-home
returns-in_err-fill-clause-home g c = not_ok _ c.from_residual-in_err-fill.result c.from_residual-in_err-fill.ensures.0

pub returns-in_err-fill-clause-fault : goal.returns-in_err-fill-clause-fault
returns-in_err-fill-clause-fault g c =
    let p = err_from_is_err_and c.from_residual-in_err-fill.result c.from_residual-in_err-fill.ensures.1 in
    λ e. absurd (not_fault _ (p.1 ∙ ap Err p.2) e)

pub fill-requires-clause-coherent : goal.fill-requires-clause-coherent
fill-requires-clause-coherent g c = coherent_on _ _ _ c.read_home.ensures.ends.steps.scratch_count (c.read_home.ensures.keeps.coherent _ c.requires.sound.coherent)
