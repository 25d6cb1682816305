use Rattle.cached_pages.proofs.Common.{arith, put_run, reads, found_is}
use Rattle.std.proofs.Common.{ℕ, ◌≤◌, length}
use Rattle.cached_pages.specs.Stores.{Rewrites}
use Rattle.cached_pages.proofs.Stores.{cached_entries}
use Rattle.cached_pages.proofs.Runs.{run_entries, run_hidden, run_rewrites, run_sound}
use Rattle.cached_pages.proofs.storing.put_frame_run.Goals as goal
use Rattle.cached_pages.proofs.DirtyMarks.{marks_entries}
use Rattle.cached_pages.proofs.Common.{None}

pub page_of-page-requires-clause-entry : goal.page_of-page-requires-clause-entry
page_of-page-requires-clause-entry g c = (found_is _ _ _ c.requires.found).0.within

pub returns-in_err-put_run-clause-sound : goal.returns-in_err-put_run-clause-sound
returns-in_err-put_run-clause-sound g c =
    let f = c.in_err-put_run.ensures.front in
    run_sound _ _ c.args.k c.args.b.0 _ c.args.w f.0 c.args.from.now (g.M.Machine.contents c.args.m.now) _ _ c.requires.sound c.put_run.ensures.rest c.page_of-page.ensures.page (omega (arith, c.requires.within, f.1)) f.2 c.requires.found c.requires.dirty c.put_run.ensures.ends.steps.scratch_count

pub returns-in_err-put_run-clause-front : goal.returns-in_err-put_run-clause-front
returns-in_err-put_run-clause-front g c =
    let f = c.in_err-put_run.ensures.front in
    let old = g.M.Machine.contents c.args.m.now in
    let new = g.M.Machine.contents c.put_run.new.m in
    let front : (n : ℕ) × (n ≤ length c.args.from.now) × Rewrites (put_run (reads old) c.args.b.0 c.args.w n c.args.from.now) old new = (f.0, omega (arith, f.1), run_rewrites _ c.args.k c.args.b.0 _ c.args.w f.0 c.args.from.now old _ c.requires.sound.coherent c.put_run.ensures.rest c.page_of-page.ensures.page (omega (arith, c.requires.within, f.1)) f.2 c.requires.found c.requires.dirty) in
    grind (arith, front)

pub returns-in_err-put_run-clause-hidden : goal.returns-in_err-put_run-clause-hidden
returns-in_err-put_run-clause-hidden g c =
    let f = c.in_err-put_run.ensures.front in
    λ updating some. run_hidden _ c.args.k c.args.b.0 _ c.args.w f.0 c.args.from.now (g.M.Machine.contents c.args.m.now) _ c.requires.sound.coherent c.put_run.ensures.rest c.page_of-page.ensures.page (omega (arith, c.requires.within, f.1)) f.2 c.requires.found updating some

pub returns-in_err-put_run-clause-entries : goal.returns-in_err-put_run-clause-entries
returns-in_err-put_run-clause-entries g c =
    let f = c.in_err-put_run.ensures.front in
    run_entries c.args.k _ c.args.w f.0 c.args.from.now _ _ c.page_of-page.ensures.page (omega (arith, c.requires.within, f.1)) f.2

pub returns-in_err-put_run-clause-cached : goal.returns-in_err-put_run-clause-cached
returns-in_err-put_run-clause-cached g c =
    let f = c.in_err-put_run.ensures.front in
    cached_entries _ _ (run_entries c.args.k _ c.args.w f.0 c.args.from.now _ _ c.page_of-page.ensures.page (omega (arith, c.requires.within, f.1)) f.2)

pub returns-clause-sound : goal.returns-clause-sound
returns-clause-sound g c = run_sound _ _ c.args.k c.args.b.0 _ c.args.w (length c.args.from.now) c.args.from.now (g.M.Machine.contents c.args.m.now) _ _ c.requires.sound c.put_run.ensures.rest c.page_of-page.ensures.page c.requires.within c.in_ok-put_run.ensures.stored c.requires.found c.requires.dirty c.put_run.ensures.ends.steps.scratch_count

pub returns-clause-rewrites : goal.returns-clause-rewrites
returns-clause-rewrites g c = run_rewrites _ c.args.k c.args.b.0 _ c.args.w (length c.args.from.now) c.args.from.now (g.M.Machine.contents c.args.m.now) _ c.requires.sound.coherent c.put_run.ensures.rest c.page_of-page.ensures.page c.requires.within c.in_ok-put_run.ensures.stored c.requires.found c.requires.dirty

pub returns-clause-hidden : goal.returns-clause-hidden
returns-clause-hidden g c = λ updating some. run_hidden _ c.args.k c.args.b.0 _ c.args.w (length c.args.from.now) c.args.from.now (g.M.Machine.contents c.args.m.now) _ c.requires.sound.coherent c.put_run.ensures.rest c.page_of-page.ensures.page c.requires.within c.in_ok-put_run.ensures.stored c.requires.found updating some

pub returns-clause-entries : goal.returns-clause-entries
returns-clause-entries g c = run_entries c.args.k _ c.args.w (length c.args.from.now) c.args.from.now _ _ c.page_of-page.ensures.page c.requires.within c.in_ok-put_run.ensures.stored

pub returns-clause-cached : goal.returns-clause-cached
returns-clause-cached g c = cached_entries _ _ (run_entries c.args.k _ c.args.w (length c.args.from.now) c.args.from.now _ _ c.page_of-page.ensures.page c.requires.within c.in_ok-put_run.ensures.stored)

pub returns-in_err-put_run-clause-marks : goal.returns-in_err-put_run-clause-marks
returns-in_err-put_run-clause-marks g c =
    let f = c.in_err-put_run.ensures.front in
    marks_entries None _ _ (run_entries c.args.k _ c.args.w f.0 c.args.from.now _ _ c.page_of-page.ensures.page (omega (arith, c.requires.within, f.1)) f.2)

pub returns-clause-marks : goal.returns-clause-marks
returns-clause-marks g c = marks_entries None _ _ (run_entries c.args.k _ c.args.w (length c.args.from.now) c.args.from.now _ _ c.page_of-page.ensures.page c.requires.within c.in_ok-put_run.ensures.stored)
