use Rattle.cached_pages.proofs.Common.{◌∙◌, ap, Contents, found_is}
use Rattle.cached_pages.proofs.Stores.{cached_entries}
use Rattle.cached_pages.proofs.Runs.{put_entries, put_rewrites, rewrites_sound}
use Rattle.cached_pages.proofs.storing.put_frame.Goals as goal
use Rattle.cached_pages.proofs.DirtyMarks.{marks_entries, marks_same}
use Rattle.cached_pages.proofs.Common.{None}

pub page_of-page-requires-clause-entry : goal.page_of-page-requires-clause-entry
page_of-page-requires-clause-entry g c = (found_is _ _ _ c.requires.found).0.within

pub returns-clause-sound : goal.returns-clause-sound
returns-clause-sound g c =
    let old = g.M.Machine.contents c.args.m.now in
    let stored = c.in_ok-put_word.ensures.stored in
    let page = c.page_of-page.ensures.page in
    rewrites_sound _ _ _ old _ _ c.requires.sound (put_rewrites _ c.args.k c.args.b.0 _ c.args.w c.args.v old _ c.requires.sound.coherent stored page c.page_of-page.ensures.within c.requires.word c.requires.found c.requires.dirty) c.put_word.ensures.ends.steps.scratch_count (ap (λ (m : Contents). m.open_page) stored ∙ c.requires.sound.closed) (ap (λ (m : Contents). m.disk) stored) (ap (λ (m : Contents). m.pending) stored) (put_entries c.args.k _ c.args.w c.args.v old _ stored page c.requires.word)

pub returns-clause-rewrites : goal.returns-clause-rewrites
returns-clause-rewrites g c = put_rewrites _ c.args.k c.args.b.0 _ c.args.w c.args.v (g.M.Machine.contents c.args.m.now) _ c.requires.sound.coherent c.in_ok-put_word.ensures.stored c.page_of-page.ensures.page c.page_of-page.ensures.within c.requires.word c.requires.found c.requires.dirty

pub returns-clause-cached : goal.returns-clause-cached
returns-clause-cached g c = cached_entries _ _ (put_entries c.args.k _ c.args.w c.args.v (g.M.Machine.contents c.args.m.now) _ c.in_ok-put_word.ensures.stored c.page_of-page.ensures.page c.requires.word)

pub returns-in_err-put_word-clause-marks : goal.returns-in_err-put_word-clause-marks
returns-in_err-put_word-clause-marks g c = marks_same None _ _ (ap (λ (m : Contents). m.words) c.in_err-put_word.ensures.same)

pub returns-clause-marks : goal.returns-clause-marks
returns-clause-marks g c = marks_entries None _ _ (put_entries c.args.k _ c.args.w c.args.v (g.M.Machine.contents c.args.m.now) _ c.in_ok-put_word.ensures.stored c.page_of-page.ensures.page c.requires.word)
