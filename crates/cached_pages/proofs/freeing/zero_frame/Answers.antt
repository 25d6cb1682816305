use Rattle.cached_pages.proofs.Common.{◌∙◌, ap}
use Rattle.std.proofs.Common.{◌+◌, ◌*◌, slice_index}
use Rattle.std.proofs.lemmas.List.{get_or-replicate}
use Rattle.cached_pages.proofs.Fills.{tag_stays}
use Rattle.cached_pages.proofs.Zeros.{filled_cached, filled_same, filled_sound}
use Rattle.cached_pages.proofs.freeing.zero_frame.Goals as goal
use Rattle.cached_pages.proofs.DirtyMarks.{marks_page}
use Rattle.cached_pages.proofs.Common.{None}

pub returns-in_err-fill-clause-sound : goal.returns-in_err-fill-clause-sound
returns-in_err-fill-clause-sound g c = filled_sound _ _ c.args.k (g.M.Machine.contents c.args.m.now) (g.M.Machine.contents c.fill.new.m) _ c.requires.sound c.fill.ensures.keeps c.fill.ensures.rest c.fill.ensures.one_page c.fill.ensures.ends.steps.scratch_count

pub returns-in_err-fill-clause-tag : goal.returns-in_err-fill-clause-tag
returns-in_err-fill-clause-tag g c = tag_stays (g.M.Machine.contents c.args.m.now) 0 c.args.k c.args.k _ c.fill.ensures.one_page c.requires.entry

pub returns-in_err-fill-clause-cached : goal.returns-in_err-fill-clause-cached
returns-in_err-fill-clause-cached g c = filled_cached c.args.k _ _ c.fill.ensures.one_page

pub returns-clause-sound : goal.returns-clause-sound
returns-clause-sound g c = filled_sound _ _ c.args.k (g.M.Machine.contents c.args.m.now) (g.M.Machine.contents c.fill.new.m) _ c.requires.sound c.fill.ensures.keeps c.fill.ensures.rest c.fill.ensures.one_page c.fill.ensures.ends.steps.scratch_count

pub returns-clause-tag : goal.returns-clause-tag
returns-clause-tag g c = tag_stays (g.M.Machine.contents c.args.m.now) 0 c.args.k c.args.k _ c.fill.ensures.one_page c.requires.entry

pub returns-clause-cached : goal.returns-clause-cached
returns-clause-cached g c = filled_cached c.args.k _ _ c.fill.ensures.one_page

pub returns-clause-zeros : goal.returns-clause-zeros
returns-clause-zeros g c = λ w less. ap (λ p. slice_index (g.M.Machine.contents c.fill.new.m).words (512 * p + w)) (filled_same c.args.k _ _ c.fill.ensures.one_page) ∙ c.in_ok-fill.ensures.filled w less ∙ get_or-replicate 512 w 0 0 less

pub returns-in_err-fill-clause-marks : goal.returns-in_err-fill-clause-marks
returns-in_err-fill-clause-marks g c = marks_page None c.args.k _ _ c.fill.ensures.one_page

pub returns-clause-marks : goal.returns-clause-marks
returns-clause-marks g c = marks_page None c.args.k _ _ c.fill.ensures.one_page
