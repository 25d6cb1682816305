use Rattle.std.proofs.Common.{IsErrOf, refl}
use Rattle.cached_pages.proofs.Common.{◌≡◌, ◌<◌, true, ◌∙◌, ap, sym, subst, arith, is_dirty, is_pending, is_pinned, order_of, tag_block, Contents, FramePool, None, Stopped, true_false}
use Rattle.frame_pool.specs.Orders.{freed_first}
use Rattle.cached_pages.proofs.DirtyMarks.{marks_same}
use Rattle.rio_base.proofs.MachineRules.{ends_err, never}
use Rattle.cached_pages.proofs.Goes.{ends_ok}
use Rattle.cached_pages.proofs.Kept.{bare_unpinned}
use Rattle.cached_pages.proofs.Nearness.{leaves_near, narrows_near, one_before, released_leaves, released_marks, released_narrows, tag_near, valid_near}
use Rattle.cached_pages.proofs.Rooms.{evicted, frame_bound, kept_bare, keeps_then, lasts_then, touches_evicted}
use Rattle.cached_pages.proofs.Stills.{still_rest, still_trans}
use Rattle.cached_pages.proofs.Touched.{touches_held, touches_trans, touches_words}
use Rattle.cached_pages.proofs.fetching.evict_frame.Goals as goal

-- ---- the page was not brought out

pub returns-in_err-prepare-clause-narrows : goal.returns-in_err-prepare-clause-narrows
returns-in_err-prepare-clause-narrows g c = narrows_near _ _ _ _ c.prepare.ensures.nears

pub returns-in_err-prepare-clause-touches : goal.returns-in_err-prepare-clause-touches
returns-in_err-prepare-clause-touches g c = touches_words _ _ c.prepare.ensures.nears.words

pub returns-in_err-prepare-clause-leaves : goal.returns-in_err-prepare-clause-leaves
returns-in_err-prepare-clause-leaves g c = leaves_near c.args.k _ _ c.prepare.ensures.nears.words

pub returns-in_err-prepare-clause-marks : goal.returns-in_err-prepare-clause-marks
returns-in_err-prepare-clause-marks g c = marks_same None _ _ c.prepare.ensures.nears.words

pub returns-in_err-prepare-clause-order : goal.returns-in_err-prepare-clause-order
returns-in_err-prepare-clause-order g c q = ap order_of c.prepare.ensures.nears.pool

-- ---- its entry goes

pub tag_of-requires-clause-entry : goal.tag_of-requires-clause-entry
tag_of-requires-clause-entry g c = (valid_near c.args.k _ _ _ _ c.prepare.ensures.nears c.requires.valid).within

pub release-requires-clause-valid : goal.release-requires-clause-valid
release-requires-clause-valid g c = valid_near c.args.k _ _ _ _ c.prepare.ensures.nears c.requires.valid

pub release-requires-clause-bare : goal.release-requires-clause-bare
release-requires-clause-bare g c = bare_unpinned c.args.k _ (g.M.Machine.contents c.prepare.new.m) _ c.prepare.ensures.sound (valid_near c.args.k _ _ _ _ c.prepare.ensures.nears c.requires.valid) (ap (λ (p : FramePool). is_pinned p c.args.k) c.prepare.ensures.nears.pool ∙ c.requires.unpinned)

pub release-requires-clause-written : goal.release-requires-clause-written
release-requires-clause-written g c = λ dirty. c.in_ok-prepare.ensures.home (subst (λ t. is_dirty t ≡ true) (tag_near c.args.k _ _ _ _ c.prepare.ensures.nears) dirty)

pub release-requires-clause-synced : goal.release-requires-clause-synced
release-requires-clause-synced g c = λ dirty.
    let tag = tag_near c.args.k _ _ _ _ c.prepare.ensures.nears in
    ap (λ t. is_pending (g.M.Machine.contents c.prepare.new.m).pending (tag_block t)) tag ∙ c.in_ok-prepare.ensures.settled (subst (λ t. is_dirty t ≡ true) tag dirty)

pub unbind-requires-clause-within : goal.unbind-requires-clause-within
unbind-requires-clause-within g c = subst (λ f. c.args.k < f) (sym c.prepare.ensures.sound.frames) (valid_near c.args.k _ _ _ _ c.prepare.ensures.nears c.requires.valid).within

pub unbind-requires-clause-bound : goal.unbind-requires-clause-bound
unbind-requires-clause-bound g c = frame_bound c.args.k _ (g.M.Machine.contents c.prepare.new.m) _ c.prepare.ensures.sound (valid_near c.args.k _ _ _ _ c.prepare.ensures.nears c.requires.valid)

pub unbind-requires-clause-unpinned : goal.unbind-requires-clause-unpinned
unbind-requires-clause-unpinned g c = ap (λ (p : FramePool). is_pinned p c.args.k) c.prepare.ensures.nears.pool ∙ c.requires.unpinned

-- ---- the entry did not go

pub returns-in_err-release-clause-sound : goal.returns-in_err-release-clause-sound
returns-in_err-release-clause-sound g c =
    let mid = g.M.Machine.contents c.prepare.new.m in
    let bare = bare_unpinned c.args.k _ mid _ c.prepare.ensures.sound (valid_near c.args.k _ _ _ _ c.prepare.ensures.nears c.requires.valid) (ap (λ (p : FramePool). is_pinned p c.args.k) c.prepare.ensures.nears.pool ∙ c.requires.unpinned) in
    kept_bare c.args.k _ _ mid _ _ c.prepare.ensures.sound c.release.ensures.keeps (still_rest _ _ c.release.ensures.rest) c.release.ensures.ends.steps.scratch_count c.release.ensures.closed c.release.ensures.one_entry c.in_err-release.ensures.held bare

pub returns-in_err-release-clause-keeps : goal.returns-in_err-release-clause-keeps
returns-in_err-release-clause-keeps g c = keeps_then _ _ _ c.prepare.ensures.nears.keeps c.release.ensures.keeps

pub returns-in_err-release-clause-narrows : goal.returns-in_err-release-clause-narrows
returns-in_err-release-clause-narrows g c = released_narrows _ _ _ c.prepare.ensures.nears.words c.release.ensures.narrows

pub returns-in_err-release-clause-one_write : goal.returns-in_err-release-clause-one_write
returns-in_err-release-clause-one_write g c = one_before _ _ _ c.prepare.ensures.one_write (ap (λ (m : Contents). m.writes) c.release.ensures.rest)

pub returns-in_err-release-clause-clean_entry : goal.returns-in_err-release-clause-clean_entry
returns-in_err-release-clause-clean_entry g c = λ clean. still_trans _ _ _ (c.prepare.ensures.clean_entry clean) (still_rest _ _ c.release.ensures.rest)

pub returns-in_err-release-clause-touches : goal.returns-in_err-release-clause-touches
returns-in_err-release-clause-touches g c = touches_trans _ _ _ (touches_words _ _ c.prepare.ensures.nears.words) (touches_held c.args.k _ _ c.release.ensures.one_entry c.in_err-release.ensures.held)

pub returns-in_err-release-clause-leaves : goal.returns-in_err-release-clause-leaves
returns-in_err-release-clause-leaves g c = released_leaves c.args.k _ (g.M.Machine.contents c.args.m.now) (g.M.Machine.contents c.prepare.new.m) (g.M.Machine.contents c.release.new.m) c.prepare.ensures.nears.words c.prepare.ensures.sound.coherent c.release.ensures.keeps c.release.ensures.one_entry

pub returns-in_err-release-clause-marks : goal.returns-in_err-release-clause-marks
returns-in_err-release-clause-marks g c = released_marks c.args.k _ _ _ c.prepare.ensures.nears.words c.release.ensures.narrows c.release.ensures.one_entry c.release.ensures.marks

pub returns-in_err-release-clause-order : goal.returns-in_err-release-clause-order
returns-in_err-release-clause-order g c q = ap order_of c.prepare.ensures.nears.pool

pub returns-in_err-release-clause-lasts : goal.returns-in_err-release-clause-lasts
returns-in_err-release-clause-lasts g c = lasts_then _ _ _ c.prepare.ensures.nears.lasts c.release.ensures.lasts

pub returns-in_err-release-clause-ends : goal.returns-in_err-release-clause-ends
returns-in_err-release-clause-ends g c =
    let stop : IsErrOf c.from_residual-in_err-release.result Stopped = grind (arith, c.from_residual-in_err-release.ensures) in
    ends_err _ _ _ _ _ refl stop c.in_ok-prepare.ensures.ends.steps c.in_err-release.ensures.ends

-- ---- it went

pub returns-clause-sound : goal.returns-clause-sound
returns-clause-sound g c = evicted c.args.k _ _ (g.M.Machine.contents c.prepare.new.m) _ _ _ c.prepare.ensures.sound c.release.ensures.keeps (still_rest _ _ c.release.ensures.rest) c.release.ensures.ends.steps.scratch_count c.release.ensures.closed c.release.ensures.one_entry c.in_ok-release.ensures.gone (record { same = record { forgotten = refl; shadowed = refl; shadows = refl }; pool = record { frames = c.unbind.ensures.frames; blocks = c.unbind.ensures.blocks; pins = c.unbind.ensures.pins; count = c.unbind.ensures.pins_in }; first = refl; early = c.clear.ensures.loses; buffer = refl }) c.unbind.ensures.unbound c.unbind.ensures.others

pub returns-clause-keeps : goal.returns-clause-keeps
returns-clause-keeps g c = keeps_then _ _ _ c.prepare.ensures.nears.keeps c.release.ensures.keeps

pub returns-clause-narrows : goal.returns-clause-narrows
returns-clause-narrows g c = released_narrows _ _ _ c.prepare.ensures.nears.words c.release.ensures.narrows

pub returns-clause-one_write : goal.returns-clause-one_write
returns-clause-one_write g c = one_before _ _ _ c.prepare.ensures.one_write (ap (λ (m : Contents). m.writes) c.release.ensures.rest)

pub returns-clause-clean_entry : goal.returns-clause-clean_entry
returns-clause-clean_entry g c = λ clean. still_trans _ _ _ (c.prepare.ensures.clean_entry clean) (still_rest _ _ c.release.ensures.rest)

pub returns-clause-touches : goal.returns-clause-touches
returns-clause-touches g c =
    let mid = g.M.Machine.contents c.prepare.new.m in
    let bare = bare_unpinned c.args.k _ mid _ c.prepare.ensures.sound (valid_near c.args.k _ _ _ _ c.prepare.ensures.nears c.requires.valid) (ap (λ (p : FramePool). is_pinned p c.args.k) c.prepare.ensures.nears.pool ∙ c.requires.unpinned) in
    touches_trans _ _ _ (touches_words _ _ c.prepare.ensures.nears.words) (touches_evicted c.args.k _ mid (g.M.Machine.contents c.release.new.m) c.prepare.ensures.sound.coherent c.release.ensures.keeps c.release.ensures.one_entry bare c.in_ok-release.ensures.gone)

pub returns-clause-tables : goal.returns-clause-tables
returns-clause-tables g c = let h = c.prepare.ensures.nears.tables in record { forgotten = h.forgotten; shadowed = h.shadowed; shadows = h.shadows }

pub returns-clause-leaves : goal.returns-clause-leaves
returns-clause-leaves g c = released_leaves c.args.k _ (g.M.Machine.contents c.args.m.now) (g.M.Machine.contents c.prepare.new.m) (g.M.Machine.contents c.release.new.m) c.prepare.ensures.nears.words c.prepare.ensures.sound.coherent c.release.ensures.keeps c.release.ensures.one_entry

pub returns-clause-marks : goal.returns-clause-marks
returns-clause-marks g c = released_marks c.args.k _ _ _ c.prepare.ensures.nears.words c.release.ensures.narrows c.release.ensures.one_entry c.release.ensures.marks

pub returns-clause-order : goal.returns-clause-order
returns-clause-order g c q = absurd (true_false (sym q))

pub returns-clause-freed : goal.returns-clause-freed
returns-clause-freed g c = c.unbind.ensures.order ∙ ap (λ (p : FramePool). freed_first c.args.k (order_of p)) c.prepare.ensures.nears.pool

pub returns-clause-lasts : goal.returns-clause-lasts
returns-clause-lasts g c = lasts_then _ _ _ c.prepare.ensures.nears.lasts c.release.ensures.lasts

pub returns-clause-ends : goal.returns-clause-ends
returns-clause-ends g c = ends_ok _ _ _ _ _ _ (never _ Stopped) (λ q. true_false (sym q)) (never _ Stopped) c.in_ok-prepare.ensures.ends c.in_ok-release.ensures.ends
