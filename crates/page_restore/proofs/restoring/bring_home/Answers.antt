use Rattle.std.proofs.Common.{◌∙◌, Err, List, ap, inl, inr, refl, sym, ℕ}
use Rattle.std.proofs.lemmas.Result.{err_from_is_err_and}
use Rattle.rio_base.proofs.MachineRules.{never}
use Rattle.rio_base.specs.declared.failures.VolFail.TheVariants.{Fault, Stopped}
use Rattle.rio_model.specs.Registry.{frames_of}
use Rattle.rio_model.specs.Standing.{none_apart}
use Rattle.rio_model.proofs.RebootSteps.{brings_trans, brings_words}
use Rattle.page_restore.proofs.Restores.{all_home, counts_pages, of_data_settled, of_data_words, stale_kept, stale_settled}
use Rattle.page_restore.proofs.Steps.{image_next, layout_now, phase_as, phase_then, phase_told}
use Rattle.page_restore.specs.Phases.{due_count}
use Rattle.page_restore.specs.declared.kinds.PageKind.TheVariants.{Metadata, Stale, Wanted}
use Rattle.page_restore.proofs.Exits.{not_ok}
use Rattle.page_restore.proofs.restoring.bring_home.Goals as goal

-- ---- the second phase, after the clean entries were settled

pub bring-requires-clause-image : goal.bring-requires-clause-image
bring-requires-clause-image g c = image_next none_apart _ _ _ _ _ _ c.requires.image c.settle.ensures.brings.endures c.settle.ensures.ends

pub bring-requires-clause-marks : goal.bring-requires-clause-marks
bring-requires-clause-marks g c = c.requires.marks ∙ sym c.settle.ensures.frames

pub returns-in_err-settle-clause-dropped : goal.returns-in_err-settle-clause-dropped
returns-in_err-settle-clause-dropped g c = stale_settled c.args.marks.now (g.M.Machine.contents c.args.m.now) (g.M.Machine.contents c.settle.new.m) c.settle.ensures.disk

pub returns-in_err-meta-clause-brings : goal.returns-in_err-meta-clause-brings
returns-in_err-meta-clause-brings g c = brings_trans _ _ _ c.settle.ensures.brings (brings_words _ _ c.bring.ensures.endures c.bring.ensures.words)

pub returns-in_err-meta-clause-dropped : goal.returns-in_err-meta-clause-dropped
returns-in_err-meta-clause-dropped g c =
    let image = image_next none_apart _ _ _ _ _ _ c.requires.image c.settle.ensures.brings.endures c.settle.ensures.ends in
    stale_kept Metadata c.args.marks.now (g.M.Machine.contents c.args.m.now) (g.M.Machine.contents c.settle.new.m) (g.M.Machine.contents c.bring.new.m) (inl refl) image.rules.blocks (of_data_settled c.args.marks.now (g.M.Machine.contents c.args.m.now) (g.M.Machine.contents c.settle.new.m) c.settle.ensures.marked c.requires.of_data) c.settle.ensures.brings (stale_settled c.args.marks.now (g.M.Machine.contents c.args.m.now) (g.M.Machine.contents c.settle.new.m) c.settle.ensures.disk) c.bring.ensures.writes

pub returns-in_err-meta-clause-ends : goal.returns-in_err-meta-clause-ends
returns-in_err-meta-clause-ends g c =
    let p = err_from_is_err_and c.from_residual-in_err-meta.result c.from_residual-in_err-meta.ensures.1 in
    phase_told _ _ _ _ _ _ (p.1 ∙ ap Err p.2) (phase_then _ _ _ _ _ _ _ _ _ _ (never _ Stopped) c.in_ok-settle.ensures.ends c.in_err-meta.ensures.ends)

-- ---- the third, after metadata

pub bring-requires-2-clause-image : goal.bring-requires-2-clause-image
bring-requires-2-clause-image g c = image_next none_apart _ _ _ _ _ _ (image_next none_apart _ _ _ _ _ _ c.requires.image c.settle.ensures.brings.endures c.settle.ensures.ends) c.bring.ensures.endures c.bring.ensures.ends

pub bring-requires-2-clause-marks : goal.bring-requires-2-clause-marks
bring-requires-2-clause-marks g c = c.requires.marks ∙ sym c.settle.ensures.frames ∙ ap (λ (ws : List ℕ). frames_of ws) (sym c.bring.ensures.words)

pub returns-in_err-pages-clause-brings : goal.returns-in_err-pages-clause-brings
returns-in_err-pages-clause-brings g c = brings_trans _ _ _ (brings_trans _ _ _ c.settle.ensures.brings (brings_words _ _ c.bring.ensures.endures c.bring.ensures.words)) (brings_words _ _ c.bring-2.ensures.endures c.bring-2.ensures.words)

pub returns-in_err-pages-clause-dropped : goal.returns-in_err-pages-clause-dropped
returns-in_err-pages-clause-dropped g c =
    let image = image_next none_apart _ _ _ _ _ _ c.requires.image c.settle.ensures.brings.endures c.settle.ensures.ends in
    let of_data = of_data_settled c.args.marks.now (g.M.Machine.contents c.args.m.now) (g.M.Machine.contents c.settle.new.m) c.settle.ensures.marked c.requires.of_data in
    let first = stale_kept Metadata c.args.marks.now (g.M.Machine.contents c.args.m.now) (g.M.Machine.contents c.settle.new.m) (g.M.Machine.contents c.bring.new.m) (inl refl) image.rules.blocks of_data c.settle.ensures.brings (stale_settled c.args.marks.now (g.M.Machine.contents c.args.m.now) (g.M.Machine.contents c.settle.new.m) c.settle.ensures.disk) c.bring.ensures.writes in
    let next = image_next none_apart _ _ _ _ _ _ image c.bring.ensures.endures c.bring.ensures.ends in
    stale_kept Wanted c.args.marks.now (g.M.Machine.contents c.args.m.now) (g.M.Machine.contents c.bring.new.m) (g.M.Machine.contents c.bring-2.new.m) (inr refl) next.rules.blocks (of_data_words c.args.marks.now (g.M.Machine.contents c.settle.new.m) (g.M.Machine.contents c.bring.new.m) c.bring.ensures.words of_data) (brings_trans _ _ _ c.settle.ensures.brings (brings_words _ _ c.bring.ensures.endures c.bring.ensures.words)) first c.bring-2.ensures.writes

pub returns-in_err-pages-clause-ends : goal.returns-in_err-pages-clause-ends
returns-in_err-pages-clause-ends g c =
    let p = err_from_is_err_and c.from_residual-in_err-pages.result c.from_residual-in_err-pages.ensures.1 in
    phase_told _ _ _ _ _ _ (p.1 ∙ ap Err p.2) (phase_then _ _ _ _ _ _ _ _ _ _ (never _ Stopped) (phase_then _ _ _ _ _ _ _ _ _ _ (never _ Stopped) c.in_ok-settle.ensures.ends c.in_ok-meta.ensures.ends) c.in_err-pages.ensures.ends)

-- ---- after both

pub count_due-stale-requires-clause-layout : goal.count_due-stale-requires-clause-layout
count_due-stale-requires-clause-layout g c =
    layout_now _ _ (image_next none_apart _ _ _ _ _ _ (image_next none_apart _ _ _ _ _ _ (image_next none_apart _ _ _ _ _ _ c.requires.image c.settle.ensures.brings.endures c.settle.ensures.ends) c.bring.ensures.endures c.bring.ensures.ends) c.bring-2.ensures.endures c.bring-2.ensures.ends)

pub count_due-stale-requires-clause-marks : goal.count_due-stale-requires-clause-marks
count_due-stale-requires-clause-marks g c = c.requires.marks ∙ sym c.settle.ensures.frames ∙ ap (λ (ws : List ℕ). frames_of ws) (sym (c.bring-2.ensures.words ∙ c.bring.ensures.words))

pub returns-clause-brings : goal.returns-clause-brings
returns-clause-brings g c = brings_trans _ _ _ (brings_trans _ _ _ c.settle.ensures.brings (brings_words _ _ c.bring.ensures.endures c.bring.ensures.words)) (brings_words _ _ c.bring-2.ensures.endures c.bring-2.ensures.words)

pub returns-clause-home : goal.returns-clause-home
returns-clause-home g c = all_home c.args.marks.now (g.M.Machine.contents c.settle.new.m) (g.M.Machine.contents c.bring.new.m) (g.M.Machine.contents c.bring-2.new.m) c.bring.ensures.words c.bring-2.ensures.words c.in_ok-settle.ensures.settled c.in_ok-meta.ensures.brought c.in_ok-pages.ensures.brought

pub returns-clause-dropped : goal.returns-clause-dropped
returns-clause-dropped g c =
    let image = image_next none_apart _ _ _ _ _ _ c.requires.image c.settle.ensures.brings.endures c.settle.ensures.ends in
    let of_data = of_data_settled c.args.marks.now (g.M.Machine.contents c.args.m.now) (g.M.Machine.contents c.settle.new.m) c.settle.ensures.marked c.requires.of_data in
    let first = stale_kept Metadata c.args.marks.now (g.M.Machine.contents c.args.m.now) (g.M.Machine.contents c.settle.new.m) (g.M.Machine.contents c.bring.new.m) (inl refl) image.rules.blocks of_data c.settle.ensures.brings (stale_settled c.args.marks.now (g.M.Machine.contents c.args.m.now) (g.M.Machine.contents c.settle.new.m) c.settle.ensures.disk) c.bring.ensures.writes in
    let next = image_next none_apart _ _ _ _ _ _ image c.bring.ensures.endures c.bring.ensures.ends in
    stale_kept Wanted c.args.marks.now (g.M.Machine.contents c.args.m.now) (g.M.Machine.contents c.bring.new.m) (g.M.Machine.contents c.bring-2.new.m) (inr refl) next.rules.blocks (of_data_words c.args.marks.now (g.M.Machine.contents c.settle.new.m) (g.M.Machine.contents c.bring.new.m) c.bring.ensures.words of_data) (brings_trans _ _ _ c.settle.ensures.brings (brings_words _ _ c.bring.ensures.endures c.bring.ensures.words)) first c.bring-2.ensures.writes

pub returns-clause-counts : goal.returns-clause-counts
returns-clause-counts g c = λ l are.
    counts_pages l c.args.marks.now (g.M.Machine.contents c.args.m.now) (g.M.Machine.contents c.settle.new.m) _ c.settle.ensures.frames c.settle.ensures.disk c.settle.ensures.marked c.in_ok-settle.ensures.settled c.in_ok-meta.ensures.count (c.in_ok-pages.ensures.count ∙ ap (due_count Wanted c.args.marks.now) c.bring.ensures.words)
    (c.count_due-stale.ensures ∙ ap (due_count Stale c.args.marks.now) (c.bring-2.ensures.words ∙ c.bring.ensures.words)) are

pub returns-clause-ends : goal.returns-clause-ends
returns-clause-ends g c = phase_as _ _ _ _ _ _ _ _ (never _ Stopped) (never _ Fault) (never _ Stopped) (phase_then _ _ _ _ _ _ _ _ _ _ (never _ Stopped) (phase_then _ _ _ _ _ _ _ _ _ _ (never _ Stopped) c.in_ok-settle.ensures.ends c.in_ok-meta.ensures.ends) c.in_ok-pages.ensures.ends)

pub returns-in_err-settle-clause-ends : goal.returns-in_err-settle-clause-ends
returns-in_err-settle-clause-ends g c =
    let p = err_from_is_err_and c.from_residual.result c.from_residual.ensures.1 in
    phase_told _ _ _ _ _ _ (p.1 ∙ ap Err p.2) c.in_err-settle.ensures.ends

pub returns-in_err-settle-clause-home : goal.returns-in_err-settle-clause-home
returns-in_err-settle-clause-home g c = not_ok _ c.from_residual.result c.from_residual.ensures.0

pub returns-in_err-settle-clause-synced : goal.returns-in_err-settle-clause-synced
returns-in_err-settle-clause-synced g c = not_ok _ c.from_residual.result c.from_residual.ensures.0

pub returns-in_err-settle-clause-counts : goal.returns-in_err-settle-clause-counts
returns-in_err-settle-clause-counts g c = not_ok _ c.from_residual.result c.from_residual.ensures.0

pub returns-in_err-settle-clause-running : goal.returns-in_err-settle-clause-running
returns-in_err-settle-clause-running g c = not_ok _ c.from_residual.result c.from_residual.ensures.0

pub returns-in_err-meta-clause-home : goal.returns-in_err-meta-clause-home
returns-in_err-meta-clause-home g c = not_ok _ c.from_residual-in_err-meta.result c.from_residual-in_err-meta.ensures.0

pub returns-in_err-meta-clause-synced : goal.returns-in_err-meta-clause-synced
returns-in_err-meta-clause-synced g c = not_ok _ c.from_residual-in_err-meta.result c.from_residual-in_err-meta.ensures.0

pub returns-in_err-meta-clause-counts : goal.returns-in_err-meta-clause-counts
returns-in_err-meta-clause-counts g c = not_ok _ c.from_residual-in_err-meta.result c.from_residual-in_err-meta.ensures.0

pub returns-in_err-meta-clause-running : goal.returns-in_err-meta-clause-running
returns-in_err-meta-clause-running g c = not_ok _ c.from_residual-in_err-meta.result c.from_residual-in_err-meta.ensures.0

pub returns-in_err-pages-clause-home : goal.returns-in_err-pages-clause-home
returns-in_err-pages-clause-home g c = not_ok _ c.from_residual-in_err-pages.result c.from_residual-in_err-pages.ensures.0

pub returns-in_err-pages-clause-synced : goal.returns-in_err-pages-clause-synced
returns-in_err-pages-clause-synced g c = not_ok _ c.from_residual-in_err-pages.result c.from_residual-in_err-pages.ensures.0

pub returns-in_err-pages-clause-counts : goal.returns-in_err-pages-clause-counts
returns-in_err-pages-clause-counts g c = not_ok _ c.from_residual-in_err-pages.result c.from_residual-in_err-pages.ensures.0

pub returns-in_err-pages-clause-running : goal.returns-in_err-pages-clause-running
returns-in_err-pages-clause-running g c = not_ok _ c.from_residual-in_err-pages.result c.from_residual-in_err-pages.ensures.0
