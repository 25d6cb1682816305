use Rattle.std.proofs.Common.{Err, ◌<◌, ◌∙◌, subst, sym, ap, arith, length}
use Rattle.rio_model.specs.Registry.{tag_block}
use Rattle.rio_model.proofs.RebootSteps.{endures_written, home_written}
use Rattle.std.proofs.lemmas.Result.{err_from_is_err_and}
use Rattle.rio_base.proofs.MachineRules.{never}
use Rattle.rio_base.specs.declared.failures.DiskFail.TheVariants.{Stopped}
use Rattle.page_restore.proofs.Exits.{not_ok, phase_step}
use Rattle.page_restore.proofs.ReadEnds.{step_failed}
use Rattle.page_restore.proofs.Steps.{layout_now}
use Rattle.page_restore.proofs.writing.write_page.Goals as goal

pub returns-in_err-write_block-clause-endures : goal.returns-in_err-write_block-clause-endures
returns-in_err-write_block-clause-endures g c =
    let same = c.block-block.ensures ∙ ap tag_block c.load_tag.ensures in
    let old = g.M.Machine.contents c.args.m.now in
    endures_written _ c.block-block.result.0 c.args.k old _ c.requires.image c.write_block.ensures.writes_block c.requires.valid c.requires.dirty same (g.met.M.Machine.whole_blocks c.args.m.now _ (subst (λ b. b < length old.disk) (sym same) (c.requires.image.on_disk c.args.k c.requires.valid)))

pub returns-clause-endures : goal.returns-clause-endures
returns-clause-endures g c =
    let same = c.block-block.ensures ∙ ap tag_block c.load_tag.ensures in
    let old = g.M.Machine.contents c.args.m.now in
    endures_written _ c.block-block.result.0 c.args.k old _ c.requires.image c.write_block.ensures.writes_block c.requires.valid c.requires.dirty same (g.met.M.Machine.whole_blocks c.args.m.now _ (subst (λ b. b < length old.disk) (sym same) (c.requires.image.on_disk c.args.k c.requires.valid)))

pub returns-in_err-write_block-clause-others : goal.returns-in_err-write_block-clause-others
returns-in_err-write_block-clause-others g c = λ b ne. c.write_block.ensures.writes_block.others b (λ e. ne (e ∙ c.block-block.ensures ∙ ap tag_block c.load_tag.ensures))

pub returns-clause-others : goal.returns-clause-others
returns-clause-others g c = λ b ne. c.write_block.ensures.writes_block.others b (λ e. ne (e ∙ c.block-block.ensures ∙ ap tag_block c.load_tag.ensures))

pub returns-clause-home : goal.returns-clause-home
returns-clause-home g c =
    let old = g.M.Machine.contents c.args.m.now in
    home_written old _ c.args.k _ c.counted_page_of-page.result.0 c.write_block.ensures.writes_block.words (c.block-block.ensures ∙ ap tag_block c.load_tag.ensures) c.counted_page_of-page.ensures.page (c.in_ok-write_block.ensures.protected (omega (arith, c.counted_page_of-page.ensures.within)))

pub returns-in_err-write_block-clause-home : goal.returns-in_err-write_block-clause-home
returns-in_err-write_block-clause-home g c = not_ok _ c.from_residual.result c.from_residual.ensures.0

pub returns-in_err-write_block-clause-ends : goal.returns-in_err-write_block-clause-ends
returns-in_err-write_block-clause-ends g c =
    let p = err_from_is_err_and c.from_residual.result c.from_residual.ensures.1 in
    step_failed _ _ _ _ _ _ (p.1 ∙ ap Err p.2) c.requires.closed c.write_block.ensures.writes_block.open_page c.write_block.ensures.lasts c.in_err-write_block.ensures.fault c.in_err-write_block.ensures.ends

pub returns-clause-ends : goal.returns-clause-ends
returns-clause-ends g c = phase_step _ _ _ _ _ _ (never _ Stopped) (c.write_block.ensures.writes_block.open_page ∙ c.requires.closed) c.write_block.ensures.lasts c.in_ok-write_block.ensures.ends

pub load_tag-requires-clause-layout : goal.load_tag-requires-clause-layout
load_tag-requires-clause-layout g c = layout_now _ _ c.requires.image

pub counted_page_of-page-requires-clause-layout : goal.counted_page_of-page-requires-clause-layout
counted_page_of-page-requires-clause-layout g c = layout_now _ _ c.requires.image

pub write_block-requires-clause-block : goal.write_block-requires-clause-block
write_block-requires-clause-block g c = subst (λ b. b < length (g.M.Machine.contents c.args.m.now).disk) (sym (c.block-block.ensures ∙ ap tag_block c.load_tag.ensures)) (c.requires.image.on_disk c.args.k c.requires.valid)

pub write_block-requires-clause-from : goal.write_block-requires-clause-from
write_block-requires-clause-from g c = omega (arith, c.counted_page_of-page.ensures.within)
