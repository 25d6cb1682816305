use Rattle.std.proofs.Common.{◌<◌, ◌∙◌, subst, sym, ap, arith, length}
use Rattle.rio_model.specs.Registry.{tag_block}
use Rattle.rio_model.proofs.CoverSteps.{keeps_write}
use Rattle.write_back.proofs.Steps.{frame_begins, on_disk, stays_pending, stays_on_disk, layout_now}
use Rattle.write_back.proofs.Exits.{disk_ends, disk_fault, not_ok, step_well}
use Rattle.std.proofs.lemmas.Result.{err_from_is_err_and}
use Rattle.std.specs.Prelude.{Err}
use Rattle.rio_base.proofs.MachineRules.{never}
use Rattle.rio_base.specs.declared.failures.DiskFail.TheVariants.{Stopped as DiskStopped}
use Rattle.rio_base.specs.declared.failures.VolFail.TheVariants.{Stopped}
use Rattle.write_back.proofs.cleaning.write_entry.Goals as goal

pub write_block-requires-clause-block : goal.write_block-requires-clause-block
write_block-requires-clause-block g c =
    subst (λ b. b < length (g.M.Machine.contents c.args.m.now).disk) (sym (c.block-block.ensures ∙ ap tag_block c.load_tag.ensures)) ((c.requires.coherent.entries c.args.k).on_disk c.requires.valid)

pub write_block-requires-clause-from : goal.write_block-requires-clause-from
write_block-requires-clause-from g c = frame_begins _ _ c.args.k _ _ c.requires.coherent c.requires.valid.within c.requires.page

pub returns-in_err-write_block-clause-keeps : goal.returns-in_err-write_block-clause-keeps
returns-in_err-write_block-clause-keeps g c = keeps_write _ _ c.args.k _ _ c.requires.coherent c.write_block.ensures.writes_block c.requires.valid (sym (c.block-block.ensures ∙ ap tag_block c.load_tag.ensures)) c.requires.dirty

pub returns-clause-keeps : goal.returns-clause-keeps
returns-clause-keeps g c = keeps_write _ _ c.args.k _ _ c.requires.coherent c.write_block.ensures.writes_block c.requires.valid (sym (c.block-block.ensures ∙ ap tag_block c.load_tag.ensures)) c.requires.dirty

pub returns-clause-written : goal.returns-clause-written
returns-clause-written g c =
    let begins = frame_begins (g.M.Machine.contents c.args.m.now) _ c.args.k c.args.page.0 0 c.requires.coherent c.requires.valid.within c.requires.page in
    on_disk (g.M.Machine.contents c.args.m.now) _ c.args.k _ _ c.write_block.ensures.writes_block.words (c.block-block.ensures ∙ ap tag_block c.load_tag.ensures) c.requires.page (c.in_ok-write_block.ensures.protected (omega (arith, begins)))

pub returns-in_err-write_block-clause-pends : goal.returns-in_err-write_block-clause-pends
returns-in_err-write_block-clause-pends g c = stays_pending (g.M.Machine.run c.args.m.now).stopped _ (g.M.Machine.contents c.args.m.now) (g.M.Machine.contents c.write_block.new.self) c.write_block.ensures.pending c.write_block.ensures.frozen

pub returns-clause-pends : goal.returns-clause-pends
returns-clause-pends g c = stays_pending (g.M.Machine.run c.args.m.now).stopped _ (g.M.Machine.contents c.args.m.now) (g.M.Machine.contents c.write_block.new.self) c.write_block.ensures.pending c.write_block.ensures.frozen

pub returns-in_err-write_block-clause-others : goal.returns-in_err-write_block-clause-others
returns-in_err-write_block-clause-others g c = λ j v ne d. stays_on_disk _ _ _ c.args.k j _ c.requires.coherent c.write_block.ensures.writes_block c.requires.valid (c.block-block.ensures ∙ ap tag_block c.load_tag.ensures) v ne d

pub returns-in_err-write_block-clause-blocks : goal.returns-in_err-write_block-clause-blocks
returns-in_err-write_block-clause-blocks g c = λ b ne. c.write_block.ensures.writes_block.others b (λ e. ne (e ∙ (c.block-block.ensures ∙ ap tag_block c.load_tag.ensures)))

pub returns-in_err-write_block-clause-marks : goal.returns-in_err-write_block-clause-marks
returns-in_err-write_block-clause-marks g c = λ b ne. c.write_block.ensures.writes_block.marks b (λ e. ne (e ∙ (c.block-block.ensures ∙ ap tag_block c.load_tag.ensures)))

pub returns-in_err-write_block-clause-closed : goal.returns-in_err-write_block-clause-closed
returns-in_err-write_block-clause-closed g c = c.write_block.ensures.writes_block.open_page ∙ c.requires.closed

pub returns-in_err-write_block-clause-written : goal.returns-in_err-write_block-clause-written
returns-in_err-write_block-clause-written g c = not_ok _ c.from_residual.result c.from_residual.ensures.0

pub returns-in_err-write_block-clause-counted : goal.returns-in_err-write_block-clause-counted
returns-in_err-write_block-clause-counted g c = not_ok _ c.from_residual.result c.from_residual.ensures.0

pub returns-clause-others : goal.returns-clause-others
returns-clause-others g c = λ j v ne d. stays_on_disk _ _ _ c.args.k j _ c.requires.coherent c.write_block.ensures.writes_block c.requires.valid (c.block-block.ensures ∙ ap tag_block c.load_tag.ensures) v ne d

pub returns-clause-blocks : goal.returns-clause-blocks
returns-clause-blocks g c = λ b ne. c.write_block.ensures.writes_block.others b (λ e. ne (e ∙ (c.block-block.ensures ∙ ap tag_block c.load_tag.ensures)))

pub returns-clause-marks : goal.returns-clause-marks
returns-clause-marks g c = λ b ne. c.write_block.ensures.writes_block.marks b (λ e. ne (e ∙ (c.block-block.ensures ∙ ap tag_block c.load_tag.ensures)))

pub returns-clause-closed : goal.returns-clause-closed
returns-clause-closed g c = c.write_block.ensures.writes_block.open_page ∙ c.requires.closed

pub returns-clause-fault : goal.returns-clause-fault
returns-clause-fault g c = λ q. absurd (never _ _ q)

pub returns-clause-ends : goal.returns-clause-ends
returns-clause-ends g c = step_well _ _ _ _ (never _ DiskStopped) (never _ Stopped) c.in_ok-write_block.ensures.ends

pub returns-in_err-write_block-clause-fault : goal.returns-in_err-write_block-clause-fault
returns-in_err-write_block-clause-fault g c =
    let p = err_from_is_err_and c.from_residual.result c.from_residual.ensures.1 in
    disk_fault _ _ _ (p.1 ∙ ap Err p.2) c.in_err-write_block.ensures.fault

pub returns-in_err-write_block-clause-ends : goal.returns-in_err-write_block-clause-ends
returns-in_err-write_block-clause-ends g c =
    let p = err_from_is_err_and c.from_residual.result c.from_residual.ensures.1 in
    disk_ends _ _ _ _ (p.1 ∙ ap Err p.2) c.in_err-write_block.ensures.ends

pub load_tag-requires-clause-layout : goal.load_tag-requires-clause-layout
load_tag-requires-clause-layout g c = layout_now _ _ c.requires.coherent

pub returns-clause-counted : goal.returns-clause-counted
returns-clause-counted g c = (c.in_ok-write_block.ensures.made (λ q. cc)).0
