use Rattle.std.proofs.Common.{◌≡◌, ◌∙◌, ◌*◌, ◌<◌, Err, ap, arith, subst, sym, length, List, ℕ}
use Rattle.std.proofs.lemmas.Result.{err_from_is_err_and}
use Rattle.rio_base.specs.Disks.{block_at}
use Rattle.rio_base.specs.Memory.{page_at}
use Rattle.rio_base.specs.Machine.{Contents}
use Rattle.rio_model.specs.Registry.{tag_at, tag_block}
use Rattle.page_restore.proofs.Exits.{not_ok}
use Rattle.page_restore.proofs.ReadEnds.{read_done, read_failed}
use Rattle.page_restore.proofs.SettleTurns.{home_read, read_home}
use Rattle.page_restore.proofs.Steps.{layout_now}
use Rattle.page_restore.proofs.settling.is_home.Goals as goal

pub returns-clause-answer : goal.returns-clause-answer
returns-clause-answer g c =
    let old = g.M.Machine.contents c.args.m.now in
    let new = g.M.Machine.contents c.read_block.new.self in
    let words = ap (λ (x : Contents). x.words) c.read_block.ensures.same in
    let p = c.counted_page_of-page.result.0 in
    let number = c.block-number.ensures ∙ ap tag_block c.load_tag.ensures in
    let within : 512 * p < length new.words = omega (arith, c.counted_page_of-page.ensures.within, ap (λ (ws : List ℕ). length ws) words) in
    let read : c.as_slice.result.now ≡ block_at old.disk (tag_block (tag_at old.words c.args.k)) = c.as_slice.ensures.value ∙ c.in_ok-read_block.ensures.words ∙ ap (block_at old.disk) number in
    let lent : c.frame.result.now ≡ page_at old.words p = c.frame.ensures.protected within ∙ ap (λ (ws : List ℕ). page_at ws p) words in (
      λ yes. home_read old c.args.k p c.counted_page_of-page.ensures.page (sym read ∙ c.are_same-home.ensures.0 yes ∙ lent),
      λ home. c.are_same-home.ensures.1 (read ∙ read_home old c.args.k p c.counted_page_of-page.ensures.page c.counted_page_of-page.ensures.within (g.met.M.Machine.whole_blocks c.args.m.now _ (c.requires.image.on_disk c.args.k c.requires.valid)) home ∙ sym lent),
    )

pub load_tag-requires-clause-layout : goal.load_tag-requires-clause-layout
load_tag-requires-clause-layout g c = layout_now _ _ c.requires.image

pub counted_page_of-page-requires-clause-layout : goal.counted_page_of-page-requires-clause-layout
counted_page_of-page-requires-clause-layout g c = layout_now _ _ c.requires.image

pub read_block-requires-clause-block : goal.read_block-requires-clause-block
read_block-requires-clause-block g c = subst (λ b. b < length (g.M.Machine.contents c.args.m.now).disk) (sym (c.block-number.ensures ∙ ap tag_block c.load_tag.ensures)) (c.requires.image.on_disk c.args.k c.requires.valid)

-- ---- a read that failed

pub returns-in_err-read_block-clause-answer : goal.returns-in_err-read_block-clause-answer
returns-in_err-read_block-clause-answer g c = not_ok _ c.from_residual.result c.from_residual.ensures.0

pub returns-in_err-read_block-clause-ends : goal.returns-in_err-read_block-clause-ends
returns-in_err-read_block-clause-ends g c =
    let p = err_from_is_err_and c.from_residual.result c.from_residual.ensures.1 in
    let h = c.in_err-read_block.ensures in
    read_failed _ _ _ _ _ _ (p.1 ∙ ap Err p.2) c.requires.closed h.same h.run h.lasts h.fault h.stopped

-- ---- one that did not

pub returns-clause-ends : goal.returns-clause-ends
returns-clause-ends g c = read_done _ _ _ _ _ c.requires.closed c.read_block.ensures.same c.read_block.ensures.run c.read_block.ensures.lasts
