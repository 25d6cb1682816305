use Rattle.std.proofs.Common.{◌∙◌, ap, arith, length, List, sym, ℕ}
use Rattle.rio_model.specs.CoverLookups.{found_is}
use Rattle.registry.proofs.Views.{entry_run, hand_held, home_run, mark_read, mark_some, page_count}
use Rattle.registry.proofs.cover_view.CoverView.words_of.Goals as goal

pub returns-then-mark-eq0-clause-words : goal.returns-then-mark-eq0-clause-words
returns-then-mark-eq0-clause-words g c =
    let mark = mark_read _ _ c.args.b.0 _ _ c.requires.sound.table c.requires.block c.index-mark.ensures in
    home_run (g.M.Machine.contents c.args.self.now.machine) c.args.b.0 _ _ mark c.if-mark-eq0.true (c.as_slice.ensures.value ∙ c.requires.sound.reading c.args.b.0 (sym (hand_held _ _ c.args.b.0 _ mark c.if-mark-eq0.true) ∙ c.requires.hand))

pub counted_page_of-page-requires-clause-valid : goal.counted_page_of-page-requires-clause-valid
counted_page_of-page-requires-clause-valid g c =
    let mark = mark_read _ _ c.args.b.0 _ _ c.requires.sound.table c.requires.block c.index-mark.ensures in
    (found_is _ c.args.b.0 _ (mark_some _ _ mark c.if-mark-eq0.false)).0

pub returns-clause-words : goal.returns-clause-words
returns-clause-words g c =
    let mark = mark_read _ _ c.args.b.0 _ _ c.requires.sound.table c.requires.block c.index-mark.ensures in
    entry_run (g.M.Machine.contents c.args.self.now.machine) c.args.b.0 _ _ _ mark c.if-mark-eq0.false c.counted_page_of-page.ensures.page (c.frame.ensures.protected (omega (arith, c.counted_page_of-page.ensures.within)))

pub returns-clause-len : goal.returns-clause-len
returns-clause-len g c = ap (λ (xs : List ℕ). length xs) (c.frame.ensures.protected (omega (arith, c.counted_page_of-page.ensures.within))) ∙ page_count (g.M.Machine.contents c.args.self.now.machine).words c.counted_page_of-page.result.0 c.counted_page_of-page.ensures.within
