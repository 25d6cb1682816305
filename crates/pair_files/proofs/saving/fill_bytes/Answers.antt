use Rattle.std.proofs.Common.{◌++◌, ◌∙◌, sym, length-append}
use Rattle.pair_files.proofs.BytesIn.{filled_next, page_long}
use Rattle.pair_files.proofs.saving.fill_bytes.Goals as goal

pub fill_page-requires-clause-words : goal.fill_page-requires-clause-words
fill_page-requires-clause-words g c =
    let contents = g.M.Machine.contents c.args.m.now in
    let run = g.M.Machine.run c.args.m.now in
    page_long (contents.words ++ run.scratch) c.frame.result.now c.loop-p.p c.pages-p-end.result (c.pages-p-end.ensures ∙ sym (length-append contents.words run.scratch)) c.loop-p-test.true c.frame.ensures.words

pub loop-p-preserved : goal.loop-p-preserved
loop-p-preserved g c =
    let contents = g.M.Machine.contents c.args.m.now in
    let run = g.M.Machine.run c.args.m.now in
    filled_next (contents.words ++ run.scratch) c.frame.result.now c.loop-p.bytes c.fill_page.new.bytes c.loop-p.p c.pages-p-end.result c.loop-p.invariant (c.pages-p-end.ensures ∙ sym (length-append contents.words run.scratch)) c.loop-p-test.true c.frame.ensures.words c.fill_page.ensures.count c.fill_page.ensures.before c.fill_page.ensures.page c.fill_page.ensures.fit
