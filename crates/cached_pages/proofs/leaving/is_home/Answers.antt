use Rattle.cached_pages.proofs.Common.{sym, arith}
use Rattle.cached_pages.proofs.Fills.{layout_now}
use Rattle.cached_pages.proofs.Nearness.{home_has}
use Rattle.cached_pages.proofs.leaving.is_home.Goals as goal

pub frame_page_of-page-requires-clause-layout : goal.frame_page_of-page-requires-clause-layout
frame_page_of-page-requires-clause-layout g c = layout_now _ _ c.requires.sound.coherent

pub returns : goal.returns
returns g c = λ same.
    let within = c.frame_page_of-page.ensures.within in
    let old = g.M.Machine.contents c.args.m.now in
    home_has c.args.k c.args.b.0 _ old _ (sym c.requires.block) c.frame_page_of-page.ensures.page (c.frame.ensures.protected (omega (arith, within))) (c.is_copy.ensures same old.disk old.pending c.requires.sound.early)
