use Rattle.std.proofs.Common.{arith}
use Rattle.std.proofs.lemmas.Result.{on_ok_weaker}
use Rattle.shadow_pages.proofs.Steps.{back_restored, back_restores, back_two}
use Rattle.shadow_pages.proofs.undoing.copy_back.Goals as goal

pub copy_closed_page-requires-clause-two : goal.copy_closed_page-requires-clause-two
copy_closed_page-requires-clause-two g c = back_two _ _ c.args.k c.args.s _ _ c.requires.coherent c.requires.has c.shadow_page_of-from.ensures.page c.frame_page_of-to.ensures.page

pub returns-clause-restores : goal.returns-clause-restores
returns-clause-restores g c = back_restores (g.M.Machine.contents c.args.m.now) (g.M.Machine.contents c.copy_closed_page.new.m) _ c.args.k c.args.s c.shadow_page_of-from.result.0 c.frame_page_of-to.result.0 c.requires.coherent c.requires.has c.shadow_page_of-from.ensures.page c.frame_page_of-to.ensures.page (omega (arith, c.shadow_page_of-from.ensures.within)) c.copy_closed_page.ensures.front

pub returns-clause-restored : goal.returns-clause-restored
returns-clause-restored g c = on_ok_weaker _ (λ whole. back_restored (g.M.Machine.contents c.args.m.now) (g.M.Machine.contents c.copy_closed_page.new.m) _ c.args.k c.args.s c.shadow_page_of-from.result.0 c.frame_page_of-to.result.0 c.requires.coherent c.requires.has c.shadow_page_of-from.ensures.page c.frame_page_of-to.ensures.page (omega (arith, c.shadow_page_of-from.ensures.within)) whole) c.copy_closed_page.ensures.copied
