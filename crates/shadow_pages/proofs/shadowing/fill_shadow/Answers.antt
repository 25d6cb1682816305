use Rattle.std.proofs.Common.{arith}
use Rattle.std.proofs.lemmas.Result.{on_ok_weaker}
use Rattle.shadow_pages.proofs.Restores.{restores_names, restores_shadows}
use Rattle.shadow_pages.proofs.Steps.{can_shadow_then, coherent_then, filled, is_copied, keeps_filled, two_pages}
use Rattle.shadow_pages.proofs.shadowing.fill_shadow.Goals as goal

pub copy_closed_page-requires-clause-two : goal.copy_closed_page-requires-clause-two
copy_closed_page-requires-clause-two g c = two_pages c.args.k c.args.s _ _ _ c.requires.can c.frame_page_of-from.ensures.page c.shadow_page_of-to.ensures.page

pub returns-clause-coherent : goal.returns-clause-coherent
returns-clause-coherent g c = coherent_then _ _ _ _ c.requires.coherent (keeps_filled c.args.k c.args.s c.frame_page_of-from.result.0 c.shadow_page_of-to.result.0 (g.M.Machine.contents c.args.m.now) (g.M.Machine.contents c.copy_closed_page.new.m) _ c.requires.coherent c.requires.can c.shadow_page_of-to.ensures.page c.copy_closed_page.ensures.front c.copy_closed_page.ensures.stores) c.copy_closed_page.ensures.ends.steps.scratch_count

pub returns-clause-keeps : goal.returns-clause-keeps
returns-clause-keeps g c = keeps_filled c.args.k c.args.s c.frame_page_of-from.result.0 c.shadow_page_of-to.result.0 (g.M.Machine.contents c.args.m.now) (g.M.Machine.contents c.copy_closed_page.new.m) _ c.requires.coherent c.requires.can c.shadow_page_of-to.ensures.page c.copy_closed_page.ensures.front c.copy_closed_page.ensures.stores

pub returns-clause-copied : goal.returns-clause-copied
returns-clause-copied g c = on_ok_weaker _ (λ whole. is_copied c.args.k c.args.s _ _ _ _ c.requires.can c.frame_page_of-from.ensures.page c.shadow_page_of-to.ensures.page (omega (arith, c.frame_page_of-from.ensures.within)) (filled c.args.k c.args.s c.frame_page_of-from.result.0 c.shadow_page_of-to.result.0 (g.M.Machine.contents c.args.m.now) (g.M.Machine.contents c.copy_closed_page.new.m) _ c.requires.coherent c.requires.can c.shadow_page_of-to.ensures.page c.copy_closed_page.ensures.front) whole) c.copy_closed_page.ensures.copied

pub returns-clause-can : goal.returns-clause-can
returns-clause-can g c = can_shadow_then c.args.k c.args.s _ _ (filled c.args.k c.args.s c.frame_page_of-from.result.0 c.shadow_page_of-to.result.0 (g.M.Machine.contents c.args.m.now) (g.M.Machine.contents c.copy_closed_page.new.m) _ c.requires.coherent c.requires.can c.shadow_page_of-to.ensures.page c.copy_closed_page.ensures.front) c.requires.can

pub returns-clause-shadows : goal.returns-clause-shadows
returns-clause-shadows g c = λ k less. restores_shadows _ _ k (filled c.args.k c.args.s c.frame_page_of-from.result.0 c.shadow_page_of-to.result.0 (g.M.Machine.contents c.args.m.now) (g.M.Machine.contents c.copy_closed_page.new.m) _ c.requires.coherent c.requires.can c.shadow_page_of-to.ensures.page c.copy_closed_page.ensures.front) less

pub returns-clause-names : goal.returns-clause-names
returns-clause-names g c = restores_names _ _ (filled c.args.k c.args.s c.frame_page_of-from.result.0 c.shadow_page_of-to.result.0 (g.M.Machine.contents c.args.m.now) (g.M.Machine.contents c.copy_closed_page.new.m) _ c.requires.coherent c.requires.can c.shadow_page_of-to.ensures.page c.copy_closed_page.ensures.front)
