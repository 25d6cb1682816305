use Rattle.cached_pages.proofs.Common.{◌≡◌, ◌+◌, ◌*◌, ◌<◌, ℕ, arith, slice_index, subst, OnePage}
use Rattle.std.specs.Prelude.{OnOk}
use Rattle.rio_model.proofs.CoverFills.{keeps_fill}
use Rattle.cached_pages.proofs.filling.fill.Goals as goal

pub store_page-requires-clause-page : goal.store_page-requires-clause-page
store_page-requires-clause-page g c = omega (arith, c.requires.within)

pub returns-clause-keeps : goal.returns-clause-keeps
returns-clause-keeps g c = keeps_fill _ c.args.k _ _ c.requires.coherent c.store_page.ensures.rest c.requires.invalid (subst (λ q. OnePage q (g.M.Machine.contents c.args.m.now).words (g.M.Machine.contents c.store_page.new.m).words) c.requires.page c.store_page.ensures.one_page)

pub returns-clause-filled : goal.returns-clause-filled
returns-clause-filled g c = subst (λ q. OnOk c.store_page.result ((w : ℕ) → w < 512 → slice_index (g.M.Machine.contents c.store_page.new.m).words (512 * q + w) ≡ slice_index c.args.from.now w)) c.requires.page c.store_page.ensures.filled

pub returns-clause-one_page : goal.returns-clause-one_page
returns-clause-one_page g c = subst (λ q. OnePage q (g.M.Machine.contents c.args.m.now).words (g.M.Machine.contents c.store_page.new.m).words) c.requires.page c.store_page.ensures.one_page
