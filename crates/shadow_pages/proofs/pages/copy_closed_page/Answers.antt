use Rattle.std.proofs.Common.{ap, arith, length, List, ℕ, Some}
use Rattle.rio_base.specs.Machine.{Contents}
use Rattle.shadow_pages.proofs.ClosedPages.{closed_ends, closed_stores, copied_all, copied_front, words_before}
use Rattle.shadow_pages.proofs.pages.copy_closed_page.Goals as goal

pub copy_page-copied-requires-clause-from : goal.copy_page-copied-requires-clause-from
copy_page-copied-requires-clause-from g c = omega (arith, c.requires.from, ap (λ (xs : List ℕ). length xs) (words_before _ (g.M.Machine.contents c.args.m.now) _ c.open_page.ensures.contents))

pub copy_page-copied-requires-clause-to : goal.copy_page-copied-requires-clause-to
copy_page-copied-requires-clause-to g c = ap (λ (x : Contents). x.open_page) c.open_page.ensures.contents

pub returns-clause-copied : goal.returns-clause-copied
returns-clause-copied g c = copied_all c.copy_page-copied.result c.args.from.0 c.args.to.0 (Some c.args.to.0) (g.M.Machine.contents c.args.m.now) _ _ _ (record { opened = c.open_page.ensures.contents; stored = c.copy_page-copied.ensures.rest; closed = c.close_page.ensures.contents }) c.copy_page-copied.ensures.copied

pub returns-clause-front : goal.returns-clause-front
returns-clause-front g c = copied_front c.copy_page-copied.result c.args.from.0 c.args.to.0 (Some c.args.to.0) (g.M.Machine.contents c.args.m.now) _ _ _ _ _ (record { opened = c.open_page.ensures.contents; stored = c.copy_page-copied.ensures.rest; closed = c.close_page.ensures.contents }) c.copy_page-copied.ensures.copied c.copy_page-copied.ensures.front

pub returns-clause-stores : goal.returns-clause-stores
returns-clause-stores g c = closed_stores (Some c.args.to.0) _ _ _ _ c.requires.closed (record { opened = c.open_page.ensures.contents; stored = c.copy_page-copied.ensures.rest; closed = c.close_page.ensures.contents }) c.copy_page-copied.ensures.lasts

pub returns-clause-ends : goal.returns-clause-ends
returns-clause-ends g c = closed_ends _ _ _ _ _ c.open_page.ensures.run c.close_page.ensures.run c.copy_page-copied.ensures.ends
