use Rattle.cached_pages.proofs.Common.{◌∙◌, ap, arith}
use Rattle.std.proofs.Common.{length, ℕ, List}
use Rattle.cached_pages.proofs.Frames.{page_count, page_run}
use Rattle.cached_pages.proofs.Rooms.{some_bound}
use Rattle.page_cache.proofs.reading.PageCacheBlocks.page.Goals as goal

pub returns-clause-words : goal.returns-clause-words
returns-clause-words g c = page_run c.in_ok-k.k c.args.b.0 c.page_of-page.result.0 (g.M.Machine.contents c.args.self.now.machine) c.frame.result.now (some_bound c.args.b.0 c.in_ok-k.k _ _ _ c.requires.sound c.in_ok-k.ensures.some.0 c.in_ok-k.ensures.some.1) c.page_of-page.ensures.page (c.frame.ensures.protected (omega (arith, c.page_of-page.ensures.within)))

pub returns-clause-len : goal.returns-clause-len
returns-clause-len g c = ap (λ (xs : List ℕ). length xs) (c.frame.ensures.protected (omega (arith, c.page_of-page.ensures.within))) ∙ page_count (g.M.Machine.contents c.args.self.now.machine).words c.page_of-page.result.0 c.page_of-page.ensures.within
