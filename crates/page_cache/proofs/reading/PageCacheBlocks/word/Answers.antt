use Rattle.cached_pages.proofs.Common.{◌∙◌, ap, arith, subst, reads, found_is, true_false, sym}
use Rattle.std.proofs.Common.{◌≡◌}
use Rattle.cached_pages.proofs.Rooms.{passes_of, word_read}
use Rattle.std.proofs.lemmas.Result.{err_from_is_err_and}
use Rattle.std.specs.Prelude.{Err}
use Rattle.write_back.proofs.Exits.{not_ok}
use Rattle.page_cache.proofs.reading.PageCacheBlocks.word.Goals as goal
use Rattle.cached_pages.proofs.Rooms.{looks_keeps, caches_adds}
use Rattle.cached_pages.proofs.Common.{refl}
use Rattle.rio_base.proofs.MachineRules.{never}
use Rattle.page_cache.proofs.Failures.{ends_came, ends_handed, unsure}

pub page_of-page-requires-clause-entry : goal.page_of-page-requires-clause-entry
page_of-page-requires-clause-entry g c = (found_is _ _ _ c.in_ok-k.ensures.found).0.within

pub returns-clause-value : goal.returns-clause-value
returns-clause-value g c =
    let small = c.requires.place.word in
    let same : c.from.result ≡ c.args.w = omega (arith, c.from.ensures) in
    let old = g.M.Machine.contents c.args.self.now.machine in
    subst (λ x. c.load.result ≡ reads old c.args.b.0 x) same
    (c.load.ensures.protected (omega (arith, c.page_of-page.ensures.within, small, same)) ∙ word_read c.in_ok-k.k c.args.b.0 c.from.result c.page_of-page.result.0 old (g.M.Machine.contents c.fetch.new.m) c.fetch.ensures.keeps c.in_ok-k.ensures.found (omega (arith, small, same)) c.page_of-page.ensures.page)

pub returns-in_err-k-clause-passes : goal.returns-in_err-k-clause-passes
returns-in_err-k-clause-passes g c = passes_of c.args.b.0 (g.M.Machine.contents c.args.self.now.machine) (g.M.Machine.contents c.fetch.new.m) (g.M.Machine.run c.args.self.now.machine) (g.M.Machine.run c.fetch.new.m) c.args.self.now.tables c.fetch.new.t c.fetch.ensures.keeps c.fetch.ensures.lasts c.fetch.ensures.ends.steps c.fetch.ensures.writes c.fetch.ensures.touches c.fetch.ensures.tables

pub returns-clause-passes : goal.returns-clause-passes
returns-clause-passes g c = passes_of c.args.b.0 (g.M.Machine.contents c.args.self.now.machine) (g.M.Machine.contents c.fetch.new.m) (g.M.Machine.run c.args.self.now.machine) (g.M.Machine.run c.fetch.new.m) c.args.self.now.tables c.fetch.new.t c.fetch.ensures.keeps c.fetch.ensures.lasts c.fetch.ensures.ends.steps c.fetch.ensures.writes c.fetch.ensures.touches c.fetch.ensures.tables

pub returns-in_err-k-clause-looks : goal.returns-in_err-k-clause-looks
returns-in_err-k-clause-looks g c = looks_keeps _ _ c.fetch.ensures.keeps c.fetch.ensures.lasts

pub returns-in_err-k-clause-caches : goal.returns-in_err-k-clause-caches
returns-in_err-k-clause-caches g c = caches_adds c.args.b.0 _ (g.M.Machine.contents c.args.self.now.machine) (g.M.Machine.contents c.fetch.new.m) c.fetch.ensures.adds

pub returns-clause-looks : goal.returns-clause-looks
returns-clause-looks g c = looks_keeps _ _ c.fetch.ensures.keeps c.fetch.ensures.lasts

pub returns-clause-caches : goal.returns-clause-caches
returns-clause-caches g c = caches_adds c.args.b.0 _ (g.M.Machine.contents c.args.self.now.machine) (g.M.Machine.contents c.fetch.new.m) c.fetch.ensures.adds

pub returns-clause-sure : goal.returns-clause-sure
returns-clause-sure g c fault touched = absurd (never _ _ fault)

pub returns-in_err-k-clause-failed : goal.returns-in_err-k-clause-failed
returns-in_err-k-clause-failed g c q = c.in_err-k.ensures.failed refl

pub returns-clause-failed : goal.returns-clause-failed
returns-clause-failed g c q = absurd (true_false (sym q))

pub returns-clause-ends : goal.returns-clause-ends
returns-clause-ends g c = ends_came c.in_ok-k.k _ (g.M.Machine.contents c.args.self.now.machine) (g.M.Machine.contents c.fetch.new.m) (g.M.Machine.run c.args.self.now.machine) (g.M.Machine.run c.fetch.new.m) c.fetch.ensures.lasts c.in_ok-k.ensures.ends

pub returns-in_err-k-clause-ends : goal.returns-in_err-k-clause-ends
returns-in_err-k-clause-ends g c =
    let p = err_from_is_err_and c.from_residual.result c.from_residual.ensures.1 in
    ends_handed (g.M.Machine.contents c.args.self.now.machine) (g.M.Machine.contents c.fetch.new.m) (g.M.Machine.run c.args.self.now.machine) (g.M.Machine.run c.fetch.new.m) _ _ (p.1 ∙ ap Err p.2) c.fetch.ensures.lasts c.in_err-k.ensures.fault c.in_err-k.ensures.ends

pub returns-in_err-k-clause-value : goal.returns-in_err-k-clause-value
returns-in_err-k-clause-value g c = not_ok _ c.from_residual.result c.from_residual.ensures.0

pub returns-in_err-k-clause-used : goal.returns-in_err-k-clause-used
returns-in_err-k-clause-used g c = not_ok _ c.from_residual.result c.from_residual.ensures.0

pub returns-in_err-k-clause-sure : goal.returns-in_err-k-clause-sure
returns-in_err-k-clause-sure g c =
    let p = err_from_is_err_and c.from_residual.result c.from_residual.ensures.1 in
    unsure (g.M.Machine.contents c.args.self.now.machine).words c.args.b.0 _ c.from_residual.result (p.1 ∙ ap Err p.2) c.in_err-k.ensures.sure
