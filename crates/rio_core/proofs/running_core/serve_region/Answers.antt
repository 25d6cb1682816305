use Rattle.rio_core.proofs.Common.{crashed, Stands}
use Rattle.rio_base.specs.Rules.{goes_trans}
use Rattle.rio_base.proofs.Rules.{ends_by_after}
use Rattle.cached_pages.specs.Caches.{cache_below, cache_health, cache_kept, cache_seen}
use Rattle.rio_core.proofs.Served.{ahead_answers, answering}
use Rattle.rio_core.proofs.running_core.serve_region.Goals as goal

pub returns-clause-answered : goal.returns-clause-answered
returns-clause-answered g c =
    let mid = c.write_ahead.new.core in
    let n = c.answer_region.new.view.v in
    let x = cache_seen (g.M.Machine.contents mid.view.v.machine) in
    let k = cache_kept (g.M.Machine.contents mid.view.v.machine) mid.view.v.tables in
    let h = cache_health (g.M.Machine.contents mid.view.v.machine) (g.M.Machine.run mid.view.v.machine) in
    let b = cache_below (g.M.Machine.contents mid.view.v.machine) (g.M.Machine.run mid.view.v.machine) in
    let y = cache_seen (g.M.Machine.contents n.machine) in
    let j = cache_kept (g.M.Machine.contents n.machine) n.tables in
    let e = cache_health (g.M.Machine.contents n.machine) (g.M.Machine.run n.machine) in
    let d = cache_below (g.M.Machine.contents n.machine) (g.M.Machine.run n.machine) in
    let call = c.answer_region.ensures in
    λ s before.
    let holds = c.in_ok-write_ahead.ensures.holds s before in
    answering mid.view.shape x k h b mid.table c.answer_region.new.view.shape y j e d c.answer_region.new.table s c.args.request.now c.answer_region.result call.shape holds (call.answered s holds.serves) call.goes call.ends

pub returns-clause-goes : goal.returns-clause-goes
returns-clause-goes g c = goes_trans _ _ _ _ _ _ c.write_ahead.ensures.goes c.answer_region.ensures.goes

pub returns-clause-ends : goal.returns-clause-ends
returns-clause-ends g c = ends_by_after _ _ _ _ _ c.write_ahead.ensures.ends.later c.in_ok-write_ahead.ensures.ends.cause c.answer_region.ensures.ends

pub answer_region-requires-clause-serves : goal.answer_region-requires-clause-serves
answer_region-requires-clause-serves g c = (c.requires.holds.0, (c.in_ok-write_ahead.ensures.holds c.requires.holds.0 c.requires.holds.1).serves)

pub returns-in_err-write_ahead-clause-answered : goal.returns-in_err-write_ahead-clause-answered
returns-in_err-write_ahead-clause-answered g c =
    let n = c.write_ahead.new.core in
    let y = cache_seen (g.M.Machine.contents n.view.v.machine) in
    let j = cache_kept (g.M.Machine.contents n.view.v.machine) n.view.v.tables in
    λ s holds. ahead_answers _ (λ u. Stands n.view.shape y j (crashed u)) s c.args.request.now c.from_residual.result c.from_residual.ensures.0 (c.in_err-write_ahead.ensures.stands s holds)

pub answer_region-requires-clause-in_step : goal.answer_region-requires-clause-in_step
answer_region-requires-clause-in_step g c = c.write_ahead.new.core.in_step
