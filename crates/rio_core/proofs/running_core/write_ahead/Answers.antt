use Rattle.file_tree.proofs.MemoSteps.{same_step}
use Rattle.cached_pages.specs.Caches.{cache_below, cache_health, cache_kept, cache_seen}
use Rattle.page_cache.specs.Settled.{cache_settled}
use Rattle.rio_core.proofs.Served.{ahead_holds, ahead_leaves, ahead_stands}
use Rattle.rio_core.proofs.running_core.write_ahead.Goals as goal

pub returns-clause-holds : goal.returns-clause-holds
returns-clause-holds g c =
    let shape = c.args.core.now.view.shape in
    let m = c.args.core.now.view.v.machine in
    let n = c.write_ahead.new.self.machine in
    let marks = c.args.core.now.table in
    let x = cache_seen (g.M.Machine.contents m) in
    let k = cache_kept (g.M.Machine.contents m) c.args.core.now.view.v.tables in
    let h = cache_health (g.M.Machine.contents m) (g.M.Machine.run m) in
    let b = cache_below (g.M.Machine.contents m) (g.M.Machine.run m) in
    let y = cache_seen (g.M.Machine.contents n) in
    let j = cache_kept (g.M.Machine.contents n) c.write_ahead.new.self.tables in
    let e = cache_health (g.M.Machine.contents n) (g.M.Machine.run n) in
    let d = cache_below (g.M.Machine.contents n) (g.M.Machine.run n) in
    let call = c.write_ahead.ensures in
    λ s holds. ahead_holds shape x k h b marks y j e d s c.write_ahead.result holds (ahead_leaves shape x k h b y j e d holds.serves.ready call.looks call.drops call.passes) call.passes.goes.runs call.ends

pub returns-clause-stands : goal.returns-clause-stands
returns-clause-stands g c =
    let shape = c.args.core.now.view.shape in
    let m = c.args.core.now.view.v.machine in
    let n = c.write_ahead.new.self.machine in
    let marks = c.args.core.now.table in
    let x = cache_seen (g.M.Machine.contents m) in
    let k = cache_kept (g.M.Machine.contents m) c.args.core.now.view.v.tables in
    let h = cache_health (g.M.Machine.contents m) (g.M.Machine.run m) in
    let b = cache_below (g.M.Machine.contents m) (g.M.Machine.run m) in
    let y = cache_seen (g.M.Machine.contents n) in
    let j = cache_kept (g.M.Machine.contents n) c.write_ahead.new.self.tables in
    let e = cache_health (g.M.Machine.contents n) (g.M.Machine.run n) in
    let d = cache_below (g.M.Machine.contents n) (g.M.Machine.run n) in
    let call = c.write_ahead.ensures in
    λ s holds. ahead_stands shape x k y j marks s c.write_ahead.result holds.serves (cache_settled _ _ _ c.requires.sound) (ahead_leaves shape x k h b y j e d holds.serves.ready call.looks call.drops call.passes)

pub invariant_of-core : goal.invariant_of-core
invariant_of-core g c = record { in_step = same_step c.args.core.now.view.shape _ _ c.args.core.now.memo c.write_ahead.ensures.looks.words c.args.core.now.in_step }
