use Rattle.rio_core.proofs.Common.{refl}
use Rattle.file_tree.proofs.MemoSteps.{same_step}
use Rattle.cached_pages.specs.Caches.{cache_below, cache_health, cache_kept, cache_seen}
use Rattle.page_cache.specs.Settled.{cache_settled}
use Rattle.rio_core.proofs.Served.{fault_runs, flush_done, flush_fault, flush_faults, flush_halts, flush_leaves, flush_stops, flush_well, none_done, not_done}
use Rattle.rio_core.proofs.running_core.flush_core.Goals as goal

pub returns-in-Ok-clause-answered : goal.returns-in-Ok-clause-answered
returns-in-Ok-clause-answered g c =
    let shape = c.args.core.now.view.shape in
    let m = c.args.core.now.view.v.machine in
    let n = c.flush.new.self.machine in
    let marks = c.args.core.now.table in
    let x = cache_seen (g.M.Machine.contents m) in
    let k = cache_kept (g.M.Machine.contents m) c.args.core.now.view.v.tables in
    let h = cache_health (g.M.Machine.contents m) (g.M.Machine.run m) in
    let b = cache_below (g.M.Machine.contents m) (g.M.Machine.run m) in
    let y = cache_seen (g.M.Machine.contents n) in
    let j = cache_kept (g.M.Machine.contents n) c.flush.new.self.tables in
    let e = cache_health (g.M.Machine.contents n) (g.M.Machine.run n) in
    let d = cache_below (g.M.Machine.contents n) (g.M.Machine.run n) in
    let call = c.flush.ensures in
    λ s holds. flush_done shape x k h b marks y j e d s c.args.count holds (flush_leaves shape x k y j holds.serves.ready call.looks call.standing call.firm call.drops call.idle) call.runs c.in-Ok.ensures.ends.cause

pub returns-in-Err-Fault-clause-answered : goal.returns-in-Err-Fault-clause-answered
returns-in-Err-Fault-clause-answered g c =
    let shape = c.args.core.now.view.shape in
    let m = c.args.core.now.view.v.machine in
    let n = c.flush.new.self.machine in
    let marks = c.args.core.now.table in
    let x = cache_seen (g.M.Machine.contents m) in
    let k = cache_kept (g.M.Machine.contents m) c.args.core.now.view.v.tables in
    let h = cache_health (g.M.Machine.contents m) (g.M.Machine.run m) in
    let b = cache_below (g.M.Machine.contents m) (g.M.Machine.run m) in
    let y = cache_seen (g.M.Machine.contents n) in
    let j = cache_kept (g.M.Machine.contents n) c.flush.new.self.tables in
    let e = cache_health (g.M.Machine.contents n) (g.M.Machine.run n) in
    let d = cache_below (g.M.Machine.contents n) (g.M.Machine.run n) in
    let call = c.flush.ensures in
    λ s holds. flush_faults shape x k h b marks y j e d s c.args.count holds (flush_leaves shape x k y j holds.serves.ready call.looks call.standing call.firm call.drops call.idle) call.runs (fault_runs h e _ c.in-Err-Fault.field-0-is c.in-Err-Fault.ensures.ends)

pub returns-in-Err-Stopped-clause-answered : goal.returns-in-Err-Stopped-clause-answered
returns-in-Err-Stopped-clause-answered g c =
    let shape = c.args.core.now.view.shape in
    let m = c.args.core.now.view.v.machine in
    let n = c.flush.new.self.machine in
    let marks = c.args.core.now.table in
    let x = cache_seen (g.M.Machine.contents m) in
    let k = cache_kept (g.M.Machine.contents m) c.args.core.now.view.v.tables in
    let y = cache_seen (g.M.Machine.contents n) in
    let j = cache_kept (g.M.Machine.contents n) c.flush.new.self.tables in
    let call = c.flush.ensures in
    λ s holds. flush_stops shape x k y j marks s c.args.count holds.serves (cache_settled _ _ _ c.requires.sound) (flush_leaves shape x k y j holds.serves.ready call.looks call.standing call.firm call.drops call.idle)

pub returns-in-Ok-clause-flushed : goal.returns-in-Ok-clause-flushed
returns-in-Ok-clause-flushed g c = λ done. (_, c.in-Ok.ensures.flushed)

pub returns-in-Ok-clause-ends : goal.returns-in-Ok-clause-ends
returns-in-Ok-clause-ends g c =
    let m = c.args.core.now.view.v.machine in
    let n = c.flush.new.self.machine in
    let h = cache_health (g.M.Machine.contents m) (g.M.Machine.run m) in
    let e = cache_health (g.M.Machine.contents n) (g.M.Machine.run n) in
    flush_well h e _ c.in-Ok.ensures.ends

pub returns-in-Err-Fault-clause-flushed : goal.returns-in-Err-Fault-clause-flushed
returns-in-Err-Fault-clause-flushed g c = λ done. absurd (not_done _ 0 refl done)

pub returns-in-Err-Fault-clause-ends : goal.returns-in-Err-Fault-clause-ends
returns-in-Err-Fault-clause-ends g c =
    let m = c.args.core.now.view.v.machine in
    let n = c.flush.new.self.machine in
    let h = cache_health (g.M.Machine.contents m) (g.M.Machine.run m) in
    let e = cache_health (g.M.Machine.contents n) (g.M.Machine.run n) in
    flush_fault h e _ c.in-Err-Fault.field-0-is c.in-Err-Fault.ensures.ends

pub returns-in-Err-Stopped-clause-flushed : goal.returns-in-Err-Stopped-clause-flushed
returns-in-Err-Stopped-clause-flushed g c = λ done. absurd (none_done _ _ refl done)

pub returns-in-Err-Stopped-clause-ends : goal.returns-in-Err-Stopped-clause-ends
returns-in-Err-Stopped-clause-ends g c =
    let m = c.args.core.now.view.v.machine in
    let n = c.flush.new.self.machine in
    let h = cache_health (g.M.Machine.contents m) (g.M.Machine.run m) in
    let e = cache_health (g.M.Machine.contents n) (g.M.Machine.run n) in
    flush_halts h e _ _ c.in-Err-Stopped.field-0-is c.in-Err-Stopped.ensures.ends

pub invariant_of-core : goal.invariant_of-core
invariant_of-core g c = record { in_step = same_step c.args.core.now.view.shape _ _ c.args.core.now.memo c.flush.ensures.looks.words c.args.core.now.in_step }
