use Rattle.std.proofs.Common.{length}
use Rattle.rio_model.specs.declared.state.State.{State}
use Rattle.cached_pages.specs.Caches.{CacheSound, cache_below, cache_health}
use Rattle.boots.specs.Boots.{CoreHolds}
use Rattle.boots.proofs.Answered.{Leads}
use Rattle.boots.proofs.serving.answer_all.Given as goal

abbrev pub invariant-loop-request : goal.invariant-loop-request
invariant-loop-request g l =
    let first = l.fn.core.view.v.machine in
    let now = l.core.view.v.machine in
    let contents = g.M.Machine.contents in
    let run = g.M.Machine.run in
    record {
      leads : (s : State) → CoreHolds l.fn.core.view.shape (contents first) (run first) l.fn.core.view.v.tables l.fn.core.table s → Leads (CoreHolds l.core.view.shape (contents now) (run now) l.core.view.v.tables l.core.table) s l.requests l.request-index l.answered.items (cache_health (contents first) (run first)) (cache_below (contents first) (run first)) (cache_health (contents now) (run now)) (cache_below (contents now) (run now));
      sound : CacheSound (contents now) (length (run now).scratch) l.core.view.v.tables;
    }
