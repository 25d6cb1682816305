use Rattle.rio_model.specs.declared.state.State.{State}
use Rattle.cached_pages.specs.Caches.{cache_below, cache_health, cache_kept, cache_seen}
use Rattle.rio_core.specs.Serving.{Holds}
use Rattle.reboot_sessions.proofs.Cores.{booted_holds, carried}
use Rattle.reboot_sessions.proofs.machines.core_of.Goals as goal

pub returns-in-Ok-new-clause-holds : goal.returns-in-Ok-new-clause-holds
returns-in-Ok-new-clause-holds g c =
    let boot = c.in-Ok.ensures in
    let made = c.in-Ok-new.ensures in
    let core = c.in-Ok-new.core in
    carried core.view.shape c.in-Ok.report.shape core.view.v c.in-Ok.cache core.table _ made.shape made.cache made.table (λ shape v table. (s : State) × Holds shape (cache_seen (g.M.Machine.contents v.machine)) (cache_kept (g.M.Machine.contents v.machine) v.tables) (cache_health (g.M.Machine.contents v.machine) (g.M.Machine.run v.machine)) (cache_below (g.M.Machine.contents v.machine) (g.M.Machine.run v.machine)) table s)
    (booted_holds (g.M.Machine.contents c.args.machine) (g.M.Machine.contents c.in-Ok.cache.machine) (g.M.Machine.run c.in-Ok.cache.machine) c.in-Ok.cache.tables boot.state.0 c.in-Ok.report boot.sound (g.met.M.Machine.protected_words c.in-Ok.cache.machine) boot.running (boot.booted boot.state.0 boot.state.1))
