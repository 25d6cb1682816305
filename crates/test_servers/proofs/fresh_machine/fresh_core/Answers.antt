use Rattle.test_servers.proofs.FreshCores.{fresh_holds}
use Rattle.test_servers.proofs.fresh_machine.fresh_core.Goals as goal

pub returns-in-Ok-clause-holds : goal.returns-in-Ok-clause-holds
returns-in-Ok-clause-holds c =
    let e = c.in_ok-cache.ensures in
    rw (c.in-Ok.ensures.cache, c.in-Ok.ensures.shape, c.in-Ok.ensures.table) (fresh_holds c.args.frames _ c.args.shape _ _ _ _ _ e.reads e.ready e.no_regions e.health e.below)
