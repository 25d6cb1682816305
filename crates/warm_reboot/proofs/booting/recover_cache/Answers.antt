use Rattle.std.proofs.Common.{◌≡◌, ◌∙◌, None, ap, length, subst, sym, ℕ}
use Rattle.rio_base.specs.Volume.{MemorySizes, Runs}
use Rattle.cached_pages.specs.Caches.{Tells, cache_below, cache_health, cache_kept, cache_seen}
use Rattle.warm_reboot.specs.Boots.{IsCutOff}
use Rattle.warm_reboot.proofs.Survivals.{cut_by_ends, disk_by_home, err_ends, gate_is_shut, ok_is, pending_by_home, ran_on, survives_ready}
use Rattle.warm_reboot.proofs.booting.recover_cache.Goals as goal

-- ---- after Ok

pub returns-in-Ok-clause-recovers : goal.returns-in-Ok-clause-recovers
returns-in-Ok-clause-recovers g c = ok_is c.recover_volume-cache.result.1 c.in-Ok.undone _ c.in-Ok.is c.recover_volume-cache.ensures.recovers

pub returns-in-Ok-clause-disk : goal.returns-in-Ok-clause-disk
returns-in-Ok-clause-disk g c = λ roomy. disk_by_home (g.M.Machine.contents c.args.cache.machine) (g.M.Machine.contents c.recover_volume-cache.result.0.machine) (g.met.M.Machine.whole_blocks c.args.cache.machine) (g.met.M.Machine.whole_blocks c.recover_volume-cache.result.0.machine) (c.recover_volume-cache.ensures.ready.order.has_shape.count ∙ sym c.requires.ready.order.has_shape.count) (c.recover_volume-cache.ensures.goes.quiet.home roomy)

pub returns-in-Ok-clause-pending : goal.returns-in-Ok-clause-pending
returns-in-Ok-clause-pending g c = λ roomy x. pending_by_home (g.M.Machine.contents c.args.cache.machine) (g.M.Machine.contents c.recover_volume-cache.result.0.machine) (c.recover_volume-cache.ensures.goes.quiet.home roomy) x

pub returns-in-Ok-clause-running : goal.returns-in-Ok-clause-running
returns-in-Ok-clause-running g c = ran_on (cache_health (g.M.Machine.contents c.args.cache.machine) (g.M.Machine.run c.args.cache.machine)) (cache_health (g.M.Machine.contents c.recover_volume-cache.result.0.machine) (g.M.Machine.run c.recover_volume-cache.result.0.machine)) c.recover_volume-cache.result.1 c.in-Ok.undone c.in-Ok.is c.recover_volume-cache.ensures.ends

pub returns-in-Ok-clause-shut : goal.returns-in-Ok-clause-shut
returns-in-Ok-clause-shut g c = gate_is_shut (g.M.Machine.contents c.recover_volume-cache.result.0.machine) (length (g.M.Machine.run c.recover_volume-cache.result.0.machine).scratch) c.recover_volume-cache.result.0.tables c.recover_volume-cache.ensures.sound c.recover_volume-cache.ensures.ready.idle

-- ---- after a failure

pub into_machine-requires : goal.into_machine-requires
into_machine-requires g c = record { sound = c.recover_volume-cache.ensures.sound }

pub returns-in-Err-clause-cut : goal.returns-in-Err-clause-cut
returns-in-Err-clause-cut g c =
    let e = c.recover_volume-cache.ensures in
    let last = c.recover_volume-cache.result.0 in
    let old = g.M.Machine.contents c.args.cache.machine in
    let new = g.M.Machine.contents last.machine in
    let r = g.M.Machine.run c.args.cache.machine in
    let q = g.M.Machine.run last.machine in
    let size = sym (g.met.M.Machine.protected_words last.machine) ∙ ap (λ (s : MemorySizes). s.protected) e.goes.runs.memory ∙ g.met.M.Machine.protected_words c.args.cache.machine in
    let scratch = ap (λ (s : MemorySizes). s.scratch) e.goes.runs.memory in
    let tells = subst (λ m. Tells (g.M.Machine.contents m) (g.M.Machine.run m) (cache_seen new) (cache_health new q) (cache_below new q) (cache_kept new last.tables)) c.into_machine.ensures.machine c.into_machine.ensures.tells in
    let survives = survives_ready old new r q c.args.cache.tables last.tables c.args.shape (g.met.M.Machine.whole_blocks c.args.cache.machine) (g.met.M.Machine.whole_blocks last.machine) (g.met.M.Machine.marks last.machine) size scratch e.sound tells c.requires.ready e.ready e.reads in
    subst (λ m. IsCutOff old r (g.M.Machine.contents m) (g.M.Machine.run m) c.in-Err.fail) (sym c.into_machine.ensures.machine)
    (cut_by_ends {T = ℕ} old new r q c.in-Err.fail (err_ends (cache_health old r) (cache_health new q) c.recover_volume-cache.result.1 c.in-Err.fail c.in-Err.is e.ends) survives)

pub returns-in-Err-clause-runs : goal.returns-in-Err-clause-runs
returns-in-Err-clause-runs g c = subst (λ m. Runs (cache_health (g.M.Machine.contents c.args.cache.machine) (g.M.Machine.run c.args.cache.machine)) (cache_below (g.M.Machine.contents c.args.cache.machine) (g.M.Machine.run c.args.cache.machine)) (cache_health (g.M.Machine.contents m) (g.M.Machine.run m)) (cache_below (g.M.Machine.contents m) (g.M.Machine.run m))) (sym c.into_machine.ensures.machine) c.recover_volume-cache.ensures.goes.runs

pub returns-in-Err-clause-closed : goal.returns-in-Err-clause-closed
returns-in-Err-clause-closed g c = subst (λ m. (g.M.Machine.contents m).open_page ≡ None) (sym c.into_machine.ensures.machine) c.recover_volume-cache.ensures.sound.closed
