use Rattle.std.proofs.Common.{◌≡◌, ◌∙◌, ap, false, length, subst, sym}
use Rattle.rio_base.specs.Disks.{is_pending}
use Rattle.rio_base.specs.Machine.{Contents}
use Rattle.rio_base.specs.Volume.{Runs}
use Rattle.rio_model.specs.Cover.{reads}
use Rattle.rio_model.specs.Registry.{gate_of}
use Rattle.rio_model.specs.Standing.{Restored, stale_block}
use Rattle.rio_model.proofs.RebootClears.{coherent_empty}
use Rattle.cached_pages.specs.Caches.{cache_below, cache_health, cache_kept, cache_seen}
use Rattle.page_restore.proofs.Steps.{image_next}
use Rattle.warm_reboot.proofs.Starts.{agrees_kept, fresh_kept, frames_kept, phase_failed, restored_on, runs_on, starts_on, survives_kept}
use Rattle.warm_reboot.specs.Boots.{Survives}
use Rattle.warm_reboot.proofs.starting.start.Goals as goal

-- ---- a cache can start

pub start-requires-clause-coherent : goal.start-requires-clause-coherent
start-requires-clause-coherent g c = coherent_empty _ _ (image_next (stale_block c.args.marks.now (g.M.Machine.contents c.args.machine).words) _ _ _ _ _ _ c.requires.image c.restore.ensures.endures c.restore.ensures.ends) c.in-Ok.ensures.empty

pub start-requires-clause-tables : goal.start-requires-clause-tables
start-requires-clause-tables g c =
    let image = image_next (stale_block c.args.marks.now (g.M.Machine.contents c.args.machine).words) _ _ _ _ _ _ c.requires.image c.restore.ensures.endures c.restore.ensures.ends in
    fresh_kept (g.M.Machine.contents c.args.machine) (g.M.Machine.contents c.restore.new.m) c.args.tables (frames_kept _ _ _ _ c.requires.image image c.restore.ensures.ends.lasts.size) c.restore.ensures.ends.lasts.blocks c.requires.tables

-- ---- after Ok

pub returns-in-Ok-clause-starts : goal.returns-in-Ok-clause-starts
returns-in-Ok-clause-starts g c = λ s are h.
    let new = g.M.Machine.contents c.restore.new.m in
    let now = g.M.Machine.contents c.start.result.machine in
    let e : now ≡ new = ap g.M.Machine.contents c.start.ensures.machine in
    let agrees = agrees_kept c.args.marks.now (g.M.Machine.contents c.args.machine) new s c.restore.ensures.endures are h in
    starts_on (g.M.Machine.contents c.args.machine) new s (cache_seen now) (cache_kept now c.start.result.tables) h agrees c.in-Ok.ensures.shut c.restore.ensures.ends.lasts.blocks c.in-Ok.ensures.synced (ap reads e) (ap (λ (x : Contents). length x.disk) e) c.start.ensures.started

pub returns-in-Ok-clause-survives : goal.returns-in-Ok-clause-survives
returns-in-Ok-clause-survives g c = λ are.
    subst (λ x. Survives (g.M.Machine.contents c.args.machine) (g.M.Machine.contents x) (length (g.M.Machine.run c.args.machine).scratch) (length (g.M.Machine.run x).scratch)) (sym c.start.ensures.machine)
    (survives_kept c.args.marks.now _ _ _ _ _ _ (λ b less. g.met.M.Machine.whole_blocks c.args.machine b less) c.restore.ensures.endures c.restore.ensures.exit c.restore.ensures.ends are)

pub returns-in-Ok-clause-restored : goal.returns-in-Ok-clause-restored
returns-in-Ok-clause-restored g c = λ l fits are.
    let e = ap g.M.Machine.contents c.start.ensures.machine in
    subst (λ (x : Contents). Restored l (g.M.Machine.contents c.args.machine).words (g.M.Machine.contents c.args.machine).disk x.disk) (sym e)
    (restored_on c.args.marks.now l _ _ _ _ _ _ _ (λ b less. g.met.M.Machine.whole_blocks c.args.machine b less) (λ b less. g.met.M.Machine.whole_blocks c.restore.new.m b less) c.requires.image c.restore.ensures.ends c.restore.ensures.endures c.in-Ok.ensures.empty c.restore.ensures.dropped fits are)

pub returns-in-Ok-clause-synced : goal.returns-in-Ok-clause-synced
returns-in-Ok-clause-synced g c = λ b. ap (λ (x : Contents). is_pending x.pending b) (ap g.M.Machine.contents c.start.ensures.machine) ∙ c.in-Ok.ensures.synced b

pub returns-in-Ok-clause-runs : goal.returns-in-Ok-clause-runs
returns-in-Ok-clause-runs g c =
    subst (λ x. Runs (cache_health (g.M.Machine.contents c.args.machine) (g.M.Machine.run c.args.machine)) (cache_below (g.M.Machine.contents c.args.machine) (g.M.Machine.run c.args.machine)) (cache_health (g.M.Machine.contents x) (g.M.Machine.run x)) (cache_below (g.M.Machine.contents x) (g.M.Machine.run x))) (sym c.start.ensures.machine)
    (runs_on (stale_block c.args.marks.now (g.M.Machine.contents c.args.machine).words) _ _ _ _ _ _ c.requires.image c.restore.ensures.endures c.restore.ensures.ends)

-- ---- after a failure

pub returns-in-Err-clause-survives : goal.returns-in-Err-clause-survives
returns-in-Err-clause-survives g c = λ are. survives_kept c.args.marks.now _ _ _ _ _ _ (λ b less. g.met.M.Machine.whole_blocks c.args.machine b less) c.restore.ensures.endures c.restore.ensures.exit c.restore.ensures.ends are

pub returns-in-Err-clause-runs : goal.returns-in-Err-clause-runs
returns-in-Err-clause-runs g c = runs_on (stale_block c.args.marks.now (g.M.Machine.contents c.args.machine).words) _ _ _ _ _ _ c.requires.image c.restore.ensures.endures c.restore.ensures.ends

-- ---- what the restored machine keeps

pub returns-in-Ok-clause-shut : goal.returns-in-Ok-clause-shut
returns-in-Ok-clause-shut g c = subst (λ m. gate_of (g.M.Machine.contents m).words ≡ 0) (sym c.start.ensures.machine) c.in-Ok.ensures.shut

pub returns-in-Ok-clause-running : goal.returns-in-Ok-clause-running
returns-in-Ok-clause-running g c = subst (λ m. (g.M.Machine.run m).stopped ≡ false) (sym c.start.ensures.machine) c.in-Ok.ensures.running

-- ---- nothing is started

pub returns-in-Err-clause-ends : goal.returns-in-Err-clause-ends
returns-in-Err-clause-ends g c = phase_failed _ _ _ _ c.in-Err.fail c.in-Err.ensures.ends
