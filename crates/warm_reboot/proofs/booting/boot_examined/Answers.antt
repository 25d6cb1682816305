use Rattle.std.proofs.Common.{◌∙◌, Bool, List, ap, length, subst, sym, ℕ}
use Rattle.rio_base.specs.Rules.{runs_trans}
use Rattle.rio_base.specs.declared.places.Ino.{Ino}
use Rattle.rio_model.specs.Cover.{stands}
use Rattle.rio_model.specs.Placed.{volume_layout}
use Rattle.rio_model.specs.Standing.{Restored}
use Rattle.cached_pages.specs.Caches.{cache_kept, cache_seen}
use Rattle.page_restore.specs.Stale.{MarksStale}
use Rattle.region_recovery.specs.RegionLists.{ino_numbers}
use Rattle.warm_reboot.proofs.Outcomes.{booted_by, entries_found, marked_found, reads_found, ready_found, regions_found}
use Rattle.warm_reboot.proofs.Survivals.{cut_by, cut_later, ran_before}
use Rattle.warm_reboot.proofs.booting.boot_examined.Goals as goal

pub start-requires-clause-marks : goal.start-requires-clause-marks
start-requires-clause-marks g c = ap (λ (xs : List Bool). length xs) c.deref.ensures.value ∙ c.requires.marks.count

pub start-requires-clause-of_data : goal.start-requires-clause-of_data
start-requires-clause-of_data g c =
    let marks = subst (λ (xs : List Bool). MarksStale (volume_layout c.args.examined.now.census.shape (stands (g.M.Machine.contents c.args.machine))) (g.M.Machine.contents c.args.machine).words xs) (sym c.deref.ensures.value) c.requires.marks in λ k e.
    ((marks.each k).stale e).of_data

-- ---- the regions can be recovered

pub recover_cache-requires-clause-ready : goal.recover_cache-requires-clause-ready
recover_cache-requires-clause-ready g c =
    let marks = subst (λ (xs : List Bool). MarksStale (volume_layout c.args.examined.now.census.shape (stands (g.M.Machine.contents c.args.machine))) (g.M.Machine.contents c.args.machine).words xs) (sym c.deref.ensures.value) c.requires.marks in
    ready_found (g.M.Machine.contents c.args.machine) c.args.examined.now.census c.deref.result.now (cache_seen (g.M.Machine.contents c.in-Ok.cache.machine)) (cache_kept (g.M.Machine.contents c.in-Ok.cache.machine) c.in-Ok.cache.tables) c.requires.examined marks c.in-Ok.ensures.starts

pub recover_cache-requires-clause-reads : goal.recover_cache-requires-clause-reads
recover_cache-requires-clause-reads g c =
    let marks = subst (λ (xs : List Bool). MarksStale (volume_layout c.args.examined.now.census.shape (stands (g.M.Machine.contents c.args.machine))) (g.M.Machine.contents c.args.machine).words xs) (sym c.deref.ensures.value) c.requires.marks in
    reads_found (g.M.Machine.contents c.args.machine) c.args.examined.now.census c.deref.result.now (cache_seen (g.M.Machine.contents c.in-Ok.cache.machine)) (cache_kept (g.M.Machine.contents c.in-Ok.cache.machine) c.in-Ok.cache.tables) c.requires.examined marks c.in-Ok.ensures.starts

pub recover_cache-requires-clause-regions : goal.recover_cache-requires-clause-regions
recover_cache-requires-clause-regions g c =
    let marks = subst (λ (xs : List Bool). MarksStale (volume_layout c.args.examined.now.census.shape (stands (g.M.Machine.contents c.args.machine))) (g.M.Machine.contents c.args.machine).words xs) (sym c.deref.ensures.value) c.requires.marks in
    ap (λ (xs : List Ino). ino_numbers xs) c.deref-in-Ok.ensures.value ∙ regions_found (g.M.Machine.contents c.args.machine) c.args.examined.now.census c.deref.result.now (cache_seen (g.M.Machine.contents c.in-Ok.cache.machine)) (cache_kept (g.M.Machine.contents c.in-Ok.cache.machine) c.in-Ok.cache.tables) (ino_numbers c.args.examined.now.regions.items) c.requires.examined marks c.in-Ok.ensures.starts c.requires.regions

-- ---- after Ok

pub returns-in-Ok-recover_cache-clause-booted : goal.returns-in-Ok-recover_cache-clause-booted
returns-in-Ok-recover_cache-clause-booted g c = λ s h.
    let marks = subst (λ (xs : List Bool). MarksStale (volume_layout c.args.examined.now.census.shape (stands (g.M.Machine.contents c.args.machine))) (g.M.Machine.contents c.args.machine).words xs) (sym c.deref.ensures.value) c.requires.marks in
    booted_by (g.M.Machine.contents c.args.machine) s c.args.examined.now.census c.deref.result.now c.in-Ok.counts (cache_seen (g.M.Machine.contents c.in-Ok.cache.machine)) (cache_seen (g.M.Machine.contents c.in-Ok-recover_cache.cache.machine)) (cache_kept (g.M.Machine.contents c.in-Ok.cache.machine) c.in-Ok.cache.tables) (cache_kept (g.M.Machine.contents c.in-Ok-recover_cache.cache.machine) c.in-Ok-recover_cache.cache.tables) c.in-Ok-recover_cache.undone c.requires.examined h marks (λ m. c.in-Ok.ensures.starts s m h) c.in-Ok-recover_cache.ensures.recovers c.in-Ok.ensures.counts

pub returns-in-Ok-recover_cache-clause-restored : goal.returns-in-Ok-recover_cache-clause-restored
returns-in-Ok-recover_cache-clause-restored g c = λ roomy.
    let marks = subst (λ (xs : List Bool). MarksStale (volume_layout c.args.examined.now.census.shape (stands (g.M.Machine.contents c.args.machine))) (g.M.Machine.contents c.args.machine).words xs) (sym c.deref.ensures.value) c.requires.marks in
    let l = volume_layout c.args.examined.now.census.shape (stands (g.M.Machine.contents c.args.machine)) in
    subst (λ (d : List (List ℕ)). Restored l (g.M.Machine.contents c.args.machine).words (g.M.Machine.contents c.args.machine).disk d) (sym (c.in-Ok-recover_cache.ensures.disk (c.in-Ok.ensures.runs.roomy ∙ roomy)))
    (c.in-Ok.ensures.restored l (entries_found (g.M.Machine.contents c.args.machine) c.args.examined.now.census c.requires.examined) marks)

pub returns-in-Ok-recover_cache-clause-synced : goal.returns-in-Ok-recover_cache-clause-synced
returns-in-Ok-recover_cache-clause-synced g c = λ roomy x. c.in-Ok-recover_cache.ensures.pending (c.in-Ok.ensures.runs.roomy ∙ roomy) x ∙ c.in-Ok.ensures.synced x

pub returns-in-Ok-recover_cache-clause-running : goal.returns-in-Ok-recover_cache-clause-running
returns-in-Ok-recover_cache-clause-running g c = c.in-Ok-recover_cache.ensures.running ∙ c.in-Ok.ensures.running

pub returns-in-Ok-recover_cache-clause-runs : goal.returns-in-Ok-recover_cache-clause-runs
returns-in-Ok-recover_cache-clause-runs g c = runs_trans _ _ _ _ _ _ c.in-Ok.ensures.runs c.in-Ok-recover_cache.ensures.runs

-- ---- cut off

pub returns-in-Ok-clause-cut : goal.returns-in-Ok-clause-cut
returns-in-Ok-clause-cut g c =
    let marks = subst (λ (xs : List Bool). MarksStale (volume_layout c.args.examined.now.census.shape (stands (g.M.Machine.contents c.args.machine))) (g.M.Machine.contents c.args.machine).words xs) (sym c.deref.ensures.value) c.requires.marks in (
      c.in-Err-recover_cache.fail,
      c.from.ensures,
      cut_later (g.M.Machine.contents c.args.machine) (g.M.Machine.contents c.in-Ok.cache.machine) (g.M.Machine.contents c.in-Err-recover_cache.machine) (g.M.Machine.run c.args.machine) (g.M.Machine.run c.in-Ok.cache.machine) (g.M.Machine.run c.in-Err-recover_cache.machine) c.in-Err-recover_cache.fail c.in-Ok.ensures.runs.later (ran_before (g.M.Machine.run c.args.machine).stopped (g.M.Machine.run c.in-Ok.cache.machine).stopped c.in-Ok.ensures.runs.stays c.in-Ok.ensures.running) (c.in-Ok.ensures.survives (marked_found (g.M.Machine.contents c.args.machine) (length (g.M.Machine.run c.args.machine).scratch) c.args.examined.now.census c.deref.result.now (g.met.M.Machine.whole_blocks c.args.machine) c.requires.examined marks)) c.in-Err-recover_cache.ensures.cut,
    )

pub returns-in-Ok-clause-runs : goal.returns-in-Ok-clause-runs
returns-in-Ok-clause-runs g c = runs_trans _ _ _ _ _ _ c.in-Ok.ensures.runs c.in-Err-recover_cache.ensures.runs

pub returns-clause-cut : goal.returns-clause-cut
returns-clause-cut g c =
    let marks = subst (λ (xs : List Bool). MarksStale (volume_layout c.args.examined.now.census.shape (stands (g.M.Machine.contents c.args.machine))) (g.M.Machine.contents c.args.machine).words xs) (sym c.deref.ensures.value) c.requires.marks in (
      c.in-Err.fail,
      c.from-in-Err.ensures,
      cut_by (g.M.Machine.contents c.args.machine) (g.M.Machine.contents c.in-Err.machine) (g.M.Machine.run c.args.machine) (g.M.Machine.run c.in-Err.machine) c.in-Err.fail c.in-Err.ensures.ends.cause c.in-Err.ensures.ends.ends.told c.in-Err.ensures.ends.ends.runs (c.in-Err.ensures.survives (marked_found (g.M.Machine.contents c.args.machine) (length (g.M.Machine.run c.args.machine).scratch) c.args.examined.now.census c.deref.result.now (g.met.M.Machine.whole_blocks c.args.machine) c.requires.examined marks)),
    )
