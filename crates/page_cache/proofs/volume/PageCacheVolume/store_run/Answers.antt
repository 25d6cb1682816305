use Rattle.cached_pages.proofs.Common.{Stopped, ◌∙◌, ap, arith, lasts_trans, steps_trans, true_false, ◌==◌}
use Rattle.std.proofs.Common.{Err, inl, length, refl, sym}
use Rattle.rio_base.proofs.VolumeRuns.{put_none}
use Rattle.cached_pages.specs.declared.tables.CacheTables.{CacheTables}
use Rattle.cached_pages.proofs.Goes.{ends_both, ends_fault, ends_stopped, goes_few}
use Rattle.cached_pages.proofs.StoreCalls.{named_put, stored_put}
use Rattle.cached_pages.proofs.Settling.{run_front, run_then, same_run, settles, settles_kept, some_length}
use Rattle.page_cache.proofs.Failures.{ends_halted, ends_still, none_there, run_none}
use Rattle.page_cache.proofs.volume.PageCacheVolume.store_run.Goals as goal
use Rattle.cached_pages.proofs.Stills.{few_then, few_still, still_refl}
use Rattle.cached_pages.proofs.Uses.{leaves_then, order_same, stay_found, used_then, leaves_refl}
use Rattle.cached_pages.proofs.DirtyMarks.{marks_any, marks_trans}
use Rattle.cached_pages.proofs.FailedUses.{failed_used}
use Rattle.cached_pages.proofs.Uses.{stay_trans}
use Rattle.cached_pages.proofs.Common.{Some}
use Rattle.cached_pages.proofs.DirtyMarks.{marks_refl}
use Rattle.cached_pages.proofs.Uses.{stay_hit}
use Rattle.rio_base.proofs.MachineRules.{never, lasts_refl, steps_refl}

pub returns-in-Err-Fault-clause-front : goal.returns-in-Err-Fault-clause-front
returns-in-Err-Fault-clause-front g c = run_front c.args.b.0 c.args.w (length c.args.from.now) c.args.from.now (g.M.Machine.contents c.args.self.now.machine) (g.M.Machine.contents c.ready.new.m) c.ready.ensures.keeps

pub returns-in-Err-Fault-clause-standing : goal.returns-in-Err-Fault-clause-standing
returns-in-Err-Fault-clause-standing g c = (settles_kept c.args.b.0 (g.M.Machine.contents c.args.self.now.machine) (g.M.Machine.contents c.ready.new.m) (g.M.Machine.run c.args.self.now.machine) (g.M.Machine.run c.ready.new.m) c.args.self.now.tables c.ready.new.t c.requires.idle c.ready.ensures.keeps c.ready.ensures.tables.forgotten c.ready.ensures.lasts c.ready.ensures.ends.steps c.ready.ensures.writes).standing

pub returns-in-Err-Fault-clause-firm : goal.returns-in-Err-Fault-clause-firm
returns-in-Err-Fault-clause-firm g c = (settles_kept c.args.b.0 (g.M.Machine.contents c.args.self.now.machine) (g.M.Machine.contents c.ready.new.m) (g.M.Machine.run c.args.self.now.machine) (g.M.Machine.run c.ready.new.m) c.args.self.now.tables c.ready.new.t c.requires.idle c.ready.ensures.keeps c.ready.ensures.tables.forgotten c.ready.ensures.lasts c.ready.ensures.ends.steps c.ready.ensures.writes).firm

pub returns-in-Err-Fault-clause-goes : goal.returns-in-Err-Fault-clause-goes
returns-in-Err-Fault-clause-goes g c = (settles_kept c.args.b.0 (g.M.Machine.contents c.args.self.now.machine) (g.M.Machine.contents c.ready.new.m) (g.M.Machine.run c.args.self.now.machine) (g.M.Machine.run c.ready.new.m) c.args.self.now.tables c.ready.new.t c.requires.idle c.ready.ensures.keeps c.ready.ensures.tables.forgotten c.ready.ensures.lasts c.ready.ensures.ends.steps c.ready.ensures.writes).goes

pub returns-in-Err-Stopped-clause-front : goal.returns-in-Err-Stopped-clause-front
returns-in-Err-Stopped-clause-front g c = run_front c.args.b.0 c.args.w (length c.args.from.now) c.args.from.now (g.M.Machine.contents c.args.self.now.machine) (g.M.Machine.contents c.ready.new.m) c.ready.ensures.keeps

pub returns-in-Err-Stopped-clause-standing : goal.returns-in-Err-Stopped-clause-standing
returns-in-Err-Stopped-clause-standing g c = (settles_kept c.args.b.0 (g.M.Machine.contents c.args.self.now.machine) (g.M.Machine.contents c.ready.new.m) (g.M.Machine.run c.args.self.now.machine) (g.M.Machine.run c.ready.new.m) c.args.self.now.tables c.ready.new.t c.requires.idle c.ready.ensures.keeps c.ready.ensures.tables.forgotten c.ready.ensures.lasts c.ready.ensures.ends.steps c.ready.ensures.writes).standing

pub returns-in-Err-Stopped-clause-firm : goal.returns-in-Err-Stopped-clause-firm
returns-in-Err-Stopped-clause-firm g c = (settles_kept c.args.b.0 (g.M.Machine.contents c.args.self.now.machine) (g.M.Machine.contents c.ready.new.m) (g.M.Machine.run c.args.self.now.machine) (g.M.Machine.run c.ready.new.m) c.args.self.now.tables c.ready.new.t c.requires.idle c.ready.ensures.keeps c.ready.ensures.tables.forgotten c.ready.ensures.lasts c.ready.ensures.ends.steps c.ready.ensures.writes).firm

pub returns-in-Err-Stopped-clause-goes : goal.returns-in-Err-Stopped-clause-goes
returns-in-Err-Stopped-clause-goes g c = (settles_kept c.args.b.0 (g.M.Machine.contents c.args.self.now.machine) (g.M.Machine.contents c.ready.new.m) (g.M.Machine.run c.args.self.now.machine) (g.M.Machine.run c.ready.new.m) c.args.self.now.tables c.ready.new.t c.requires.idle c.ready.ensures.keeps c.ready.ensures.tables.forgotten c.ready.ensures.lasts c.ready.ensures.ends.steps c.ready.ensures.writes).goes

pub returns-in-Ok-put_frame_run-clause-standing : goal.returns-in-Ok-put_frame_run-clause-standing
returns-in-Ok-put_frame_run-clause-standing g c = (settles c.args.b.0 _ (g.M.Machine.contents c.args.self.now.machine) (g.M.Machine.contents c.put_frame_run.new.m) (g.M.Machine.run c.args.self.now.machine) (g.M.Machine.run c.put_frame_run.new.m) c.args.self.now.tables c.put_frame_run.new.t c.requires.idle (run_then c.args.b.0 c.args.w (length c.args.from.now) c.args.from.now (g.M.Machine.contents c.args.self.now.machine) (g.M.Machine.contents c.ready.new.m) (g.M.Machine.contents c.put_frame_run.new.m) c.ready.ensures.keeps c.in-Ok-put_frame_run.ensures.rewrites) (same_run c.args.b.0 c.args.w (length c.args.from.now) c.args.from.now _) (ap (λ (t : CacheTables). t.forgotten) c.put_frame_run.ensures.tables ∙ c.ready.ensures.tables.forgotten) (lasts_trans (g.M.Machine.contents c.args.self.now.machine) (g.M.Machine.contents c.ready.new.m) (g.M.Machine.contents c.put_frame_run.new.m) c.ready.ensures.lasts c.put_frame_run.ensures.lasts) (steps_trans _ _ _ c.ready.ensures.ends.steps c.put_frame_run.ensures.ends.steps) (few_then c.args.b.0 _ (g.M.Machine.contents c.args.self.now.machine) (g.M.Machine.contents c.ready.new.m) (g.M.Machine.contents c.put_frame_run.new.m) c.ready.ensures.writes c.put_frame_run.ensures.still)).standing

pub returns-in-Ok-put_frame_run-clause-firm : goal.returns-in-Ok-put_frame_run-clause-firm
returns-in-Ok-put_frame_run-clause-firm g c = (settles c.args.b.0 _ (g.M.Machine.contents c.args.self.now.machine) (g.M.Machine.contents c.put_frame_run.new.m) (g.M.Machine.run c.args.self.now.machine) (g.M.Machine.run c.put_frame_run.new.m) c.args.self.now.tables c.put_frame_run.new.t c.requires.idle (run_then c.args.b.0 c.args.w (length c.args.from.now) c.args.from.now (g.M.Machine.contents c.args.self.now.machine) (g.M.Machine.contents c.ready.new.m) (g.M.Machine.contents c.put_frame_run.new.m) c.ready.ensures.keeps c.in-Ok-put_frame_run.ensures.rewrites) (same_run c.args.b.0 c.args.w (length c.args.from.now) c.args.from.now _) (ap (λ (t : CacheTables). t.forgotten) c.put_frame_run.ensures.tables ∙ c.ready.ensures.tables.forgotten) (lasts_trans (g.M.Machine.contents c.args.self.now.machine) (g.M.Machine.contents c.ready.new.m) (g.M.Machine.contents c.put_frame_run.new.m) c.ready.ensures.lasts c.put_frame_run.ensures.lasts) (steps_trans _ _ _ c.ready.ensures.ends.steps c.put_frame_run.ensures.ends.steps) (few_then c.args.b.0 _ (g.M.Machine.contents c.args.self.now.machine) (g.M.Machine.contents c.ready.new.m) (g.M.Machine.contents c.put_frame_run.new.m) c.ready.ensures.writes c.put_frame_run.ensures.still)).firm

pub returns-in-Ok-put_frame_run-clause-goes : goal.returns-in-Ok-put_frame_run-clause-goes
returns-in-Ok-put_frame_run-clause-goes g c = (settles c.args.b.0 _ (g.M.Machine.contents c.args.self.now.machine) (g.M.Machine.contents c.put_frame_run.new.m) (g.M.Machine.run c.args.self.now.machine) (g.M.Machine.run c.put_frame_run.new.m) c.args.self.now.tables c.put_frame_run.new.t c.requires.idle (run_then c.args.b.0 c.args.w (length c.args.from.now) c.args.from.now (g.M.Machine.contents c.args.self.now.machine) (g.M.Machine.contents c.ready.new.m) (g.M.Machine.contents c.put_frame_run.new.m) c.ready.ensures.keeps c.in-Ok-put_frame_run.ensures.rewrites) (same_run c.args.b.0 c.args.w (length c.args.from.now) c.args.from.now _) (ap (λ (t : CacheTables). t.forgotten) c.put_frame_run.ensures.tables ∙ c.ready.ensures.tables.forgotten) (lasts_trans (g.M.Machine.contents c.args.self.now.machine) (g.M.Machine.contents c.ready.new.m) (g.M.Machine.contents c.put_frame_run.new.m) c.ready.ensures.lasts c.put_frame_run.ensures.lasts) (steps_trans _ _ _ c.ready.ensures.ends.steps c.put_frame_run.ensures.ends.steps) (few_then c.args.b.0 _ (g.M.Machine.contents c.args.self.now.machine) (g.M.Machine.contents c.ready.new.m) (g.M.Machine.contents c.put_frame_run.new.m) c.ready.ensures.writes c.put_frame_run.ensures.still)).goes

pub returns-in-Ok-put_frame_run-clause-caches : goal.returns-in-Ok-put_frame_run-clause-caches
returns-in-Ok-put_frame_run-clause-caches g c = stored_put c.args.b.0 c.args.name (g.M.Machine.contents c.args.self.now.machine) (g.M.Machine.contents c.ready.new.m) (g.M.Machine.contents c.put_frame_run.new.m) c.ready.ensures.caches c.put_frame_run.ensures.cached

pub returns-in-Ok-put_frame_run-clause-writes : goal.returns-in-Ok-put_frame_run-clause-writes
returns-in-Ok-put_frame_run-clause-writes g c = few_then c.args.b.0 _ (g.M.Machine.contents c.args.self.now.machine) (g.M.Machine.contents c.ready.new.m) (g.M.Machine.contents c.put_frame_run.new.m) c.ready.ensures.writes c.put_frame_run.ensures.still

pub returns-in-Ok-put_frame_run-clause-front : goal.returns-in-Ok-put_frame_run-clause-front
returns-in-Ok-put_frame_run-clause-front g c = ((length c.args.from.now), omega arith, (run_then c.args.b.0 c.args.w (length c.args.from.now) c.args.from.now (g.M.Machine.contents c.args.self.now.machine) (g.M.Machine.contents c.ready.new.m) (g.M.Machine.contents c.put_frame_run.new.m) c.ready.ensures.keeps c.in-Ok-put_frame_run.ensures.rewrites).reading)

pub returns-in-Ok-put_frame_run-clause-ok : goal.returns-in-Ok-put_frame_run-clause-ok
returns-in-Ok-put_frame_run-clause-ok g c = (run_then c.args.b.0 c.args.w (length c.args.from.now) c.args.from.now (g.M.Machine.contents c.args.self.now.machine) (g.M.Machine.contents c.ready.new.m) (g.M.Machine.contents c.put_frame_run.new.m) c.ready.ensures.keeps c.in-Ok-put_frame_run.ensures.rewrites).reading

pub returns-in-Err-clause-standing : goal.returns-in-Err-clause-standing
returns-in-Err-clause-standing g c = (settles c.args.b.0 _ (g.M.Machine.contents c.args.self.now.machine) (g.M.Machine.contents c.put_frame_run.new.m) (g.M.Machine.run c.args.self.now.machine) (g.M.Machine.run c.put_frame_run.new.m) c.args.self.now.tables c.put_frame_run.new.t c.requires.idle (run_then c.args.b.0 c.args.w c.in-Err.ensures.front.0 c.args.from.now (g.M.Machine.contents c.args.self.now.machine) (g.M.Machine.contents c.ready.new.m) (g.M.Machine.contents c.put_frame_run.new.m) c.ready.ensures.keeps c.in-Err.ensures.front.2) (same_run c.args.b.0 c.args.w c.in-Err.ensures.front.0 c.args.from.now _) (ap (λ (t : CacheTables). t.forgotten) c.put_frame_run.ensures.tables ∙ c.ready.ensures.tables.forgotten) (lasts_trans (g.M.Machine.contents c.args.self.now.machine) (g.M.Machine.contents c.ready.new.m) (g.M.Machine.contents c.put_frame_run.new.m) c.ready.ensures.lasts c.put_frame_run.ensures.lasts) (steps_trans _ _ _ c.ready.ensures.ends.steps c.put_frame_run.ensures.ends.steps) (few_then c.args.b.0 _ (g.M.Machine.contents c.args.self.now.machine) (g.M.Machine.contents c.ready.new.m) (g.M.Machine.contents c.put_frame_run.new.m) c.ready.ensures.writes c.put_frame_run.ensures.still)).standing

pub returns-in-Err-clause-firm : goal.returns-in-Err-clause-firm
returns-in-Err-clause-firm g c = (settles c.args.b.0 _ (g.M.Machine.contents c.args.self.now.machine) (g.M.Machine.contents c.put_frame_run.new.m) (g.M.Machine.run c.args.self.now.machine) (g.M.Machine.run c.put_frame_run.new.m) c.args.self.now.tables c.put_frame_run.new.t c.requires.idle (run_then c.args.b.0 c.args.w c.in-Err.ensures.front.0 c.args.from.now (g.M.Machine.contents c.args.self.now.machine) (g.M.Machine.contents c.ready.new.m) (g.M.Machine.contents c.put_frame_run.new.m) c.ready.ensures.keeps c.in-Err.ensures.front.2) (same_run c.args.b.0 c.args.w c.in-Err.ensures.front.0 c.args.from.now _) (ap (λ (t : CacheTables). t.forgotten) c.put_frame_run.ensures.tables ∙ c.ready.ensures.tables.forgotten) (lasts_trans (g.M.Machine.contents c.args.self.now.machine) (g.M.Machine.contents c.ready.new.m) (g.M.Machine.contents c.put_frame_run.new.m) c.ready.ensures.lasts c.put_frame_run.ensures.lasts) (steps_trans _ _ _ c.ready.ensures.ends.steps c.put_frame_run.ensures.ends.steps) (few_then c.args.b.0 _ (g.M.Machine.contents c.args.self.now.machine) (g.M.Machine.contents c.ready.new.m) (g.M.Machine.contents c.put_frame_run.new.m) c.ready.ensures.writes c.put_frame_run.ensures.still)).firm

pub returns-in-Err-clause-goes : goal.returns-in-Err-clause-goes
returns-in-Err-clause-goes g c = (settles c.args.b.0 _ (g.M.Machine.contents c.args.self.now.machine) (g.M.Machine.contents c.put_frame_run.new.m) (g.M.Machine.run c.args.self.now.machine) (g.M.Machine.run c.put_frame_run.new.m) c.args.self.now.tables c.put_frame_run.new.t c.requires.idle (run_then c.args.b.0 c.args.w c.in-Err.ensures.front.0 c.args.from.now (g.M.Machine.contents c.args.self.now.machine) (g.M.Machine.contents c.ready.new.m) (g.M.Machine.contents c.put_frame_run.new.m) c.ready.ensures.keeps c.in-Err.ensures.front.2) (same_run c.args.b.0 c.args.w c.in-Err.ensures.front.0 c.args.from.now _) (ap (λ (t : CacheTables). t.forgotten) c.put_frame_run.ensures.tables ∙ c.ready.ensures.tables.forgotten) (lasts_trans (g.M.Machine.contents c.args.self.now.machine) (g.M.Machine.contents c.ready.new.m) (g.M.Machine.contents c.put_frame_run.new.m) c.ready.ensures.lasts c.put_frame_run.ensures.lasts) (steps_trans _ _ _ c.ready.ensures.ends.steps c.put_frame_run.ensures.ends.steps) (few_then c.args.b.0 _ (g.M.Machine.contents c.args.self.now.machine) (g.M.Machine.contents c.ready.new.m) (g.M.Machine.contents c.put_frame_run.new.m) c.ready.ensures.writes c.put_frame_run.ensures.still)).goes

pub returns-in-Err-clause-caches : goal.returns-in-Err-clause-caches
returns-in-Err-clause-caches g c = stored_put c.args.b.0 c.args.name (g.M.Machine.contents c.args.self.now.machine) (g.M.Machine.contents c.ready.new.m) (g.M.Machine.contents c.put_frame_run.new.m) c.ready.ensures.caches c.put_frame_run.ensures.cached

pub returns-in-Err-clause-writes : goal.returns-in-Err-clause-writes
returns-in-Err-clause-writes g c = few_then c.args.b.0 _ (g.M.Machine.contents c.args.self.now.machine) (g.M.Machine.contents c.ready.new.m) (g.M.Machine.contents c.put_frame_run.new.m) c.ready.ensures.writes c.put_frame_run.ensures.still

pub returns-in-Err-clause-front : goal.returns-in-Err-clause-front
returns-in-Err-clause-front g c = (c.in-Err.ensures.front.0, c.in-Err.ensures.front.1, (run_then c.args.b.0 c.args.w c.in-Err.ensures.front.0 c.args.from.now (g.M.Machine.contents c.args.self.now.machine) (g.M.Machine.contents c.ready.new.m) (g.M.Machine.contents c.put_frame_run.new.m) c.ready.ensures.keeps c.in-Err.ensures.front.2).reading)

pub returns-in-Ok-put_frame_run-clause-used : goal.returns-in-Ok-put_frame_run-clause-used
returns-in-Ok-put_frame_run-clause-used g c = λ some. used_then c.args.b.0 (g.M.Machine.contents c.ready.new.m).words (g.M.Machine.contents c.put_frame_run.new.m).words c.args.self.now.tables c.ready.new.t c.put_frame_run.new.t c.in-Ok.ensures.used (stay_found _ _ c.put_frame_run.ensures.cached.found) (order_same _ _ c.put_frame_run.ensures.tables)

pub returns-in-Ok-put_frame_run-clause-leaves : goal.returns-in-Ok-put_frame_run-clause-leaves
returns-in-Ok-put_frame_run-clause-leaves g c = leaves_then _ _ _ _ c.ready.ensures.leaves (stay_found _ _ c.put_frame_run.ensures.cached.found)

pub returns-in-Err-clause-leaves : goal.returns-in-Err-clause-leaves
returns-in-Err-clause-leaves g c = leaves_then _ _ _ _ c.ready.ensures.leaves (stay_found _ _ c.put_frame_run.ensures.cached.found)

pub returns-in-Err-Fault-clause-fault : goal.returns-in-Err-Fault-clause-fault
returns-in-Err-Fault-clause-fault g c =
    (some_length _ (sym c.is_empty.ensures ∙ c.if-is_empty.false), c.ready.ensures.keeps.reads ∙ put_none _ c.args.b.0 c.args.w c.args.from.now)

pub returns-in-Err-Fault-clause-ends : goal.returns-in-Err-Fault-clause-ends
returns-in-Err-Fault-clause-ends g c = ends_fault _ _ _ _ c.in-Err-Fault.field-0 c.in-Err-Fault.field-0-is c.ready.ensures.lasts c.in-Err-Fault.ensures.fault c.in-Err-Fault.ensures.ends

pub returns-in-Ok-put_frame_run-clause-named : goal.returns-in-Ok-put_frame_run-clause-named
returns-in-Ok-put_frame_run-clause-named g c = λ some q. inl (named_put c.args.b.0 c.args.name _ _ (g.M.Machine.contents c.ready.new.m) (g.M.Machine.contents c.put_frame_run.new.m) c.put_frame_run.ensures.cached c.in-Ok.ensures.named)

pub returns-in-Ok-put_frame_run-clause-idle : goal.returns-in-Ok-put_frame_run-clause-idle
returns-in-Ok-put_frame_run-clause-idle g c = (settles c.args.b.0 _ (g.M.Machine.contents c.args.self.now.machine) (g.M.Machine.contents c.put_frame_run.new.m) (g.M.Machine.run c.args.self.now.machine) (g.M.Machine.run c.put_frame_run.new.m) c.args.self.now.tables c.put_frame_run.new.t c.requires.idle (run_then c.args.b.0 c.args.w (length c.args.from.now) c.args.from.now (g.M.Machine.contents c.args.self.now.machine) (g.M.Machine.contents c.ready.new.m) (g.M.Machine.contents c.put_frame_run.new.m) c.ready.ensures.keeps c.in-Ok-put_frame_run.ensures.rewrites) (same_run c.args.b.0 c.args.w (length c.args.from.now) c.args.from.now _) (ap (λ (t : CacheTables). t.forgotten) c.put_frame_run.ensures.tables ∙ c.ready.ensures.tables.forgotten) (lasts_trans (g.M.Machine.contents c.args.self.now.machine) (g.M.Machine.contents c.ready.new.m) (g.M.Machine.contents c.put_frame_run.new.m) c.ready.ensures.lasts c.put_frame_run.ensures.lasts) (steps_trans _ _ _ c.ready.ensures.ends.steps c.put_frame_run.ensures.ends.steps) (few_then c.args.b.0 _ (g.M.Machine.contents c.args.self.now.machine) (g.M.Machine.contents c.ready.new.m) (g.M.Machine.contents c.put_frame_run.new.m) c.ready.ensures.writes c.put_frame_run.ensures.still)).idle

pub returns-in-Ok-put_frame_run-clause-ends : goal.returns-in-Ok-put_frame_run-clause-ends
returns-in-Ok-put_frame_run-clause-ends g c = ends_both tt (g.M.Machine.contents c.args.self.now.machine) (g.M.Machine.contents c.put_frame_run.new.m) (g.M.Machine.run c.args.self.now.machine) (g.M.Machine.run c.ready.new.m) (g.M.Machine.run c.put_frame_run.new.m) _ _ (never _ _) (λ q. true_false (sym q)) (lasts_trans (g.M.Machine.contents c.args.self.now.machine) (g.M.Machine.contents c.ready.new.m) (g.M.Machine.contents c.put_frame_run.new.m) c.ready.ensures.lasts c.put_frame_run.ensures.lasts) c.in-Ok.ensures.ends c.in-Ok-put_frame_run.ensures.ends

pub returns-in-Err-clause-idle : goal.returns-in-Err-clause-idle
returns-in-Err-clause-idle g c = (settles c.args.b.0 _ (g.M.Machine.contents c.args.self.now.machine) (g.M.Machine.contents c.put_frame_run.new.m) (g.M.Machine.run c.args.self.now.machine) (g.M.Machine.run c.put_frame_run.new.m) c.args.self.now.tables c.put_frame_run.new.t c.requires.idle (run_then c.args.b.0 c.args.w c.in-Err.ensures.front.0 c.args.from.now (g.M.Machine.contents c.args.self.now.machine) (g.M.Machine.contents c.ready.new.m) (g.M.Machine.contents c.put_frame_run.new.m) c.ready.ensures.keeps c.in-Err.ensures.front.2) (same_run c.args.b.0 c.args.w c.in-Err.ensures.front.0 c.args.from.now _) (ap (λ (t : CacheTables). t.forgotten) c.put_frame_run.ensures.tables ∙ c.ready.ensures.tables.forgotten) (lasts_trans (g.M.Machine.contents c.args.self.now.machine) (g.M.Machine.contents c.ready.new.m) (g.M.Machine.contents c.put_frame_run.new.m) c.ready.ensures.lasts c.put_frame_run.ensures.lasts) (steps_trans _ _ _ c.ready.ensures.ends.steps c.put_frame_run.ensures.ends.steps) (few_then c.args.b.0 _ (g.M.Machine.contents c.args.self.now.machine) (g.M.Machine.contents c.ready.new.m) (g.M.Machine.contents c.put_frame_run.new.m) c.ready.ensures.writes c.put_frame_run.ensures.still)).idle

pub returns-in-Err-clause-ends : goal.returns-in-Err-clause-ends
returns-in-Err-clause-ends g c = ends_stopped (g.M.Machine.contents c.args.self.now.machine) (g.M.Machine.contents c.put_frame_run.new.m) (g.M.Machine.run c.args.self.now.machine) (g.M.Machine.run c.ready.new.m) (g.M.Machine.run c.put_frame_run.new.m) _ _ (Err Stopped) refl (never _ _) refl (lasts_trans (g.M.Machine.contents c.args.self.now.machine) (g.M.Machine.contents c.ready.new.m) (g.M.Machine.contents c.put_frame_run.new.m) c.ready.ensures.lasts c.put_frame_run.ensures.lasts) c.in-Ok.ensures.ends c.in-Err.ensures.ends

pub returns-in-Ok-put_frame_run-clause-marks : goal.returns-in-Ok-put_frame_run-clause-marks
returns-in-Ok-put_frame_run-clause-marks g c = marks_trans (Some c.args.b.0) _ _ _ c.ready.ensures.marks (marks_any (Some c.args.b.0) _ _ c.put_frame_run.ensures.marks)

pub returns-in-Err-clause-marks : goal.returns-in-Err-clause-marks
returns-in-Err-clause-marks g c = marks_trans (Some c.args.b.0) _ _ _ c.ready.ensures.marks (marks_any (Some c.args.b.0) _ _ c.put_frame_run.ensures.marks)

pub returns-in-Err-Fault-clause-stay : goal.returns-in-Err-Fault-clause-stay
returns-in-Err-Fault-clause-stay g c cached = c.ready.ensures.stay cached

pub returns-in-Err-Stopped-clause-stay : goal.returns-in-Err-Stopped-clause-stay
returns-in-Err-Stopped-clause-stay g c cached = c.ready.ensures.stay cached

pub returns-in-Ok-put_frame_run-clause-stay : goal.returns-in-Ok-put_frame_run-clause-stay
returns-in-Ok-put_frame_run-clause-stay g c cached = stay_trans _ _ _ (c.ready.ensures.stay cached) (stay_found _ _ c.put_frame_run.ensures.cached.found)

pub returns-in-Err-clause-stay : goal.returns-in-Err-clause-stay
returns-in-Err-clause-stay g c cached = stay_trans _ _ _ (c.ready.ensures.stay cached) (stay_found _ _ c.put_frame_run.ensures.cached.found)

pub returns-in-Err-Fault-clause-failed : goal.returns-in-Err-Fault-clause-failed
returns-in-Err-Fault-clause-failed g c q = c.in-Err-Fault.ensures.failed refl

pub returns-in-Err-Stopped-clause-failed : goal.returns-in-Err-Stopped-clause-failed
returns-in-Err-Stopped-clause-failed g c q = c.in-Err-Stopped.ensures.failed refl

pub returns-in-Ok-put_frame_run-clause-failed : goal.returns-in-Ok-put_frame_run-clause-failed
returns-in-Ok-put_frame_run-clause-failed g c q = absurd (true_false (sym q))

pub returns-in-Err-clause-failed : goal.returns-in-Err-clause-failed
returns-in-Err-clause-failed g c q = failed_used c.args.b.0 _ c.args.self.now.tables c.put_frame_run.new.t (used_then c.args.b.0 (g.M.Machine.contents c.ready.new.m).words (g.M.Machine.contents c.put_frame_run.new.m).words c.args.self.now.tables c.ready.new.t c.put_frame_run.new.t c.in-Ok.ensures.used (stay_found _ _ c.put_frame_run.ensures.cached.found) (order_same _ _ c.put_frame_run.ensures.tables))

pub returns-then-is_empty-clause-marks : goal.returns-then-is_empty-clause-marks
returns-then-is_empty-clause-marks g c = marks_refl (Some c.args.b.0) _

pub returns-then-is_empty-clause-stay : goal.returns-then-is_empty-clause-stay
returns-then-is_empty-clause-stay g c cached = stay_hit (g.M.Machine.contents c.args.self.now.machine) (g.M.Machine.contents c.args.self.now.machine) refl

pub returns-then-is_empty-clause-failed : goal.returns-then-is_empty-clause-failed
returns-then-is_empty-clause-failed g c q = absurd (true_false (sym q))

pub returns-in-Err-Fault-clause-idle : goal.returns-in-Err-Fault-clause-idle
returns-in-Err-Fault-clause-idle g c = ap (λ n. n == 1) (c.ready.ensures.keeps.header 4 (omega arith)) ∙ c.requires.idle

pub returns-in-Err-Stopped-clause-idle : goal.returns-in-Err-Stopped-clause-idle
returns-in-Err-Stopped-clause-idle g c = ap (λ n. n == 1) (c.ready.ensures.keeps.header 4 (omega arith)) ∙ c.requires.idle

pub returns-in-Err-clause-count : goal.returns-in-Err-clause-count
returns-in-Err-clause-count g c = c.put_frame_run.ensures.lasts.blocks ∙ c.ready.ensures.lasts.blocks

pub returns-in-Ok-put_frame_run-clause-count : goal.returns-in-Ok-put_frame_run-clause-count
returns-in-Ok-put_frame_run-clause-count g c = c.put_frame_run.ensures.lasts.blocks ∙ c.ready.ensures.lasts.blocks

pub returns-then-is_empty-clause-firm : goal.returns-then-is_empty-clause-firm
returns-then-is_empty-clause-firm g c = record { loose = λ b e. e }

pub returns-then-is_empty-clause-leaves : goal.returns-then-is_empty-clause-leaves
returns-then-is_empty-clause-leaves g c = leaves_refl c.args.self.now.tables (g.M.Machine.contents c.args.self.now.machine).words

pub returns-then-is_empty-clause-writes : goal.returns-then-is_empty-clause-writes
returns-then-is_empty-clause-writes g c = few_still c.args.b.0 c.args.self.now.tables (g.M.Machine.contents c.args.self.now.machine) (g.M.Machine.contents c.args.self.now.machine) (still_refl (g.M.Machine.contents c.args.self.now.machine))

pub returns-then-is_empty-clause-goes : goal.returns-then-is_empty-clause-goes
returns-then-is_empty-clause-goes g c = goes_few c.args.b.0 c.args.self.now.tables (g.M.Machine.contents c.args.self.now.machine) (g.M.Machine.contents c.args.self.now.machine) (g.M.Machine.run c.args.self.now.machine) (g.M.Machine.run c.args.self.now.machine) (lasts_refl (g.M.Machine.contents c.args.self.now.machine)) (steps_refl (g.M.Machine.run c.args.self.now.machine)) refl (few_still c.args.b.0 c.args.self.now.tables (g.M.Machine.contents c.args.self.now.machine) (g.M.Machine.contents c.args.self.now.machine) (still_refl (g.M.Machine.contents c.args.self.now.machine)))

pub returns-then-is_empty-clause-ok : goal.returns-then-is_empty-clause-ok
returns-then-is_empty-clause-ok g c = run_none _ c.args.b.0 c.args.w (length c.args.from.now) c.args.from.now (sym c.is_empty.ensures ∙ c.if-is_empty.true)

pub returns-then-is_empty-clause-front : goal.returns-then-is_empty-clause-front
returns-then-is_empty-clause-front g c = (0, omega arith, put_none _ c.args.b.0 c.args.w c.args.from.now)

pub returns-then-is_empty-clause-standing : goal.returns-then-is_empty-clause-standing
returns-then-is_empty-clause-standing g c = record { others = λ b w ne. refl }

pub returns-then-is_empty-clause-caches : goal.returns-then-is_empty-clause-caches
returns-then-is_empty-clause-caches g c = record { others = λ b ne q. (q, refl); named = λ q. inl (q, refl) }

pub returns-then-is_empty-clause-named : goal.returns-then-is_empty-clause-named
returns-then-is_empty-clause-named g c = λ some q. absurd (none_there _ (sym c.is_empty.ensures ∙ c.if-is_empty.true) some)

pub returns-then-is_empty-clause-ends : goal.returns-then-is_empty-clause-ends
returns-then-is_empty-clause-ends g c = ends_still tt _

pub returns-then-is_empty-clause-used : goal.returns-then-is_empty-clause-used
returns-then-is_empty-clause-used g c = λ some. absurd (none_there _ (sym c.is_empty.ensures ∙ c.if-is_empty.true) some)

pub returns-in-Err-Stopped-clause-ends : goal.returns-in-Err-Stopped-clause-ends
returns-in-Err-Stopped-clause-ends g c = ends_halted _ _ _ _ c.in-Err-Stopped.field-0 c.in-Err-Stopped.field-0-is c.ready.ensures.lasts c.in-Err-Stopped.ensures.ends
