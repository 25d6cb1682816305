use Rattle.cached_pages.proofs.Common.{IsErrOf, Stopped, rules, ◌∙◌, ap, arith, inl, inr, lasts_trans, steps_trans, true_false, sym}
use Rattle.std.proofs.Common.{refl}
use Rattle.cached_pages.specs.declared.tables.CacheTables.{CacheTables}
use Rattle.cached_pages.proofs.StoreCalls.{named_put, stored_put}
use Rattle.cached_pages.proofs.Settling.{keeps_to, put_then, same_put, settles, settles_kept}
use Rattle.page_cache.proofs.volume.PageCacheVolume.store.Goals as goal
use Rattle.cached_pages.proofs.Goes.{ends_of, ends_ok, ends_stopped}
use Rattle.cached_pages.proofs.Stills.{few_then}
use Rattle.cached_pages.proofs.Uses.{leaves_then, order_same, stay_found, used_then}
use Rattle.cached_pages.proofs.DirtyMarks.{marks_any, marks_trans}
use Rattle.cached_pages.proofs.FailedUses.{failed_used}
use Rattle.cached_pages.proofs.Uses.{stay_trans}
use Rattle.cached_pages.proofs.Common.{Some}
use Rattle.rio_base.proofs.MachineRules.{never}

pub put_frame-requires-clause-dirty : goal.put_frame-requires-clause-dirty
put_frame-requires-clause-dirty g c = search rules

pub returns-clause-writes : goal.returns-clause-writes
returns-clause-writes g c = few_then c.args.b.0 _ (g.M.Machine.contents c.args.self.now.machine) (g.M.Machine.contents c.ready.new.m) _ c.ready.ensures.writes (search rules)

pub returns-in_err-k-clause-either : goal.returns-in_err-k-clause-either
returns-in_err-k-clause-either g c = inl c.ready.ensures.keeps.reads

pub returns-in_err-k-clause-standing : goal.returns-in_err-k-clause-standing
returns-in_err-k-clause-standing g c = (settles_kept c.args.b.0 (g.M.Machine.contents c.args.self.now.machine) (g.M.Machine.contents c.ready.new.m) (g.M.Machine.run c.args.self.now.machine) (g.M.Machine.run c.ready.new.m) c.args.self.now.tables c.ready.new.t c.requires.idle c.ready.ensures.keeps c.ready.ensures.tables.forgotten c.ready.ensures.lasts c.ready.ensures.ends.steps c.ready.ensures.writes).standing

pub returns-in_err-k-clause-firm : goal.returns-in_err-k-clause-firm
returns-in_err-k-clause-firm g c = (settles_kept c.args.b.0 (g.M.Machine.contents c.args.self.now.machine) (g.M.Machine.contents c.ready.new.m) (g.M.Machine.run c.args.self.now.machine) (g.M.Machine.run c.ready.new.m) c.args.self.now.tables c.ready.new.t c.requires.idle c.ready.ensures.keeps c.ready.ensures.tables.forgotten c.ready.ensures.lasts c.ready.ensures.ends.steps c.ready.ensures.writes).firm

pub returns-in_err-k-clause-idle : goal.returns-in_err-k-clause-idle
returns-in_err-k-clause-idle g c = (settles_kept c.args.b.0 (g.M.Machine.contents c.args.self.now.machine) (g.M.Machine.contents c.ready.new.m) (g.M.Machine.run c.args.self.now.machine) (g.M.Machine.run c.ready.new.m) c.args.self.now.tables c.ready.new.t c.requires.idle c.ready.ensures.keeps c.ready.ensures.tables.forgotten c.ready.ensures.lasts c.ready.ensures.ends.steps c.ready.ensures.writes).idle

pub returns-in_err-k-clause-goes : goal.returns-in_err-k-clause-goes
returns-in_err-k-clause-goes g c = (settles_kept c.args.b.0 (g.M.Machine.contents c.args.self.now.machine) (g.M.Machine.contents c.ready.new.m) (g.M.Machine.run c.args.self.now.machine) (g.M.Machine.run c.ready.new.m) c.args.self.now.tables c.ready.new.t c.requires.idle c.ready.ensures.keeps c.ready.ensures.tables.forgotten c.ready.ensures.lasts c.ready.ensures.ends.steps c.ready.ensures.writes).goes

pub returns-in_err-put_frame-clause-either : goal.returns-in_err-put_frame-clause-either
returns-in_err-put_frame-clause-either g c = inl (keeps_to (g.M.Machine.contents c.args.self.now.machine) (g.M.Machine.contents c.ready.new.m) (g.M.Machine.contents c.put_frame.new.m) c.ready.ensures.keeps c.in_err-put_frame.ensures.same).reads

pub returns-in_err-put_frame-clause-standing : goal.returns-in_err-put_frame-clause-standing
returns-in_err-put_frame-clause-standing g c = (settles_kept c.args.b.0 (g.M.Machine.contents c.args.self.now.machine) (g.M.Machine.contents c.put_frame.new.m) (g.M.Machine.run c.args.self.now.machine) (g.M.Machine.run c.put_frame.new.m) c.args.self.now.tables c.put_frame.new.t c.requires.idle (keeps_to (g.M.Machine.contents c.args.self.now.machine) (g.M.Machine.contents c.ready.new.m) (g.M.Machine.contents c.put_frame.new.m) c.ready.ensures.keeps c.in_err-put_frame.ensures.same) (ap (λ (t : CacheTables). t.forgotten) c.put_frame.ensures.tables ∙ c.ready.ensures.tables.forgotten) (lasts_trans (g.M.Machine.contents c.args.self.now.machine) (g.M.Machine.contents c.ready.new.m) (g.M.Machine.contents c.put_frame.new.m) c.ready.ensures.lasts c.put_frame.ensures.lasts) (steps_trans _ _ _ c.ready.ensures.ends.steps c.put_frame.ensures.ends.steps) (few_then c.args.b.0 _ (g.M.Machine.contents c.args.self.now.machine) (g.M.Machine.contents c.ready.new.m) (g.M.Machine.contents c.put_frame.new.m) c.ready.ensures.writes c.put_frame.ensures.still)).standing

pub returns-in_err-put_frame-clause-firm : goal.returns-in_err-put_frame-clause-firm
returns-in_err-put_frame-clause-firm g c = (settles_kept c.args.b.0 (g.M.Machine.contents c.args.self.now.machine) (g.M.Machine.contents c.put_frame.new.m) (g.M.Machine.run c.args.self.now.machine) (g.M.Machine.run c.put_frame.new.m) c.args.self.now.tables c.put_frame.new.t c.requires.idle (keeps_to (g.M.Machine.contents c.args.self.now.machine) (g.M.Machine.contents c.ready.new.m) (g.M.Machine.contents c.put_frame.new.m) c.ready.ensures.keeps c.in_err-put_frame.ensures.same) (ap (λ (t : CacheTables). t.forgotten) c.put_frame.ensures.tables ∙ c.ready.ensures.tables.forgotten) (lasts_trans (g.M.Machine.contents c.args.self.now.machine) (g.M.Machine.contents c.ready.new.m) (g.M.Machine.contents c.put_frame.new.m) c.ready.ensures.lasts c.put_frame.ensures.lasts) (steps_trans _ _ _ c.ready.ensures.ends.steps c.put_frame.ensures.ends.steps) (few_then c.args.b.0 _ (g.M.Machine.contents c.args.self.now.machine) (g.M.Machine.contents c.ready.new.m) (g.M.Machine.contents c.put_frame.new.m) c.ready.ensures.writes c.put_frame.ensures.still)).firm

pub returns-in_err-put_frame-clause-idle : goal.returns-in_err-put_frame-clause-idle
returns-in_err-put_frame-clause-idle g c = (settles_kept c.args.b.0 (g.M.Machine.contents c.args.self.now.machine) (g.M.Machine.contents c.put_frame.new.m) (g.M.Machine.run c.args.self.now.machine) (g.M.Machine.run c.put_frame.new.m) c.args.self.now.tables c.put_frame.new.t c.requires.idle (keeps_to (g.M.Machine.contents c.args.self.now.machine) (g.M.Machine.contents c.ready.new.m) (g.M.Machine.contents c.put_frame.new.m) c.ready.ensures.keeps c.in_err-put_frame.ensures.same) (ap (λ (t : CacheTables). t.forgotten) c.put_frame.ensures.tables ∙ c.ready.ensures.tables.forgotten) (lasts_trans (g.M.Machine.contents c.args.self.now.machine) (g.M.Machine.contents c.ready.new.m) (g.M.Machine.contents c.put_frame.new.m) c.ready.ensures.lasts c.put_frame.ensures.lasts) (steps_trans _ _ _ c.ready.ensures.ends.steps c.put_frame.ensures.ends.steps) (few_then c.args.b.0 _ (g.M.Machine.contents c.args.self.now.machine) (g.M.Machine.contents c.ready.new.m) (g.M.Machine.contents c.put_frame.new.m) c.ready.ensures.writes c.put_frame.ensures.still)).idle

pub returns-in_err-put_frame-clause-goes : goal.returns-in_err-put_frame-clause-goes
returns-in_err-put_frame-clause-goes g c = (settles_kept c.args.b.0 (g.M.Machine.contents c.args.self.now.machine) (g.M.Machine.contents c.put_frame.new.m) (g.M.Machine.run c.args.self.now.machine) (g.M.Machine.run c.put_frame.new.m) c.args.self.now.tables c.put_frame.new.t c.requires.idle (keeps_to (g.M.Machine.contents c.args.self.now.machine) (g.M.Machine.contents c.ready.new.m) (g.M.Machine.contents c.put_frame.new.m) c.ready.ensures.keeps c.in_err-put_frame.ensures.same) (ap (λ (t : CacheTables). t.forgotten) c.put_frame.ensures.tables ∙ c.ready.ensures.tables.forgotten) (lasts_trans (g.M.Machine.contents c.args.self.now.machine) (g.M.Machine.contents c.ready.new.m) (g.M.Machine.contents c.put_frame.new.m) c.ready.ensures.lasts c.put_frame.ensures.lasts) (steps_trans _ _ _ c.ready.ensures.ends.steps c.put_frame.ensures.ends.steps) (few_then c.args.b.0 _ (g.M.Machine.contents c.args.self.now.machine) (g.M.Machine.contents c.ready.new.m) (g.M.Machine.contents c.put_frame.new.m) c.ready.ensures.writes c.put_frame.ensures.still)).goes

pub returns-in_err-put_frame-clause-count : goal.returns-in_err-put_frame-clause-count
returns-in_err-put_frame-clause-count g c = c.put_frame.ensures.lasts.blocks ∙ c.ready.ensures.lasts.blocks

pub returns-in_err-put_frame-clause-caches : goal.returns-in_err-put_frame-clause-caches
returns-in_err-put_frame-clause-caches g c = stored_put c.args.b.0 c.args.name (g.M.Machine.contents c.args.self.now.machine) (g.M.Machine.contents c.ready.new.m) (g.M.Machine.contents c.put_frame.new.m) c.ready.ensures.caches c.put_frame.ensures.cached

pub returns-in_err-put_frame-clause-writes : goal.returns-in_err-put_frame-clause-writes
returns-in_err-put_frame-clause-writes g c = few_then c.args.b.0 _ (g.M.Machine.contents c.args.self.now.machine) (g.M.Machine.contents c.ready.new.m) (g.M.Machine.contents c.put_frame.new.m) c.ready.ensures.writes c.put_frame.ensures.still

pub returns-clause-ok : goal.returns-clause-ok
returns-clause-ok g c = (put_then c.args.b.0 c.args.w c.args.v (g.M.Machine.contents c.args.self.now.machine) (g.M.Machine.contents c.ready.new.m) (g.M.Machine.contents c.put_frame.new.m) c.ready.ensures.keeps c.in_ok-put_frame.ensures.rewrites).reading

pub returns-clause-either : goal.returns-clause-either
returns-clause-either g c = inr (put_then c.args.b.0 c.args.w c.args.v (g.M.Machine.contents c.args.self.now.machine) (g.M.Machine.contents c.ready.new.m) (g.M.Machine.contents c.put_frame.new.m) c.ready.ensures.keeps c.in_ok-put_frame.ensures.rewrites).reading

pub returns-clause-standing : goal.returns-clause-standing
returns-clause-standing g c = (settles c.args.b.0 _ (g.M.Machine.contents c.args.self.now.machine) (g.M.Machine.contents c.put_frame.new.m) (g.M.Machine.run c.args.self.now.machine) (g.M.Machine.run c.put_frame.new.m) c.args.self.now.tables c.put_frame.new.t c.requires.idle (put_then c.args.b.0 c.args.w c.args.v (g.M.Machine.contents c.args.self.now.machine) (g.M.Machine.contents c.ready.new.m) (g.M.Machine.contents c.put_frame.new.m) c.ready.ensures.keeps c.in_ok-put_frame.ensures.rewrites) (same_put c.args.b.0 c.args.w c.args.v _) (ap (λ (t : CacheTables). t.forgotten) c.put_frame.ensures.tables ∙ c.ready.ensures.tables.forgotten) (lasts_trans (g.M.Machine.contents c.args.self.now.machine) (g.M.Machine.contents c.ready.new.m) (g.M.Machine.contents c.put_frame.new.m) c.ready.ensures.lasts c.put_frame.ensures.lasts) (steps_trans _ _ _ c.ready.ensures.ends.steps c.put_frame.ensures.ends.steps) (few_then c.args.b.0 _ (g.M.Machine.contents c.args.self.now.machine) (g.M.Machine.contents c.ready.new.m) (g.M.Machine.contents c.put_frame.new.m) c.ready.ensures.writes c.put_frame.ensures.still)).standing

pub returns-clause-firm : goal.returns-clause-firm
returns-clause-firm g c = (settles c.args.b.0 _ (g.M.Machine.contents c.args.self.now.machine) (g.M.Machine.contents c.put_frame.new.m) (g.M.Machine.run c.args.self.now.machine) (g.M.Machine.run c.put_frame.new.m) c.args.self.now.tables c.put_frame.new.t c.requires.idle (put_then c.args.b.0 c.args.w c.args.v (g.M.Machine.contents c.args.self.now.machine) (g.M.Machine.contents c.ready.new.m) (g.M.Machine.contents c.put_frame.new.m) c.ready.ensures.keeps c.in_ok-put_frame.ensures.rewrites) (same_put c.args.b.0 c.args.w c.args.v _) (ap (λ (t : CacheTables). t.forgotten) c.put_frame.ensures.tables ∙ c.ready.ensures.tables.forgotten) (lasts_trans (g.M.Machine.contents c.args.self.now.machine) (g.M.Machine.contents c.ready.new.m) (g.M.Machine.contents c.put_frame.new.m) c.ready.ensures.lasts c.put_frame.ensures.lasts) (steps_trans _ _ _ c.ready.ensures.ends.steps c.put_frame.ensures.ends.steps) (few_then c.args.b.0 _ (g.M.Machine.contents c.args.self.now.machine) (g.M.Machine.contents c.ready.new.m) (g.M.Machine.contents c.put_frame.new.m) c.ready.ensures.writes c.put_frame.ensures.still)).firm

pub returns-clause-idle : goal.returns-clause-idle
returns-clause-idle g c = (settles c.args.b.0 _ (g.M.Machine.contents c.args.self.now.machine) (g.M.Machine.contents c.put_frame.new.m) (g.M.Machine.run c.args.self.now.machine) (g.M.Machine.run c.put_frame.new.m) c.args.self.now.tables c.put_frame.new.t c.requires.idle (put_then c.args.b.0 c.args.w c.args.v (g.M.Machine.contents c.args.self.now.machine) (g.M.Machine.contents c.ready.new.m) (g.M.Machine.contents c.put_frame.new.m) c.ready.ensures.keeps c.in_ok-put_frame.ensures.rewrites) (same_put c.args.b.0 c.args.w c.args.v _) (ap (λ (t : CacheTables). t.forgotten) c.put_frame.ensures.tables ∙ c.ready.ensures.tables.forgotten) (lasts_trans (g.M.Machine.contents c.args.self.now.machine) (g.M.Machine.contents c.ready.new.m) (g.M.Machine.contents c.put_frame.new.m) c.ready.ensures.lasts c.put_frame.ensures.lasts) (steps_trans _ _ _ c.ready.ensures.ends.steps c.put_frame.ensures.ends.steps) (few_then c.args.b.0 _ (g.M.Machine.contents c.args.self.now.machine) (g.M.Machine.contents c.ready.new.m) (g.M.Machine.contents c.put_frame.new.m) c.ready.ensures.writes c.put_frame.ensures.still)).idle

pub returns-clause-goes : goal.returns-clause-goes
returns-clause-goes g c = (settles c.args.b.0 _ (g.M.Machine.contents c.args.self.now.machine) (g.M.Machine.contents c.put_frame.new.m) (g.M.Machine.run c.args.self.now.machine) (g.M.Machine.run c.put_frame.new.m) c.args.self.now.tables c.put_frame.new.t c.requires.idle (put_then c.args.b.0 c.args.w c.args.v (g.M.Machine.contents c.args.self.now.machine) (g.M.Machine.contents c.ready.new.m) (g.M.Machine.contents c.put_frame.new.m) c.ready.ensures.keeps c.in_ok-put_frame.ensures.rewrites) (same_put c.args.b.0 c.args.w c.args.v _) (ap (λ (t : CacheTables). t.forgotten) c.put_frame.ensures.tables ∙ c.ready.ensures.tables.forgotten) (lasts_trans (g.M.Machine.contents c.args.self.now.machine) (g.M.Machine.contents c.ready.new.m) (g.M.Machine.contents c.put_frame.new.m) c.ready.ensures.lasts c.put_frame.ensures.lasts) (steps_trans _ _ _ c.ready.ensures.ends.steps c.put_frame.ensures.ends.steps) (few_then c.args.b.0 _ (g.M.Machine.contents c.args.self.now.machine) (g.M.Machine.contents c.ready.new.m) (g.M.Machine.contents c.put_frame.new.m) c.ready.ensures.writes c.put_frame.ensures.still)).goes

pub returns-clause-count : goal.returns-clause-count
returns-clause-count g c = c.put_frame.ensures.lasts.blocks ∙ c.ready.ensures.lasts.blocks

pub returns-clause-caches : goal.returns-clause-caches
returns-clause-caches g c = stored_put c.args.b.0 c.args.name (g.M.Machine.contents c.args.self.now.machine) (g.M.Machine.contents c.ready.new.m) (g.M.Machine.contents c.put_frame.new.m) c.ready.ensures.caches c.put_frame.ensures.cached

pub returns-clause-named : goal.returns-clause-named
returns-clause-named g c = λ q. named_put c.args.b.0 c.args.name _ _ (g.M.Machine.contents c.ready.new.m) (g.M.Machine.contents c.put_frame.new.m) c.put_frame.ensures.cached c.in_ok-k.ensures.named

pub returns-clause-ends : goal.returns-clause-ends
returns-clause-ends g c = ends_of (g.M.Machine.contents c.args.self.now.machine) (g.M.Machine.contents c.put_frame.new.m) (g.M.Machine.run c.args.self.now.machine) (g.M.Machine.run c.put_frame.new.m) _ (lasts_trans (g.M.Machine.contents c.args.self.now.machine) (g.M.Machine.contents c.ready.new.m) (g.M.Machine.contents c.put_frame.new.m) c.ready.ensures.lasts c.put_frame.ensures.lasts) (λ q. absurd (never _ _ q)) (ends_ok (g.M.Machine.run c.args.self.now.machine) (g.M.Machine.run c.ready.new.m) (g.M.Machine.run c.put_frame.new.m) _ _ _ (never _ Stopped) (λ q. true_false (sym q)) (never _ Stopped) c.in_ok-k.ensures.ends c.in_ok-put_frame.ensures.ends)

pub returns-clause-used : goal.returns-clause-used
returns-clause-used g c = used_then c.args.b.0 (g.M.Machine.contents c.ready.new.m).words (g.M.Machine.contents c.put_frame.new.m).words c.args.self.now.tables c.ready.new.t c.put_frame.new.t c.in_ok-k.ensures.used (stay_found _ _ c.put_frame.ensures.cached.found) (order_same _ _ c.put_frame.ensures.tables)

pub returns-in_err-put_frame-clause-leaves : goal.returns-in_err-put_frame-clause-leaves
returns-in_err-put_frame-clause-leaves g c = leaves_then _ _ _ _ c.ready.ensures.leaves (stay_found _ _ c.put_frame.ensures.cached.found)

pub returns-clause-leaves : goal.returns-clause-leaves
returns-clause-leaves g c = leaves_then _ _ _ _ c.ready.ensures.leaves (stay_found _ _ c.put_frame.ensures.cached.found)

pub returns-in_err-put_frame-clause-ends : goal.returns-in_err-put_frame-clause-ends
returns-in_err-put_frame-clause-ends g c =
    let stop : IsErrOf c.from_residual-in_err-put_frame.result Stopped = grind (arith, c.from_residual-in_err-put_frame.ensures) in
    ends_stopped (g.M.Machine.contents c.args.self.now.machine) (g.M.Machine.contents c.put_frame.new.m) (g.M.Machine.run c.args.self.now.machine) (g.M.Machine.run c.ready.new.m) (g.M.Machine.run c.put_frame.new.m) _ _ c.from_residual-in_err-put_frame.result stop (never _ Stopped) refl (lasts_trans (g.M.Machine.contents c.args.self.now.machine) (g.M.Machine.contents c.ready.new.m) (g.M.Machine.contents c.put_frame.new.m) c.ready.ensures.lasts c.put_frame.ensures.lasts) c.in_ok-k.ensures.ends c.in_err-put_frame.ensures.ends

pub returns-in_err-put_frame-clause-marks : goal.returns-in_err-put_frame-clause-marks
returns-in_err-put_frame-clause-marks g c = marks_trans (Some c.args.b.0) _ _ _ c.ready.ensures.marks (marks_any (Some c.args.b.0) _ _ c.put_frame.ensures.marks)

pub returns-clause-marks : goal.returns-clause-marks
returns-clause-marks g c = marks_trans (Some c.args.b.0) _ _ _ c.ready.ensures.marks (marks_any (Some c.args.b.0) _ _ c.put_frame.ensures.marks)

pub returns-in_err-k-clause-stay : goal.returns-in_err-k-clause-stay
returns-in_err-k-clause-stay g c cached = c.ready.ensures.stay cached

pub returns-in_err-put_frame-clause-stay : goal.returns-in_err-put_frame-clause-stay
returns-in_err-put_frame-clause-stay g c cached = stay_trans _ _ _ (c.ready.ensures.stay cached) (stay_found _ _ c.put_frame.ensures.cached.found)

pub returns-clause-stay : goal.returns-clause-stay
returns-clause-stay g c cached = stay_trans _ _ _ (c.ready.ensures.stay cached) (stay_found _ _ c.put_frame.ensures.cached.found)

pub returns-in_err-k-clause-failed : goal.returns-in_err-k-clause-failed
returns-in_err-k-clause-failed g c q = c.in_err-k.ensures.failed refl

pub returns-in_err-put_frame-clause-failed : goal.returns-in_err-put_frame-clause-failed
returns-in_err-put_frame-clause-failed g c q = failed_used c.args.b.0 _ c.args.self.now.tables c.put_frame.new.t (used_then c.args.b.0 (g.M.Machine.contents c.ready.new.m).words (g.M.Machine.contents c.put_frame.new.m).words c.args.self.now.tables c.ready.new.t c.put_frame.new.t c.in_ok-k.ensures.used (stay_found _ _ c.put_frame.ensures.cached.found) (order_same _ _ c.put_frame.ensures.tables))

pub returns-clause-failed : goal.returns-clause-failed
returns-clause-failed g c q = absurd (true_false (sym q))
