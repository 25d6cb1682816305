use Rattle.cached_pages.proofs.Common.{Stopped, ◌∙◌, arith, lasts_trans, steps_trans, found_is, true_false, sym, ◌==◌}
use Rattle.std.proofs.Common.{refl}
use Rattle.cached_pages.proofs.Goes.{ends_both, ends_stopped}
use Rattle.rio_model.proofs.CoverSteps.{keeps_trans}
use Rattle.page_cache.specs.Settled.{gate_open}
use Rattle.cached_pages.proofs.Rooms.{caches_adds, firm_keeps}
use Rattle.cached_pages.proofs.Stills.{few_then}
use Rattle.cached_pages.proofs.Touches.{adds_pages, firm_forgotten, metadata_of, room_of, touch_goes, touches_after}
use Rattle.std.proofs.lemmas.Result.{err_from_is_err_and}
use Rattle.std.specs.Prelude.{Err}
use Rattle.write_back.proofs.Exits.{not_fault, not_ok}
use Rattle.page_cache.proofs.volume.PageCacheVolume.touch.Goals as goal
use Rattle.cached_pages.proofs.Uses.{leaves_then, stay_found, used_then}
use Rattle.cached_pages.proofs.Rooms.{looks_keeps}
use Rattle.cached_pages.proofs.DirtyMarks.{marks_any, marks_of, marks_trans}
use Rattle.cached_pages.proofs.FailedUses.{failed_used}
use Rattle.cached_pages.proofs.Uses.{stay_hit, stay_trans}
use Rattle.cached_pages.proofs.Common.{Some, ap}
use Rattle.rio_base.proofs.MachineRules.{never}
use Rattle.page_cache.proofs.Failures.{ends_handed}

pub returns-in_err-k-clause-caches : goal.returns-in_err-k-clause-caches
returns-in_err-k-clause-caches g c = caches_adds c.args.b.0 _ (g.M.Machine.contents c.args.self.now.machine) (g.M.Machine.contents c.fetch.new.m) c.fetch.ensures.adds

pub returns-in_err-k-clause-goes : goal.returns-in_err-k-clause-goes
returns-in_err-k-clause-goes g c = touch_goes c.args.b.0 _ _ _ _ _ c.fetch.ensures.keeps c.fetch.ensures.lasts c.fetch.ensures.ends.steps c.fetch.ensures.writes

pub shadow_frame-requires-clause-valid : goal.shadow_frame-requires-clause-valid
shadow_frame-requires-clause-valid g c = (found_is (g.M.Machine.contents c.fetch.new.m).words c.args.b.0 c.in_ok-k.k c.in_ok-k.ensures.found).0

pub shadow_frame-requires-clause-room : goal.shadow_frame-requires-clause-room
shadow_frame-requires-clause-room g c = room_of c.args.b.0 c.in_ok-k.k (g.M.Machine.contents c.args.self.now.machine) (g.M.Machine.contents c.fetch.new.m) c.args.self.now.tables c.fetch.new.t (gate_open (g.M.Machine.contents c.args.self.now.machine).words c.requires.in_update) c.fetch.ensures.keeps c.fetch.ensures.touches c.fetch.ensures.tables c.in_ok-k.ensures.found c.requires.room

pub returns-in_err-shadow_frame-clause-caches : goal.returns-in_err-shadow_frame-clause-caches
returns-in_err-shadow_frame-clause-caches g c = caches_adds c.args.b.0 _ (g.M.Machine.contents c.args.self.now.machine) (g.M.Machine.contents c.shadow_frame.new.m) (adds_pages c.args.b.0 _ _ _ _ c.fetch.ensures.adds c.shadow_frame.ensures.pages)

pub returns-in_err-shadow_frame-clause-goes : goal.returns-in_err-shadow_frame-clause-goes
returns-in_err-shadow_frame-clause-goes g c = touch_goes c.args.b.0 _ _ _ _ _ (keeps_trans _ _ _ c.fetch.ensures.keeps c.shadow_frame.ensures.keeps) (lasts_trans _ _ _ c.fetch.ensures.lasts c.shadow_frame.ensures.lasts) (steps_trans _ _ _ c.fetch.ensures.ends.steps c.shadow_frame.ensures.ends.steps) (few_then c.args.b.0 _ _ _ _ c.fetch.ensures.writes c.shadow_frame.ensures.still)

pub returns-in_err-shadow_frame-clause-writes : goal.returns-in_err-shadow_frame-clause-writes
returns-in_err-shadow_frame-clause-writes g c = few_then c.args.b.0 _ _ _ _ c.fetch.ensures.writes c.shadow_frame.ensures.still

pub returns-clause-ok : goal.returns-clause-ok
returns-clause-ok g c = touches_after c.args.b.0 c.in_ok-k.k (g.M.Machine.contents c.args.self.now.machine) (g.M.Machine.contents c.fetch.new.m) (g.M.Machine.contents c.shadow_frame.new.m) c.args.self.now.tables c.fetch.new.t c.shadow_frame.new.t (gate_open (g.M.Machine.contents c.args.self.now.machine).words c.requires.in_update) c.fetch.ensures.keeps c.shadow_frame.ensures.keeps c.fetch.ensures.touches c.fetch.ensures.tables c.shadow_frame.ensures.pages c.in_ok-shadow_frame.ensures.gives c.in_ok-k.ensures.found

pub returns-clause-firm : goal.returns-clause-firm
returns-clause-firm g c = firm_forgotten (g.M.Machine.contents c.args.self.now.machine) (g.M.Machine.contents c.shadow_frame.new.m) c.args.self.now.tables c.shadow_frame.new.t (c.shadow_frame.ensures.forgotten ∙ c.fetch.ensures.tables.forgotten) (keeps_trans _ _ _ c.fetch.ensures.keeps c.shadow_frame.ensures.keeps)

pub returns-clause-caches : goal.returns-clause-caches
returns-clause-caches g c = caches_adds c.args.b.0 _ (g.M.Machine.contents c.args.self.now.machine) (g.M.Machine.contents c.shadow_frame.new.m) (adds_pages c.args.b.0 _ _ _ _ c.fetch.ensures.adds c.shadow_frame.ensures.pages)

pub returns-clause-goes : goal.returns-clause-goes
returns-clause-goes g c = touch_goes c.args.b.0 _ _ _ _ _ (keeps_trans _ _ _ c.fetch.ensures.keeps c.shadow_frame.ensures.keeps) (lasts_trans _ _ _ c.fetch.ensures.lasts c.shadow_frame.ensures.lasts) (steps_trans _ _ _ c.fetch.ensures.ends.steps c.shadow_frame.ensures.ends.steps) (few_then c.args.b.0 _ _ _ _ c.fetch.ensures.writes c.shadow_frame.ensures.still)

pub returns-clause-writes : goal.returns-clause-writes
returns-clause-writes g c = few_then c.args.b.0 _ _ _ _ c.fetch.ensures.writes c.shadow_frame.ensures.still

pub returns-clause-used : goal.returns-clause-used
returns-clause-used g c = used_then c.args.b.0 (g.M.Machine.contents c.fetch.new.m).words (g.M.Machine.contents c.shadow_frame.new.m).words c.args.self.now.tables c.fetch.new.t c.shadow_frame.new.t c.in_ok-k.ensures.used (stay_found _ _ c.shadow_frame.ensures.pages.found) c.shadow_frame.ensures.order

pub returns-in_err-shadow_frame-clause-leaves : goal.returns-in_err-shadow_frame-clause-leaves
returns-in_err-shadow_frame-clause-leaves g c = leaves_then _ _ _ _ c.fetch.ensures.leaves (stay_found _ _ c.shadow_frame.ensures.pages.found)

pub returns-clause-leaves : goal.returns-clause-leaves
returns-clause-leaves g c = leaves_then _ _ _ _ c.fetch.ensures.leaves (stay_found _ _ c.shadow_frame.ensures.pages.found)

pub returns-in_err-k-clause-looks : goal.returns-in_err-k-clause-looks
returns-in_err-k-clause-looks g c = looks_keeps _ _ c.fetch.ensures.keeps c.fetch.ensures.lasts

pub returns-in_err-shadow_frame-clause-looks : goal.returns-in_err-shadow_frame-clause-looks
returns-in_err-shadow_frame-clause-looks g c = looks_keeps _ _ (keeps_trans _ _ _ c.fetch.ensures.keeps c.shadow_frame.ensures.keeps) (lasts_trans _ _ _ c.fetch.ensures.lasts c.shadow_frame.ensures.lasts)

pub returns-in_err-shadow_frame-clause-standing : goal.returns-in_err-shadow_frame-clause-standing
returns-in_err-shadow_frame-clause-standing g c = c.shadow_frame.ensures.keeps.stands ∙ c.fetch.ensures.keeps.stands

pub returns-clause-looks : goal.returns-clause-looks
returns-clause-looks g c = looks_keeps _ _ (keeps_trans _ _ _ c.fetch.ensures.keeps c.shadow_frame.ensures.keeps) (lasts_trans _ _ _ c.fetch.ensures.lasts c.shadow_frame.ensures.lasts)

pub returns-clause-standing : goal.returns-clause-standing
returns-clause-standing g c = c.shadow_frame.ensures.keeps.stands ∙ c.fetch.ensures.keeps.stands

pub returns-clause-fault : goal.returns-clause-fault
returns-clause-fault g c q = absurd (never _ _ q)

pub shadow_frame-requires-clause-metadata : goal.shadow_frame-requires-clause-metadata
shadow_frame-requires-clause-metadata g c = metadata_of c.args.b.0 c.in_ok-k.k (g.M.Machine.contents c.args.self.now.machine) (g.M.Machine.contents c.fetch.new.m) c.requires.metadata c.fetch.ensures.adds c.in_ok-k.ensures.found

pub returns-in_err-shadow_frame-clause-firm : goal.returns-in_err-shadow_frame-clause-firm
returns-in_err-shadow_frame-clause-firm g c = firm_forgotten (g.M.Machine.contents c.args.self.now.machine) (g.M.Machine.contents c.shadow_frame.new.m) c.args.self.now.tables c.shadow_frame.new.t (c.shadow_frame.ensures.forgotten ∙ c.fetch.ensures.tables.forgotten) (keeps_trans _ _ _ c.fetch.ensures.keeps c.shadow_frame.ensures.keeps)

pub returns-in_err-shadow_frame-clause-ends : goal.returns-in_err-shadow_frame-clause-ends
returns-in_err-shadow_frame-clause-ends g c =
    let p = err_from_is_err_and c.from_residual-in_err-shadow_frame.result c.from_residual-in_err-shadow_frame.ensures.1 in
    ends_stopped (g.M.Machine.contents c.args.self.now.machine) (g.M.Machine.contents c.shadow_frame.new.m) (g.M.Machine.run c.args.self.now.machine) (g.M.Machine.run c.fetch.new.m) (g.M.Machine.run c.shadow_frame.new.m) _ _ c.from_residual-in_err-shadow_frame.result (p.1 ∙ ap Err p.2) (never _ Stopped) refl (lasts_trans (g.M.Machine.contents c.args.self.now.machine) (g.M.Machine.contents c.fetch.new.m) (g.M.Machine.contents c.shadow_frame.new.m) c.fetch.ensures.lasts c.shadow_frame.ensures.lasts) c.in_ok-k.ensures.ends c.in_err-shadow_frame.ensures.ends

pub returns-clause-ends : goal.returns-clause-ends
returns-clause-ends g c = ends_both tt (g.M.Machine.contents c.args.self.now.machine) (g.M.Machine.contents c.shadow_frame.new.m) (g.M.Machine.run c.args.self.now.machine) (g.M.Machine.run c.fetch.new.m) (g.M.Machine.run c.shadow_frame.new.m) _ _ (never _ Stopped) (λ q. true_false (sym q)) (lasts_trans (g.M.Machine.contents c.args.self.now.machine) (g.M.Machine.contents c.fetch.new.m) (g.M.Machine.contents c.shadow_frame.new.m) c.fetch.ensures.lasts c.shadow_frame.ensures.lasts) c.in_ok-k.ensures.ends c.in_ok-shadow_frame.ensures.ends

pub returns-in_err-k-clause-marks : goal.returns-in_err-k-clause-marks
returns-in_err-k-clause-marks g c = marks_any (Some c.args.b.0) _ _ c.fetch.ensures.marks

pub returns-in_err-shadow_frame-clause-marks : goal.returns-in_err-shadow_frame-clause-marks
returns-in_err-shadow_frame-clause-marks g c = marks_trans (Some c.args.b.0) _ _ _ (marks_any (Some c.args.b.0) _ _ c.fetch.ensures.marks) (marks_of c.args.b.0 c.in_ok-k.k _ _ _ c.in_ok-k.ensures.found c.shadow_frame.ensures.marks)

pub returns-clause-marks : goal.returns-clause-marks
returns-clause-marks g c = marks_trans (Some c.args.b.0) _ _ _ (marks_any (Some c.args.b.0) _ _ c.fetch.ensures.marks) (marks_of c.args.b.0 c.in_ok-k.k _ _ _ c.in_ok-k.ensures.found c.shadow_frame.ensures.marks)

pub returns-in_err-k-clause-stay : goal.returns-in_err-k-clause-stay
returns-in_err-k-clause-stay g c cached = stay_hit (g.M.Machine.contents c.args.self.now.machine) (g.M.Machine.contents c.fetch.new.m) (ap g.M.Machine.contents (c.fetch.ensures.hit cached))

pub returns-in_err-shadow_frame-clause-stay : goal.returns-in_err-shadow_frame-clause-stay
returns-in_err-shadow_frame-clause-stay g c cached = stay_trans _ _ _ (stay_hit (g.M.Machine.contents c.args.self.now.machine) (g.M.Machine.contents c.fetch.new.m) (ap g.M.Machine.contents (c.fetch.ensures.hit cached))) (stay_found _ _ c.shadow_frame.ensures.pages.found)

pub returns-clause-stay : goal.returns-clause-stay
returns-clause-stay g c cached = stay_trans _ _ _ (stay_hit (g.M.Machine.contents c.args.self.now.machine) (g.M.Machine.contents c.fetch.new.m) (ap g.M.Machine.contents (c.fetch.ensures.hit cached))) (stay_found _ _ c.shadow_frame.ensures.pages.found)

pub returns-in_err-k-clause-failed : goal.returns-in_err-k-clause-failed
returns-in_err-k-clause-failed g c q = c.in_err-k.ensures.failed refl

pub returns-in_err-shadow_frame-clause-failed : goal.returns-in_err-shadow_frame-clause-failed
returns-in_err-shadow_frame-clause-failed g c q = failed_used c.args.b.0 _ c.args.self.now.tables c.shadow_frame.new.t (used_then c.args.b.0 (g.M.Machine.contents c.fetch.new.m).words (g.M.Machine.contents c.shadow_frame.new.m).words c.args.self.now.tables c.fetch.new.t c.shadow_frame.new.t c.in_ok-k.ensures.used (stay_found _ _ c.shadow_frame.ensures.pages.found) c.shadow_frame.ensures.order)

pub returns-clause-failed : goal.returns-clause-failed
returns-clause-failed g c q = absurd (true_false (sym q))

pub shadow_frame-requires-clause-updating : goal.shadow_frame-requires-clause-updating
shadow_frame-requires-clause-updating g c = c.fetch.ensures.keeps.header 4 (omega arith) ∙ gate_open (g.M.Machine.contents c.args.self.now.machine).words c.requires.in_update

pub returns-clause-in_update : goal.returns-clause-in_update
returns-clause-in_update g c = ap (λ n. n == 1) (c.shadow_frame.ensures.keeps.header 4 (omega arith) ∙ c.fetch.ensures.keeps.header 4 (omega arith)) ∙ c.requires.in_update

pub returns-in_err-shadow_frame-clause-in_update : goal.returns-in_err-shadow_frame-clause-in_update
returns-in_err-shadow_frame-clause-in_update g c = ap (λ n. n == 1) (c.shadow_frame.ensures.keeps.header 4 (omega arith) ∙ c.fetch.ensures.keeps.header 4 (omega arith)) ∙ c.requires.in_update

pub returns-in_err-k-clause-in_update : goal.returns-in_err-k-clause-in_update
returns-in_err-k-clause-in_update g c = ap (λ n. n == 1) (c.fetch.ensures.keeps.header 4 (omega arith)) ∙ c.requires.in_update

pub returns-in_err-k-clause-firm : goal.returns-in_err-k-clause-firm
returns-in_err-k-clause-firm g c = firm_keeps (g.M.Machine.contents c.args.self.now.machine) (g.M.Machine.contents c.fetch.new.m) c.args.self.now.tables c.fetch.new.t c.fetch.ensures.keeps c.fetch.ensures.tables

pub returns-in_err-k-clause-ends : goal.returns-in_err-k-clause-ends
returns-in_err-k-clause-ends g c =
    let p = err_from_is_err_and c.from_residual.result c.from_residual.ensures.1 in
    ends_handed (g.M.Machine.contents c.args.self.now.machine) (g.M.Machine.contents c.fetch.new.m) (g.M.Machine.run c.args.self.now.machine) (g.M.Machine.run c.fetch.new.m) _ _ (p.1 ∙ ap Err p.2) c.fetch.ensures.lasts c.in_err-k.ensures.fault c.in_err-k.ensures.ends

pub returns-in_err-k-clause-ok : goal.returns-in_err-k-clause-ok
returns-in_err-k-clause-ok g c = not_ok _ c.from_residual.result c.from_residual.ensures.0

pub returns-in_err-k-clause-used : goal.returns-in_err-k-clause-used
returns-in_err-k-clause-used g c = not_ok _ c.from_residual.result c.from_residual.ensures.0

pub returns-in_err-shadow_frame-clause-ok : goal.returns-in_err-shadow_frame-clause-ok
returns-in_err-shadow_frame-clause-ok g c = not_ok _ c.from_residual-in_err-shadow_frame.result c.from_residual-in_err-shadow_frame.ensures.0

pub returns-in_err-shadow_frame-clause-used : goal.returns-in_err-shadow_frame-clause-used
returns-in_err-shadow_frame-clause-used g c = not_ok _ c.from_residual-in_err-shadow_frame.result c.from_residual-in_err-shadow_frame.ensures.0

pub returns-in_err-shadow_frame-clause-fault : goal.returns-in_err-shadow_frame-clause-fault
returns-in_err-shadow_frame-clause-fault g c =
    let p = err_from_is_err_and c.from_residual-in_err-shadow_frame.result c.from_residual-in_err-shadow_frame.ensures.1 in
    λ e. absurd (not_fault _ (p.1 ∙ ap Err p.2) e)
