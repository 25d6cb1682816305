use Rattle.cached_pages.proofs.Common.{Stopped, ◌∙◌, subst, sym, ap, lasts_trans, steps_trans, order_of, true_false}
use Rattle.std.proofs.Common.{◌<◌}
use Rattle.cached_pages.proofs.Kept.{tables_trans}
use Rattle.cached_pages.proofs.Rooms.{adds_after, adds_narrows, caches_adds, none_still}
use Rattle.cached_pages.proofs.StoreCalls.{cached_none}
use Rattle.cached_pages.proofs.Freed.{loose_none, marks_after, same_marks, settled, sound_marked}
use Rattle.cached_pages.proofs.Zeros.{cleared_then, frees_after, frees_keeps}
use Rattle.std.proofs.lemmas.Result.{err_from_is_err_and}
use Rattle.std.specs.Prelude.{Err}
use Rattle.page_cache.proofs.Failures.{ends_handed}
use Rattle.write_back.proofs.Exits.{not_ok}
use Rattle.page_cache.proofs.volume.PageCacheVolume.fresh.Goals as goal
use Rattle.cached_pages.proofs.Uses.{leaves_then, used_bound}
use Rattle.cached_pages.proofs.Goes.{ends_of, ends_ok, ends_stopped}
use Rattle.cached_pages.proofs.Stills.{few_then}
use Rattle.cached_pages.specs.declared.tables.CacheTables.{CacheTables}
use Rattle.cached_pages.proofs.DirtyMarks.{marks_any, marks_trans}
use Rattle.cached_pages.proofs.FailedUses.{failed_missed, next_then}
use Rattle.cached_pages.proofs.Common.{Some, refl}
use Rattle.rio_base.proofs.MachineRules.{never}

pub make_room-requires-clause-uncached : goal.make_room-requires-clause-uncached
make_room-requires-clause-uncached g c = cached_none _ c.requires.uncached

pub bring_zeros-requires-clause-block : goal.bring_zeros-requires-clause-block
bring_zeros-requires-clause-block g c = subst (λ n. c.args.b.0 < n) (sym c.make_room.ensures.lasts.blocks) c.requires.place

pub bring_zeros-requires-clause-uncached : goal.bring_zeros-requires-clause-uncached
bring_zeros-requires-clause-uncached g c = none_still c.args.b.0 _ _ c.make_room.ensures.narrows (cached_none _ c.requires.uncached)

pub returns-in_err-k-clause-standing : goal.returns-in_err-k-clause-standing
returns-in_err-k-clause-standing g c = (settled c.args.b.0 (g.M.Machine.contents c.args.self.now.machine) (g.M.Machine.contents c.make_room.new.m) (g.M.Machine.run c.args.self.now.machine) (g.M.Machine.run c.make_room.new.m) c.args.self.now.tables c.make_room.new.t c.requires.idle (frees_keeps c.args.b.0 (g.M.Machine.contents c.args.self.now.machine) (g.M.Machine.contents c.make_room.new.m) c.make_room.ensures.keeps) (same_marks c.args.b.0 c.args.self.now.tables c.make_room.new.t c.make_room.ensures.tables) c.make_room.ensures.lasts c.make_room.ensures.ends.steps c.make_room.ensures.writes).standing

pub returns-in_err-k-clause-firm : goal.returns-in_err-k-clause-firm
returns-in_err-k-clause-firm g c = (settled c.args.b.0 (g.M.Machine.contents c.args.self.now.machine) (g.M.Machine.contents c.make_room.new.m) (g.M.Machine.run c.args.self.now.machine) (g.M.Machine.run c.make_room.new.m) c.args.self.now.tables c.make_room.new.t c.requires.idle (frees_keeps c.args.b.0 (g.M.Machine.contents c.args.self.now.machine) (g.M.Machine.contents c.make_room.new.m) c.make_room.ensures.keeps) (same_marks c.args.b.0 c.args.self.now.tables c.make_room.new.t c.make_room.ensures.tables) c.make_room.ensures.lasts c.make_room.ensures.ends.steps c.make_room.ensures.writes).firm

pub returns-in_err-k-clause-goes : goal.returns-in_err-k-clause-goes
returns-in_err-k-clause-goes g c = (settled c.args.b.0 (g.M.Machine.contents c.args.self.now.machine) (g.M.Machine.contents c.make_room.new.m) (g.M.Machine.run c.args.self.now.machine) (g.M.Machine.run c.make_room.new.m) c.args.self.now.tables c.make_room.new.t c.requires.idle (frees_keeps c.args.b.0 (g.M.Machine.contents c.args.self.now.machine) (g.M.Machine.contents c.make_room.new.m) c.make_room.ensures.keeps) (same_marks c.args.b.0 c.args.self.now.tables c.make_room.new.t c.make_room.ensures.tables) c.make_room.ensures.lasts c.make_room.ensures.ends.steps c.make_room.ensures.writes).goes

pub returns-in_err-k-clause-idle : goal.returns-in_err-k-clause-idle
returns-in_err-k-clause-idle g c = (settled c.args.b.0 (g.M.Machine.contents c.args.self.now.machine) (g.M.Machine.contents c.make_room.new.m) (g.M.Machine.run c.args.self.now.machine) (g.M.Machine.run c.make_room.new.m) c.args.self.now.tables c.make_room.new.t c.requires.idle (frees_keeps c.args.b.0 (g.M.Machine.contents c.args.self.now.machine) (g.M.Machine.contents c.make_room.new.m) c.make_room.ensures.keeps) (same_marks c.args.b.0 c.args.self.now.tables c.make_room.new.t c.make_room.ensures.tables) c.make_room.ensures.lasts c.make_room.ensures.ends.steps c.make_room.ensures.writes).idle

pub returns-in_err-k-clause-others : goal.returns-in_err-k-clause-others
returns-in_err-k-clause-others g c = (frees_keeps c.args.b.0 (g.M.Machine.contents c.args.self.now.machine) (g.M.Machine.contents c.make_room.new.m) c.make_room.ensures.keeps).others

pub returns-in_err-k-clause-caches : goal.returns-in_err-k-clause-caches
returns-in_err-k-clause-caches g c = caches_adds c.args.b.0 c.args.name (g.M.Machine.contents c.args.self.now.machine) (g.M.Machine.contents c.make_room.new.m) (adds_narrows c.args.b.0 c.args.name _ _ c.make_room.ensures.narrows)

pub returns-in_err-bring_zeros-clause-standing : goal.returns-in_err-bring_zeros-clause-standing
returns-in_err-bring_zeros-clause-standing g c = (settled c.args.b.0 (g.M.Machine.contents c.args.self.now.machine) (g.M.Machine.contents c.bring_zeros.new.m) (g.M.Machine.run c.args.self.now.machine) (g.M.Machine.run c.bring_zeros.new.m) c.args.self.now.tables c.bring_zeros.new.t c.requires.idle (frees_after c.args.b.0 (g.M.Machine.contents c.args.self.now.machine) (g.M.Machine.contents c.make_room.new.m) (g.M.Machine.contents c.bring_zeros.new.m) c.make_room.ensures.keeps c.bring_zeros.ensures.frees) (same_marks c.args.b.0 c.args.self.now.tables c.bring_zeros.new.t (tables_trans c.args.self.now.tables c.make_room.new.t c.bring_zeros.new.t c.make_room.ensures.tables c.bring_zeros.ensures.tables)) (lasts_trans (g.M.Machine.contents c.args.self.now.machine) (g.M.Machine.contents c.make_room.new.m) (g.M.Machine.contents c.bring_zeros.new.m) c.make_room.ensures.lasts c.bring_zeros.ensures.lasts) (steps_trans _ _ _ c.make_room.ensures.ends.steps c.bring_zeros.ensures.ends.steps) (few_then c.args.b.0 _ (g.M.Machine.contents c.args.self.now.machine) (g.M.Machine.contents c.make_room.new.m) (g.M.Machine.contents c.bring_zeros.new.m) c.make_room.ensures.writes c.bring_zeros.ensures.still)).standing

pub returns-in_err-bring_zeros-clause-firm : goal.returns-in_err-bring_zeros-clause-firm
returns-in_err-bring_zeros-clause-firm g c = (settled c.args.b.0 (g.M.Machine.contents c.args.self.now.machine) (g.M.Machine.contents c.bring_zeros.new.m) (g.M.Machine.run c.args.self.now.machine) (g.M.Machine.run c.bring_zeros.new.m) c.args.self.now.tables c.bring_zeros.new.t c.requires.idle (frees_after c.args.b.0 (g.M.Machine.contents c.args.self.now.machine) (g.M.Machine.contents c.make_room.new.m) (g.M.Machine.contents c.bring_zeros.new.m) c.make_room.ensures.keeps c.bring_zeros.ensures.frees) (same_marks c.args.b.0 c.args.self.now.tables c.bring_zeros.new.t (tables_trans c.args.self.now.tables c.make_room.new.t c.bring_zeros.new.t c.make_room.ensures.tables c.bring_zeros.ensures.tables)) (lasts_trans (g.M.Machine.contents c.args.self.now.machine) (g.M.Machine.contents c.make_room.new.m) (g.M.Machine.contents c.bring_zeros.new.m) c.make_room.ensures.lasts c.bring_zeros.ensures.lasts) (steps_trans _ _ _ c.make_room.ensures.ends.steps c.bring_zeros.ensures.ends.steps) (few_then c.args.b.0 _ (g.M.Machine.contents c.args.self.now.machine) (g.M.Machine.contents c.make_room.new.m) (g.M.Machine.contents c.bring_zeros.new.m) c.make_room.ensures.writes c.bring_zeros.ensures.still)).firm

pub returns-in_err-bring_zeros-clause-goes : goal.returns-in_err-bring_zeros-clause-goes
returns-in_err-bring_zeros-clause-goes g c = (settled c.args.b.0 (g.M.Machine.contents c.args.self.now.machine) (g.M.Machine.contents c.bring_zeros.new.m) (g.M.Machine.run c.args.self.now.machine) (g.M.Machine.run c.bring_zeros.new.m) c.args.self.now.tables c.bring_zeros.new.t c.requires.idle (frees_after c.args.b.0 (g.M.Machine.contents c.args.self.now.machine) (g.M.Machine.contents c.make_room.new.m) (g.M.Machine.contents c.bring_zeros.new.m) c.make_room.ensures.keeps c.bring_zeros.ensures.frees) (same_marks c.args.b.0 c.args.self.now.tables c.bring_zeros.new.t (tables_trans c.args.self.now.tables c.make_room.new.t c.bring_zeros.new.t c.make_room.ensures.tables c.bring_zeros.ensures.tables)) (lasts_trans (g.M.Machine.contents c.args.self.now.machine) (g.M.Machine.contents c.make_room.new.m) (g.M.Machine.contents c.bring_zeros.new.m) c.make_room.ensures.lasts c.bring_zeros.ensures.lasts) (steps_trans _ _ _ c.make_room.ensures.ends.steps c.bring_zeros.ensures.ends.steps) (few_then c.args.b.0 _ (g.M.Machine.contents c.args.self.now.machine) (g.M.Machine.contents c.make_room.new.m) (g.M.Machine.contents c.bring_zeros.new.m) c.make_room.ensures.writes c.bring_zeros.ensures.still)).goes

pub returns-in_err-bring_zeros-clause-idle : goal.returns-in_err-bring_zeros-clause-idle
returns-in_err-bring_zeros-clause-idle g c = (settled c.args.b.0 (g.M.Machine.contents c.args.self.now.machine) (g.M.Machine.contents c.bring_zeros.new.m) (g.M.Machine.run c.args.self.now.machine) (g.M.Machine.run c.bring_zeros.new.m) c.args.self.now.tables c.bring_zeros.new.t c.requires.idle (frees_after c.args.b.0 (g.M.Machine.contents c.args.self.now.machine) (g.M.Machine.contents c.make_room.new.m) (g.M.Machine.contents c.bring_zeros.new.m) c.make_room.ensures.keeps c.bring_zeros.ensures.frees) (same_marks c.args.b.0 c.args.self.now.tables c.bring_zeros.new.t (tables_trans c.args.self.now.tables c.make_room.new.t c.bring_zeros.new.t c.make_room.ensures.tables c.bring_zeros.ensures.tables)) (lasts_trans (g.M.Machine.contents c.args.self.now.machine) (g.M.Machine.contents c.make_room.new.m) (g.M.Machine.contents c.bring_zeros.new.m) c.make_room.ensures.lasts c.bring_zeros.ensures.lasts) (steps_trans _ _ _ c.make_room.ensures.ends.steps c.bring_zeros.ensures.ends.steps) (few_then c.args.b.0 _ (g.M.Machine.contents c.args.self.now.machine) (g.M.Machine.contents c.make_room.new.m) (g.M.Machine.contents c.bring_zeros.new.m) c.make_room.ensures.writes c.bring_zeros.ensures.still)).idle

pub returns-in_err-bring_zeros-clause-others : goal.returns-in_err-bring_zeros-clause-others
returns-in_err-bring_zeros-clause-others g c = (frees_after c.args.b.0 (g.M.Machine.contents c.args.self.now.machine) (g.M.Machine.contents c.make_room.new.m) (g.M.Machine.contents c.bring_zeros.new.m) c.make_room.ensures.keeps c.bring_zeros.ensures.frees).others

pub returns-in_err-bring_zeros-clause-count : goal.returns-in_err-bring_zeros-clause-count
returns-in_err-bring_zeros-clause-count g c = c.bring_zeros.ensures.lasts.blocks ∙ c.make_room.ensures.lasts.blocks

pub returns-in_err-bring_zeros-clause-caches : goal.returns-in_err-bring_zeros-clause-caches
returns-in_err-bring_zeros-clause-caches g c = caches_adds c.args.b.0 c.args.name (g.M.Machine.contents c.args.self.now.machine) (g.M.Machine.contents c.bring_zeros.new.m) (adds_after c.args.b.0 c.args.name _ _ _ c.make_room.ensures.narrows c.bring_zeros.ensures.adds)

pub returns-in_err-bring_zeros-clause-writes : goal.returns-in_err-bring_zeros-clause-writes
returns-in_err-bring_zeros-clause-writes g c = few_then c.args.b.0 _ (g.M.Machine.contents c.args.self.now.machine) (g.M.Machine.contents c.make_room.new.m) (g.M.Machine.contents c.bring_zeros.new.m) c.make_room.ensures.writes c.bring_zeros.ensures.still

pub returns-clause-standing : goal.returns-clause-standing
returns-clause-standing g c = (settled c.args.b.0 (g.M.Machine.contents c.args.self.now.machine) (g.M.Machine.contents c.bring_zeros.new.m) (g.M.Machine.run c.args.self.now.machine) (g.M.Machine.run c.bring_zeros.new.m) c.args.self.now.tables c.mark.new.self c.requires.idle (frees_after c.args.b.0 (g.M.Machine.contents c.args.self.now.machine) (g.M.Machine.contents c.make_room.new.m) (g.M.Machine.contents c.bring_zeros.new.m) c.make_room.ensures.keeps c.bring_zeros.ensures.frees) (marks_after c.args.b.0 _ c.args.self.now.tables c.bring_zeros.new.t c.mark.new.self (tables_trans c.args.self.now.tables c.make_room.new.t c.bring_zeros.new.t c.make_room.ensures.tables c.bring_zeros.ensures.tables) c.mark.ensures.marks) (lasts_trans (g.M.Machine.contents c.args.self.now.machine) (g.M.Machine.contents c.make_room.new.m) (g.M.Machine.contents c.bring_zeros.new.m) c.make_room.ensures.lasts c.bring_zeros.ensures.lasts) (steps_trans _ _ _ c.make_room.ensures.ends.steps c.bring_zeros.ensures.ends.steps) (few_then c.args.b.0 _ (g.M.Machine.contents c.args.self.now.machine) (g.M.Machine.contents c.make_room.new.m) (g.M.Machine.contents c.bring_zeros.new.m) c.make_room.ensures.writes c.bring_zeros.ensures.still)).standing

pub returns-clause-firm : goal.returns-clause-firm
returns-clause-firm g c = (settled c.args.b.0 (g.M.Machine.contents c.args.self.now.machine) (g.M.Machine.contents c.bring_zeros.new.m) (g.M.Machine.run c.args.self.now.machine) (g.M.Machine.run c.bring_zeros.new.m) c.args.self.now.tables c.mark.new.self c.requires.idle (frees_after c.args.b.0 (g.M.Machine.contents c.args.self.now.machine) (g.M.Machine.contents c.make_room.new.m) (g.M.Machine.contents c.bring_zeros.new.m) c.make_room.ensures.keeps c.bring_zeros.ensures.frees) (marks_after c.args.b.0 _ c.args.self.now.tables c.bring_zeros.new.t c.mark.new.self (tables_trans c.args.self.now.tables c.make_room.new.t c.bring_zeros.new.t c.make_room.ensures.tables c.bring_zeros.ensures.tables) c.mark.ensures.marks) (lasts_trans (g.M.Machine.contents c.args.self.now.machine) (g.M.Machine.contents c.make_room.new.m) (g.M.Machine.contents c.bring_zeros.new.m) c.make_room.ensures.lasts c.bring_zeros.ensures.lasts) (steps_trans _ _ _ c.make_room.ensures.ends.steps c.bring_zeros.ensures.ends.steps) (few_then c.args.b.0 _ (g.M.Machine.contents c.args.self.now.machine) (g.M.Machine.contents c.make_room.new.m) (g.M.Machine.contents c.bring_zeros.new.m) c.make_room.ensures.writes c.bring_zeros.ensures.still)).firm

pub returns-clause-goes : goal.returns-clause-goes
returns-clause-goes g c = (settled c.args.b.0 (g.M.Machine.contents c.args.self.now.machine) (g.M.Machine.contents c.bring_zeros.new.m) (g.M.Machine.run c.args.self.now.machine) (g.M.Machine.run c.bring_zeros.new.m) c.args.self.now.tables c.mark.new.self c.requires.idle (frees_after c.args.b.0 (g.M.Machine.contents c.args.self.now.machine) (g.M.Machine.contents c.make_room.new.m) (g.M.Machine.contents c.bring_zeros.new.m) c.make_room.ensures.keeps c.bring_zeros.ensures.frees) (marks_after c.args.b.0 _ c.args.self.now.tables c.bring_zeros.new.t c.mark.new.self (tables_trans c.args.self.now.tables c.make_room.new.t c.bring_zeros.new.t c.make_room.ensures.tables c.bring_zeros.ensures.tables) c.mark.ensures.marks) (lasts_trans (g.M.Machine.contents c.args.self.now.machine) (g.M.Machine.contents c.make_room.new.m) (g.M.Machine.contents c.bring_zeros.new.m) c.make_room.ensures.lasts c.bring_zeros.ensures.lasts) (steps_trans _ _ _ c.make_room.ensures.ends.steps c.bring_zeros.ensures.ends.steps) (few_then c.args.b.0 _ (g.M.Machine.contents c.args.self.now.machine) (g.M.Machine.contents c.make_room.new.m) (g.M.Machine.contents c.bring_zeros.new.m) c.make_room.ensures.writes c.bring_zeros.ensures.still)).goes

pub returns-clause-idle : goal.returns-clause-idle
returns-clause-idle g c = (settled c.args.b.0 (g.M.Machine.contents c.args.self.now.machine) (g.M.Machine.contents c.bring_zeros.new.m) (g.M.Machine.run c.args.self.now.machine) (g.M.Machine.run c.bring_zeros.new.m) c.args.self.now.tables c.mark.new.self c.requires.idle (frees_after c.args.b.0 (g.M.Machine.contents c.args.self.now.machine) (g.M.Machine.contents c.make_room.new.m) (g.M.Machine.contents c.bring_zeros.new.m) c.make_room.ensures.keeps c.bring_zeros.ensures.frees) (marks_after c.args.b.0 _ c.args.self.now.tables c.bring_zeros.new.t c.mark.new.self (tables_trans c.args.self.now.tables c.make_room.new.t c.bring_zeros.new.t c.make_room.ensures.tables c.bring_zeros.ensures.tables) c.mark.ensures.marks) (lasts_trans (g.M.Machine.contents c.args.self.now.machine) (g.M.Machine.contents c.make_room.new.m) (g.M.Machine.contents c.bring_zeros.new.m) c.make_room.ensures.lasts c.bring_zeros.ensures.lasts) (steps_trans _ _ _ c.make_room.ensures.ends.steps c.bring_zeros.ensures.ends.steps) (few_then c.args.b.0 _ (g.M.Machine.contents c.args.self.now.machine) (g.M.Machine.contents c.make_room.new.m) (g.M.Machine.contents c.bring_zeros.new.m) c.make_room.ensures.writes c.bring_zeros.ensures.still)).idle

pub returns-clause-others : goal.returns-clause-others
returns-clause-others g c = (frees_after c.args.b.0 (g.M.Machine.contents c.args.self.now.machine) (g.M.Machine.contents c.make_room.new.m) (g.M.Machine.contents c.bring_zeros.new.m) c.make_room.ensures.keeps c.bring_zeros.ensures.frees).others

pub returns-clause-count : goal.returns-clause-count
returns-clause-count g c = c.bring_zeros.ensures.lasts.blocks ∙ c.make_room.ensures.lasts.blocks

pub returns-clause-caches : goal.returns-clause-caches
returns-clause-caches g c = caches_adds c.args.b.0 c.args.name (g.M.Machine.contents c.args.self.now.machine) (g.M.Machine.contents c.bring_zeros.new.m) (adds_after c.args.b.0 c.args.name _ _ _ c.make_room.ensures.narrows c.bring_zeros.ensures.adds)

pub returns-clause-writes : goal.returns-clause-writes
returns-clause-writes g c = few_then c.args.b.0 _ (g.M.Machine.contents c.args.self.now.machine) (g.M.Machine.contents c.make_room.new.m) (g.M.Machine.contents c.bring_zeros.new.m) c.make_room.ensures.writes c.bring_zeros.ensures.still

pub mark-requires : goal.mark-requires
mark-requires g c = record { place = subst (λ n. c.args.b.0 < n) (sym (c.bring_zeros.ensures.sound.marks ∙ c.bring_zeros.ensures.lasts.blocks ∙ c.make_room.ensures.lasts.blocks)) c.requires.place }

pub returns-clause-ok : goal.returns-clause-ok
returns-clause-ok g c = (cleared_then c.args.b.0 _ _ _ c.in_ok-bring_zeros.ensures.reads c.make_room.ensures.keeps.reads, loose_none _ _ c.mark.ensures.marks.mark c.in_ok-bring_zeros.ensures.firm)

pub returns-clause-sound : goal.returns-clause-sound
returns-clause-sound g c = sound_marked c.args.b.0 _ _ (g.M.Machine.contents c.bring_zeros.new.m) c.bring_zeros.new.t c.mark.new.self c.bring_zeros.ensures.sound c.mark.ensures.marks

pub returns-in_err-bring_zeros-clause-ends : goal.returns-in_err-bring_zeros-clause-ends
returns-in_err-bring_zeros-clause-ends g c =
    let p = err_from_is_err_and c.from_residual-in_err-bring_zeros.result c.from_residual-in_err-bring_zeros.ensures.1 in
    ends_stopped (g.M.Machine.contents c.args.self.now.machine) (g.M.Machine.contents c.bring_zeros.new.m) (g.M.Machine.run c.args.self.now.machine) (g.M.Machine.run c.make_room.new.m) (g.M.Machine.run c.bring_zeros.new.m) _ _ c.from_residual-in_err-bring_zeros.result (p.1 ∙ ap Err p.2) (never _ Stopped) refl (lasts_trans (g.M.Machine.contents c.args.self.now.machine) (g.M.Machine.contents c.make_room.new.m) (g.M.Machine.contents c.bring_zeros.new.m) c.make_room.ensures.lasts c.bring_zeros.ensures.lasts) c.in_ok-k.ensures.ends c.in_err-bring_zeros.ensures.ends

pub returns-clause-ends : goal.returns-clause-ends
returns-clause-ends g c = ends_of (g.M.Machine.contents c.args.self.now.machine) (g.M.Machine.contents c.bring_zeros.new.m) (g.M.Machine.run c.args.self.now.machine) (g.M.Machine.run c.bring_zeros.new.m) _ (lasts_trans (g.M.Machine.contents c.args.self.now.machine) (g.M.Machine.contents c.make_room.new.m) (g.M.Machine.contents c.bring_zeros.new.m) c.make_room.ensures.lasts c.bring_zeros.ensures.lasts) (λ q. absurd (never _ _ q)) (ends_ok (g.M.Machine.run c.args.self.now.machine) (g.M.Machine.run c.make_room.new.m) (g.M.Machine.run c.bring_zeros.new.m) _ _ _ (never _ Stopped) (λ q. true_false (sym q)) (never _ Stopped) c.in_ok-k.ensures.ends c.in_ok-bring_zeros.ensures.ends)

pub returns-clause-used : goal.returns-clause-used
returns-clause-used g c = used_bound c.args.b.0 c.in_ok-k.k _ c.args.self.now.tables c.make_room.new.t c.mark.new.self c.in_ok-k.ensures.order (ap (λ (t : CacheTables). order_of t.pool) c.mark.ensures.marks.rest ∙ c.in_ok-bring_zeros.ensures.order) c.in_ok-bring_zeros.ensures.found

pub returns-in_err-bring_zeros-clause-leaves : goal.returns-in_err-bring_zeros-clause-leaves
returns-in_err-bring_zeros-clause-leaves g c = leaves_then _ _ _ _ c.make_room.ensures.leaves c.bring_zeros.ensures.stay

pub returns-clause-leaves : goal.returns-clause-leaves
returns-clause-leaves g c = leaves_then _ _ _ _ c.make_room.ensures.leaves c.bring_zeros.ensures.stay

pub returns-in_err-k-clause-marks : goal.returns-in_err-k-clause-marks
returns-in_err-k-clause-marks g c = marks_any (Some c.args.b.0) _ _ c.make_room.ensures.marks

pub returns-in_err-bring_zeros-clause-marks : goal.returns-in_err-bring_zeros-clause-marks
returns-in_err-bring_zeros-clause-marks g c = marks_trans (Some c.args.b.0) _ _ _ (marks_any (Some c.args.b.0) _ _ c.make_room.ensures.marks) c.bring_zeros.ensures.marks

pub returns-clause-marks : goal.returns-clause-marks
returns-clause-marks g c = marks_trans (Some c.args.b.0) _ _ _ (marks_any (Some c.args.b.0) _ _ c.make_room.ensures.marks) c.bring_zeros.ensures.marks

pub returns-in_err-k-clause-failed : goal.returns-in_err-k-clause-failed
returns-in_err-k-clause-failed g c q = failed_missed c.args.b.0 _ c.args.self.now.tables c.make_room.new.t (none_still c.args.b.0 _ _ c.make_room.ensures.narrows (cached_none _ c.requires.uncached)) c.make_room.ensures.freed

pub returns-in_err-bring_zeros-clause-failed : goal.returns-in_err-bring_zeros-clause-failed
returns-in_err-bring_zeros-clause-failed g c q = failed_missed c.args.b.0 _ c.args.self.now.tables c.bring_zeros.new.t (c.in_err-bring_zeros.ensures.unmade refl) (next_then c.args.self.now.tables c.make_room.new.t c.bring_zeros.new.t c.make_room.ensures.freed (c.in_err-bring_zeros.ensures.still_order refl))

pub returns-clause-failed : goal.returns-clause-failed
returns-clause-failed g c q = absurd (true_false (sym q))

pub returns-in_err-k-clause-ok : goal.returns-in_err-k-clause-ok
returns-in_err-k-clause-ok g c = not_ok _ c.from_residual.result c.from_residual.ensures.0

pub returns-in_err-k-clause-used : goal.returns-in_err-k-clause-used
returns-in_err-k-clause-used g c = not_ok _ c.from_residual.result c.from_residual.ensures.0

pub returns-in_err-k-clause-ends : goal.returns-in_err-k-clause-ends
returns-in_err-k-clause-ends g c =
    let p = err_from_is_err_and c.from_residual.result c.from_residual.ensures.1 in
    ends_handed (g.M.Machine.contents c.args.self.now.machine) (g.M.Machine.contents c.make_room.new.m) (g.M.Machine.run c.args.self.now.machine) (g.M.Machine.run c.make_room.new.m) _ c.from_residual.result (p.1 ∙ ap Err p.2) c.make_room.ensures.lasts c.in_err-k.ensures.fault c.in_err-k.ensures.ends

pub returns-in_err-bring_zeros-clause-ok : goal.returns-in_err-bring_zeros-clause-ok
returns-in_err-bring_zeros-clause-ok g c = not_ok _ c.from_residual-in_err-bring_zeros.result c.from_residual-in_err-bring_zeros.ensures.0

pub returns-in_err-bring_zeros-clause-used : goal.returns-in_err-bring_zeros-clause-used
returns-in_err-bring_zeros-clause-used g c = not_ok _ c.from_residual-in_err-bring_zeros.result c.from_residual-in_err-bring_zeros.ensures.0
