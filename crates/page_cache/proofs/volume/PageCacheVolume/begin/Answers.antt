use Rattle.cached_pages.proofs.Common.{◌∙◌, ap, arith, sym, stands_idle, FramePool, is_pinned, order_of}
use Rattle.std.proofs.Common.{refl}
use Rattle.page_cache.specs.Settled.{gate_shut}
use Rattle.cached_pages.proofs.Pins.{pins_refl, shut_unpinned}
use Rattle.cached_pages.proofs.Updates.{begun_of, drops_named, sound_begun, sound_shut}
use Rattle.write_back.proofs.Exits.{not_ok}
use Rattle.page_cache.proofs.volume.PageCacheVolume.begin.Goals as goal
use Rattle.cached_pages.proofs.Freed.{halts_of}
use Rattle.cached_pages.proofs.Rooms.{looks_keeps}
use Rattle.cached_pages.proofs.Stills.{still_rest}
use Rattle.page_cache.proofs.Outcomes.{firm_loose, firm_marks, goes_rest, halts_err}

pub returns-in_err-begin-clause-drops : goal.returns-in_err-begin-clause-drops
returns-in_err-begin-clause-drops g c = drops_named (g.M.Machine.contents c.args.self.now.machine) (g.M.Machine.contents c.begin.new.m) c.begin.ensures.names

pub returns-in_err-begin-clause-sound : goal.returns-in_err-begin-clause-sound
returns-in_err-begin-clause-sound g c = sound_shut _ _ _ _ _ _ c.requires.sound c.begin.ensures.ends.steps.scratch_count (c.begin.ensures.coherent _) c.begin.ensures.rest c.begin.ensures.closed c.begin.ensures.names c.begin.ensures.shadows (λ e. gate_shut (g.M.Machine.contents c.args.self.now.machine).words c.requires.idle (sym (c.in_err-begin.ensures.cut.header 4 (omega arith)) ∙ e)) (pins_refl _) refl refl (λ k. shut_unpinned _ k _ _ c.requires.sound (gate_shut (g.M.Machine.contents c.args.self.now.machine).words c.requires.idle))

pub returns-clause-ok : goal.returns-clause-ok
returns-clause-ok g c = begun_of (g.M.Machine.contents c.args.self.now.machine) (g.M.Machine.contents c.begin.new.m) c.args.self.now.tables c.clear_list.new.t c.in_ok-begin.ensures.opened c.clear_list.ensures.none

pub returns-clause-standing : goal.returns-clause-standing
returns-clause-standing g c = c.in_ok-begin.ensures.opened.stands ∙ sym (stands_idle (g.M.Machine.contents c.args.self.now.machine) (gate_shut (g.M.Machine.contents c.args.self.now.machine).words c.requires.idle))

pub returns-clause-drops : goal.returns-clause-drops
returns-clause-drops g c = drops_named (g.M.Machine.contents c.args.self.now.machine) (g.M.Machine.contents c.begin.new.m) c.begin.ensures.names

pub returns-clause-sound : goal.returns-clause-sound
returns-clause-sound g c = sound_begun _ _ _ _ _ _ c.requires.sound c.begin.ensures.ends.steps.scratch_count (c.begin.ensures.coherent _) c.begin.ensures.rest c.begin.ensures.closed c.begin.ensures.names c.in_ok-begin.ensures.opened.bare c.clear_list.ensures.rest c.clear_list.ensures.none (λ k. ap (λ (p : FramePool). is_pinned p k) c.clear_list.ensures.pool ∙ shut_unpinned _ k _ _ c.requires.sound (gate_shut (g.M.Machine.contents c.args.self.now.machine).words c.requires.idle))

pub returns-clause-order : goal.returns-clause-order
returns-clause-order g c = ap order_of c.clear_list.ensures.pool

pub returns-clause-goes : goal.returns-clause-goes
returns-clause-goes g c = goes_rest (g.M.Machine.contents c.args.self.now.machine) (g.M.Machine.contents c.begin.new.m) c.args.self.now.tables (g.M.Machine.run c.args.self.now.machine) (g.M.Machine.run c.begin.new.m) c.begin.ensures.lasts c.begin.ensures.ends.steps c.begin.ensures.names.frames c.begin.ensures.rest

pub returns-clause-still : goal.returns-clause-still
returns-clause-still g c = still_rest (g.M.Machine.contents c.args.self.now.machine) (g.M.Machine.contents c.begin.new.m) c.begin.ensures.rest

pub returns-in_err-begin-clause-goes : goal.returns-in_err-begin-clause-goes
returns-in_err-begin-clause-goes g c = goes_rest (g.M.Machine.contents c.args.self.now.machine) (g.M.Machine.contents c.begin.new.m) c.args.self.now.tables (g.M.Machine.run c.args.self.now.machine) (g.M.Machine.run c.begin.new.m) c.begin.ensures.lasts c.begin.ensures.ends.steps c.begin.ensures.names.frames c.begin.ensures.rest

pub returns-in_err-begin-clause-still : goal.returns-in_err-begin-clause-still
returns-in_err-begin-clause-still g c = still_rest (g.M.Machine.contents c.args.self.now.machine) (g.M.Machine.contents c.begin.new.m) c.begin.ensures.rest

pub returns-clause-ends : goal.returns-clause-ends
returns-clause-ends g c = halts_of (g.M.Machine.contents c.args.self.now.machine) (g.M.Machine.contents c.begin.new.m) (g.M.Machine.run c.args.self.now.machine) (g.M.Machine.run c.begin.new.m) _ c.begin.ensures.lasts c.in_ok-begin.ensures.ends

pub returns-in_err-begin-clause-ends : goal.returns-in_err-begin-clause-ends
returns-in_err-begin-clause-ends g c = halts_err (g.M.Machine.contents c.args.self.now.machine) (g.M.Machine.contents c.begin.new.m) (g.M.Machine.run c.args.self.now.machine) (g.M.Machine.run c.begin.new.m) _ _ c.from_residual.ensures.0 refl c.begin.ensures.lasts c.in_err-begin.ensures.ends

pub returns-in_err-begin-clause-firm : goal.returns-in_err-begin-clause-firm
returns-in_err-begin-clause-firm g c = firm_loose (g.M.Machine.contents c.args.self.now.machine) (g.M.Machine.contents c.begin.new.m) c.args.self.now.tables c.begin.ensures.firm

pub returns-clause-firm : goal.returns-clause-firm
returns-clause-firm g c = firm_marks (g.M.Machine.contents c.args.self.now.machine) (g.M.Machine.contents c.begin.new.m) c.args.self.now.tables c.clear_list.new.t c.begin.ensures.firm c.clear_list.ensures.rest.forgotten

pub returns-clause-looks : goal.returns-clause-looks
returns-clause-looks g c = record { count = c.begin.ensures.lasts.blocks; words = c.in_ok-begin.ensures.opened.reads; base = refl }

pub returns-in_err-begin-clause-looks : goal.returns-in_err-begin-clause-looks
returns-in_err-begin-clause-looks g c = looks_keeps (g.M.Machine.contents c.args.self.now.machine) (g.M.Machine.contents c.begin.new.m) c.in_err-begin.ensures.cut c.begin.ensures.lasts

pub begin-requires-clause-shut : goal.begin-requires-clause-shut
begin-requires-clause-shut g c = gate_shut (g.M.Machine.contents c.args.self.now.machine).words c.requires.idle

pub returns-in_err-begin-clause-ok : goal.returns-in_err-begin-clause-ok
returns-in_err-begin-clause-ok g c = not_ok _ c.from_residual.result c.from_residual.ensures.0
