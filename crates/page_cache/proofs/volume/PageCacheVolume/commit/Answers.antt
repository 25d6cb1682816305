use Rattle.std.proofs.Common.{refl}
use Rattle.cached_pages.proofs.Updates.{drops_named, same_loses, shadows_past, shut_zero, sound_same, sound_shut}
use Rattle.page_cache.proofs.volume.PageCacheVolume.commit.Goals as goal
use Rattle.cached_pages.proofs.Common.{Contents, ap, arith, gate_of, inl, inr, reads, stands}
use Rattle.cached_pages.proofs.Freed.{halts_of}
use Rattle.cached_pages.proofs.Rooms.{firm_by_tables}
use Rattle.cached_pages.proofs.Stills.{still_rest}
use Rattle.page_cache.specs.Settled.{gate_open}
use Rattle.page_cache.proofs.Outcomes.{firm_loose, goes_rest, halts_err, idle_zero, list_within}

pub returns-clause-drops : goal.returns-clause-drops
returns-clause-drops g c = drops_named (g.M.Machine.contents c.args.self.now.machine) (g.M.Machine.contents c.commit.new.m) c.commit.ensures.names

pub returns-clause-sound : goal.returns-clause-sound
returns-clause-sound g c = sound_shut _ _ _ _ _ _ c.requires.sound c.commit.ensures.ends.steps.scratch_count (c.commit.ensures.coherent _) c.commit.ensures.rest c.commit.ensures.closed c.commit.ensures.names (same_loses _ _ (shadows_past _ _ c.commit.ensures.entries)) (shut_zero (g.M.Machine.contents c.commit.new.m).words c.in_ok-commit.ensures.committed.gate) c.unpin_all.ensures.rest c.unpin_all.ensures.list.shadows c.unpin_all.ensures.list.shadowed c.unpin_all.ensures.unpinned

pub returns-clause-goes : goal.returns-clause-goes
returns-clause-goes g c = goes_rest (g.M.Machine.contents c.args.self.now.machine) (g.M.Machine.contents c.commit.new.m) c.args.self.now.tables (g.M.Machine.run c.args.self.now.machine) (g.M.Machine.run c.commit.new.m) c.commit.ensures.lasts c.commit.ensures.ends.steps c.commit.ensures.names.frames c.commit.ensures.rest

pub returns-clause-still : goal.returns-clause-still
returns-clause-still g c = still_rest (g.M.Machine.contents c.args.self.now.machine) (g.M.Machine.contents c.commit.new.m) c.commit.ensures.rest

pub returns-in_err-commit-clause-goes : goal.returns-in_err-commit-clause-goes
returns-in_err-commit-clause-goes g c = goes_rest (g.M.Machine.contents c.args.self.now.machine) (g.M.Machine.contents c.commit.new.m) c.args.self.now.tables (g.M.Machine.run c.args.self.now.machine) (g.M.Machine.run c.commit.new.m) c.commit.ensures.lasts c.commit.ensures.ends.steps c.commit.ensures.names.frames c.commit.ensures.rest

pub returns-in_err-commit-clause-still : goal.returns-in_err-commit-clause-still
returns-in_err-commit-clause-still g c = still_rest (g.M.Machine.contents c.args.self.now.machine) (g.M.Machine.contents c.commit.new.m) c.commit.ensures.rest

pub returns-clause-ends : goal.returns-clause-ends
returns-clause-ends g c = halts_of (g.M.Machine.contents c.args.self.now.machine) (g.M.Machine.contents c.commit.new.m) (g.M.Machine.run c.args.self.now.machine) (g.M.Machine.run c.commit.new.m) _ c.commit.ensures.lasts c.in_ok-commit.ensures.ends

pub returns-in_err-commit-clause-ends : goal.returns-in_err-commit-clause-ends
returns-in_err-commit-clause-ends g c = halts_err (g.M.Machine.contents c.args.self.now.machine) (g.M.Machine.contents c.commit.new.m) (g.M.Machine.run c.args.self.now.machine) (g.M.Machine.run c.commit.new.m) _ _ (grind (arith, c.from_residual.ensures)) refl c.commit.ensures.lasts c.in_err-commit.ensures.ends

pub returns-in_err-commit-clause-firm : goal.returns-in_err-commit-clause-firm
returns-in_err-commit-clause-firm g c = firm_loose (g.M.Machine.contents c.args.self.now.machine) (g.M.Machine.contents c.commit.new.m) c.args.self.now.tables c.commit.ensures.firm

pub returns-clause-firm : goal.returns-clause-firm
returns-clause-firm g c = firm_by_tables (g.M.Machine.contents c.args.self.now.machine) (g.M.Machine.contents c.commit.new.m) c.args.self.now.tables c.unpin_all.new.t c.commit.ensures.firm c.unpin_all.ensures.list

pub returns-clause-looks : goal.returns-clause-looks
returns-clause-looks g c = record { count = c.commit.ensures.lasts.blocks; words = c.in_ok-commit.ensures.committed.reads; base = refl }

pub returns-clause-stopped : goal.returns-clause-stopped
returns-clause-stopped g c = inr c.in_ok-commit.ensures.committed.stands

pub returns-clause-ok : goal.returns-clause-ok
returns-clause-ok g c = (c.in_ok-commit.ensures.committed.stands, idle_zero (g.M.Machine.contents c.commit.new.m).words c.in_ok-commit.ensures.committed.gate)

pub returns-in_err-commit-clause-drops : goal.returns-in_err-commit-clause-drops
returns-in_err-commit-clause-drops g c = drops_named (g.M.Machine.contents c.args.self.now.machine) (g.M.Machine.contents c.commit.new.m) c.commit.ensures.names

pub returns-in_err-commit-clause-looks : goal.returns-in_err-commit-clause-looks
returns-in_err-commit-clause-looks g c = record { count = c.commit.ensures.lasts.blocks; words = ap (λ (m : Contents). reads m) c.in_err-commit.ensures.same; base = refl }

pub returns-in_err-commit-clause-stopped : goal.returns-in_err-commit-clause-stopped
returns-in_err-commit-clause-stopped g c = inl (ap (λ (m : Contents). stands m) c.in_err-commit.ensures.same)

pub returns-in_err-commit-clause-sound : goal.returns-in_err-commit-clause-sound
returns-in_err-commit-clause-sound g c = sound_same _ _ (g.M.Machine.contents c.args.self.now.machine) (g.M.Machine.contents c.commit.new.m) _ c.requires.sound c.commit.ensures.ends.steps.scratch_count (c.commit.ensures.coherent _) c.commit.ensures.rest c.commit.ensures.closed c.commit.ensures.names (shadows_past _ _ c.commit.ensures.entries) (ap (λ (m : Contents). gate_of m.words) c.in_err-commit.ensures.same)

pub unpin_all-requires-clause-within : goal.unpin_all-requires-clause-within
unpin_all-requires-clause-within g c = list_within _ (g.M.Machine.contents c.args.self.now.machine) c.args.self.now.tables c.requires.sound

pub unpin_all-requires-clause-pinned : goal.unpin_all-requires-clause-pinned
unpin_all-requires-clause-pinned g c = λ k e. (c.requires.sound.pinned k e).1

pub commit-requires-clause-updating : goal.commit-requires-clause-updating
commit-requires-clause-updating g c = gate_open (g.M.Machine.contents c.args.self.now.machine).words c.requires.in_update
