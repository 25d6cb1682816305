use Rattle.std.proofs.Common.{refl}
use Rattle.cached_pages.proofs.Common.{◌∙◌, sym}
use Rattle.page_cache.specs.Settled.{gate_open, untouched_bare, untouched_stands}
use Rattle.cached_pages.proofs.Updates.{drops_named, same_loses, shut_zero, sound_same, sound_shut}
use Rattle.write_back.proofs.Exits.{not_ok}
use Rattle.page_cache.proofs.volume.PageCacheVolume.rollback.Goals as goal
use Rattle.cached_pages.proofs.Freed.{halts_of}
use Rattle.cached_pages.proofs.Rooms.{firm_by_tables}
use Rattle.cached_pages.proofs.Stills.{still_rest}
use Rattle.page_cache.proofs.Outcomes.{firm_loose, goes_rest, halts_err, idle_zero, list_within}

pub returns-in_err-undo-clause-untouched : goal.returns-in_err-undo-clause-untouched
returns-in_err-undo-clause-untouched g c = λ b w none.
    let words = (g.M.Machine.contents c.args.self.now.machine).words in
    let is = gate_open words c.requires.in_update in
    c.undo.ensures.untouched b w (λ k e. untouched_bare words b k is none e) ∙ sym (untouched_stands (g.M.Machine.contents c.args.self.now.machine) b w is none)

pub returns-in_err-undo-clause-drops : goal.returns-in_err-undo-clause-drops
returns-in_err-undo-clause-drops g c = drops_named (g.M.Machine.contents c.args.self.now.machine) (g.M.Machine.contents c.undo.new.m) c.undo.ensures.names

pub returns-in_err-undo-clause-sound : goal.returns-in_err-undo-clause-sound
returns-in_err-undo-clause-sound g c = sound_same _ _ _ _ _ c.requires.sound c.undo.ensures.ends.steps.scratch_count (c.undo.ensures.coherent _) c.undo.ensures.rest c.undo.ensures.closed c.undo.ensures.names c.undo.ensures.shadows (c.in_err-undo.ensures.cut ∙ sym (gate_open (g.M.Machine.contents c.args.self.now.machine).words c.requires.in_update))

pub returns-clause-drops : goal.returns-clause-drops
returns-clause-drops g c = drops_named (g.M.Machine.contents c.args.self.now.machine) (g.M.Machine.contents c.undo.new.m) c.undo.ensures.names

pub returns-clause-sound : goal.returns-clause-sound
returns-clause-sound g c = sound_shut _ _ _ _ _ _ c.requires.sound c.undo.ensures.ends.steps.scratch_count (c.undo.ensures.coherent _) c.undo.ensures.rest c.undo.ensures.closed c.undo.ensures.names (same_loses _ _ c.undo.ensures.shadows) (shut_zero (g.M.Machine.contents c.undo.new.m).words c.in_ok-undo.ensures.undone.gate) c.unpin_all.ensures.rest c.unpin_all.ensures.list.shadows c.unpin_all.ensures.list.shadowed c.unpin_all.ensures.unpinned

pub returns-clause-goes : goal.returns-clause-goes
returns-clause-goes g c = goes_rest (g.M.Machine.contents c.args.self.now.machine) (g.M.Machine.contents c.undo.new.m) c.args.self.now.tables (g.M.Machine.run c.args.self.now.machine) (g.M.Machine.run c.undo.new.m) c.undo.ensures.lasts c.undo.ensures.ends.steps c.undo.ensures.names.frames c.undo.ensures.rest

pub returns-clause-still : goal.returns-clause-still
returns-clause-still g c = still_rest (g.M.Machine.contents c.args.self.now.machine) (g.M.Machine.contents c.undo.new.m) c.undo.ensures.rest

pub returns-in_err-undo-clause-goes : goal.returns-in_err-undo-clause-goes
returns-in_err-undo-clause-goes g c = goes_rest (g.M.Machine.contents c.args.self.now.machine) (g.M.Machine.contents c.undo.new.m) c.args.self.now.tables (g.M.Machine.run c.args.self.now.machine) (g.M.Machine.run c.undo.new.m) c.undo.ensures.lasts c.undo.ensures.ends.steps c.undo.ensures.names.frames c.undo.ensures.rest

pub returns-in_err-undo-clause-still : goal.returns-in_err-undo-clause-still
returns-in_err-undo-clause-still g c = still_rest (g.M.Machine.contents c.args.self.now.machine) (g.M.Machine.contents c.undo.new.m) c.undo.ensures.rest

pub returns-clause-ends : goal.returns-clause-ends
returns-clause-ends g c = halts_of (g.M.Machine.contents c.args.self.now.machine) (g.M.Machine.contents c.undo.new.m) (g.M.Machine.run c.args.self.now.machine) (g.M.Machine.run c.undo.new.m) _ c.undo.ensures.lasts c.in_ok-undo.ensures.ends

pub returns-in_err-undo-clause-ends : goal.returns-in_err-undo-clause-ends
returns-in_err-undo-clause-ends g c = halts_err (g.M.Machine.contents c.args.self.now.machine) (g.M.Machine.contents c.undo.new.m) (g.M.Machine.run c.args.self.now.machine) (g.M.Machine.run c.undo.new.m) _ _ c.from_residual.ensures.0 refl c.undo.ensures.lasts c.in_err-undo.ensures.ends

pub returns-in_err-undo-clause-firm : goal.returns-in_err-undo-clause-firm
returns-in_err-undo-clause-firm g c = firm_loose (g.M.Machine.contents c.args.self.now.machine) (g.M.Machine.contents c.undo.new.m) c.args.self.now.tables c.undo.ensures.firm

pub returns-clause-firm : goal.returns-clause-firm
returns-clause-firm g c = firm_by_tables (g.M.Machine.contents c.args.self.now.machine) (g.M.Machine.contents c.undo.new.m) c.args.self.now.tables c.unpin_all.new.t c.undo.ensures.firm c.unpin_all.ensures.list

pub returns-clause-ok : goal.returns-clause-ok
returns-clause-ok g c = (c.in_ok-undo.ensures.undone.reads, idle_zero (g.M.Machine.contents c.undo.new.m).words c.in_ok-undo.ensures.undone.gate)

pub returns-clause-untouched : goal.returns-clause-untouched
returns-clause-untouched g c = λ b w none.
    let words = (g.M.Machine.contents c.args.self.now.machine).words in
    let is = gate_open words c.requires.in_update in
    c.undo.ensures.untouched b w (λ k f. untouched_bare words b k is none f) ∙ sym (untouched_stands (g.M.Machine.contents c.args.self.now.machine) b w is none)

pub unpin_all-requires-clause-within : goal.unpin_all-requires-clause-within
unpin_all-requires-clause-within g c = list_within _ (g.M.Machine.contents c.args.self.now.machine) c.args.self.now.tables c.requires.sound

pub unpin_all-requires-clause-pinned : goal.unpin_all-requires-clause-pinned
unpin_all-requires-clause-pinned g c = λ k e. (c.requires.sound.pinned k e).1

pub undo-requires-clause-updating : goal.undo-requires-clause-updating
undo-requires-clause-updating g c = gate_open (g.M.Machine.contents c.args.self.now.machine).words c.requires.in_update

pub returns-in_err-undo-clause-ok : goal.returns-in_err-undo-clause-ok
returns-in_err-undo-clause-ok g c = not_ok _ c.from_residual.result c.from_residual.ensures.0
