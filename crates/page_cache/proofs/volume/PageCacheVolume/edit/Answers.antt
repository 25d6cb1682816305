use Rattle.std.proofs.Common.{arith, refl}
use Rattle.cached_pages.proofs.Common.{Contents, ap, header_same, inl, inr, reads, stands}
use Rattle.cached_pages.proofs.Goes.{goes_few}
use Rattle.cached_pages.proofs.Stills.{few_still, still_rest}
use Rattle.cached_pages.proofs.Edits.{edited_dirty, edited_stands, gate_entries, names_entries, page_of_frame, same_update, shadows_entries, touched_found}
use Rattle.cached_pages.proofs.Updates.{drops_named, sound_same}
use Rattle.write_back.proofs.Exits.{not_ok}
use Rattle.page_cache.proofs.volume.PageCacheVolume.edit.Goals as goal
use Rattle.cached_pages.proofs.Freed.{halts_of}
use Rattle.page_cache.proofs.Outcomes.{coherent_same, entry_bound, firm_loose, firm_same, halts_err, still_open}

pub unreachable-requires : goal.unreachable-requires
unreachable-requires g c = touched_found _ c.args.b.0 _ _ c.requires.sound c.requires.touched (c.find.ensures.none c.in_default.is)

pub put_edit-requires-clause-dirty : goal.put_edit-requires-clause-dirty
put_edit-requires-clause-dirty g c = edited_dirty _ c.args.b.0 c.in-Some.k _ _ c.requires.sound c.requires.touched c.in-Some.ensures.some.0 c.in-Some.ensures.some.1

pub put_edit-requires-clause-page : goal.put_edit-requires-clause-page
put_edit-requires-clause-page g c = page_of_frame _ c.in-Some.k _ _ c.requires.sound

pub returns-clause-update : goal.returns-clause-update
returns-clause-update g c = same_update (g.M.Machine.contents c.args.self.now.machine) (g.M.Machine.contents c.put_edit.new.m) c.args.self.now.tables c.put_edit.ensures.entries (edited_stands _ c.args.b.0 c.in-Some.k _ _ _ _ _ c.requires.sound c.requires.touched c.in-Some.ensures.some.0 c.in-Some.ensures.some.1 c.in_ok-put_edit.ensures.puts)

pub returns-clause-standing : goal.returns-clause-standing
returns-clause-standing g c = edited_stands _ c.args.b.0 c.in-Some.k _ _ _ _ _ c.requires.sound c.requires.touched c.in-Some.ensures.some.0 c.in-Some.ensures.some.1 c.in_ok-put_edit.ensures.puts

pub returns-clause-goes : goal.returns-clause-goes
returns-clause-goes g c =
    goes_few c.args.b.0 c.args.self.now.tables _ _ _ _ c.put_edit.ensures.lasts c.put_edit.ensures.ends.steps (header_same _ _ 2 c.put_edit.ensures.entries (omega arith)) (few_still _ _ _ _ (still_rest _ _ c.put_edit.ensures.rest))

pub returns-clause-drops : goal.returns-clause-drops
returns-clause-drops g c = drops_named (g.M.Machine.contents c.args.self.now.machine) (g.M.Machine.contents c.put_edit.new.m) (names_entries _ _ c.put_edit.ensures.entries)

pub returns-clause-sound : goal.returns-clause-sound
returns-clause-sound g c = sound_same _ _ _ _ _ c.requires.sound c.put_edit.ensures.ends.steps.scratch_count (c.in_ok-put_edit.ensures.puts.coherent _) c.put_edit.ensures.rest c.put_edit.ensures.closed (names_entries _ _ c.put_edit.ensures.entries) (shadows_entries _ _ c.put_edit.ensures.entries) (gate_entries _ _ c.put_edit.ensures.entries)

pub returns-in_err-put_edit-clause-entries : goal.returns-in_err-put_edit-clause-entries
returns-in_err-put_edit-clause-entries g c = names_entries _ _ c.put_edit.ensures.entries

pub returns-clause-entries : goal.returns-clause-entries
returns-clause-entries g c = names_entries _ _ c.put_edit.ensures.entries

pub put_edit-requires-clause-valid : goal.put_edit-requires-clause-valid
put_edit-requires-clause-valid g c = (entry_bound _ c.args.b.0 c.in-Some.k (g.M.Machine.contents c.args.self.now.machine) c.args.self.now.tables c.requires.sound c.in-Some.ensures.some.0 c.in-Some.ensures.some.1).0

pub put_edit-requires-clause-block : goal.put_edit-requires-clause-block
put_edit-requires-clause-block g c = (entry_bound _ c.args.b.0 c.in-Some.k (g.M.Machine.contents c.args.self.now.machine) c.args.self.now.tables c.requires.sound c.in-Some.ensures.some.0 c.in-Some.ensures.some.1).1

pub returns-clause-either : goal.returns-clause-either
returns-clause-either g c = inr c.in_ok-put_edit.ensures.puts.reading

pub returns-clause-ends : goal.returns-clause-ends
returns-clause-ends g c = halts_of (g.M.Machine.contents c.args.self.now.machine) (g.M.Machine.contents c.put_edit.new.m) (g.M.Machine.run c.args.self.now.machine) (g.M.Machine.run c.put_edit.new.m) _ c.put_edit.ensures.lasts c.in_ok-put_edit.ensures.ends

pub returns-clause-firm : goal.returns-clause-firm
returns-clause-firm g c = firm_loose (g.M.Machine.contents c.args.self.now.machine) (g.M.Machine.contents c.put_edit.new.m) c.args.self.now.tables c.in_ok-put_edit.ensures.puts.firm

pub returns-clause-in_update : goal.returns-clause-in_update
returns-clause-in_update g c = still_open (g.M.Machine.contents c.args.self.now.machine).words (g.M.Machine.contents c.put_edit.new.m).words c.args.b.0 c.put_edit.ensures.entries c.requires.touched

pub returns-clause-still : goal.returns-clause-still
returns-clause-still g c = still_rest (g.M.Machine.contents c.args.self.now.machine) (g.M.Machine.contents c.put_edit.new.m) c.put_edit.ensures.rest

pub returns-in_err-put_edit-clause-either : goal.returns-in_err-put_edit-clause-either
returns-in_err-put_edit-clause-either g c = inl (ap (λ (m : Contents). reads m) c.in_err-put_edit.ensures.same)

pub returns-in_err-put_edit-clause-standing : goal.returns-in_err-put_edit-clause-standing
returns-in_err-put_edit-clause-standing g c = ap (λ (m : Contents). stands m) c.in_err-put_edit.ensures.same

pub returns-in_err-put_edit-clause-firm : goal.returns-in_err-put_edit-clause-firm
returns-in_err-put_edit-clause-firm g c = firm_same (g.M.Machine.contents c.args.self.now.machine) (g.M.Machine.contents c.put_edit.new.m) c.args.self.now.tables c.in_err-put_edit.ensures.same

pub returns-in_err-put_edit-clause-drops : goal.returns-in_err-put_edit-clause-drops
returns-in_err-put_edit-clause-drops g c = drops_named (g.M.Machine.contents c.args.self.now.machine) (g.M.Machine.contents c.put_edit.new.m) (names_entries _ _ c.put_edit.ensures.entries)

pub returns-in_err-put_edit-clause-in_update : goal.returns-in_err-put_edit-clause-in_update
returns-in_err-put_edit-clause-in_update g c = still_open (g.M.Machine.contents c.args.self.now.machine).words (g.M.Machine.contents c.put_edit.new.m).words c.args.b.0 c.put_edit.ensures.entries c.requires.touched

pub returns-in_err-put_edit-clause-goes : goal.returns-in_err-put_edit-clause-goes
returns-in_err-put_edit-clause-goes g c = goes_few c.args.b.0 c.args.self.now.tables _ _ _ _ c.put_edit.ensures.lasts c.put_edit.ensures.ends.steps (header_same _ _ 2 c.put_edit.ensures.entries (omega arith)) (few_still _ _ _ _ (still_rest _ _ c.put_edit.ensures.rest))

pub returns-in_err-put_edit-clause-ends : goal.returns-in_err-put_edit-clause-ends
returns-in_err-put_edit-clause-ends g c = halts_err (g.M.Machine.contents c.args.self.now.machine) (g.M.Machine.contents c.put_edit.new.m) (g.M.Machine.run c.args.self.now.machine) (g.M.Machine.run c.put_edit.new.m) _ _ c.from_residual.ensures.0 refl c.put_edit.ensures.lasts c.in_err-put_edit.ensures.ends

pub returns-in_err-put_edit-clause-sound : goal.returns-in_err-put_edit-clause-sound
returns-in_err-put_edit-clause-sound g c = sound_same _ _ (g.M.Machine.contents c.args.self.now.machine) (g.M.Machine.contents c.put_edit.new.m) _ c.requires.sound c.put_edit.ensures.ends.steps.scratch_count (λ s. coherent_same _ (g.M.Machine.contents c.args.self.now.machine) (g.M.Machine.contents c.put_edit.new.m) c.in_err-put_edit.ensures.same s) c.put_edit.ensures.rest c.put_edit.ensures.closed (names_entries _ _ c.put_edit.ensures.entries) (shadows_entries _ _ c.put_edit.ensures.entries) (gate_entries _ _ c.put_edit.ensures.entries)

pub returns-in_err-put_edit-clause-still : goal.returns-in_err-put_edit-clause-still
returns-in_err-put_edit-clause-still g c = still_rest (g.M.Machine.contents c.args.self.now.machine) (g.M.Machine.contents c.put_edit.new.m) c.put_edit.ensures.rest

pub returns-in_err-put_edit-clause-ok : goal.returns-in_err-put_edit-clause-ok
returns-in_err-put_edit-clause-ok g c = not_ok _ c.from_residual.result c.from_residual.ensures.0

pub returns-in_err-put_edit-clause-update : goal.returns-in_err-put_edit-clause-update
returns-in_err-put_edit-clause-update g c = not_ok _ c.from_residual.result c.from_residual.ensures.0
