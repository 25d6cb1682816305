use Rattle.cached_pages.proofs.Common.{ap, arith, length, order_of, subst, sym, ◌==◌, ◌∙◌, ℕ, header_same}
use Rattle.std.proofs.Common.{le_refl}
use Rattle.std.proofs.lemmas.Bool.{and_parts}
use Rattle.rio_base.specs.Volume.{SameUpdate}
use Rattle.cached_pages.specs.declared.tables.CacheTables.{CacheTables}
use Rattle.cached_pages.specs.Caches.{cache_kept}
use Rattle.cached_pages.proofs.Goes.{goes_few}
use Rattle.cached_pages.proofs.Stills.{few_still}
use Rattle.cached_pages.proofs.Edits.{bound_entry, edited_dirty, gate_entries, names_entries, same_update, touched_found, touched_stands}
use Rattle.cached_pages.proofs.Settling.{firm_rewrites}
use Rattle.cached_pages.proofs.Updates.{drops_named}
use Rattle.std.proofs.Common.{refl}
use Rattle.cached_pages.proofs.Freed.{halts_of}
use Rattle.page_cache.proofs.Outcomes.{halts_err}
use Rattle.write_back.proofs.Exits.{not_ok}
use Rattle.page_cache.proofs.volume.PageCacheVolume.edit_run.Goals as goal

pub unreachable-requires : goal.unreachable-requires
unreachable-requires g c = touched_found _ c.args.b.0 _ _ c.requires.sound c.requires.touched (c.find.ensures.none c.in_default.is)

pub put_frame_run-requires-clause-found : goal.put_frame_run-requires-clause-found
put_frame_run-requires-clause-found g c = bound_entry _ c.args.b.0 c.in-Some.k _ _ c.requires.sound c.in-Some.ensures.some.0 c.in-Some.ensures.some.1

pub put_frame_run-requires-clause-dirty : goal.put_frame_run-requires-clause-dirty
put_frame_run-requires-clause-dirty g c = edited_dirty _ c.args.b.0 c.in-Some.k _ _ c.requires.sound c.requires.touched c.in-Some.ensures.some.0 c.in-Some.ensures.some.1

pub returns-in_err-put_frame_run-clause-front : goal.returns-in_err-put_frame_run-clause-front
returns-in_err-put_frame_run-clause-front g c = let f = c.in_err-put_frame_run.ensures.front in (f.0, f.1, f.2.reading)

pub returns-in_err-put_frame_run-clause-standing : goal.returns-in_err-put_frame_run-clause-standing
returns-in_err-put_frame_run-clause-standing g c = touched_stands _ c.args.b.0 c.in-Some.k (g.M.Machine.contents c.args.self.now.machine) (g.M.Machine.contents c.put_frame_run.new.m) _ c.requires.sound c.requires.touched c.in-Some.ensures.some.0 c.in-Some.ensures.some.1 c.put_frame_run.ensures.hidden

pub returns-in_err-put_frame_run-clause-firm : goal.returns-in_err-put_frame_run-clause-firm
returns-in_err-put_frame_run-clause-firm g c = firm_rewrites _ (g.M.Machine.contents c.args.self.now.machine) (g.M.Machine.contents c.put_frame_run.new.m) _ _ c.in_err-put_frame_run.ensures.front.2 c.put_frame_run.ensures.tables

pub returns-in_err-put_frame_run-clause-drops : goal.returns-in_err-put_frame_run-clause-drops
returns-in_err-put_frame_run-clause-drops g c = drops_named (g.M.Machine.contents c.args.self.now.machine) (g.M.Machine.contents c.put_frame_run.new.m) (names_entries _ _ c.put_frame_run.ensures.entries)

pub returns-in_err-put_frame_run-clause-in_update : goal.returns-in_err-put_frame_run-clause-in_update
returns-in_err-put_frame_run-clause-in_update g c = ap (λ (n : ℕ). n == 1) (gate_entries _ _ c.put_frame_run.ensures.entries) ∙ (and_parts _ _ c.requires.touched).0

pub returns-in_err-put_frame_run-clause-goes : goal.returns-in_err-put_frame_run-clause-goes
returns-in_err-put_frame_run-clause-goes g c = goes_few c.args.b.0 c.args.self.now.tables _ _ _ _ c.put_frame_run.ensures.lasts c.put_frame_run.ensures.ends.steps (header_same _ _ 2 c.put_frame_run.ensures.entries (omega arith)) (few_still _ _ _ _ c.put_frame_run.ensures.still)

pub returns-in_err-put_frame_run-clause-entries : goal.returns-in_err-put_frame_run-clause-entries
returns-in_err-put_frame_run-clause-entries g c = names_entries _ _ c.put_frame_run.ensures.entries

pub returns-in_err-put_frame_run-clause-order : goal.returns-in_err-put_frame_run-clause-order
returns-in_err-put_frame_run-clause-order g c = ap (λ (t : CacheTables). order_of t.pool) c.put_frame_run.ensures.tables

pub returns-clause-front : goal.returns-clause-front
returns-clause-front g c = (length c.args.from.now, le_refl _, c.in_ok-put_frame_run.ensures.rewrites.reading)

pub returns-clause-update : goal.returns-clause-update
returns-clause-update g c =
    let old = g.M.Machine.contents c.args.self.now.machine in
    let new = g.M.Machine.contents c.put_frame_run.new.m in
    let stays = touched_stands _ c.args.b.0 c.in-Some.k old new _ c.requires.sound c.requires.touched c.in-Some.ensures.some.0 c.in-Some.ensures.some.1 c.put_frame_run.ensures.hidden in
    subst (λ (u : CacheTables). SameUpdate (cache_kept old c.args.self.now.tables) (cache_kept new u)) (sym c.put_frame_run.ensures.tables) (same_update old new c.args.self.now.tables c.put_frame_run.ensures.entries stays)

pub returns-clause-standing : goal.returns-clause-standing
returns-clause-standing g c = touched_stands _ c.args.b.0 c.in-Some.k (g.M.Machine.contents c.args.self.now.machine) (g.M.Machine.contents c.put_frame_run.new.m) _ c.requires.sound c.requires.touched c.in-Some.ensures.some.0 c.in-Some.ensures.some.1 c.put_frame_run.ensures.hidden

pub returns-clause-firm : goal.returns-clause-firm
returns-clause-firm g c = firm_rewrites _ (g.M.Machine.contents c.args.self.now.machine) (g.M.Machine.contents c.put_frame_run.new.m) _ _ c.in_ok-put_frame_run.ensures.rewrites c.put_frame_run.ensures.tables

pub returns-clause-drops : goal.returns-clause-drops
returns-clause-drops g c = drops_named (g.M.Machine.contents c.args.self.now.machine) (g.M.Machine.contents c.put_frame_run.new.m) (names_entries _ _ c.put_frame_run.ensures.entries)

pub returns-clause-in_update : goal.returns-clause-in_update
returns-clause-in_update g c = ap (λ (n : ℕ). n == 1) (gate_entries _ _ c.put_frame_run.ensures.entries) ∙ (and_parts _ _ c.requires.touched).0

pub returns-clause-goes : goal.returns-clause-goes
returns-clause-goes g c = goes_few c.args.b.0 c.args.self.now.tables _ _ _ _ c.put_frame_run.ensures.lasts c.put_frame_run.ensures.ends.steps (header_same _ _ 2 c.put_frame_run.ensures.entries (omega arith)) (few_still _ _ _ _ c.put_frame_run.ensures.still)

pub returns-clause-entries : goal.returns-clause-entries
returns-clause-entries g c = names_entries _ _ c.put_frame_run.ensures.entries

pub returns-clause-order : goal.returns-clause-order
returns-clause-order g c = ap (λ (t : CacheTables). order_of t.pool) c.put_frame_run.ensures.tables

pub returns-clause-ends : goal.returns-clause-ends
returns-clause-ends g c = halts_of (g.M.Machine.contents c.args.self.now.machine) (g.M.Machine.contents c.put_frame_run.new.m) (g.M.Machine.run c.args.self.now.machine) (g.M.Machine.run c.put_frame_run.new.m) _ c.put_frame_run.ensures.lasts c.in_ok-put_frame_run.ensures.ends

pub returns-in_err-put_frame_run-clause-ok : goal.returns-in_err-put_frame_run-clause-ok
returns-in_err-put_frame_run-clause-ok g c = not_ok _ c.from_residual.result c.from_residual.ensures.0

pub returns-in_err-put_frame_run-clause-update : goal.returns-in_err-put_frame_run-clause-update
returns-in_err-put_frame_run-clause-update g c = not_ok _ c.from_residual.result c.from_residual.ensures.0

pub returns-in_err-put_frame_run-clause-ends : goal.returns-in_err-put_frame_run-clause-ends
returns-in_err-put_frame_run-clause-ends g c = halts_err (g.M.Machine.contents c.args.self.now.machine) (g.M.Machine.contents c.put_frame_run.new.m) (g.M.Machine.run c.args.self.now.machine) (g.M.Machine.run c.put_frame_run.new.m) _ _ c.from_residual.ensures.0 refl c.put_frame_run.ensures.lasts c.in_err-put_frame_run.ensures.ends
