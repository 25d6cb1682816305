use Rattle.std.proofs.Common.{arith}
use Rattle.registry.proofs.EntryRuns.{behind_tag, run_begun, run_changed, run_entry, run_on_page, run_place, run_stored}
use Rattle.registry.proofs.Exits.{err_then, ok_then}
use Rattle.registry.proofs.Places.{entry_small, entry_within}
use Rattle.registry.proofs.entry_changes.put_behind_tag.Goals as goal

pub place_of-first-requires : goal.place_of-first-requires
place_of-first-requires g c = entry_small _ _ c.args.k c.requires.can.layout c.requires.can.entry

pub overflow_add-first : goal.overflow_add-first
overflow_add-first g c = omega (arith, c.place_of-first.ensures.small)

pub overflow_cast-first : goal.overflow_cast-first
overflow_cast-first g c = omega arith

pub put_run-requires-clause-within : goal.put_run-requires-clause-within
put_run-requires-clause-within g c = omega (arith, c.place_of-first.ensures.place, run_on_page c.args.k)

pub put_run-requires-clause-protected : goal.put_run-requires-clause-protected
put_run-requires-clause-protected g c = omega (arith, entry_within _ _ c.args.k c.requires.can.layout c.requires.can.entry, c.place_of-first.ensures.place)

pub returns-clause-stored : goal.returns-clause-stored
returns-clause-stored g c = ok_then c.put_run.result _ _ (run_stored (g.M.Machine.contents c.args.m.now) (g.M.Machine.contents c.put_run.new.m) c.args.k _ c.args.entry.now (entry_within _ _ c.args.k c.requires.can.layout c.requires.can.entry) (run_place _ c.args.k c.place_of-first.ensures.place) c.put_run.ensures.rest) c.put_run.ensures.stored

pub returns-clause-entry : goal.returns-clause-entry
returns-clause-entry g c = ok_then c.put_run.result _ _ (run_entry c.args.k _ c.args.entry.now (g.M.Machine.contents c.args.m.now).words (g.M.Machine.contents c.put_run.new.m).words (run_place _ c.args.k c.place_of-first.ensures.place)) c.put_run.ensures.stored

pub returns-clause-begun : goal.returns-clause-begun
returns-clause-begun g c = err_then c.put_run.result _ _ (run_begun c.args.k _ (behind_tag c.args.entry.now) (g.M.Machine.contents c.args.m.now) (g.M.Machine.contents c.put_run.new.m) (g.M.Machine.run c.args.m.now) (g.M.Machine.run c.put_run.new.m) (run_place _ c.args.k c.place_of-first.ensures.place)) c.put_run.ensures.front

pub returns-clause-changes : goal.returns-clause-changes
returns-clause-changes g c = run_changed c.put_run.result c.args.k _ c.args.entry.now _ _ _ _ c.requires.can (run_place _ c.args.k c.place_of-first.ensures.place) c.put_run.ensures.rest c.put_run.ensures.stored c.put_run.ensures.front c.put_run.ensures.lasts c.put_run.ensures.halted c.put_run.ensures.ends
