use Rattle.registry.specs.Entries.{entry_of}
use Rattle.registry.proofs.Changes.{entry_put, entry_told}
use Rattle.registry.proofs.Exits.{ok_then}
use Rattle.registry.proofs.entry_changes.install.Goals as goal

pub put_entry-requires : goal.put_entry-requires
put_entry-requires g c = record { can = c.requires.can }

pub returns-clause-stored : goal.returns-clause-stored
returns-clause-stored g c = ok_then c.put_entry.result _ _ (entry_put (g.M.Machine.contents c.args.m.now) (g.M.Machine.contents c.put_entry.new.m) c.args.k _ _ c.entry_for.ensures) c.put_entry.ensures.stored

pub returns-clause-entry : goal.returns-clause-entry
returns-clause-entry g c = ok_then c.put_entry.result _ _ (entry_told (entry_of (g.M.Machine.contents c.put_entry.new.m).words c.args.k) _ _ c.entry_for.ensures) c.put_entry.ensures.entry
