use Rattle.std.proofs.Common.{◌+◌, arith}
use Rattle.rio_base.specs.Image.{entry_at}
use Rattle.registry.specs.Entries.{entry_of}
use Rattle.registry.proofs.Changes.{value_stored, word_told}
use Rattle.registry.proofs.Exits.{ok_then}
use Rattle.registry.proofs.entry_changes.set_shadow.Goals as goal

pub put_entry_word-requires-clause-within : goal.put_entry_word-requires-clause-within
put_entry_word-requires-clause-within g c = omega arith

pub returns-clause-stored : goal.returns-clause-stored
returns-clause-stored g c = ok_then c.put_entry_word.result _ _ (value_stored (g.M.Machine.contents c.args.m.now) (g.M.Machine.contents c.put_entry_word.new.m) (entry_at c.args.k + 4) _ _ c.from.ensures) c.put_entry_word.ensures.stored

pub returns-clause-entry : goal.returns-clause-entry
returns-clause-entry g c = ok_then c.put_entry_word.result _ _ (word_told (entry_of (g.M.Machine.contents c.args.m.now).words c.args.k) (entry_of (g.M.Machine.contents c.put_entry_word.new.m).words c.args.k) 4 _ _ c.from.ensures) c.put_entry_word.ensures.entry
