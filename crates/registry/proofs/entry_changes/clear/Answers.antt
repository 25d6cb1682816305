use Rattle.std.proofs.Common.{arith, refl}
use Rattle.registry.proofs.Changes.{tag_stored}
use Rattle.registry.proofs.Exits.{ok_then}
use Rattle.registry.proofs.entry_changes.clear.Goals as goal

pub put_entry_word-requires-clause-within : goal.put_entry_word-requires-clause-within
put_entry_word-requires-clause-within g c = omega arith

pub returns-clause-stored : goal.returns-clause-stored
returns-clause-stored g c = ok_then c.put_entry_word.result _ _ (tag_stored (g.M.Machine.contents c.args.m.now) (g.M.Machine.contents c.put_entry_word.new.m) c.args.k 0 0 refl) c.put_entry_word.ensures.stored
