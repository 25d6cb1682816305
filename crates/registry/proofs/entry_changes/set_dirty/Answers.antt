use Rattle.std.proofs.Common.{◌∙◌, ap, arith}
use Rattle.rio_model.specs.Registry.{with_dirty}
use Rattle.registry.specs.Entries.{entry_of}
use Rattle.registry.proofs.Changes.{tag_stored, word_told}
use Rattle.registry.proofs.Exits.{ok_then}
use Rattle.registry.proofs.entry_changes.set_dirty.Goals as goal

pub put_entry_word-requires-clause-within : goal.put_entry_word-requires-clause-within
put_entry_word-requires-clause-within g c = omega arith

pub returns-clause-stored : goal.returns-clause-stored
returns-clause-stored g c = ok_then c.put_entry_word.result _ _ (tag_stored (g.M.Machine.contents c.args.m.now) (g.M.Machine.contents c.put_entry_word.new.m) c.args.k _ _ (c.dirtied.ensures ∙ ap with_dirty c.load_tag-tag.ensures)) c.put_entry_word.ensures.stored

pub returns-clause-entry : goal.returns-clause-entry
returns-clause-entry g c = ok_then c.put_entry_word.result _ _ (word_told (entry_of (g.M.Machine.contents c.args.m.now).words c.args.k) (entry_of (g.M.Machine.contents c.put_entry_word.new.m).words c.args.k) 0 _ _ (c.dirtied.ensures ∙ ap with_dirty c.load_tag-tag.ensures)) c.put_entry_word.ensures.entry
