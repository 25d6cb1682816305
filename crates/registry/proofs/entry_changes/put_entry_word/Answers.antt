use Rattle.std.proofs.Common.{arith}
use Rattle.registry.proofs.Changes.{changed_by, entry_stored, word_stored}
use Rattle.registry.proofs.Exits.{ok_then}
use Rattle.registry.proofs.Places.{entry_small, entry_within}
use Rattle.registry.proofs.entry_changes.put_entry_word.Goals as goal

pub place_of-requires : goal.place_of-requires
place_of-requires g c = entry_small _ _ c.args.k c.requires.can.layout c.requires.can.entry

pub overflow_add-place : goal.overflow_add-place
overflow_add-place g c = omega (arith, c.place_of.ensures.small, c.from.ensures, c.requires.within)

pub overflow_cast-place : goal.overflow_cast-place
overflow_cast-place g c = omega arith

pub put_word-requires-clause-within : goal.put_word-requires-clause-within
put_word-requires-clause-within g c = omega arith

pub put_word-requires-clause-protected : goal.put_word-requires-clause-protected
put_word-requires-clause-protected g c = omega (arith, entry_within _ _ c.args.k c.requires.can.layout c.requires.can.entry, c.place_of.ensures.place, c.from.ensures, c.requires.within)

pub returns-clause-stored : goal.returns-clause-stored
returns-clause-stored g c = ok_then c.put_word.result _ _ (word_stored (g.M.Machine.contents c.args.m.now) (g.M.Machine.contents c.put_word.new.m) c.args.k c.args.w c.args.v _ (omega (arith, c.place_of.ensures.place, c.from.ensures))) c.put_word.ensures.stored

pub returns-clause-entry : goal.returns-clause-entry
returns-clause-entry g c = ok_then c.put_word.result _ _ (entry_stored (g.M.Machine.contents c.args.m.now) (g.M.Machine.contents c.put_word.new.m) c.args.k c.args.w c.args.v _ (omega (arith, c.place_of.ensures.place, c.from.ensures)) (entry_within _ _ c.args.k c.requires.can.layout c.requires.can.entry)) c.put_word.ensures.stored

pub returns-clause-changes : goal.returns-clause-changes
returns-clause-changes g c = changed_by c.put_word.result c.args.k c.args.w c.args.v _ _ _ _ _ c.requires.can c.requires.within (omega (arith, c.place_of.ensures.place, c.from.ensures)) c.put_word.ensures.stored c.put_word.ensures.same c.put_word.ensures.lasts c.put_word.ensures.halted c.put_word.ensures.ends
